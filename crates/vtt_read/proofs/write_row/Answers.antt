-- The payload where it stands, or as it is gathered.
use mathlib.Core.Path.{sym, ap, ◌∙◌}
use native.Mathlib.Omega.{arith}
use lib.ListN.{length}
use Rattle.vtt_read.proofs.States.{gathered-text}
use Rattle.vtt_read.proofs.write_row.Goals as goal

pub slice_bounds-write_texts-count : goal.slice_bounds-write_texts-count
slice_bounds-write_texts-count c = (c.requires.0.plain_is c.if-row-eq1.true).1

pub slice_bounds-write_texts-start : goal.slice_bounds-write_texts-start
slice_bounds-write_texts-start c = (c.requires.0.plain_is c.if-row-eq1.true).1

pub slice_bounds-write_texts-end : goal.slice_bounds-write_texts-end
slice_bounds-write_texts-end c = (c.requires.0.plain_is c.if-row-eq1.true).2

pub write_texts-requires : goal.write_texts-requires
write_texts-requires c = let p = c.requires in (p.0, p.1, (p.0.plain_is c.if-row-eq1.true).0 ∙ sym p.0.payload_is, p.3)

pub slice_bounds-write_texts-end-2 : goal.slice_bounds-write_texts-end-2
slice_bounds-write_texts-end-2 c =
    let p = c.requires in
    let g = c.gather-g.ensures.1 in
    omega (arith, p.2, g.kept, g.sized, ap length p.0.payload_is, p.0.short.2)

pub write_texts-requires-2 : goal.write_texts-requires-2
write_texts-requires-2 c =
    let p = c.requires in
    let g = c.gather-g.ensures.1 in
    (p.0, p.1, gathered-text _ _ _ _ _ g (omega (arith, p.2, g.sized, ap length p.0.payload_is, p.0.short.2)), p.3)
