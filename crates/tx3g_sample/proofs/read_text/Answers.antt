-- `tx3g_sample::read_text` meets its contract.
use Rattle.verdict.specs.Judgement.{bad_text}
use Rattle.tx3g_sample.proofs.Laws.{text-past, text-counted, count_past}
use Rattle.tx3g_sample.proofs.Errors.{err_by, mapped}
use Rattle.tx3g_sample.specs.Sample.{text_end, counted}
use Rattle.boxes.specs.Boxes.{part}
use lib.ListN.{length}
use mathlib.Core.Path.{◌≡◌, sym, ap, ◌∙◌}
use Prim.Native.Nat.{◌≤◌, ◌<◌}
use native.Mathlib.Omega.{arith}
use Rattle.tx3g_sample.proofs.read_text.Goals as goal

pub returns-then-s-lt2 : goal.returns-then-s-lt2
returns-then-s-lt2 c = let h : length c.args.s.now < text_end c.args.s.now = omega (arith, count_past c.args.s.now) in
    rw (text-past _ h, c.fault_at.ensures)

pub returns-then-s-end : goal.returns-then-s-end
returns-then-s-end c = let h : length c.args.s.now < text_end c.args.s.now = rw (← c.text_end-end.ensures.0) c.if-s-end.true in
    rw (text-past _ h, c.fault_at-then-s-end.ensures)

pub returns : goal.returns
unfolding counted part
returns c =
    let fits : text_end c.args.s.now ≤ length c.args.s.now = rw (← c.text_end-end.ensures.0) c.if-s-end.false in
    let same : counted c.args.s.now ≡ c.count_characters.result = rw (← c.text_end-end.ensures.0) (sym c.count_characters.ensures) in
    mapped (bad_text 0) _ _ (λ e d p. cc) c.map_err.ensures.cases ∙ ap (err_by (bad_text 0)) (sym same) ∙ text-counted _ fits
