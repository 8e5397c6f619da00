-- The tags, the text, and what it grows by escapes.
use native.Mathlib.Omega.{arith}
use Rattle.tx3g_payload_write.proofs.Texts.{text-of-fine}
use Rattle.tx3g_tidy.proofs.Samples.{lies, none-counted, some-counted, good-is, whole_length}
use Rattle.tx3g_tidy.proofs.tidy_length.Goals as goal

pub count_tidy-n-requires : goal.count_tidy-n-requires
count_tidy-n-requires c = text-of-fine _ _ c.requires.1

pub returns-then-n-eq0 : goal.returns-then-n-eq0
returns-then-n-eq0 c = rw (none-counted _ (text-of-fine _ _ c.requires.1) (λ j. (c.type_inv.s j).fits) _ c.count_tidy-n.ensures c.if-n-eq0.true)

pub text_end-end-requires : goal.text_end-end-requires
text_end-end-requires c = let l = lies _ (text-of-fine _ _ c.requires.1) in omega (arith, l)

pub tags_length-requires : goal.tags_length-requires
tags_length-requires c =
    let p = c.requires in
    let w = some-counted _ (text-of-fine _ _ p.1) (λ j. (c.type_inv.s j).fits) _ c.count_tidy-n.ensures c.if-n-eq0.false in
    (good-is _ _ _ p.0 p.1 w.1, w.0)

pub slice_bounds-escapes_length-end : goal.slice_bounds-escapes_length-end
slice_bounds-escapes_length-end c = let l = lies _ (text-of-fine _ _ c.requires.1) in omega (arith, l, c.text_end-end.ensures.0)

pub returns : goal.returns
returns c =
    let p = c.requires in
    let w = some-counted _ (text-of-fine _ _ p.1) (λ j. (c.type_inv.s j).fits) _ c.count_tidy-n.ensures c.if-n-eq0.false in
    whole_length _ (text-of-fine _ _ p.1) (λ j. (c.type_inv.s j).fits) w.0 _ _ _ _ c.tags_length.ensures.0 c.text_end-end.ensures.0 c.escapes_length.ensures.0
