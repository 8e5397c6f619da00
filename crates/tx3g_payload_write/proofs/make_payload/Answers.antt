-- A sample without fault has its characters counted.
use mathlib.Core.Path.{sym, ◌∙◌}
use native.Mathlib.Omega.{arith}
use borrow.Author.Tests.{not-true}
use Rattle.tx3g_sample.proofs.Laws.{text-fine, count_past}
use Rattle.tx3g_payload_write.proofs.Texts.{text-of-fine, text-ends, sample-firsts, sample-good, sample-counted}
use Rattle.tx3g_payload_write.proofs.make_payload.Goals as goal

pub find_text-t-requires : goal.find_text-t-requires
find_text-t-requires c = text-fine _ (text-of-fine _ _ c.requires.1)

pub slice_bounds-count_firsts-count : goal.slice_bounds-count_firsts-count
slice_bounds-count_firsts-count c = let w = text-fine _ (text-of-fine _ _ c.requires.1) in let x = text-ends _ _ c.find_text-t.ensures in omega (arith, w, x, count_past c.args.s.now)

pub slice_bounds-count_firsts-start : goal.slice_bounds-count_firsts-start
slice_bounds-count_firsts-start c = let w = text-fine _ (text-of-fine _ _ c.requires.1) in let x = text-ends _ _ c.find_text-t.ensures in omega (arith, w, x, count_past c.args.s.now)

pub slice_bounds-count_firsts-end : goal.slice_bounds-count_firsts-end
slice_bounds-count_firsts-end c = let w = text-fine _ (text-of-fine _ _ c.requires.1) in let x = text-ends _ _ c.find_text-t.ensures in omega (arith, w, x, count_past c.args.s.now)

pub put_stretches-requires : goal.put_stretches-requires
put_stretches-requires c = (sample-firsts _ _ _ _ c.requires.0 c.requires.1 c.find_text-t.ensures (not-true _ c.if-not-t.true) c.count_firsts.ensures, c.requires.2)

pub slice_bounds-count_characters-count : goal.slice_bounds-count_characters-count
slice_bounds-count_characters-count c = let w = text-fine _ (text-of-fine _ _ c.requires.1) in let x = text-ends _ _ c.find_text-t.ensures in omega (arith, w, x, count_past c.args.s.now)

pub slice_bounds-count_characters-start : goal.slice_bounds-count_characters-start
slice_bounds-count_characters-start c = let w = text-fine _ (text-of-fine _ _ c.requires.1) in let x = text-ends _ _ c.find_text-t.ensures in omega (arith, w, x, count_past c.args.s.now)

pub slice_bounds-count_characters-end : goal.slice_bounds-count_characters-end
slice_bounds-count_characters-end c = let w = text-fine _ (text-of-fine _ _ c.requires.1) in let x = text-ends _ _ c.find_text-t.ensures in omega (arith, w, x, count_past c.args.s.now)

pub put_stretches-requires-in-Ok : goal.put_stretches-requires-in-Ok
put_stretches-requires-in-Ok c = (sample-good _ _ _ _ c.requires.0 c.requires.1 (text-ends _ _ c.find_text-t.ensures) (sym c.count_characters.ensures ∙ c.in-Ok.is), c.requires.2)

pub returns-in-Err : goal.returns-in-Err
returns-in-Err c = sample-counted _ _ _ _ c.requires.1 (text-ends _ _ c.find_text-t.ensures) (sym c.count_characters.ensures ∙ c.in-Err.is)
