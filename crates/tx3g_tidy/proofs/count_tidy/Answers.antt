-- By whether the text is UTF-8, and tidy.
use mathlib.Core.Path.{sym, ◌∙◌}
use native.Mathlib.Omega.{arith}
use Rattle.tx3g_sample.proofs.Laws.{text-fine}
use Rattle.tx3g_tidy.proofs.Samples.{untidy-16, untidy-8, count-found, found-lies}
use Rattle.tx3g_tidy.proofs.count_tidy.Goals.{then-t-via-then-t, then-t-via-else-t+then-not-is_tidy}
use Rattle.tx3g_tidy.proofs.count_tidy.Goals as goal

pub find_text-t-requires : goal.find_text-t-requires
find_text-t-requires c = text-fine _ c.requires

pub returns-then-t : goal.returns-then-t
returns-then-t c = elim c.then-t.branch [
  | then-t-via-then-t w ↦ untidy-16 _ _ c.find_text-t.ensures w.if-t.true
  | then-t-via-else-t+then-not-is_tidy w ↦ untidy-8 _ _ c.find_text-t.ensures w.if-t.false (sym w.is_tidy.ensures ∙ w.if-not-is_tidy.true)
]

pub slice_bounds-is_tidy-count : goal.slice_bounds-is_tidy-count
slice_bounds-is_tidy-count c = (found-lies _ _ c.find_text-t.ensures c.requires).0

pub slice_bounds-is_tidy-start : goal.slice_bounds-is_tidy-start
slice_bounds-is_tidy-start c = let w = found-lies _ _ c.find_text-t.ensures c.requires in omega (arith, w)

pub slice_bounds-is_tidy-end : goal.slice_bounds-is_tidy-end
slice_bounds-is_tidy-end c = let w = found-lies _ _ c.find_text-t.ensures c.requires in omega (arith, w)

pub slice_bounds-count_utf8-count : goal.slice_bounds-count_utf8-count
slice_bounds-count_utf8-count c = (found-lies _ _ c.find_text-t.ensures c.requires).0

pub slice_bounds-count_utf8-start : goal.slice_bounds-count_utf8-start
slice_bounds-count_utf8-start c = let w = found-lies _ _ c.find_text-t.ensures c.requires in omega (arith, w)

pub slice_bounds-count_utf8-end : goal.slice_bounds-count_utf8-end
slice_bounds-count_utf8-end c = let w = found-lies _ _ c.find_text-t.ensures c.requires in omega (arith, w)

pub returns : goal.returns
returns c =
    count-found _ _ c.find_text-t.ensures c.if-t.false c.requires
    (sym c.is_tidy.ensures ∙ c.if-not-is_tidy.false) _ c.count_utf8.ensures
