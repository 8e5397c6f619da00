-- `tx3g_box::text_box` meets its contract: the bytes, and where they stand.
use Rattle.std.specs.Prelude.{Ok}
use Rattle.tx3g_box.proofs.Laws.{sample-fits, entry-fits, eight}
use mathlib.Core.Path.{refl, ap, sym, ◌∙◌}
use native.Mathlib.Omega.{arith}
use Rattle.tx3g_box.proofs.text_box.Goals as goal

pub overflow_add-result : goal.overflow_add-result
overflow_add-result c = omega (arith, sample-fits _ _ _ (sym c.requires ∙ c.in-Ok.is ∙ ap Ok c.in-Some.is))

pub slice_bounds-result-end-in-Some : goal.slice_bounds-result-end-in-Some
slice_bounds-result-end-in-Some c = omega (arith, sample-fits _ _ _ (sym c.requires ∙ c.in-Ok.is ∙ ap Ok c.in-Some.is))

pub slice_bounds-result-end-in-None : goal.slice_bounds-result-end-in-None
slice_bounds-result-end-in-None c = omega (arith, entry-fits _ _ (sym c.requires ∙ c.in-Ok.is ∙ ap Ok c.in-None.is))

pub returns-in-Some : goal.returns-in-Some
returns-in-Some c = rw (c.in-Ok.is, c.in-Some.is) (eight c.args.s.now c.in-Some.at, refl)

pub returns-in-None : goal.returns-in-None
returns-in-None c = rw (c.in-Ok.is, c.in-None.is) (refl, refl)
