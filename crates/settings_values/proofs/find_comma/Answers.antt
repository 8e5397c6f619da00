use mathlib.Core.Path.{◌≡◌, sym, refl, ◌∙◌}
use lib.ListN.{length}
use native.Mathlib.Nat.{zero-add}
use borrow.Author.Tests.{eq-eqb, ne_eqb}
use Rattle.settings.specs.Reading.{not_comma}
use Rattle.vtt_timing.proofs.Laws.{run_more, run-stop, run_end_lem}
use native.Mathlib.Omega.{arith}
use Rattle.settings_values.proofs.find_comma.Goals as goal

pub loop-i-init : goal.loop-i-init
loop-i-init c = (omega arith, refl)

pub returns-then-b-eq44 : goal.returns-then-b-eq44
unfolding not_comma
returns-then-b-eq44 c = (run-stop not_comma c.args.s.now c.loop-i.i c.loop-i-test.true (rw (eq-eqb _ _ c.if-b-eq44.true)) ∙ c.loop-i.invariant.1 ∙ zero-add _, omega (arith, c.loop-i-test.true))

pub loop-i-preserved : goal.loop-i-preserved
unfolding not_comma
loop-i-preserved c = (omega (arith, c.loop-i-test.true), run_more not_comma c.args.s.now c.loop-i.i c.loop-i-test.true (rw (ne_eqb _ _ c.if-b-eq44.false)) ∙ c.loop-i.invariant.1)

pub returns : goal.returns
returns c = let e : c.loop-i.i ≡ length c.args.s.now = omega arith in (sym e ∙ run_end_lem not_comma c.args.s.now c.loop-i.i c.loop-i-test.false ∙ c.loop-i.invariant.1 ∙ zero-add _, omega arith)
