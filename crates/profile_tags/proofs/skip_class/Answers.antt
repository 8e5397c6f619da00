use native.Mathlib.Omega.{arith}
use lib.ListN.{length}
use mathlib.Core.Path.{◌≡◌, sym, ◌∙◌}
use Rattle.profile.proofs.Readings.{r-here}
use Rattle.profile_tags.specs.Terms.{Head, classing}
use Rattle.profile_tags.proofs.Heads.{class-turn, class-off, class-end}
use Rattle.profile_tags.proofs.skip_class.Goals as goal

pub loop-i-init : goal.loop-i-init
loop-i-init c = r-here Head _ _ classing c.requires

pub returns-then-not-is_class : goal.returns-then-not-is_class
returns-then-not-is_class c = class-off _ _ _ c.loop-i.invariant c.loop-i-test.true (sym c.is_class.ensures ∙ c.if-not-is_class.true)

pub loop-i-preserved : goal.loop-i-preserved
loop-i-preserved c = class-turn _ _ _ c.loop-i.invariant c.loop-i-test.true (sym c.is_class.ensures ∙ c.if-not-is_class.false)

pub returns : goal.returns
returns c = let e : length c.args.s.now ≡ c.loop-i.i = omega (arith, c.loop-i-test.false, c.loop-i.invariant.bounds.1) in rw e (class-end _ _ _ c.loop-i.invariant (omega arith))
