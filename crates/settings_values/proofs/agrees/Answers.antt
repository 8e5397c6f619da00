use Prim.Native.Nat.{ℕ}
use mathlib.Core.Path.{◌≡◌, ap, ◌∙◌}
use mathlib.Core.List.{List}
use lib.ListN.{length, take}
use lib.Seq.{take-length}
use Rattle.utf8.specs.Strings.{starts_with}
use Rattle.ascii.proofs.Blocks.{or-none}
use Rattle.settings_values.proofs.Laws.{agrees-more, begins-none}
use native.Mathlib.Omega.{arith}
use Rattle.settings_values.proofs.agrees.Goals as goal

pub loop-i-init : goal.loop-i-init
loop-i-init c = (omega arith, begins-none c.args.s.now)

pub loop-i-preserved : goal.loop-i-preserved
loop-i-preserved c = (omega (arith, c.loop-i-test.true), rw (or-none, c.other-x.ensures, c.loop-i.invariant.1) (agrees-more c.args.p.now c.args.s.now c.loop-i.i c.loop-i-test.true c.requires))

pub returns : goal.returns
returns c = let e : c.loop-i.i ≡ length c.args.p.now = omega (arith, c.loop-i.invariant.0, c.loop-i-test.false) in c.loop-i.invariant.1 ∙ ap (λ (q : List ℕ). starts_with q c.args.s.now) (ap (λ (k : ℕ). take k c.args.p.now) e ∙ take-length c.args.p.now)
