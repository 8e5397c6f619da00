use mathlib.Core.Path.{◌≡◌}
use native.Mathlib.Omega.{arith}
use borrow.Author.Tests.{eqb-true}
use Rattle.profile.specs.Machine.{clock}
use Rattle.profile_times.proofs.Clock.{fits_on}
use Rattle.profile_times.proofs.fits_clock.Goals as goal

pub loop-k-init : goal.loop-k-init
loop-k-init c = λ e j h. absurd (omega arith)

pub loop-k-preserved : goal.loop-k-preserved
unfolding clock
loop-k-preserved c =
    let a = c.args in
    λ e. fits_on a.s.now a.at _ _ _ c.loop-k.invariant c.out_of-x.ensures e

pub returns : goal.returns
returns c e = let k : c.loop-k.k ≡ 13 = omega arith in rw (← k) (c.loop-k.invariant (eqb-true _ _ e))
