-- The invariant: if x is 0, the k bytes from `at` on fit.
use mathlib.Core.Path.{◌≡◌}
use Rattle.profile_times.specs.Terms.{Fits}
use Rattle.profile_times.proofs.fits_clock.Given as goal

abbrev pub invariant-loop-k : goal.invariant-loop-k
invariant-loop-k l = l.x ≡ 0 → Fits l.s l.at l.k
