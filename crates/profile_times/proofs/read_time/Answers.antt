use native.Mathlib.Omega.{arith}
use Rattle.profile_times.proofs.read_time.Goals as goal

pub time_at-time-requires : goal.time_at-time-requires
time_at-time-requires c = (omega arith, c.fits_clock.ensures c.if-fits_clock.true)

pub returns-then-low-time : goal.returns-then-low-time
returns-then-low-time c = c.time_at-time.ensures _ c.if-low-time.true
