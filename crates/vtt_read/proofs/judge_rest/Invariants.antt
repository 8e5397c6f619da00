-- Block by block to the end.
use Prim.Native.Nat.{◌-◌}
use mathlib.Core.Path.{◌≡◌}
use lib.ListN.{length}
use Rattle.vtt_read.specs.Steps.{Stands, Rows}
use Rattle.vtt_read.proofs.judge_rest.Given as goal

abbrev pub invariant-loop-state : goal.invariant-loop-state
invariant-loop-state l = Stands l.s l.state × (length l.buf ≡ 4096) × Rows l.s l.state.count l.tab

abbrev pub decreases-loop-state : goal.decreases-loop-state
decreases-loop-state l = length l.s - l.state.at
