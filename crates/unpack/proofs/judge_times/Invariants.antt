use Prim.Native.Nat.{◌≤◌}
use mathlib.Core.Path.{◌≡◌}
use Rattle.verdict.specs.Verdict.{Fine}
use Rattle.verdict.specs.Judgement.{each}
use Rattle.unpack.specs.Rows.{row_times}
use Rattle.unpack.proofs.judge_times.Given as goal

abbrev pub invariant-loop-i : goal.invariant-loop-i
invariant-loop-i l = (l.i ≤ l.n) × (each (row_times l.scale l.tab) l.i ≡ Fine)
