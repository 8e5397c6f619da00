-- `table::judge_by` meets its contract: by the laws of the loop that judges a table.
use Rattle.verdict.specs.Verdict.{Verdict}
use Rattle.table.specs.Table.{offset_of, judge_row_by}
use Rattle.table.proofs.Judging.{Judged}
use lib.ListN.{length}
use mathlib.Core.List.{List}
use mathlib.Core.Path.{◌≡◌}
use Prim.Native.Nat.{ℕ, ◌≤◌}
use Rattle.table.proofs.judge_by.Given as goal

abbrev pub invariant-loop-i : goal.invariant-loop-i
invariant-loop-i g l =
    (l.at ≡ offset_of l.table l.i) × (l.at ≤ length l.samples)
    × ((f : List ℕ → Verdict) → ((y : _) (r : Verdict) → g.F.Fn.post l.judge (y, tt) r → r ≡ f y.now) → Judged (judge_row_by f l.table l.samples) l.table l.samples l.at l.i)
