-- `cues::judge_records` meets its contract. The invariant: the records so far have no fault.
use mathlib.Core.Path.{◌≡◌}
use Rattle.verdict.specs.Verdict.{Fine}
use Rattle.verdict.specs.Judgement.{each}
use Rattle.cues.specs.Judgement.{judge_record}
use Rattle.cues.proofs.judge_records.Given as goal

abbrev pub invariant-loop-i : goal.invariant-loop-i
invariant-loop-i l = each (judge_record l.scale l.t l.records l.pool) l.i ≡ Fine
