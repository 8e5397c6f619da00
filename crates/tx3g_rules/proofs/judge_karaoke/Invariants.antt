-- `tx3g_rules::judge_karaoke` meets its contract. The invariant: the time before entry k, and no fault before it.
use Rattle.tx3g_rules.specs.Rules.{time_before, judge_turn}
use Rattle.verdict.specs.Judgement.{each}
use Rattle.verdict.specs.Verdict.{Fine}
use mathlib.Core.Path.{◌≡◌}
use Rattle.tx3g_rules.proofs.judge_karaoke.Given as goal

abbrev pub invariant-loop-k : goal.invariant-loop-k
invariant-loop-k l = (l.previous ≡ time_before l.s l.body l.k) × (each (judge_turn l.characters l.s l.place l.body) l.k ≡ Fine)
