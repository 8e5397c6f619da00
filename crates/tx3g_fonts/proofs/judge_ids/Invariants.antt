-- `tx3g_fonts::judge_ids` meets its contract. The invariant: where font k stands, the IDs before it are distinct, and their slots are taken.
use Rattle.tx3g_fonts.proofs.Laws.{Taken}
use Rattle.tx3g_fonts.specs.Fonts.{font_at, fresh_font}
use Rattle.verdict.specs.Judgement.{each}
use Rattle.verdict.specs.Verdict.{Fine}
use mathlib.Core.Path.{◌≡◌}
use Rattle.tx3g_fonts.proofs.judge_ids.Given as goal

abbrev pub invariant-loop-k : goal.invariant-loop-k
invariant-loop-k l = (l.at ≡ font_at l.s l.body l.k) × (each (fresh_font l.s l.place l.body) l.k ≡ Fine) × Taken l.s l.body l.k l.taken
