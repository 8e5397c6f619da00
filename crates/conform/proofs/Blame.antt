-- The check's verdict, and whose fault it is.
use Prim.Native.Nat.{ℕ}
use mathlib.Core.Path.{◌≡◌, refl, ◌∙◌}
use mathlib.Core.List.{List}
use native.Mathlib.Omega.{arith}
use Rattle.verdict.specs.declared.Refusal.{Refusal}
use Rattle.verdict.specs.Verdict.{Verdict, Fine, Refused}
use Rattle.verdict.specs.Judgement.{◌then◌}
use Rattle.cues.specs.Judgement.{judge_list}
use Rattle.conform.specs.Checked.{Checked, Passed, BadList, BadTrack}
use Rattle.conform.specs.Conformance.{track_verdict, conformance, of_track, unless_list, checked, verdict_of, VerdictIs}

of-track : (w : Verdict) → verdict_of (of_track w) ≡ w
of-track Fine = refl
of-track (Refused r) = refl

unless-list : (v w : Verdict) → verdict_of (unless_list v (of_track w)) ≡ v then w
unless-list Fine w = of-track w
unless-list (Refused r) w = refl

pub verdict-is : VerdictIs
unfolding checked conformance
verdict-is scale T records pool table samples = unless-list (judge_list scale T records pool) (track_verdict scale T records pool table samples)

fine-passed : (c : Checked) → verdict_of c ≡ Fine → c ≡ Passed
fine-passed Passed e = refl
fine-passed (BadList r) e = let z : ◌≡◌ {A = ℕ} 0 1 = cc in absurd (omega arith)
fine-passed (BadTrack r) e = let z : ◌≡◌ {A = ℕ} 0 1 = cc in absurd (omega arith)

-- an answer of the check, by its verdict
module _ (scale T : ℕ) (records pool table samples : List ℕ) where
  pub passes : conformance scale T records pool table samples ≡ Fine → checked scale T records pool table samples ≡ Passed
  passes e = fine-passed (checked scale T records pool table samples) (verdict-is scale T records pool table samples ∙ e)

  pub track-at-fault : judge_list scale T records pool ≡ Fine → checked scale T records pool table samples ≡ of_track (conformance scale T records pool table samples)
  unfolding checked conformance
  track-at-fault e = rw e

  pub list-at-fault : (r : Refusal) → judge_list scale T records pool ≡ Refused r → checked scale T records pool table samples ≡ BadList r
  unfolding checked
  list-at-fault r e = rw e
