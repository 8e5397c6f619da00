-- Document 02, K11: the tag profile. What each answer to a payload says, in the words of the grammar (crate profile, specs/Grammar.antt) and of document 01's payload rule; and
-- that the payloads made from 3GPP text are in the profile.
use Rattle.std.specs.Prelude.{ℕ, ◌≤◌, ◌<◌, ◌≡◌, ◌↔◌, true, List, length, take}
use Rattle.viable.specs.FirstBad.{bytes, FirstBad, Passes}
use Rattle.verdict.specs.Verdict.{Verdict, Fine, Refused}
use Rattle.verdict.specs.Judgement.{refuse, bad_text}
use Rattle.text.specs.Rules.{payload_text}
use Rattle.records.specs.Records.{payload_of}
use Rattle.profile.specs.Grammar.{Profile}
use Rattle.profile_judge.specs.Judgement.{judge_profile}
use Rattle.tx3g_stock.specs.declared.Counts.{Counts}
use Rattle.tx3g_convert.specs.Converted.{Done}
use Rattle.demands.specs.Calls.{ConvertCall}

-- the answers: yes; too long; bad text at q; outside the profile at q
pub data Answer : Type 0 where
  within : Answer
  long : Answer
  bad : ℕ → Answer
  outside : ℕ → Answer

abbrev pub verdict_of : Answer → Verdict
verdict_of within = Fine
verdict_of long = refuse 9 0
verdict_of (bad q) = Refused (bad_text 0 q)
verdict_of (outside q) = refuse 21 q

-- what they say. Of a payload outside the profile, q is the first byte that no payload of it could have there: each beginning of up to q bytes has a continuation in the profile,
-- and with byte q it has none; or q is the length, and the payload ends too early. Limit and payload rule shorten no continuation
abbrev pub Means : List ℕ → Answer → Type 0
Means s within = (length s ≤ 4095) × Passes payload_text s × Profile s
Means s long = 4095 < length s
Means s (bad q) = (length s ≤ 4095) × FirstBad (Passes payload_text) s q
Means s (outside q) = (length s ≤ 4095) × Passes payload_text s × FirstBad Profile s q

-- each payload gets one of them, and exactly the one that is so
abbrev pub ProfileAnswers : Type 0
ProfileAnswers = (s : List ℕ) → ((a : Answer) × (judge_profile s ≡ verdict_of a)) × ((a : Answer) → (judge_profile s ≡ verdict_of a) ↔ Means s a)

-- every payload that a conversion has written is in the profile; samples are bytes
abbrev pub ConvertedWithin : Type 0
ConvertedWithin =
    (scale : ℕ) (entry table samples records pool records_after pool_after : List ℕ) (n r p T : ℕ) (c : Counts) → bytes samples ≡ true
    → ConvertCall scale entry table samples records pool records_after pool_after (Done n r p T c)
    → (k : ℕ) → k < n → judge_profile (payload_of (take r records_after) (take p pool_after) k) ≡ Fine
