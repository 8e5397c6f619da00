-- The judgement of a payload by the tag profile. Document 02, K11.
use Rattle.std.specs.Prelude.{ℕ, List, ltb, length}
use Rattle.viable.specs.Judged.{Judged, Right, Bad}
use Rattle.viable.specs.FirstBad.{judged_by}
use Rattle.verdict.specs.Verdict.{Verdict, Fine}
use Rattle.verdict.specs.Judgement.{refuse, text_at, ◌gives◌at◌, ◌then◌}
use Rattle.text.specs.Rules.{payload_text}
use Rattle.text.specs.Beginnings.{payload_begun}
use Rattle.profile.specs.Machine.{judge}

-- 21, place the first byte that no payload of the profile could have there, or the length where it ends too early
abbrev pub outside : Judged → Verdict
outside Right = Fine
outside (Bad q) = refuse 21 q

-- the limit of 4,095 bytes (9), document 01's payload rule (6), both place 0; then the profile
unfoldable pub judge_profile : List ℕ → Verdict
judge_profile s =
    ltb 4095 (length s) gives 9 at 0
    then text_at 0 (judged_by payload_text payload_begun s)
    then outside (judge s)
