-- The check of a track against a list of cue records. Document 01, 'Tracks and packing' and 'Order'.
use Rattle.std.specs.Prelude.{ℕ, ◌<◌, ◌≡◌, ◌↔◌, List}
use Rattle.verdict.specs.Verdict.{Verdict, Fine, Refused}
use Rattle.verdict.specs.Judgement.{refuse, ◌then◌}
use Rattle.times.specs.Times.{tick}
use Rattle.timeline.specs.Checking.{Answer, accepted, wrong, short, check, Means}
use Rattle.cues.specs.Judgement.{judge_list}
use Rattle.cues.specs.List.{cues_of}
use Rattle.table.specs.Table.{row_count}
use Rattle.track.specs.Track.{judge_track, track_of}
use Rattle.conform.specs.Checked.{Checked, Passed, BadList, BadTrack}

-- 16: the first sample that ends past T or holds a tick with the wrong cues; else, if the sum is below T, the sample count
abbrev pub answered : Answer → Verdict
answered accepted = Fine
answered (wrong i) = refuse 16 i
answered (short n) = refuse 16 n

-- the track, then 16
abbrev pub track_verdict : ℕ → ℕ → List ℕ → List ℕ → List ℕ → List ℕ → Verdict
track_verdict scale T records pool table samples =
    judge_track table samples
    then answered (check (cues_of scale records pool) (tick scale T) (track_of table samples))

-- the list as packing judges it without 15, then the track, then 16
unfoldable pub conformance : ℕ → ℕ → List ℕ → List ℕ → List ℕ → List ℕ → Verdict
conformance scale T records pool table samples = judge_list scale T records pool then track_verdict scale T records pool table samples

-- whose fault it is: the list's, else the track's
abbrev pub of_track : Verdict → Checked
of_track Fine = Passed
of_track (Refused r) = BadTrack r

abbrev pub unless_list : Verdict → Checked → Checked
unless_list Fine c = c
unless_list (Refused r) c = BadList r

-- the same, with who is at fault
unfoldable pub checked : ℕ → ℕ → List ℕ → List ℕ → List ℕ → List ℕ → Checked
checked scale T records pool table samples = unless_list (judge_list scale T records pool) (of_track (track_verdict scale T records pool table samples))

-- the verdict of an answer, whoever is at fault
abbrev pub verdict_of : Checked → Verdict
verdict_of Passed = Fine
verdict_of (BadList r) = Refused r
verdict_of (BadTrack r) = Refused r

-- an answer at a place that it can have: 16 is at a sample, or at the sample count
abbrev pub AtPlace : List ℕ → Answer → Type 0
AtPlace table accepted = Unit {0}
AtPlace table (wrong i) = i < row_count table
AtPlace table (short n) = n ≡ row_count table

-- with a list and a track without fault, each answer is given exactly if what it says is so (`Means`): the track is right; sample i is the first bad one; none is bad and the sum is below T
abbrev pub AnswersExactly : Type 0
AnswersExactly =
    (scale T : ℕ) (records pool table samples : List ℕ) → judge_list scale T records pool ≡ Fine → judge_track table samples ≡ Fine
    → (v : Answer) → AtPlace table v
    → (conformance scale T records pool table samples ≡ answered v) ↔ Means (cues_of scale records pool) (tick scale T) (track_of table samples) v

-- whoever is at fault, the verdict is the same
abbrev pub VerdictIs : Type 0
VerdictIs = (scale T : ℕ) (records pool table samples : List ℕ) → verdict_of (checked scale T records pool table samples) ≡ conformance scale T records pool table samples
