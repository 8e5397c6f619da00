-- What holds of packing's answer, and of what it writes for a list without fault.
use Rattle.std.specs.Prelude.{ℕ, ◌+◌, ◌*◌, ◌≤◌, ◌<◌, ◌≡◌, List, length}
use Rattle.verdict.specs.Verdict.{Fine}
use Rattle.verdict.specs.Judgement.{fault}
use Rattle.times.specs.Times.{tick}
use Rattle.timeline.specs.Tracks.{Right}
use Rattle.timeline.specs.Packing.{packed}
use Rattle.records.specs.Records.{count}
use Rattle.cues.specs.Judgement.{judge_list}
use Rattle.cues.specs.List.{cues_of}
use Rattle.track.specs.Track.{track_of, Readable}
use Rattle.pack.specs.Packed.{Done, Refused}
use Rattle.pack.specs.Packing.{packed_track, table_bytes, samples_bytes, packed_of}

-- a list without fault is packed if there is room for table and samples
abbrev pub Packs : Type 0
Packs =
    (scale T : ℕ) (recs pool : List ℕ) (a b : ℕ) → judge_list scale T recs pool ≡ Fine
    → length (table_bytes (packed_track scale T recs pool)) ≤ a → length (samples_bytes (packed_track scale T recs pool)) ≤ b
    → packed_of scale T recs pool a b
    ≡ Done (length (packed_track scale T recs pool)) (length (table_bytes (packed_track scale T recs pool))) (length (samples_bytes (packed_track scale T recs pool)))

-- it is refused 15, place 0, if there is no room for the table
abbrev pub TableTooLong : Type 0
TableTooLong =
    (scale T : ℕ) (recs pool : List ℕ) (a b : ℕ) → judge_list scale T recs pool ≡ Fine
    → a < length (table_bytes (packed_track scale T recs pool)) → packed_of scale T recs pool a b ≡ Refused (fault 15 0)

-- and 15, place 1, if there is room for the table and none for the samples
abbrev pub SamplesTooLong : Type 0
SamplesTooLong =
    (scale T : ℕ) (recs pool : List ℕ) (a b : ℕ) → judge_list scale T recs pool ≡ Fine
    → length (table_bytes (packed_track scale T recs pool)) ≤ a → b < length (samples_bytes (packed_track scale T recs pool))
    → packed_of scale T recs pool a b ≡ Refused (fault 15 1)

-- the durations sum to T's tick, and at every tick the sample there holds the cues that run
abbrev pub PackedIsRight : Type 0
PackedIsRight =
    (scale T : ℕ) (recs pool : List ℕ) → judge_list scale T recs pool ≡ Fine → Right (cues_of scale recs pool) (tick scale T) (packed_track scale T recs pool)

-- n records give at most 2n + 1 samples
abbrev pub SamplesMost : Type 0
SamplesMost = (scale T : ℕ) (recs pool : List ℕ) → judge_list scale T recs pool ≡ Fine → length (packed_track scale T recs pool) ≤ 2 * count recs + 1

-- what is written reads back as the packed track
abbrev pub ReadsBack : Type 0
ReadsBack =
    (scale T : ℕ) (recs pool : List ℕ) → judge_list scale T recs pool ≡ Fine
    → track_of (table_bytes (packed_track scale T recs pool)) (samples_bytes (packed_track scale T recs pool)) ≡ packed (cues_of scale recs pool) (tick scale T)

-- what is written is demand 3's readable track
abbrev pub PackedReadable : Type 0
PackedReadable =
    (scale T : ℕ) (recs pool : List ℕ) → judge_list scale T recs pool ≡ Fine
    → Readable (table_bytes (packed_track scale T recs pool)) (samples_bytes (packed_track scale T recs pool))
