-- Demand 3: what the check accepts, over ticks and cues; and whom it must let pass.
use Rattle.std.specs.Prelude.{ℕ, ◌≤◌, ◌<◌, ◌≡◌, ◌↔◌, List, take}
use Rattle.std.proofs.Math.Option.{some}
use Rattle.verdict.specs.declared.Refusal.{Refusal}
use Rattle.verdict.specs.Verdict.{Fine, Refused}
use Rattle.verdict.specs.Judgement.{fault}
use Rattle.times.specs.Times.{tick}
use Rattle.timeline.specs.Cues.{running_at}
use Rattle.timeline.specs.Tracks.{total, held_at}
use Rattle.timeline.specs.Packing.{Honest}
use Rattle.timeline.specs.Checking.{Bad, Good}
use Rattle.cues.specs.Judgement.{judge_list}
use Rattle.cues.specs.List.{cues_of}
use Rattle.table.specs.Table.{row_count, duration_of}
use Rattle.track.specs.Track.{track_of, judge_track, Readable}
use Rattle.pack.specs.Packed.{Done}
use Rattle.conform.specs.Checked.{Checked, Passed, BadList, BadTrack}
use Rattle.demands.specs.Calls.{PackCall, CheckCall}

-- the track is readable, its durations are positive and sum to T's tick, and at every tick below that the sample there holds exactly the cues that run, in list order,
-- with IDs and texts
pub record Conforms (scale T : ℕ) (records pool table samples : List ℕ) : Type 0 where
  pub readable : Readable table samples
  pub positive : (i : ℕ) → i < row_count table → 0 < duration_of table i
  pub sums : total (track_of table samples) ≡ tick scale T
  pub holds : (t : ℕ) → t < tick scale T → held_at (track_of table samples) t ≡ some (running_at (cues_of scale records pool) t)

-- the check accepts exactly if the list has no fault and the track conforms
abbrev pub AcceptsExactly : Type 0
AcceptsExactly =
    (scale T : ℕ) (records pool table samples : List ℕ) (answer : Checked) → CheckCall scale T records pool table samples answer
    → (answer ≡ Passed) ↔ ((judge_list scale T records pool ≡ Fine) × Conforms scale T records pool table samples)

-- it blames the list exactly if the list has a fault, with that fault; the track only beside a list without fault, and then with the track's own fault if it has one
abbrev pub BlamesExactly : Type 0
BlamesExactly =
    (scale T : ℕ) (records pool table samples : List ℕ) (answer : Checked) → CheckCall scale T records pool table samples answer → (r : Refusal)
    → ((answer ≡ BadList r) ↔ (judge_list scale T records pool ≡ Refused r))
    × (answer ≡ BadTrack r → judge_list scale T records pool ≡ Fine)
    × (judge_list scale T records pool ≡ Fine → judge_track table samples ≡ Refused r → answer ≡ BadTrack r)

-- with a list and a track without fault, 16 at a sample says exactly that it is the first that ends past T or holds a tick with the wrong cues
abbrev pub DiffersExactly : Type 0
DiffersExactly =
    (scale T : ℕ) (records pool table samples : List ℕ) (answer : Checked) → CheckCall scale T records pool table samples answer
    → judge_list scale T records pool ≡ Fine → judge_track table samples ≡ Fine → (i : ℕ) → i < row_count table
    → (answer ≡ BadTrack (fault 16 i))
    ↔ (Bad (cues_of scale records pool) (tick scale T) (track_of table samples) i × ((j : ℕ) → j < i → ¬ Bad (cues_of scale records pool) (tick scale T) (track_of table samples) j))

-- and 16 at the sample count says exactly that no sample is bad and the sum is below T's tick
abbrev pub EndsEarlyExactly : Type 0
EndsEarlyExactly =
    (scale T : ℕ) (records pool table samples : List ℕ) (answer : Checked) → CheckCall scale T records pool table samples answer
    → judge_list scale T records pool ≡ Fine → judge_track table samples ≡ Fine
    → (answer ≡ BadTrack (fault 16 (row_count table)))
    ↔ (((j : ℕ) → j < row_count table → Good (cues_of scale records pool) (tick scale T) (track_of table samples) j) × (total (track_of table samples) < tick scale T))

-- whatever an honest house packs passes: its cuts are packing's and whatever further ticks below T's it likes
abbrev pub HonestPasses : Type 0
HonestPasses =
    (scale T : ℕ) (records pool table samples : List ℕ) (answer : Checked) → CheckCall scale T records pool table samples answer → judge_list scale T records pool ≡ Fine
    → Readable table samples → Honest (cues_of scale records pool) (tick scale T) (track_of table samples) → answer ≡ Passed

-- so does our own track: the bytes that packing wrote
abbrev pub OwnPasses : Type 0
OwnPasses =
    (scale T : ℕ) (records pool table samples table_after samples_after : List ℕ) (n t b : ℕ) (answer : Checked)
    → PackCall scale T records pool table samples table_after samples_after (Done n t b)
    → CheckCall scale T records pool (take t table_after) (take b samples_after) answer → answer ≡ Passed

-- no track that passes has fewer samples than packing answers
abbrev pub FewestSamples : Type 0
FewestSamples =
    (scale T : ℕ) (records pool table samples table_after samples_after : List ℕ) (n t b : ℕ)
    → PackCall scale T records pool table samples table_after samples_after (Done n t b)
    → (others bytes : List ℕ) → CheckCall scale T records pool others bytes Passed → n ≤ row_count others
