-- Tracks of WebVTT samples: a table and the samples back to back. Document 01, 'Tracks and packing'.
use Rattle.std.specs.Prelude.{ℕ, ◌<◌, ◌≡◌, ◌↔◌, List}
use Rattle.verdict.specs.Verdict.{Verdict, Fine}
use Rattle.timeline.specs.Lists.{listed}
use Rattle.timeline.specs.Tracks.{Sample}
use Rattle.table.specs.Table.{row_count, duration_of, bytes_of, judge_row_by, judge_rows, ReadableBy}
use Rattle.wvtt.specs.Sample.{judge_sample}
use Rattle.wvtt_cues.specs.Cues.{sample_cues}

-- whole table records (1), count (9), the samples, bytes left over (2)
unfoldable pub judge_track : List ℕ → List ℕ → Verdict
judge_track table samples = judge_rows (judge_row_by judge_sample table samples) table samples

-- sample i with its duration and the cues that it holds
unfoldable pub sample_of : List ℕ → List ℕ → ℕ → Sample
sample_of table samples i = record { duration = duration_of table i; held = sample_cues (bytes_of table samples i) }

-- a track as samples with their cues
unfoldable pub track_of : List ℕ → List ℕ → List Sample
unfolding sample_of
track_of table samples = listed (sample_of table samples) (row_count table)

-- demand 3's readable track
abbrev pub Readable : List ℕ → List ℕ → Type 0
Readable table samples = ReadableBy judge_sample table samples

-- the judgement finds no fault exactly in the readable tracks whose durations are positive
abbrev pub FineIff : Type 0
FineIff =
    (table samples : List ℕ)
    → (judge_track table samples ≡ Fine) ↔ (Readable table samples × ((i : ℕ) → i < row_count table → 0 < duration_of table i))
