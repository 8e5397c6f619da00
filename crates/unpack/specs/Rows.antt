-- Terms of the contracts of private functions: what reading a track gives, and the last judgements, said of the rows of the table.
use Rattle.std.specs.Prelude.{ℕ, ◌*◌, ◌≤◌, ◌<◌, ◌≡◌, List, not, length}
use Rattle.verdict.specs.Verdict.{Verdict}
use Rattle.verdict.specs.Judgement.{◌gives◌at◌, ◌then◌, each}
use Rattle.times.specs.Times.{back, timeline_allowed}
use Rattle.rows.specs.Table.{row_at, known}
use Rattle.unpack_write.specs.Rows.{size_to, Short, Ready}
use Rattle.unpack.specs.Unpacked.{Unpacked, Done, Refused}
use Rattle.gather.specs.Gathered.{Gathered, All, Fault}
use Rattle.unpack.specs.Unpacking.{bad_times, track_cues, judge_end, answer_by, done_with, unpack_room}

unfoldable pub row_times : ℕ → List ℕ → ℕ → Verdict
row_times scale tab i = bad_times scale (row_at tab i).start (row_at tab i).end gives 10 at i

-- times and T, said of the rows
unfoldable pub end_of : ℕ → List ℕ → ℕ → ℕ → Verdict
end_of scale tab n T = each (row_times scale tab) n then not (timeline_allowed scale T) gives 10 at n

-- the room for the rows
unfoldable pub rows_room : ℕ → List ℕ → ℕ → ℕ → Unpacked
unfolding end_of
rows_room scale tab n T = answer_by (end_of scale tab n T) (Done (n * 24) (size_to tab n) T)

-- n rows whose texts and ticks are within their limits, and a sum of durations
pub record Measurable (scale : ℕ) (tab : List ℕ) (n sum : ℕ) : Type 0 where
  pub scaled : 0 < scale
  pub most : n ≤ 1024
  pub rows : n * 9 ≤ length tab
  pub below : (i : ℕ) → i < n → ((row_at tab i).start < 281474976710656) × ((row_at tab i).end < 281474976710656)
  pub short : (i : ℕ) → i < n → Short (row_at tab i)
  pub sum_below : sum < 281474976710656

-- n rows that are ready to be written, and the sum
pub record RowsReady (scale : ℕ) (samples tab : List ℕ) (n sum : ℕ) : Type 0 where
  pub scaled : 0 < scale
  pub most : n ≤ 1024
  pub rows : n * 9 ≤ length tab
  pub ready : (i : ℕ) → i < n → Ready (length samples) (row_at tab i)
  pub sum_below : sum < 281474976710656

-- they are the rows of a track's cues
pub record RowsOf (scale : ℕ) (table samples tab : List ℕ) (n sum : ℕ) : Type 0 where
  pub rows_ready : RowsReady scale samples tab n sum
  pub cues : known samples tab n ≡ track_cues table samples
  pub room : answer_by (judge_end scale (back scale sum) (track_cues table samples)) (done_with scale (back scale sum) (track_cues table samples)) ≡ unpack_room scale table samples

-- what reading a track gives: the rows of its cues, or the refusal that unpacking answers
abbrev pub ReadAs : ℕ → List ℕ → List ℕ → List ℕ → Gathered → Type 0
ReadAs scale table samples tab (All n sum) = RowsOf scale table samples tab n sum
ReadAs scale table samples tab (Fault r) = Refused r ≡ unpack_room scale table samples
