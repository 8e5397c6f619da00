-- A table of 8-byte records (duration, sample size), and the samples back to back. Document 01, 'Tracks and packing'.
use Rattle.std.specs.Prelude.{ℕ, zero, suc, ◌+◌, ◌*◌, ◌/◌, ◌%◌, ◌≤◌, ◌<◌, ◌≡◌, ◌↔◌, List, not, ltb, eqb, length}
use Rattle.verdict.specs.Verdict.{Verdict, Fine, Refused}
use Rattle.verdict.specs.Judgement.{moved, ◌gives◌at◌, ◌then◌, each}
use Rattle.fields.specs.BigEndian.{be}
use Rattle.boxes.specs.Boxes.{part}

-- the records of a table
unfoldable pub row_count : List ℕ → ℕ
row_count table = length table / 8

unfoldable pub duration_of : List ℕ → ℕ → ℕ
duration_of table i = be 4 table (i * 8)

unfoldable pub size_of : List ℕ → ℕ → ℕ
size_of table i = be 4 table (i * 8 + 4)

-- where the bytes of sample i begin: the sum of the sizes before it
unfoldable pub offset_of : List ℕ → ℕ → ℕ
unfolding size_of
offset_of table zero = 0
offset_of table (suc i) = offset_of table i + size_of table i

-- the bytes of sample i
unfoldable pub bytes_of : List ℕ → List ℕ → ℕ → List ℕ
bytes_of table samples i = part samples (offset_of table i) (offset_of table (suc i))

-- a reading's fault, with the sample's index for its place; number and offset stay
abbrev pub placed_at : ℕ → Verdict → Verdict
placed_at i Fine = Fine
placed_at i (Refused r) = Refused (moved i r)

-- where sample i lies: size 0 (4), past the bytes (1)
unfoldable pub judge_size : List ℕ → List ℕ → ℕ → Verdict
judge_size table samples i = eqb (size_of table i) 0 gives 4 at i then ltb (length samples) (offset_of table (suc i)) gives 1 at i

-- row i: zero duration (10), then where its sample lies
unfoldable pub judge_row : List ℕ → List ℕ → ℕ → Verdict
unfolding judge_size
judge_row table samples i = eqb (duration_of table i) 0 gives 10 at i then judge_size table samples i

-- row i, then what `read` finds in the sample
unfoldable pub judge_row_by : (List ℕ → Verdict) → List ℕ → List ℕ → ℕ → Verdict
unfolding judge_row
judge_row_by read table samples i = judge_row table samples i then placed_at i (read (bytes_of table samples i))

-- whole table records (1), count (9)
unfoldable pub judge_whole : List ℕ → Verdict
judge_whole table = not (eqb (length table % 8) 0) gives 1 at 0 then ltb 65536 (row_count table) gives 9 at 0

-- bytes left over behind n samples that end at `last` (2)
unfoldable pub judge_left : List ℕ → ℕ → ℕ → Verdict
judge_left samples n last = ltb last (length samples) gives 2 at n

-- the table, each row by `row`, bytes left over
unfoldable pub judge_rows : (ℕ → Verdict) → List ℕ → List ℕ → Verdict
unfolding judge_whole judge_left
judge_rows row table samples =
    judge_whole table
    then each row (row_count table)
    then judge_left samples (row_count table) (offset_of table (row_count table))

-- whole records, not too many, each sample of some bytes, and the samples use up the bytes
pub record Laid (table samples : List ℕ) : Type 0 where
  pub whole : length table % 8 ≡ 0
  pub count : row_count table ≤ 65536
  pub sized : (i : ℕ) → i < row_count table → 0 < size_of table i
  pub used : offset_of table (row_count table) ≡ length samples

-- demand 3's readable track, by a reading of samples
pub record ReadableBy (read : List ℕ → Verdict) (table samples : List ℕ) : Type 0 where
  pub laid : Laid table samples
  pub reads : (i : ℕ) → i < row_count table → read (bytes_of table samples i) ≡ Fine

-- the judgement of the sizes alone finds no fault exactly where the samples are laid so
abbrev pub FineLaid : Type 0
FineLaid = (table samples : List ℕ) → (judge_rows (judge_size table samples) table samples ≡ Fine) ↔ Laid table samples

-- with a reading it finds none exactly in the readable tracks whose durations are positive
abbrev pub FineReadable : Type 0
FineReadable =
    (read : List ℕ → Verdict) (table samples : List ℕ)
    → (judge_rows (judge_row_by read table samples) table samples ≡ Fine)
    ↔ (ReadableBy read table samples × ((i : ℕ) → i < row_count table → 0 < duration_of table i))
