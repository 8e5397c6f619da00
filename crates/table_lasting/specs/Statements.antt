-- Samples that last no tick, dropped with their bytes, change nothing at any tick and nothing that is read.
use Rattle.std.specs.Prelude.{ℕ, ◌≤◌, ◌<◌, ◌≡◌, ◌↔◌, List, length, get_or}
use Rattle.verdict.specs.Verdict.{Verdict, Fine}
use Rattle.timeline.specs.Cues.{Body}
use Rattle.timeline.specs.Tracks.{Sample, total, held_at}
use Rattle.table.specs.Table.{row_count, duration_of, bytes_of, judge_row_by, judge_rows, Laid}
use Rattle.table.specs.Parts.{parts_of, table_of, content_of}
use Rattle.table_lasting.specs.Lasting.{lasting, lasting_of, track_by}
use Rattle.table_lasting.specs.Dropping.{judge_drop, sizes_of, drop_of}

-- a table without fault is copied if there is room for what lasts
abbrev pub Drops : Type 0
Drops =
    (table samples : List ℕ) (a b : ℕ) → judge_drop table samples ≡ Fine
    → length (table_of (lasting_of table samples)) ≤ a → length (content_of (lasting_of table samples)) ≤ b → drop_of table samples a b ≡ sizes_of (lasting_of table samples)

-- over a timeline: the sum of the durations is the same, and the same is held at each tick
abbrev pub ZeroGone : Type 0
ZeroGone = (track : List Sample) → (total (lasting track) ≡ total track) × ((t : ℕ) → held_at (lasting track) t ≡ held_at track t)

-- the table and the bytes written read as exactly the samples that last, and whatever is read from a sample's bytes, the sum of the durations is the same,
-- and the same is held at each tick
abbrev pub ZeroGoneBytes : Type 0
ZeroGoneBytes =
    (table samples : List ℕ) → ((i : ℕ) → get_or table i 0 < 256) → let ps = lasting_of table samples in
    (parts_of (table_of ps) (content_of ps) ≡ ps)
    × ((read : List ℕ → List Body) → (total (track_by read ps) ≡ total (track_by read (parts_of table samples)))
    × ((t : ℕ) → held_at (track_by read ps) t ≡ held_at (track_by read (parts_of table samples)) t))

-- of a table without fault what is written is laid back to back, with no zero duration, and a reading finds no fault in it exactly if it finds none in the samples that last
abbrev pub LastingReads : Type 0
LastingReads =
    (table samples : List ℕ) → ((i : ℕ) → get_or table i 0 < 256) → judge_drop table samples ≡ Fine → let ps = lasting_of table samples in
    Laid (table_of ps) (content_of ps)
    × ((i : ℕ) → i < row_count (table_of ps) → 0 < duration_of (table_of ps) i)
    × ((read : List ℕ → Verdict)
    → (judge_rows (judge_row_by read (table_of ps) (content_of ps)) (table_of ps) (content_of ps) ≡ Fine)
    ↔ ((i : ℕ) → i < row_count table → 0 < duration_of table i → read (bytes_of table samples i) ≡ Fine))
