-- Samples by their durations and bytes, and the table and the bytes that they are written as.
use Rattle.std.specs.Prelude.{ℕ, List, [], ◌∷◌, ◌++◌, length}
use Rattle.fields.specs.BigEndian.{bytes}
use Rattle.timeline.specs.Lists.{listed}
use Rattle.table.specs.Table.{row_count, duration_of, bytes_of}

pub record Part : Type 0 where
  pub duration : ℕ
  pub content : List ℕ

unfoldable pub part_at : List ℕ → List ℕ → ℕ → Part
part_at table samples i = record { duration = duration_of table i; content = bytes_of table samples i }

-- the samples of a table
unfoldable pub parts_of : List ℕ → List ℕ → List Part
unfolding part_at
parts_of table samples = listed (part_at table samples) (row_count table)

-- the table of samples: duration 4, sample size 4
unfoldable pub table_of : List Part → List ℕ
table_of [] = []
table_of (p ∷ ps) = (bytes 4 p.duration ++ bytes 4 (length p.content)) ++ table_of ps

-- the samples back to back
unfoldable pub content_of : List Part → List ℕ
content_of [] = []
content_of (p ∷ ps) = p.content ++ content_of ps
