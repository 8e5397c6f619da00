-- Terms of the contracts of private functions: a table without fault and the room to copy it, and runs of samples that last.
use Rattle.std.specs.Prelude.{ℕ, ◌+◌, ◌≤◌, ◌<◌, ◌≡◌, List, length}
use Rattle.table.specs.Table.{row_count, duration_of, offset_of, Laid}
use Rattle.table.specs.Parts.{table_of, content_of}
use Rattle.table_lasting.specs.Lasting.{lasting_of}

pub record Room (table samples rows content : List ℕ) : Type 0 where
  pub laid : Laid table samples
  pub for_table : length (table_of (lasting_of table samples)) ≤ length rows
  pub for_content : length (content_of (lasting_of table samples)) ≤ length content

-- the samples from row `from` to row `end` last, and have so many bytes
pub record Lasts (table : List ℕ) (from end bytes : ℕ) : Type 0 where
  pub goes : from ≤ end
  pub most : end ≤ row_count table
  pub lasts : (i : ℕ) → from ≤ i → i < end → duration_of table i ≡ 0 → ⊥
  pub sum : offset_of table end ≡ offset_of table from + bytes

-- and the next one, if there is any, does not
pub record Longest (table : List ℕ) (from end bytes : ℕ) : Type 0 where
  pub run : Lasts table from end bytes
  pub stops : end < row_count table → duration_of table end ≡ 0
