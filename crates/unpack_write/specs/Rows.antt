-- Terms of the contracts of functions that only unpacking calls: the rows of the table, ready to be written.
use Rattle.std.specs.Prelude.{ℕ, zero, suc, ◌+◌, ◌-◌, ◌≤◌, ◌<◌, List}
use Rattle.times.specs.Times.{back}
use Rattle.rows.specs.declared.Row.{Row}
use Rattle.rows.specs.Table.{row_at, Placed}

-- the texts of a row are within their limits
pub record Short (r : Row) : Type 0 where
  pub identifier_order : r.identifier.from ≤ r.identifier.end
  pub identifier_most : r.identifier.end ≤ r.identifier.from + 255
  pub settings_order : r.settings.from ≤ r.settings.end
  pub settings_most : r.settings.end ≤ r.settings.from + 255
  pub payload_order : r.payload.from ≤ r.payload.end
  pub payload_most : r.payload.end ≤ r.payload.from + 4095

-- its texts lie within l bytes, and its ID and ticks are within their limits
pub record Ready (l : ℕ) (r : Row) : Type 0 where
  pub short : Short r
  pub placed : Placed l r
  pub id_below : r.id < 2147483648
  pub start_below : r.start < 281474976710656
  pub end_below : r.end < 281474976710656

-- its times in ms are at most the largest
abbrev pub InTime : ℕ → Row → Type 0
InTime scale r = (back scale r.start ≤ 359999999) × (back scale r.end ≤ 359999999)

-- the bytes of a row's texts
unfoldable pub row_size : Row → ℕ
row_size r = r.identifier.end - r.identifier.from + (r.settings.end - r.settings.from) + (r.payload.end - r.payload.from)

-- the bytes of the texts of the first n rows
unfoldable pub size_to : List ℕ → ℕ → ℕ
unfolding row_size
size_to tab zero = 0
size_to tab (suc k) = size_to tab k + row_size (row_at tab k)
