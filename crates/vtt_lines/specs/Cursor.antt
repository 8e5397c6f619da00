-- Where the lines of a text stand: what the cursor's functions answer. A reader of K1 need not believe them: `lines_step` says that the line at a place
-- and those from the next place on are the lines from there on.
use Rattle.std.specs.Prelude.{ℕ, zero, suc, ◌+◌, ◌-◌, min, ◌≤◌, ◌≡◌, Bool, true, false, not, List, [], ◌∷◌, leb, length, take, drop, get_or}
use Rattle.base.specs.Choice.{pick}
use Rattle.base.specs.Over.{over, wrote}
use Rattle.utf8.specs.Strings.{CR, LF}
use Rattle.vtt_lines.specs.Lines.{Line, crlf, line_end, lines_of, joined, filled, unfilled, blocks_from}
use Rattle.vtt_lines.specs.declared.Line.{Line as Found}
use Rattle.vtt_lines.specs.declared.Cursor.{Cursor}

-- a byte that ends no line
unfoldable pub in_line : ℕ → Bool
in_line b = not (line_end b)

-- one of the bytes up to CR, and one past them, which ends no line
unfoldable pub low : ℕ → Bool
low b = leb b CR

unfoldable pub high : ℕ → Bool
unfolding low
high b = not (low b)

-- how many bytes stand before the first LF or CR
unfoldable pub run : List ℕ → ℕ
run [] = 0
run (b ∷ s) = pick (line_end b) 0 (suc (run s))

-- how many bytes the line end at the front has: none at the text's end, two of CR LF
unfoldable pub end_size : List ℕ → ℕ
end_size [] = 0
end_size (b ∷ s) = pick (crlf b s) 2 1

-- the line at a place, where it ends, and where the next one begins
unfoldable pub line_at : List ℕ → ℕ → Line
line_at s at = take (run (drop at s)) (drop at s)

unfoldable pub end_at : List ℕ → ℕ → ℕ
end_at s at = at + run (drop at s)

unfoldable pub next_at : List ℕ → ℕ → ℕ
unfolding end_at
next_at s at = end_at s at + end_size (drop (end_at s at) s)

-- the line at a place, the `line`th, by numbers
abbrev pub found_at : List ℕ → ℕ → ℕ → Found
found_at s at line = record { end = end_at s at; next = next_at s at; number = line + 1 }

-- the cursor past its line
abbrev pub moved_on : List ℕ → Cursor → Cursor
moved_on s c = record { at = next_at s c.at; line = c.line + 1 }

-- the line's places are in order and within the text; the next line begins later, unless the text has ended, and has the next number
pub record Ahead (s : List ℕ) (at line : ℕ) (l : Found) : Type 0 where
  pub ends : at ≤ l.end
  pub follows : l.end ≤ l.next
  pub moves : min (at + 1) (length s) ≤ l.next
  pub within : l.next ≤ length s
  pub counts : l.number ≡ line + 1

-- a line that is not empty begins at the front
unfoldable pub begins_filled : List ℕ → Bool
unfolding in_line
begins_filled [] = false
begins_filled (b ∷ s) = in_line b

-- an empty line begins at the front
unfoldable pub begins_empty : List ℕ → Bool
begins_empty [] = false
begins_empty (b ∷ s) = line_end b

-- from place `at`, the `line`th line, past empty lines: the place and number of the line there, from which the blocks are the same
pub record EmptyTo (s : List ℕ) (at line place number : ℕ) : Type 0 where
  pub onward : at ≤ place
  pub within : place ≤ length s
  pub numbered : number ≤ place + 1
  pub left : blocks_from false line (lines_of (drop at s)) ≡ blocks_from false number (lines_of (drop place s))

-- from place `at`, the `line`th line, to the first empty line or the text's end: its place and number
pub record PassedTo (s : List ℕ) (at line place number : ℕ) : Type 0 where
  pub onward : at ≤ place
  pub within : place ≤ length s
  pub numbered : number ≤ place + 1
  pub counted : number ≡ line + length (filled (lines_of (drop at s)))
  pub left : lines_of (drop place s) ≡ unfilled (lines_of (drop at s))

-- what joins a line to a text of n bytes: an LF, if there is such a text
abbrev pub joint : ℕ → List ℕ
joint zero = []
joint (suc n) = LF ∷ []

-- a line at `at` is joined to a text of n bytes up to `end` by one LF, if there is such a text
abbrev pub JoinedAt : List ℕ → ℕ → ℕ → ℕ → Type 0
JoinedAt s zero end at = Unit {0}
JoinedAt s (suc n) end at = (at ≡ end + 1) × (get_or s end 0 ≡ LF)

-- the lines from a place up to an empty one, joined, have this length; where they are plain, they stand so in the text, up to `end`
pub record ScannedTo (s : List ℕ) (at size end : ℕ) (plain : Bool) : Type 0 where
  pub sized : size ≡ length (joined (filled (lines_of (drop at s))))
  pub short : size ≤ length s
  pub ordered : at ≤ end
  pub within : end ≤ length s
  pub same : plain ≡ true → take (end - at) (drop at s) ≡ joined (filled (lines_of (drop at s)))

-- d holds v from place n on, if it fits
pub record WrittenTo (d after : List ℕ) (n : ℕ) (v : List ℕ) : Type 0 where
  pub kept : length after ≡ length d
  pub written : n + length v ≤ length d → after ≡ wrote d n v

-- the lines from a place up to an empty one, joined, have this length, and stand over d if they fit
pub record GatheredTo (s : List ℕ) (at : ℕ) (d after : List ℕ) (size : ℕ) : Type 0 where
  pub sized : size ≡ length (joined (filled (lines_of (drop at s))))
  pub short : size ≤ length s
  pub kept : length after ≡ length d
  pub written : size ≤ length d → after ≡ over (joined (filled (lines_of (drop at s)))) d
