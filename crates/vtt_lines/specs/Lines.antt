-- The lines of a text and their blocks. Document 02, K1: line ends are LF, CR or CR LF, a block's end an empty line or the file's end.
use Rattle.std.specs.Prelude.{ℕ, suc, Bool, true, false, List, [], ◌∷◌, ◌++◌, eqb}
use Rattle.base.specs.Choice.{pick, both, any_of}
use Rattle.utf8.specs.Strings.{CR, LF, starts_with, has_any}
use Rattle.utf8.specs.Forbidden.{arrow}

-- a line, without its end
abbrev pub Line : Type 0
Line = List ℕ

-- the byte, in front of the first line
abbrev pub onto : ℕ → List Line → List Line
onto b [] = (b ∷ []) ∷ []
onto b (l ∷ ls) = (b ∷ l) ∷ ls

-- b is a CR, and an LF follows: the LF ends the line
abbrev pub crlf : ℕ → List ℕ → Bool
crlf b s = both (eqb b CR) (starts_with (LF ∷ []) s)

abbrev pub line_end : ℕ → Bool
line_end b = any_of (eqb b CR) (eqb b LF)

-- the lines of a text; bytes behind the last line end are a line, too
unfoldable pub lines_of : List ℕ → List Line
lines_of [] = []
lines_of (b ∷ s) = pick (crlf b s) (lines_of s) (pick (line_end b) ([] ∷ lines_of s) (onto b (lines_of s)))

-- lines joined by one LF
unfoldable pub joined : List Line → List ℕ
joined [] = []
joined (l ∷ []) = l
joined (l ∷ m ∷ ls) = l ++ LF ∷ joined (m ∷ ls)

-- the lines up to the first empty one
unfoldable pub filled : List Line → List Line
filled [] = []
filled ([] ∷ ls) = []
filled ((b ∷ l) ∷ ls) = (b ∷ l) ∷ filled ls

-- the lines from the first empty one on
unfoldable pub unfilled : List Line → List Line
unfilled [] = []
unfilled ([] ∷ ls) = [] ∷ ls
unfilled ((b ∷ l) ∷ ls) = unfilled ls

-- the number of its first line, that line, and the other ones
pub record Block : Type 0 where
  pub line : ℕ
  pub first : Line
  pub rest : List Line

-- the blocks of the lines from number n on: one begins at each line that is not empty, unless a block goes on there
unfoldable pub blocks_from : Bool → ℕ → List Line → List Block
unfolding filled
blocks_from inside n [] = []
blocks_from inside n ([] ∷ ls) = blocks_from false (suc n) ls
blocks_from true n ((b ∷ l) ∷ ls) = blocks_from true (suc n) ls
blocks_from false n ((b ∷ l) ∷ ls) = record { line = n; first = b ∷ l; rest = filled ls } ∷ blocks_from true (suc n) ls

-- the string `-->` stands in the line
unfoldable pub holds_arrow : Line → Bool
holds_arrow l = has_any (arrow ∷ []) l

-- it stands in one of the lines
unfoldable pub some_arrow : List Line → Bool
unfolding holds_arrow
some_arrow [] = false
some_arrow (l ∷ ls) = any_of (holds_arrow l) (some_arrow ls)
