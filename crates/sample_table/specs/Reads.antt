-- What can be said of the program's reads: which bytes come is the system's, and the contract of std's `read` bounds what it answers.
use Rattle.std.specs.Prelude.{ℕ, ◌≡◌, ◌≤◌, List, [], ◌∷◌, length, ℤ, pos, negsuc}
use Rattle.input.specs.Reads.{Read, chunk_from, line_by}
use Rattle.input.specs.declared.Reading.{Reading}
use Rattle.input.specs.declared.Chunk.{Chunk}
use Rattle.input.specs.Line.{Line}

-- what a read into n bytes may answer: how many it moved, at most n, or -1
abbrev pub Moved : ℕ → ℤ → Type 0
Moved n (pos k) = k ≤ n
Moved n (negsuc k) = k ≡ 0

-- a read into 65,536 bytes that the contract of `read` allows; each of several is
abbrev pub Allowed : Read → Type 0
Allowed x = (length x.buffer ≡ 65536) × Moved 65536 x.got

unfoldable pub AllAllowed : List Read → Type 0
AllAllowed [] = Unit {0}
AllAllowed (x ∷ xs) = Allowed x × AllAllowed xs

-- the chunk is what one such read makes of the state
abbrev pub ByOneRead : Reading → Chunk → Type 0
ByOneRead r c = (x : Read) × Allowed x × (c ≡ chunk_from r x)

-- the line is what such reads, one after the other, make of the state
abbrev pub ByReads : Reading → Line → Type 0
ByReads r l = (xs : List Read) × AllAllowed xs × (l ≡ line_by r xs)
