-- Reads of standard input, one after the other, and the line that they give.
use Rattle.std.specs.Prelude.{ℕ, ◌≡◌, Bool, true, false, List, [], ◌∷◌, ◌++◌, take, ℤ, pos, negsuc, nat_abs}
use Rattle.base.specs.Choice.{pick, any_of}
use Rattle.input.specs.Line.{line_of, Line, Bad}
use Rattle.input.specs.Reading.{fed, line_at}
use Rattle.input.specs.declared.Reading.{Reading}
use Rattle.input.specs.declared.Reading.TheVariants.{Start, Scale, Space, Time, Whole, Wrong}
use Rattle.input.specs.declared.Chunk.{Chunk}

abbrev pub is_wrong : Reading → Bool
is_wrong Start = false
is_wrong (Scale v) = false
is_wrong (Space v) = false
is_wrong (Time v w) = false
is_wrong (Whole v w) = false
is_wrong Wrong = true

abbrev pub none : List ℕ → Bool
none [] = true
none (b ∷ s) = false

-- the bytes of a read: none are the end, and a line that is bad needs no more
unfoldable pub chunk_by : Reading → List ℕ → Chunk
chunk_by r x = record { state = fed r x; last = any_of (none x) (is_wrong (fed r x)) }

-- a read that answered this number, and what its buffer holds then: it failed, and the line is bad; or so many bytes stand at the buffer's front
abbrev pub chunk_of : Reading → ℤ → List ℕ → Chunk
chunk_of r (negsuc k) s = record { state = Wrong; last = true }
chunk_of r (pos k) s = chunk_by r (take k s)

-- a read: what it answered, and what its buffer holds then
pub record Read : Type 0 where
  pub got : ℤ
  pub buffer : List ℕ

abbrev pub chunk_from : Reading → Read → Chunk
chunk_from r x = chunk_of r x.got x.buffer

-- reads one after the other, up to the last that is needed; a line that they do not end is bad
abbrev pub if_last : Chunk → Line → Line
if_last c l = pick c.last (line_at c.state) l

unfoldable pub line_by : Reading → List Read → Line
unfolding chunk_by
line_by r [] = Bad
line_by r (x ∷ xs) = if_last (chunk_from r x) (line_by (chunk_from r x).state xs)

-- the bytes that a read moved, and those of several
abbrev pub bytes_of : Read → List ℕ
bytes_of x = take (nat_abs x.got) x.buffer

unfoldable pub bytes_by : List Read → List ℕ
bytes_by [] = []
bytes_by (x ∷ xs) = bytes_of x ++ bytes_by xs

-- a read moved some bytes; each of several did
abbrev pub Moves : ℤ → List ℕ → Type 0
Moves (pos k) s = none (take k s) ≡ false
Moves (negsuc k) s = ⊥

unfoldable pub Moving : List Read → Type 0
Moving [] = Unit {0}
Moving (x ∷ xs) = Moves x.got x.buffer × Moving xs

-- reads that moved some bytes, and then one that found the end, give the line of all the bytes; this and the next are proved in proofs/InTurn.antt
abbrev pub ReadToTheEnd : Type 0
ReadToTheEnd = (xs : List Read) (x : Read) (more : List Read) → Moving xs → x.got ≡ pos 0 → line_by Start (xs ++ x ∷ more) ≡ line_of (bytes_by xs)

-- and with one that failed a bad line
abbrev pub ReadInVain : Type 0
ReadInVain = (xs : List Read) (x : Read) (more : List Read) (k : ℕ) → Moving xs → x.got ≡ negsuc k → line_by Start (xs ++ x ∷ more) ≡ Bad
