-- Terms of the contracts of `feed`, `finish` and the private functions: the line as it is read, byte by byte. A reader need not believe them: `fed-append`
-- and `fed-line` say that the bytes, in whatever chunks, give the line of specs/Line.antt.
use Rattle.std.specs.Prelude.{ℕ, ◌+◌, ◌-◌, ◌*◌, ◌≡◌, List, [], ◌∷◌, ◌++◌, eqb}
use Rattle.base.specs.Choice.{pick}
use Rattle.input.specs.Line.{is_digit, top, line_of, Line, Numbers, Bad}
use Rattle.input.specs.declared.Reading.{Reading}
use Rattle.input.specs.declared.Reading.TheVariants.{Start, Scale, Space, Time, Whole, Wrong}

-- v with the digit b behind it
unfoldable pub grown : ℕ → ℕ → ℕ
unfolding top
grown v b = top (v * 10 + (b - 48))

-- one byte
abbrev pub stepped : Reading → ℕ → Reading
stepped Start b = pick (is_digit b) (Scale (grown 0 b)) Wrong
stepped (Scale v) b = pick (is_digit b) (Scale (grown v b)) (pick (eqb b 32) (Space v) Wrong)
stepped (Space v) b = pick (is_digit b) (Time v (grown 0 b)) Wrong
stepped (Time v w) b = pick (is_digit b) (Time v (grown w b)) (pick (eqb b 10) (Whole v w) Wrong)
stepped (Whole v w) b = Wrong
stepped Wrong b = Wrong

-- the bytes of a list
unfoldable pub fed : Reading → List ℕ → Reading
fed r [] = r
fed r (b ∷ s) = fed (stepped r b) s

-- the line, if there are no more bytes
abbrev pub line_at : Reading → Line
line_at Start = Bad
line_at (Scale v) = Bad
line_at (Space v) = Bad
line_at (Time v w) = Bad
line_at (Whole v w) = Numbers v w
line_at Wrong = Bad

-- chunk by chunk is the same; proved in proofs/Chunks.antt
abbrev pub FedAppend : Type 0
FedAppend = (r : Reading) (a b : List ℕ) → fed r (a ++ b) ≡ fed (fed r a) b

-- all the bytes give the line; proved in proofs/Fed.antt
abbrev pub FedLine : Type 0
FedLine = (s : List ℕ) → line_at (fed Start s) ≡ line_of s
