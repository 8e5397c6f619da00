-- Big-endian numbers of any width, in a list of bytes.
use Rattle.std.specs.Prelude.{ℕ, zero, suc, ◌+◌, ◌*◌, ◌/◌, ◌%◌, ◌^◌, ◌<◌, ◌≡◌, List, [], ◌∷◌, ◌++◌, get_or}

-- the number of the w bytes from `at`, the highest first
unfoldable pub be : ℕ → List ℕ → ℕ → ℕ
be zero s at = 0
be (suc w) s at = be w s at * 256 + get_or s (at + w) 0

-- the lowest w bytes of v, the highest first
unfoldable pub bytes : ℕ → ℕ → List ℕ
bytes zero v = []
bytes (suc w) v = bytes w (v / 256) ++ v % 256 ∷ []

-- the bytes of a number give it back; proved in proofs/BigEndian.antt
abbrev pub BeBytes : Type 0
BeBytes = (w v : ℕ) → v < 256 ^ w → be w (bytes w v) 0 ≡ v
