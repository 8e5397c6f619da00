-- Characters by their numbers, and their bytes: UTF-8 by RFC 3629, section 3, and UTF-16. The statements at the end are proved in proofs/CodePoints.antt
-- and proofs/CodePoints16.antt.
use Rattle.std.specs.Prelude.{ℕ, ◌+◌, ◌-◌, ◌/◌, ◌%◌, ◌≡◌, ◌⊎◌, List, [], ◌∷◌, ◌++◌, Bool, true, false, not, leb, length}
use Rattle.base.specs.Choice.{pick, both, within}
use Rattle.utf8.specs.Utf8.{utf8}
use Rattle.viable.specs.FirstBad.{bytes}
use Rattle.characters.specs.Characters.{utf16, mark, characters_of}
use Rattle.characters.specs.Counted.{Characters}

-- a character's number: at most 10FFFF, and no surrogate
unfoldable pub scalar : ℕ → Bool
scalar c = both (leb c 0x10FFFF) (not (within 0xD800 0xDFFF c))

unfoldable pub scalars : List ℕ → Bool
scalars [] = true
scalars (c ∷ cs) = both (scalar c) (scalars cs)

-- the bytes of a character, one to four by its number, six bits in each byte after the first
unfoldable pub encode : ℕ → List ℕ
encode c =
    pick (leb c 0x7F) (c ∷ [])
    (pick (leb c 0x7FF) ((0xC0 + c / 64) ∷ (0x80 + c % 64) ∷ [])
    (pick (leb c 0xFFFF) ((0xE0 + c / 4096) ∷ (0x80 + c / 64 % 64) ∷ (0x80 + c % 64) ∷ [])
    ((0xF0 + c / 262144) ∷ (0x80 + c / 4096 % 64) ∷ (0x80 + c / 64 % 64) ∷ (0x80 + c % 64) ∷ [])))

-- the bytes of several characters, one after the other
unfoldable pub joined : (ℕ → List ℕ) → List ℕ → List ℕ
joined e [] = []
joined e (c ∷ cs) = e c ++ joined e cs

unfoldable pub encodings : List ℕ → List ℕ
encodings cs = joined encode cs

-- UTF-16, big-endian (RFC 2781, section 2.1): a unit of two bytes, above FFFF a high and a low surrogate with ten bits each
unfoldable pub unit : ℕ → List ℕ
unit u = (u / 256) ∷ (u % 256) ∷ []

unfoldable pub encode16 : ℕ → List ℕ
encode16 c = pick (leb c 0xFFFF) (unit c) (unit (0xD800 + (c - 0x10000) / 1024) ++ unit (0xDC00 + (c - 0x10000) % 1024))

-- s is the bytes of some characters
abbrev pub Encoded : (ℕ → List ℕ) → List ℕ → Type 0
Encoded e s = (cs : List ℕ) × (scalars cs ≡ true) × (s ≡ joined e cs)

-- valid UTF-8 is the bytes of some characters, and nothing else is
abbrev pub Utf8Is : Type 0
Utf8Is = (s : List ℕ) → (utf8 s ≡ true → Encoded encode s) × (Encoded encode s → utf8 s ≡ true)

-- and so for UTF-16
abbrev pub Utf16Is : Type 0
Utf16Is = (s : List ℕ) → bytes s ≡ true → (utf16 false s ≡ true → Encoded encode16 s) × (Encoded encode16 s → utf16 false s ≡ true)

-- the characters that are counted are those of the text
abbrev pub CountIs : Type 0
CountIs = (cs : List ℕ) → scalars cs ≡ true
    → (characters_of (joined encode cs) ≡ Characters (length cs)) × (characters_of (mark ++ joined encode16 cs) ≡ Characters (length cs))

-- and a text whose characters are counted is one of so many characters, in UTF-8 or, behind the mark, in UTF-16: what is neither is bad text
abbrev pub CountedIs : Type 0
CountedIs = (s : List ℕ) (n : ℕ) → bytes s ≡ true → characters_of s ≡ Characters n
    → (cs : List ℕ) × (scalars cs ≡ true) × (length cs ≡ n) × ((s ≡ joined encode cs) ⊎ (s ≡ mark ++ joined encode16 cs))
