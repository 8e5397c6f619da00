-- The modifiers handed out one by one, and the modifier boxes of a sample. Proved in proofs/Exactly.antt.
use Rattle.std.specs.Prelude.{ℕ, ◌+◌, ◌≡◌, ◌≢◌, List, [], ◌∷◌, length}
use Rattle.fields.specs.BigEndian.{be}
use Rattle.boxes.specs.Boxes.{boxes_in, place_of}
use Rattle.tx3g_contents.specs.Kinds.{blnk}
use Rattle.tx3g_sample.specs.Reading.{Good}
use Rattle.tx3g_sample.specs.Sample.{text_end, read_sample}
use Rattle.tx3g_modifiers.specs.declared.Modifier.{Modifier}
use Rattle.tx3g_modifiers.specs.Held.{Held, One, Refused, End}
use Rattle.tx3g_modifiers.specs.Modifiers.{modifier_of, next_modifier, modifiers_in, handed_in}

-- what an answer of `next_modifier` at a place means: the first modifier from there on, and then those from the place after it on; or none
abbrev pub Means : List ℕ → ℕ → Held → Type 0
Means s from (One m n) = modifiers_in s (boxes_in s from (length s)) ≡ m ∷ modifiers_in s (boxes_in s n (length s))
Means s from (Refused r) = modifiers_in s (boxes_in s from (length s)) ≡ []
Means s from End = modifiers_in s (boxes_in s from (length s)) ≡ []

abbrev pub NextMeans : Type 0
NextMeans = (s : List ℕ) (from : ℕ) (h : Held) → h ≡ next_modifier s (boxes_in s from (length s)) → Means s from h

-- the modifiers of a sample without fault, from where its text ends, are exactly its modifier boxes but `blnk`, from left to right
abbrev pub Exactly : Type 0
Exactly = (e s : List ℕ) (n : ℕ) → read_sample e s ≡ Good n → modifiers_in s (boxes_in s (text_end s) (length s)) ≡ handed_in s (boxes_in s (text_end s) (length s))

-- the box at p is no `blnk`, says m, and ends at n
pub record SaidAt (s : List ℕ) (m : Modifier) (n p : ℕ) : Type 0 where
  pub other : be 4 s (p + 4) ≢ blnk
  pub says : m ≡ modifier_of s (be 4 s (p + 4)) (p + 8)
  pub ends : n ≡ p + be 4 s p

-- whatever the bytes and the place, what is handed out is said by one of the boxes from there on, and by no `blnk`
abbrev pub NeverBlinks : Type 0
NeverBlinks = (s : List ℕ) (from : ℕ) (m : Modifier) (n : ℕ) → One m n ≡ next_modifier s (boxes_in s from (length s)) → (i : ℕ) × SaidAt s m n (place_of s from i)
