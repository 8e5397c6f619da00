-- What is promised of payloads. Proved in proofs/.
use Rattle.std.specs.Prelude.{ℕ, zero, suc, ◌≡◌, List, [], ◌∷◌, ◌++◌, Bool, true, false, not, eqb, length}
use Rattle.std.proofs.Math.Option.{Option}
use Rattle.base.specs.Choice.{pick, any_of}
use Rattle.utf8.specs.Strings.{starts_with}
use Rattle.text.specs.Rules.{payload_text}
use Rattle.characters.specs.Characters.{mark, characters_of}
use Rattle.characters.specs.Counted.{Characters}
use Rattle.viable.specs.FirstBad.{bytes}
use Rattle.timeline.specs.Cues.{same_id as same_mark}
use Rattle.code_points.specs.CodePoints.{scalars, encode, encode16, joined, encodings}
use Rattle.tx3g_payload.specs.Points.{points_of}
use Rattle.tx3g_payload.specs.Left.{only_breaks, text_left}
use Rattle.tx3g_payload.specs.Payload.{Stretch, stretches, Letter, opening, closing, escape, payload_of}

-- the characters read from a text are those that it was made from, in either encoding
abbrev pub PointsAre : Type 0
PointsAre = (cs : List ℕ) → scalars cs ≡ true → (points_of (joined encode cs) ≡ cs) × (points_of (mark ++ joined encode16 cs) ≡ cs)

-- the characters of a text without fault are right ones, as many as counted
abbrev pub PointsGood : Type 0
PointsGood = (s : List ℕ) (n : ℕ) → bytes s ≡ true → characters_of s ≡ Characters n → (scalars (points_of s) ≡ true) × (length (points_of s) ≡ n)

-- p is the characters cs, escaped, with tags between them
pub data Woven : List ℕ → List ℕ → Type 0 where
  done : Woven [] []
  char : {cs p : List ℕ} (c : ℕ) → Woven cs p → Woven (c ∷ cs) (escape c ++ p)
  opened : {cs p : List ℕ} (x : Letter) → Woven cs p → Woven cs (opening x ++ p)
  closed : {cs p : List ℕ} (x : Letter) → Woven cs p → Woven cs (closing x ++ p)

-- the payload is what is left of the text, escaped, with tags between
abbrev pub OnlyTags : Type 0
OnlyTags = (ranges : ℕ → Option ℕ) (faces : Option ℕ → ℕ) (cs : List ℕ) → Woven (text_left cs) (payload_of ranges faces cs)

-- the bytes outside tags, from `<` to `>`
unfoldable pub untagged : Bool → List ℕ → List ℕ
untagged inside [] = []
untagged true (b ∷ s) = untagged (not (eqb b 0x3E)) s
untagged false (b ∷ s) = pick (eqb b 0x3C) (untagged true s) (b ∷ untagged false s)

-- `&amp;`, `&lt;`, `&gt;` undone; the first n bytes are passed over
unfoldable pub unescaped : ℕ → List ℕ → List ℕ
unfolding starts_with
unescaped n [] = []
unescaped (suc n) (b ∷ s) = unescaped n s
unescaped zero (b ∷ s) =
    pick (starts_with (0x26 ∷ 0x61 ∷ 0x6D ∷ 0x70 ∷ 0x3B ∷ []) (b ∷ s)) (0x26 ∷ unescaped 4 s)
    (pick (starts_with (0x26 ∷ 0x6C ∷ 0x74 ∷ 0x3B ∷ []) (b ∷ s)) (0x3C ∷ unescaped 3 s)
    (pick (starts_with (0x26 ∷ 0x67 ∷ 0x74 ∷ 0x3B ∷ []) (b ∷ s)) (0x3E ∷ unescaped 3 s)
    (b ∷ unescaped 0 s)))

-- neighbouring stretches are in different ranges
abbrev pub Apart : List Stretch → Type 0
Apart [] = Unit {0}
Apart (p ∷ []) = Unit {0}
Apart (p ∷ q ∷ qs) = (same_mark p.mark q.mark ≡ false) × Apart (q ∷ qs)

-- so the stretches are the longest
abbrev pub StretchesApart : Type 0
StretchesApart = (ps : List Stretch) → Apart (stretches ps)

-- taking the tags away and undoing the escapes gives the text that is left
abbrev pub TextComesBack : Type 0
TextComesBack = (ranges : ℕ → Option ℕ) (faces : Option ℕ → ℕ) (cs : List ℕ)
    → unescaped 0 (untagged false (payload_of ranges faces cs)) ≡ encodings (text_left cs)

-- a payload is empty where no text is left, and nowhere else
abbrev pub EmptyIs : Type 0
EmptyIs = (ranges : ℕ → Option ℕ) (faces : Option ℕ → ℕ) (cs : List ℕ)
    → (only_breaks cs ≡ true → payload_of ranges faces cs ≡ []) × (payload_of ranges faces cs ≡ [] → only_breaks cs ≡ true)

-- a zero is among the numbers
unfoldable pub has_zero : List ℕ → Bool
has_zero [] = false
has_zero (c ∷ cs) = any_of (eqb c 0) (has_zero cs)

-- the payload rule refuses a payload for a zero byte of its text and for nothing else
abbrev pub OnlyZero : Type 0
OnlyZero = (ranges : ℕ → Option ℕ) (faces : Option ℕ → ℕ) (cs : List ℕ) → scalars cs ≡ true
    → payload_text (payload_of ranges faces cs) ≡ not (has_zero cs)
