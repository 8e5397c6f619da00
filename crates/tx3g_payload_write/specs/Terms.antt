-- Terms of the contracts: how a text is walked, and what making a payload gives, to a buffer that its caller lends.
use Rattle.std.specs.Prelude.{ℕ, zero, suc, ◌+◌, ◌≤◌, ◌<◌, ◌≡◌, ◌⊎◌, Bool, true, false, not, List, [], ◌∷◌, ◌++◌, eqb, length, drop, get_or}
use Rattle.std.proofs.Math.Option.{Option}
use Rattle.base.specs.Choice.{both, within}
use Rattle.base.specs.Over.{over, wrote}
use Rattle.bodies.specs.Body.{Body, At, Refused as Stopped, Nowhere}
use Rattle.timeline.specs.Cues.{same_id as same_mark}
use Rattle.code_points.specs.CodePoints.{scalars, encode, encode16, joined}
use Rattle.tx3g_payload.specs.Points.{points8, points16}
use Rattle.tx3g_payload.specs.Left.{is_break, left_of}
use Rattle.tx3g_payload.specs.Payload.{escape, bold, italic, underline, opening, closing, flag, wrapped}
use Rattle.tx3g_style.specs.Style.{styles_of}
use Rattle.tx3g_runs.specs.Statements.{Stands}
use Rattle.tx3g_payload_write.specs.Left.{Left, Gone, Stays}
use Rattle.tx3g_payload_write.specs.declared.Stretch.{Stretch}
use Rattle.tx3g_payload_write.specs.declared.Walk.{Walk}
use Rattle.tx3g_payload_write.specs.declared.Made.{Made}
use Rattle.tx3g_payload_write.specs.Sample.{range_at, face_of}

-- the characters of a text without its mark, by whether it is UTF-16
abbrev pub points_by : Bool → List ℕ → List ℕ
points_by true s = points16 s
points_by false s = points8 s

abbrev pub encode_by : Bool → ℕ → List ℕ
encode_by true c = encode16 c
encode_by false c = encode c

-- s is the bytes of these characters
pub record Spelled (utf16 : Bool) (s : List ℕ) : Type 0 where
  pub right : scalars (points_by utf16 s) ≡ true
  pub bytes_are : joined (encode_by utf16) (points_by utf16 s) ≡ s

-- what is left of the first m characters, with the others behind them
unfoldable pub lefts_of : Bool → ℕ → List ℕ → List ℕ
unfolding left_of
lefts_of after zero cs = []
lefts_of after (suc m) [] = []
lefts_of after (suc m) (c ∷ cs) = left_of after c cs ++ lefts_of (is_break c) m cs

-- whether CR, LF or nothing stands behind them
unfoldable pub after_of : Bool → ℕ → List ℕ → Bool
after_of after zero cs = after
after_of after (suc m) [] = after
after_of after (suc m) (c ∷ cs) = after_of (is_break c) m cs

-- the character at a place of a text, and the place behind it
pub record CharacterAt (utf16 : Bool) (s : List ℕ) (at code next : ℕ) : Type 0 where
  pub is : points_by utf16 (drop at s) ≡ code ∷ points_by utf16 (drop next s)
  pub rest : Spelled utf16 (drop next s)
  pub goes : at < next
  pub ends : next ≤ length s
  pub most : code ≤ 0x10FFFF

-- what is left of a character
abbrev pub left_items : Left → List ℕ
left_items Gone = []
left_items (Stays c) = c ∷ []

abbrev pub CodeMost : Left → Type 0
CodeMost Gone = Unit {0}
CodeMost (Stays c) = c ≤ 0x10FFFF

-- s, if the test says so
abbrev pub given : Bool → List ℕ → List ℕ
given true s = s
given false s = []

-- the tags of a face
unfoldable pub opens : ℕ → List ℕ
opens face = given (flag 1 face) (opening bold) ++ (given (flag 2 face) (opening italic) ++ given (flag 4 face) (opening underline))

unfoldable pub closes : ℕ → List ℕ
closes face = given (flag 4 face) (closing underline) ++ (given (flag 2 face) (closing italic) ++ given (flag 1 face) (closing bold))

-- what is written of a character, by whether the tags of its stretch are there
abbrev pub added_by : Bool → ℕ → Left → List ℕ
added_by shown face Gone = []
added_by shown face (Stays c) = given (not shown) (opens face) ++ escape c

abbrev pub shown_by : Bool → Left → Bool
shown_by shown Gone = shown
shown_by shown (Stays c) = true

-- a byte that stands in a payload as it is, a character by itself
unfoldable pub plain : ℕ → Bool
plain b = both (both (both (within 0x20 0x7F b) (not (eqb b 0x26))) (not (eqb b 0x3C))) (not (eqb b 0x3E))

-- the next n characters of `left` are such bytes
pub record PlainAhead (s : List ℕ) (utf16 : Bool) (at left n : ℕ) : Type 0 where
  pub few : n ≤ left
  pub inside : at + n ≤ length s
  pub bytes_so : 0 < n → (utf16 ≡ false) × ((n ≡ 8) ⊎ (n ≡ 1))
  pub plain_so : (k : ℕ) → k < n → plain (get_or s (at + k) 0) ≡ true

-- what is written of characters that are left, by whether the tags of their stretch are there
abbrev pub added_all : Bool → ℕ → List ℕ → List ℕ
added_all shown face [] = []
added_all shown face (c ∷ cs) = given (not shown) (opens face) ++ joined escape (c ∷ cs)

abbrev pub shown_all : Bool → List ℕ → Bool
shown_all shown [] = shown
shown_all shown (c ∷ cs) = true

-- a step over some of the characters to come
pub record Stepped (s : List ℕ) (utf16 : Bool) (face : ℕ) (w : Walk) (old new : List ℕ) (r : Walk) : Type 0 where
  pub number : ℕ
  pub some : 0 < number
  pub left_is : w.left ≡ number + r.left
  pub here : r.at ≤ length s
  pub spells : Spelled utf16 (drop r.at s)
  pub ahead : points_by utf16 (drop r.at s) ≡ drop number (points_by utf16 (drop w.at s))
  pub many : number ≤ length (points_by utf16 (drop w.at s))
  pub after_is : r.after ≡ after_of w.after number (points_by utf16 (drop w.at s))
  pub shown_is : r.shown ≡ shown_all w.shown (lefts_of w.after number (points_by utf16 (drop w.at s)))
  pub bytes_are : r.bytes ≡ w.bytes + length (added_all w.shown face (lefts_of w.after number (points_by utf16 (drop w.at s))))
  pub most : r.bytes ≤ w.bytes + 17
  pub stands : new ≡ wrote old w.bytes (added_all w.shown face (lefts_of w.after number (points_by utf16 (drop w.at s))))

-- where a walk over the styles stands at character k
abbrev pub WalkAt : List ℕ → ℕ → ℕ → ℕ → Body → Type 0
WalkAt s left q k (At b) = Stands s b left q k
WalkAt s left q k (Stopped r) = Unit {0}
WalkAt s left q k Nowhere = left ≡ 0

-- a stretch from k on: its characters are in one range, or in none, and the next one is not; behind it the walk goes on
pub record StretchIs (e s : List ℕ) (n k : ℕ) (r : Stretch) : Type 0 where
  pub mark : Option ℕ
  pub goes : k < r.end
  pub ends : r.end ≤ n
  pub face_is : r.face ≡ face_of e s mark
  pub same : (j : ℕ) → k ≤ j → j < r.end → range_at s j ≡ mark
  pub other : (r.end ≡ n) ⊎ (same_mark mark (range_at s r.end) ≡ false)
  pub walk : (r.end ≡ n) ⊎ WalkAt s r.left r.next r.end (styles_of s)

-- what is written of the `count` characters of a stretch that begins at a place of the text
unfoldable pub stretch_bytes : List ℕ → Bool → ℕ → ℕ → ℕ → Bool → List ℕ
stretch_bytes s utf16 count face at after = wrapped face (lefts_of after count (points_by utf16 (drop at s)))

-- what making it gives, behind the bytes that are there; or a number of bytes above 4,095, as is theirs
pub record StretchMade (s : List ℕ) (utf16 : Bool) (count face at : ℕ) (after : Bool) (bytes : ℕ) (old new : List ℕ) (r : Made) : Type 0 where
  pub kept : length new ≡ length old
  pub most : r.bytes ≤ 4128
  pub fits : r.bytes ≤ 4095
      → (r.bytes ≡ bytes + length (stretch_bytes s utf16 count face at after)) × (new ≡ wrote old bytes (stretch_bytes s utf16 count face at after))
  pub past : 4095 < r.bytes → 4095 < bytes + length (stretch_bytes s utf16 count face at after)
  pub here : r.bytes ≤ 4095 → r.at ≤ length s
  pub rest : r.bytes ≤ 4095 → Spelled utf16 (drop r.at s)
  pub ahead : r.bytes ≤ 4095 → points_by utf16 (drop r.at s) ≡ drop count (points_by utf16 (drop at s))
  pub after_is : r.bytes ≤ 4095 → r.after ≡ after_of after count (points_by utf16 (drop at s))

-- what making a payload gives: its length, and the payload over the front of the buffer; or a number above 4,095, as is its length
pub record MadeIs (payload old new : List ℕ) (r : ℕ) : Type 0 where
  pub kept : length new ≡ length old
  pub most : r ≤ 4128
  pub fits : r ≤ 4095 → (r ≡ length payload) × (new ≡ over payload old)
  pub past : 4095 < r → 4095 < length payload
