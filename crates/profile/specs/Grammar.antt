-- The tag profile: a grammar of payloads. Document 02, K11.
use Rattle.std.specs.Prelude.{ℕ, suc, ◌<◌, ◌≡◌, Bool, true, false, not, List, [], ◌∷◌, ◌++◌, eqb, ltb}
use Rattle.base.specs.Choice.{both, any_of}
use Rattle.timeline.specs.Packing.{Rising}
use Rattle.timestamps.specs.Timestamps.{time_text}
use Rattle.profile.specs.declared.Tag.{Tag}
use Rattle.profile.specs.declared.Tag.TheVariants.{Bold, Italic, Underline, Classed, Voice, Lang, Ruby, Rt}

-- ---- bytes

unfoldable pub one_of : List ℕ → ℕ → Bool
one_of [] b = false
one_of (x ∷ xs) b = any_of (eqb b x) (one_of xs b)

-- a byte, and none of these
unfoldable pub besides : List ℕ → ℕ → Bool
besides xs b = both (ltb b 256) (not (one_of xs b))

-- plain text: all but & and <
abbrev pub plain_byte : ℕ → Bool
plain_byte = besides (0x26 ∷ 0x3C ∷ [])

-- a class: all but tab, LF, CR, space, & . < and >
abbrev pub class_byte : ℕ → Bool
class_byte = besides (0x09 ∷ 0x0A ∷ 0x0D ∷ 0x20 ∷ 0x26 ∷ 0x2E ∷ 0x3C ∷ 0x3E ∷ [])

-- a space or a tab
abbrev pub blank : ℕ → Bool
blank = one_of (0x20 ∷ 0x09 ∷ [])

-- an annotation, blanks aside: all but LF, CR, & and >
abbrev pub note_byte : ℕ → Bool
note_byte = besides (0x20 ∷ 0x09 ∷ 0x0A ∷ 0x0D ∷ 0x26 ∷ 0x3E ∷ [])

-- ---- tags

-- b, i, u, c, v, lang, ruby, rt
unfoldable pub name : Tag → List ℕ
name Bold = 0x62 ∷ []
name Italic = 0x69 ∷ []
name Underline = 0x75 ∷ []
name Classed = 0x63 ∷ []
name Voice = 0x76 ∷ []
name Lang = 0x6C ∷ 0x61 ∷ 0x6E ∷ 0x67 ∷ []
name Ruby = 0x72 ∷ 0x75 ∷ 0x62 ∷ 0x79 ∷ []
name Rt = 0x72 ∷ 0x74 ∷ []

-- v and lang have an annotation
abbrev pub noted : Tag → Bool
noted Bold = false
noted Italic = false
noted Underline = false
noted Classed = false
noted Voice = true
noted Lang = true
noted Ruby = false
noted Rt = false

abbrev pub is_ruby : Tag → Bool
is_ruby Bold = false
is_ruby Italic = false
is_ruby Underline = false
is_ruby Classed = false
is_ruby Voice = false
is_ruby Lang = false
is_ruby Ruby = true
is_ruby Rt = false

-- rt may stand directly inside ruby (r), the others anywhere
abbrev pub allowed : Tag → Bool → Bool
allowed Bold r = true
allowed Italic r = true
allowed Underline r = true
allowed Classed r = true
allowed Voice r = true
allowed Lang r = true
allowed Ruby r = true
allowed Rt r = r

-- ---- what stands in a payload

-- an escape behind its &: amp; lt; gt; nbsp; lrm; rlm;
pub data Escape : List ℕ → Type 0 where
  amp : Escape (0x61 ∷ 0x6D ∷ 0x70 ∷ 0x3B ∷ [])
  lt : Escape (0x6C ∷ 0x74 ∷ 0x3B ∷ [])
  gt : Escape (0x67 ∷ 0x74 ∷ 0x3B ∷ [])
  nbsp : Escape (0x6E ∷ 0x62 ∷ 0x73 ∷ 0x70 ∷ 0x3B ∷ [])
  lrm : Escape (0x6C ∷ 0x72 ∷ 0x6D ∷ 0x3B ∷ [])
  rlm : Escape (0x72 ∷ 0x6C ∷ 0x6D ∷ 0x3B ∷ [])

-- bytes of a class, none or more
pub data Chars : List ℕ → Type 0 where
  no_char : Chars []
  a_char : {b : ℕ} {bs : List ℕ} → class_byte b ≡ true → Chars bs → Chars (b ∷ bs)

-- classes, none or more: each a . and one byte or more
pub data Classes : List ℕ → Type 0 where
  no_class : Classes []
  a_class : {b : ℕ} {bs cs : List ℕ} → class_byte b ≡ true → Chars bs → Classes cs → Classes (0x2E ∷ b ∷ (bs ++ cs))

-- an annotation behind its first blank; said: before this part something other than blanks stood in it
pub data Note : Bool → List ℕ → Type 0 where
  note_end : Note true []
  note_blank : {said : Bool} {b : ℕ} {a : List ℕ} → blank b ≡ true → Note said a → Note said (b ∷ a)
  note_more : {said : Bool} {b : ℕ} {a : List ℕ} → note_byte b ≡ true → Note true a → Note said (b ∷ a)
  note_escape : {said : Bool} {e a : List ℕ} → Escape e → Note true a → Note said (0x26 ∷ (e ++ a))

-- none, or a blank and more that is not all blank
pub data Annotation : Bool → List ℕ → Type 0 where
  without : Annotation false []
  with : {b : ℕ} {a : List ℕ} → blank b ≡ true → Note false a → Annotation true (b ∷ a)

-- content inside n tags; r: directly inside ruby; ts: its timestamps in ms, in the order of bytes. Each tag is closed by its own end tag, at most 16 stand in one another
pub data Content : ℕ → Bool → List ℕ → List ℕ → Type 0 where
  empty : {n : ℕ} {r : Bool} → Content n r [] []
  plain : {n : ℕ} {r : Bool} {ts : List ℕ} {b : ℕ} {w : List ℕ}
      → plain_byte b ≡ true → Content n r ts w → Content n r ts (b ∷ w)
  escaped : {n : ℕ} {r : Bool} {ts : List ℕ} {e w : List ℕ}
      → Escape e → Content n r ts w → Content n r ts (0x26 ∷ (e ++ w))
  stamp : {n : ℕ} {r : Bool} {ts : List ℕ} (t : ℕ) {w : List ℕ}
      → t < 360000000 → Content n r ts w → Content n r (t ∷ ts) (0x3C ∷ (time_text t ++ (0x3E ∷ w)))
  span : {n : ℕ} {r : Bool} {us ts : List ℕ} (x : Tag) {cs a inner w : List ℕ}
      → n < 16 → allowed x r ≡ true → Classes cs → Annotation (noted x) a
      → Content (suc n) (is_ruby x) us inner
      → Content n r ts w
      → Content n r (us ++ ts) (0x3C ∷ (name x ++ (cs ++ (a ++ (0x3E ∷ (inner ++ (0x3C ∷ 0x2F ∷ (name x ++ (0x3E ∷ w)))))))))

-- a payload of the profile: its timestamps rise
unfoldable pub Profile : List ℕ → Type 0
Profile s = (ts : List ℕ) × Content 0 false ts s × Rising ts
