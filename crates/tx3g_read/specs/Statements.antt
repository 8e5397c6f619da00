-- What is handed out is what the entry and the sample hold. Proved in proofs/Fonts.antt and proofs/Texts.antt.
use Rattle.std.specs.Prelude.{ℕ, suc, ◌+◌, ◌≤◌, ◌<◌, ◌≡◌, ◌↔◌, Bool, true, false, List, length, Ok}
use Rattle.verdict.specs.Verdict.{Fine}
use Rattle.fields.specs.BigEndian.{be}
use Rattle.utf8.specs.Utf8.{utf8}
use Rattle.characters.specs.Characters.{firsts, utf16, first_units}
use Rattle.boxes.specs.Boxes.{place_of, part}
use Rattle.tx3g_fonts.specs.Fonts.{font_at, font_id}
use Rattle.bodies.specs.Body.{At}
use Rattle.tx3g_entry.specs.Entry.{fonts_of, judge_entry}
use Rattle.tx3g_contents.specs.Kinds.{blnk}
use Rattle.tx3g_sample.specs.Reading.{Good}
use Rattle.tx3g_sample.specs.Sample.{text_end, read_sample}
use Rattle.tx3g_read.specs.Entry.{Whole, Named, fields_of, read_entry, font_in}
use Rattle.tx3g_read.specs.Sample.{Held, BadEntry, BadSample, text_of, content_of}

-- an entry without fault has fields; and from the first font on, each font is there, and the next stands where its name ends
pub record Reads (e : List ℕ) : Type 0 where
  -- where the body of its `ftab` begins
  pub body : ℕ
  pub stands : fonts_of e ≡ At body
  pub whole : read_entry e ≡ Whole (fields_of e body)
  pub first : (fields_of e body).from ≡ font_at e body 0
  pub fonts : (k : ℕ) → k < (fields_of e body).fonts → font_in e (font_at e body k) ≡ Named (font_id e body k) (font_at e body k + 3) (font_at e body (suc k))

abbrev pub EntryReads : Type 0
EntryReads = (e : List ℕ) → judge_entry e ≡ Fine → Reads e

-- n characters, as UTF-16 without its mark, or as UTF-8
abbrev pub Encodes : Bool → List ℕ → ℕ → Type 0
Encodes true x n = (utf16 false x ≡ true) × (first_units x ≡ n)
Encodes false x n = (utf8 x ≡ true) × (firsts x ≡ n)

-- the text of a sample without fault lies within it, and is what its encoding says, of that many characters
abbrev pub TextIs : Type 0
TextIs =
    (e s : List ℕ) (n : ℕ) → read_sample e s ≡ Good n
    → ((text_of s).from ≤ (text_of s).end) × ((text_of s).end ≤ length s) × Encodes (text_of s).utf16 (part s (text_of s).from (text_of s).end) n

-- box i behind the text is a `blnk`
abbrev pub BlnkAt : List ℕ → ℕ → Type 0
BlnkAt s i = (place_of s (text_end s) i < length s) × (be 4 s (place_of s (text_end s) i + 4) ≡ blnk)

-- an answer carries 'retired blinking present'
abbrev pub Carries : Held → Type 0
Carries (Ok c) = c.retired_blinking ≡ true
Carries (BadEntry r) = ⊥
Carries (BadSample r) = ⊥

-- exactly if the sample has no fault, and one of its boxes is a `blnk`
abbrev pub BlinkingIs : Type 0
BlinkingIs = (e s : List ℕ) → Carries (content_of e s) ↔ (((n : ℕ) × (read_sample e s ≡ Good n)) × ((i : ℕ) × BlnkAt s i))
