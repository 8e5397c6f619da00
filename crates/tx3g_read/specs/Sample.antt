-- What a `tx3g` sample holds. Document 01, '3GPP text': text is UTF-8, or begins FE FF and is UTF-16.
use Rattle.std.specs.Prelude.{ℕ, ◌+◌, List, Bool, false, eqb, length, Result, Ok, Err}
use Rattle.base.specs.Choice.{pick, any_of}
use Rattle.fields.specs.BigEndian.{be}
use Rattle.utf8.specs.Strings.{starts_with}
use Rattle.characters.specs.Characters.{mark}
use Rattle.boxes.specs.Boxes.{Boxes, clean, broken, box, boxes_in, part}
use Rattle.bodies.specs.Body.{Body, At, Refused as Stopped, Nowhere}
use Rattle.tx3g_contents.specs.Kinds.{blnk}
use Rattle.tx3g_sample.specs.Reading.{Reading, Good, BadEntry as EntryRefused, BadSample as SampleRefused}
use Rattle.tx3g_sample.specs.Sample.{text_end, read_sample}
use Rattle.tx3g_style.specs.Style.{styles_of}
use Rattle.tx3g_read.specs.declared.Text.{Text}
use Rattle.tx3g_read.specs.declared.Styles.{Styles}
use Rattle.tx3g_read.specs.declared.Content.{Content}
use Rattle.verdict.specs.declared.Refusal.{Refusal}
use Rattle.tx3g_sample.specs.declared.Fault.{Fault}
use Rattle.tx3g_sample.specs.declared.Fault.TheVariants.{Entry as OfEntry, Sample as OfSample}

-- what a sample holds; or the first fault and whose it is
abbrev pub Held : Type 0
Held = Result Content Fault

abbrev pub Whole : ℕ → Text → Styles → Bool → Held
Whole n t y b = Ok (record { characters = n; text = t; styles = y; retired_blinking = b })

pattern abbrev pub BadEntry : Refusal → Held
BadEntry r = Err (OfEntry r)

pattern abbrev pub BadSample : Refusal → Held
BadSample r = Err (OfSample r)

-- the text begins with the mark of UTF-16
unfoldable pub marked : List ℕ → Bool
marked s = starts_with mark (part s 2 (text_end s))

-- the text, without its mark
unfoldable pub text_of : List ℕ → Text
unfolding marked
text_of s = record { utf16 = marked s; from = pick (marked s) 4 2; end = text_end s }

-- how many styles, and where the first stands, by where the body of the `styl` begins; 0 and 0 where there is none
abbrev pub styles_in : List ℕ → Body → Styles
styles_in s (At b) = record { count = be 2 s b; from = b + 2 }
styles_in s (Stopped r) = record { count = 0; from = 0 }
styles_in s Nowhere = record { count = 0; from = 0 }

-- a box of kind k is among these; what their bodies hold is not looked at
unfoldable pub has_box : ℕ → Boxes → Bool
has_box k clean = false
has_box k (broken r) = false
has_box k (box p j b n rest) = any_of (eqb j k) (has_box k rest)

-- document 02, K13, 'retired blinking present': the sample has a `blnk`
unfoldable pub retired_blinking : List ℕ → Bool
unfolding has_box
retired_blinking s = has_box blnk (boxes_in s (text_end s) (length s))

abbrev pub content_by : List ℕ → Reading → Held
content_by s (EntryRefused r) = BadEntry r
content_by s (SampleRefused r) = BadSample r
content_by s (Good n) = Whole n (text_of s) (styles_in s (styles_of s)) (retired_blinking s)

-- what a sample holds; the entry is judged first
unfoldable pub content_of : List ℕ → List ℕ → Held
unfolding text_of retired_blinking
content_of e s = content_by s (read_sample e s)
