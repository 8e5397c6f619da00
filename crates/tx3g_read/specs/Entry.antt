-- What a `tx3g` sample entry says. Document 01, '3GPP text'; crate tx3g_entry has its bytes.
use Rattle.std.specs.Prelude.{ℕ, ◌+◌, List, ltb, length, Option, Some, None, Result, Ok, Err}
use Rattle.base.specs.Choice.{pick}
use Rattle.verdict.specs.declared.Refusal.{Refusal}
use Rattle.verdict.specs.Verdict.{Verdict, Fine, Refused as Faulty}
use Rattle.verdict.specs.Judgement.{fault}
use Rattle.fields.specs.BigEndian.{be}
use Rattle.signed.specs.Signed.{signed8, signed16}
use Rattle.bodies.specs.Body.{Body, At, Refused as Stopped, Nowhere}
use Rattle.tx3g_fonts.specs.Fonts.{after_font}
use Rattle.tx3g_entry.specs.Entry.{fonts_of, judge_entry}
use Rattle.tx3g_style.specs.Style.{style_in}
use Rattle.tx3g_read.specs.declared.Colour.{Colour}
use Rattle.tx3g_read.specs.declared.Fields.{Fields}
use Rattle.tx3g_read.specs.declared.Font.{Font}

-- an entry's fields; or the first fault
abbrev pub Entry : Type 0
Entry = Result Fields Refusal

pattern abbrev pub Whole : Fields → Entry
Whole x = Ok x

pattern abbrev pub Refused : Refusal → Entry
Refused r = Err r

-- red, green, blue, alpha
unfoldable pub colour_at : List ℕ → ℕ → Colour
colour_at s q = record { red = be 1 s q; green = be 1 s (q + 1); blue = be 1 s (q + 2); alpha = be 1 s (q + 3) }

-- the fields of an entry whose `ftab` has its body at b
unfoldable pub fields_of : List ℕ → ℕ → Fields
unfolding colour_at
fields_of e b =
    record {
      index = be 2 e 14;
      flags = be 4 e 16;
      horizontal = signed8 (be 1 e 20);
      vertical = signed8 (be 1 e 21);
      background = colour_at e 22;
      top = signed16 (be 2 e 26);
      left = signed16 (be 2 e 28);
      bottom = signed16 (be 2 e 30);
      right = signed16 (be 2 e 32);
      style = style_in e 34;
      fonts = be 2 e b;
      from = b + 2;
    }

-- by the verdict, and where the body of the `ftab` begins, which an entry without fault has
abbrev pub entry_by : List ℕ → Verdict → Body → Entry
entry_by e (Faulty r) b = Refused r
entry_by e Fine (At b) = Whole (fields_of e b)
entry_by e Fine (Stopped r) = Refused r
entry_by e Fine Nowhere = Refused (fault 4 0)

-- the fault of an entry, or its fields
unfoldable pub read_entry : List ℕ → Entry
read_entry e = entry_by e (judge_entry e) (fonts_of e)

-- a font: its ID, and where its name stands; or none
abbrev pub Named : ℕ → ℕ → ℕ → Option Font
Named i f n = Some (record { id = i; from = f; end = n })

pattern abbrev pub Missing : Option Font
Missing = None

-- the font at q: ID (2), name length (1), name; missing where it ends past the bytes
unfoldable pub font_in : List ℕ → ℕ → Option Font
font_in e q = pick (ltb (length e) (after_font e q)) Missing (Named (be 2 e q) (q + 3) (after_font e q))
