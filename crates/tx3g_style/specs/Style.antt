-- The style of a character. Document 01, '3GPP text': the `styl` record with start ≤ k < end, else the default; the entry is judged first, then the sample, then k (7, place 0).
use Rattle.std.specs.Prelude.{ℕ, ◌+◌, List, Bool, ltb, leb, length}
use Rattle.std.proofs.Math.Option.{Option, none, some}
use Rattle.base.specs.Choice.{pick, both}
use Rattle.base.specs.First.{first}
use Rattle.verdict.specs.Verdict.{Verdict, Fine, Refused}
use Rattle.verdict.specs.Judgement.{fault}
use Rattle.fields.specs.BigEndian.{be}
use Rattle.boxes.specs.Boxes.{boxes_in}
use Rattle.bodies.specs.Body.{Body, At, Refused as Stopped, Nowhere}
use Rattle.bodies.specs.Bodies.{body_of}
use Rattle.tx3g_contents.specs.Kinds.{styl}
use Rattle.tx3g_rules.specs.Rules.{style_at}
use Rattle.tx3g_sample.specs.Reading.{Reading, Good, BadEntry as EntryRefused, BadSample as SampleRefused}
use Rattle.tx3g_sample.specs.Sample.{text_end, read_sample}
use Rattle.tx3g_style.specs.declared.Style.{Style}
use Rattle.tx3g_style.specs.Styled.{Styled, Found, BadEntry, BadSample}

-- the style whose 12 bytes stand at q: start, end, font ID (2 each), face flags, size (1 each), RGBA (4)
unfoldable pub style_in : List ℕ → ℕ → Style
style_in s q =
    record {
      start = be 2 s q;
      end = be 2 s (q + 2);
      font = be 2 s (q + 4);
      face = be 1 s (q + 6);
      size = be 1 s (q + 7);
      red = be 1 s (q + 8);
      green = be 1 s (q + 9);
      blue = be 1 s (q + 10);
      alpha = be 1 s (q + 11);
    }

-- the style at q holds character k: start ≤ k < end
unfoldable pub holds_at : List ℕ → ℕ → ℕ → Bool
holds_at s k q = both (leb (be 2 s q) k) (ltb k (be 2 s (q + 2)))

-- style i of the `styl` whose body begins at b does
unfoldable pub holds : List ℕ → ℕ → ℕ → ℕ → Bool
unfolding holds_at
holds s b k i = holds_at s k (style_at b i)

-- the default style of an entry
unfoldable pub default_style : List ℕ → Style
unfolding style_in
default_style e = style_in e 34

abbrev pub style_or : List ℕ → List ℕ → ℕ → Option ℕ → Style
style_or e s b none = default_style e
style_or e s b (some i) = style_in s (style_at b i)

-- the style of the `styl` whose body begins at b that holds character k, else the default
abbrev pub style_among : List ℕ → List ℕ → ℕ → ℕ → Style
style_among e s k b = style_or e s b (first (holds s b k) (be 2 s b))

-- the style in force at character k, by where the body of the `styl` begins; a refused header is passed up, which a sample without fault has not
abbrev pub in_force : List ℕ → List ℕ → ℕ → Body → Styled
in_force e s k Nowhere = Found (default_style e)
in_force e s k (Stopped r) = BadSample r
in_force e s k (At b) = Found (style_among e s k b)

unfoldable pub styles_of : List ℕ → Body
styles_of s = body_of styl (boxes_in s (text_end s) (length s))

abbrev pub styled_by : List ℕ → List ℕ → ℕ → Reading → Styled
styled_by e s k (EntryRefused r) = BadEntry r
styled_by e s k (SampleRefused r) = BadSample r
styled_by e s k (Good n) = pick (ltb k n) (in_force e s k (styles_of s)) (BadSample (fault 7 0))

-- the style of character k
unfoldable pub style_of : List ℕ → List ℕ → ℕ → Styled
style_of e s k = styled_by e s k (read_sample e s)

-- number and place of an answer, whoever is at fault
abbrev pub fault_of : Styled → Verdict
fault_of (Found t) = Fine
fault_of (BadEntry r) = Refused r
fault_of (BadSample r) = Refused r
