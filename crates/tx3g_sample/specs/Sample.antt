-- The reading of a `tx3g` sample. Document 01, '3GPP text' and 'Order': a byte count (2), the text, then modifier boxes; the entry is judged first.
use Rattle.std.specs.Prelude.{ℕ, ◌+◌, List, [], Bool, false, ltb, length}
use Rattle.base.specs.Choice.{pick, both}
use Rattle.verdict.specs.Verdict.{Verdict, Fine, Refused}
use Rattle.verdict.specs.Judgement.{bad_text, ◌gives◌at◌, ◌then◌}
use Rattle.fields.specs.BigEndian.{be}
use Rattle.characters.specs.Counted.{Counted, Characters, Bad}
use Rattle.characters.specs.Characters.{characters_of}
use Rattle.boxes.specs.Boxes.{boxes_in, judged, among, part}
use Rattle.bodies.specs.Body.{Body, At, Refused as Stopped, Nowhere}
use Rattle.tx3g_fonts.specs.Fonts.{has_font}
use Rattle.tx3g_entry.specs.Entry.{nothing_more, fonts_of, judge_entry}
use Rattle.tx3g_contents.specs.Kinds.{single, known}
use Rattle.tx3g_rules.specs.Rules.{judge_body}
use Rattle.tx3g_sample.specs.Reading.{Reading, Good, BadEntry, BadSample}

-- where the text ends, and the boxes begin; past the bytes also where the byte count is missing
unfoldable pub text_end : List ℕ → ℕ
text_end s = 2 + be 2 s 0

-- the characters of the text
unfoldable pub counted : List ℕ → Counted
unfolding text_end
counted s = characters_of (part s 2 (text_end s))

-- bad text at place p
abbrev pub counted_at : ℕ → Counted → Verdict
counted_at p (Characters n) = Fine
counted_at p (Bad q) = Refused (bad_text p q)

abbrev pub count_of : Counted → ℕ
count_of (Characters n) = n
count_of (Bad q) = 0

unfoldable pub characters_in : List ℕ → ℕ
unfolding counted
characters_in s = count_of (counted s)

-- the text: bytes missing (1), a bad text (6)
unfoldable pub judge_text : List ℕ → Verdict
unfolding text_end counted
judge_text s = ltb (length s) (text_end s) gives 1 at 0 then counted_at 0 (counted s)

-- a box of a sample, with the kinds before it; other boxes are passed over
unfoldable pub in_sample : (ℕ → Bool) → ℕ → List ℕ → List ℕ → ℕ → ℕ → ℕ → ℕ → Verdict
in_sample fonts c s before p k b n = both (single k) (among k before) gives 3 at p then pick (known k) (judge_body fonts c s p k b n) Fine

-- the boxes from a place on
unfoldable pub modifiers_of : (ℕ → Bool) → ℕ → List ℕ → ℕ → Verdict
unfolding in_sample
modifiers_of fonts c s from = judged (in_sample fonts c s) nothing_more [] (boxes_in s from (length s))

-- which fonts an entry has; one without fault has its `ftab`
abbrev pub fonts_in : List ℕ → Body → ℕ → Bool
fonts_in e Nowhere id = false
fonts_in e (Stopped r) id = false
fonts_in e (At b) id = has_font e b id

-- the modifier boxes of a sample of c characters
unfoldable pub judge_modifiers : List ℕ → ℕ → List ℕ → Verdict
unfolding modifiers_of
judge_modifiers e c s = modifiers_of (fonts_in e (fonts_of e)) c s (text_end s)

-- the verdict on a sample, beside an entry without fault
unfoldable pub judge_sample : List ℕ → List ℕ → Verdict
unfolding judge_text judge_modifiers characters_in
judge_sample e s = judge_text s then judge_modifiers e (characters_in s) s

-- the verdict on an entry, that on a sample beside it, and a character count
abbrev pub answer_of : Verdict → Verdict → ℕ → Reading
answer_of (Refused r) v n = BadEntry r
answer_of Fine (Refused r) n = BadSample r
answer_of Fine Fine n = Good n

-- the reading of a sample beside its entry
unfoldable pub read_sample : List ℕ → List ℕ → Reading
unfolding judge_sample characters_in
read_sample e s = answer_of (judge_entry e) (judge_sample e s) (characters_in s)

-- number and place of a reading, whoever is at fault
abbrev pub verdict_of : Reading → Verdict
verdict_of (Good n) = Fine
verdict_of (BadEntry r) = Refused r
verdict_of (BadSample r) = Refused r
