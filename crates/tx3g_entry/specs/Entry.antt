-- The judgement of a `tx3g` sample entry. Document 01, '3GPP text' and 'Order'.
-- Bytes: size 0, type 4, 6 unjudged, data reference index 14, display flags 16, justification 20 and 21, background 22, default text box 26, default style 34, boxes from 46.
use Rattle.std.specs.Prelude.{ℕ, List, [], Bool, not, eqb, length}
use Rattle.base.specs.Choice.{pick, both}
use Rattle.verdict.specs.Verdict.{Verdict, Fine, Refused}
use Rattle.verdict.specs.Judgement.{◌gives◌at◌, ◌then◌, refuse}
use Rattle.fields.specs.BigEndian.{be}
use Rattle.boxes.specs.Boxes.{Boxes, boxes_in, judged, among}
use Rattle.entry_head.specs.Head.{judge_head}
use Rattle.bodies.specs.Body.{Body, At, Refused as Stopped, Nowhere}
use Rattle.bodies.specs.Bodies.{body_of}
use Rattle.signed.specs.Signed.{ordered, justified}
use Rattle.tx3g_fonts.specs.Fonts.{has_font, judge_fonts}

abbrev pub tx3g : ℕ
tx3g = 0x74783367

abbrev pub ftab : ℕ
ftab = 0x66746162

-- both justifications are allowed
unfoldable pub justified_entry : List ℕ → Bool
justified_entry e = both (justified (be 1 e 20)) (justified (be 1 e 21))

-- the default text box is ordered; the default style begins and ends at 0
unfoldable pub plain_entry : List ℕ → Bool
plain_entry e = both (ordered e 26) (both (eqb (be 2 e 34) 0) (eqb (be 2 e 36) 0))

-- the fixed fields
unfoldable pub judge_fixed : List ℕ → Verdict
unfolding justified_entry plain_entry
judge_fixed e = judge_head e 46 tx3g then not (justified_entry e) gives 8 at 0 then not (plain_entry e) gives 7 at 0

-- a box of an entry, with the kinds before it: one `ftab`; others are passed over
unfoldable pub in_entry : List ℕ → List ℕ → ℕ → ℕ → ℕ → ℕ → Verdict
in_entry e before p k b n = pick (eqb k ftab) (among ftab before gives 3 at p then judge_fonts e p b n) Fine

-- a container's end where nothing is judged by its kinds
abbrev pub nothing_more : List ℕ → Verdict
nothing_more kinds = Fine

unfoldable pub entry_boxes : List ℕ → Boxes
entry_boxes e = boxes_in e 46 (length e)

-- where the body of the `ftab` begins
unfoldable pub fonts_of : List ℕ → Body
unfolding entry_boxes
fonts_of e = body_of ftab (entry_boxes e)

-- at the end of an entry: no `ftab` (4); the default font is not in it (8)
abbrev pub end_entry : List ℕ → Body → Verdict
end_entry e Nowhere = refuse 4 0
end_entry e (Stopped r) = Refused r
end_entry e (At b) = not (has_font e b (be 2 e 38)) gives 8 at 0

-- the verdict on a sample entry
unfoldable pub judge_entry : List ℕ → Verdict
unfolding judge_fixed in_entry entry_boxes fonts_of
judge_entry e = judge_fixed e then judged (in_entry e) nothing_more [] (entry_boxes e) then end_entry e (fonts_of e)
