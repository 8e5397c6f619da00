-- The rules for the bodies of modifier boxes. Document 01, '3GPP text', 'Bodies', and 'Order': of the whole 1 and 2, then record by record 8 and 7.
-- `fonts` says which font IDs there are, c is the character count, p the box's place, b where its body begins.
use Rattle.std.specs.Prelude.{ℕ, zero, suc, ◌+◌, ◌*◌, List, Bool, not, ltb, leb, eqb}
use Rattle.base.specs.Choice.{pick, both}
use Rattle.verdict.specs.Verdict.{Verdict, Fine}
use Rattle.verdict.specs.Judgement.{◌gives◌at◌, ◌then◌, each}
use Rattle.fields.specs.BigEndian.{be}
use Rattle.bodies.specs.Bodies.{filled}
use Rattle.signed.specs.Signed.{ordered}
use Rattle.tx3g_contents.specs.Kinds.{styl, krok, tbox, twrp, ranged}
use Rattle.tx3g_contents.specs.Contents.{content_end}

-- the range at q: start ≤ end ≤ the character count
unfoldable pub in_range : ℕ → List ℕ → ℕ → Bool
in_range c s q = both (leb (be 2 s q) (be 2 s (q + 2))) (leb (be 2 s (q + 2)) c)

unfoldable pub range_fault : ℕ → List ℕ → ℕ → ℕ → Verdict
unfolding in_range
range_fault c s p b = not (in_range c s b) gives 7 at p

-- a text box has top ≤ bottom and left ≤ right
unfoldable pub box_fault : List ℕ → ℕ → ℕ → Verdict
box_fault s p b = not (ordered s b) gives 7 at p

-- a wrap is 0 or 1
unfoldable pub wrap_fault : List ℕ → ℕ → ℕ → Verdict
wrap_fault s p b = ltb 1 (be 1 s b) gives 8 at p

-- a style at q: its font is there; it begins at or after the previous end
unfoldable pub style_fault : (ℕ → Bool) → ℕ → List ℕ → ℕ → ℕ → ℕ → Verdict
unfolding in_range
style_fault fonts c s p previous q = not (fonts (be 2 s (q + 4))) gives 8 at p then not (both (leb previous (be 2 s q)) (in_range c s q)) gives 7 at p

-- where style k stands, and the end before it
unfoldable pub style_at : ℕ → ℕ → ℕ
style_at b k = b + 2 + k * 12

unfoldable pub end_before : List ℕ → ℕ → ℕ → ℕ
unfolding style_at
end_before s b zero = 0
end_before s b (suc k) = be 2 s (style_at b k + 2)

unfoldable pub judge_style : (ℕ → Bool) → ℕ → List ℕ → ℕ → ℕ → ℕ → Verdict
unfolding style_fault style_at end_before
judge_style fonts c s p b k = style_fault fonts c s p (end_before s b k) (style_at b k)

-- a karaoke entry at q: its end time is no earlier than the time before
unfoldable pub turn_fault : ℕ → List ℕ → ℕ → ℕ → ℕ → Verdict
unfolding in_range
turn_fault c s p previous q = not (both (leb previous (be 4 s q)) (in_range c s (q + 4))) gives 7 at p

-- where entry k stands, and the time before it: at first the start time
unfoldable pub turn_at : ℕ → ℕ → ℕ
turn_at b k = b + 6 + k * 8

unfoldable pub time_before : List ℕ → ℕ → ℕ → ℕ
unfolding turn_at
time_before s b zero = be 4 s b
time_before s b (suc k) = be 4 s (turn_at b k)

unfoldable pub judge_turn : ℕ → List ℕ → ℕ → ℕ → ℕ → Verdict
unfolding turn_fault turn_at time_before
judge_turn c s p b k = turn_fault c s p (time_before s b k) (turn_at b k)

-- the values of a body
unfoldable pub judge_records : (ℕ → Bool) → ℕ → List ℕ → ℕ → ℕ → ℕ → Verdict
unfolding judge_style judge_turn range_fault box_fault wrap_fault
judge_records fonts c s p k b =
    pick (eqb k styl) (each (judge_style fonts c s p b) (be 2 s b))
    (pick (eqb k krok) (each (judge_turn c s p b) (be 2 s (b + 4)))
    (pick (eqb k tbox) (box_fault s p b)
    (pick (eqb k twrp) (wrap_fault s p b)
    (pick (ranged k) (range_fault c s p b)
    Fine))))

-- the body of a modifier box of kind k, from b to n
unfoldable pub judge_body : (ℕ → Bool) → ℕ → List ℕ → ℕ → ℕ → ℕ → ℕ → Verdict
unfolding judge_records
judge_body fonts c s p k b n = filled p (content_end s k b) n then judge_records fonts c s p k b
