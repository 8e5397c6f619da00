-- The fonts of a sample entry. Document 01, '3GPP text': `ftab` is a count (2, at most 256) and entries of ID (2), name length (1), name; IDs distinct.
use Rattle.std.specs.Prelude.{ℕ, zero, suc, ◌+◌, ◌%◌, ◌<◌, ◌≡◌, List, Bool, true, false, length, get_or, set, ltb, eqb}
use Rattle.base.specs.Choice.{any_of}
use Rattle.verdict.specs.Verdict.{Verdict}
use Rattle.verdict.specs.Judgement.{◌gives◌at◌, ◌then◌, each}
use Rattle.fields.specs.BigEndian.{be}
use Rattle.bodies.specs.Bodies.{filled}

-- the place after the font at p
unfoldable pub after_font : List ℕ → ℕ → ℕ
after_font s p = p + 3 + be 1 s (p + 2)

-- where font k stands in a body that begins at b; after the last, where the content ends
unfoldable pub font_at : List ℕ → ℕ → ℕ → ℕ
unfolding after_font
font_at s b zero = b + 2
font_at s b (suc k) = after_font s (font_at s b k)

-- the ID of font k
unfoldable pub font_id : List ℕ → ℕ → ℕ → ℕ
unfolding font_at
font_id s b k = be 2 s (font_at s b k)

-- one of the first k fonts has this ID
unfoldable pub font_among : List ℕ → ℕ → ℕ → ℕ → Bool
unfolding font_id
font_among s b zero id = false
font_among s b (suc k) id = any_of (font_among s b k id) (eqb (font_id s b k) id)

-- the table has a font of this ID
unfoldable pub has_font : List ℕ → ℕ → ℕ → Bool
unfolding font_among
has_font s b id = font_among s b (be 2 s b) id

-- a table of slots after the first k fonts are entered: each ID at its remainder by 256, a later one over an earlier
unfoldable pub font_slots : List ℕ → ℕ → ℕ → List ℕ → List ℕ
unfolding font_id
font_slots s b zero slots = slots
font_slots s b (suc k) slots = set (font_slots s b k slots) (font_id s b k % 256) (font_id s b k)

-- 256 slots; an ID that stands in its slot is that of a font
pub record Slotted (s : List ℕ) (b : ℕ) (slots : List ℕ) : Type 0 where
  pub size : length slots ≡ 256
  pub found : (id : ℕ) → id < 65536 → get_or slots (id % 256) 0 ≡ id → has_font s b id ≡ true

-- the ID of font k has not been there
unfoldable pub fresh_font : List ℕ → ℕ → ℕ → ℕ → Verdict
unfolding font_among font_id
fresh_font s p b k = font_among s b k (font_id s b k) gives 8 at p

-- an `ftab` at p whose body goes from b to n
unfoldable pub judge_fonts : List ℕ → ℕ → ℕ → ℕ → Verdict
unfolding fresh_font
judge_fonts s p b n =
    filled p (font_at s b (be 2 s b)) n
    then ltb 256 (be 2 s b) gives 9 at p
    then each (fresh_font s p b) (be 2 s b)
