-- The characters of a 3GPP text by their numbers: UTF-16 after the mark FE FF, else UTF-8. Of valid texts; `PointsAre` says that they are the right ones.
use Rattle.std.specs.Prelude.{ℕ, zero, suc, ◌+◌, ◌-◌, ◌*◌, List, [], ◌∷◌, ltb, drop, get_or}
use Rattle.base.specs.Choice.{pick}
use Rattle.utf8.specs.Strings.{starts_with}
use Rattle.characters.specs.Characters.{is_tail, is_high, is_low, mark}

-- c, and six bits more from each of the next n bytes
unfoldable pub more : ℕ → ℕ → List ℕ → ℕ
more zero c s = c
more (suc n) c [] = c
more (suc n) c (b ∷ s) = more n (c * 64 + (b - 0x80)) s

-- the character whose first byte is b, with s behind it
unfoldable pub point : ℕ → List ℕ → ℕ
unfolding more
point b s = pick (ltb b 0x80) b (pick (ltb b 0xE0) (more 1 (b - 0xC0) s) (pick (ltb b 0xF0) (more 2 (b - 0xE0) s) (more 3 (b - 0xF0) s)))

-- each byte that is no UTF8-tail begins one
unfoldable pub points8 : List ℕ → List ℕ
unfolding point
points8 [] = []
points8 (b ∷ s) = pick (is_tail b) (points8 s) (point b s ∷ points8 s)

-- the character whose first unit is h l, with s behind it
unfoldable pub point16 : ℕ → ℕ → List ℕ → ℕ
point16 h l s = pick (is_high h) (0x10000 + (((h - 0xD8) * 256 + l) * 1024 + ((get_or s 0 0 - 0xDC) * 256 + get_or s 1 0))) (h * 256 + l)

-- each unit that is no low surrogate begins one
unfoldable pub points16 : List ℕ → List ℕ
unfolding point16
points16 [] = []
points16 (h ∷ []) = []
points16 (h ∷ l ∷ s) = pick (is_low h) (points16 s) (point16 h l s ∷ points16 s)

unfoldable pub points_of : List ℕ → List ℕ
unfolding points8 points16
points_of s = pick (starts_with mark s) (points16 (drop 2 s)) (points8 s)
