-- A term of the contracts of crate cuts: the next cut, found by searching (`cut-next`: the same cuts as `sorted` gives).
use Rattle.std.specs.Prelude.{ℕ, min, List, [], ◌∷◌, ltb}
use Rattle.base.specs.Choice.{pick}

-- the least number of m above b, or T where there is none
unfoldable pub nearest : ℕ → ℕ → List ℕ → ℕ
nearest T b [] = T
nearest T b (x ∷ xs) = pick (ltb b x) (min x (nearest T b xs)) (nearest T b xs)
