-- Terms of the contracts: the bytes of a text, escaped one by one.
use Rattle.std.specs.Prelude.{ℕ, ◌+◌, ◌≤◌, ◌<◌, ◌≡◌, List, [], ◌∷◌, eqb, get_or}
use Rattle.base.specs.Choice.{pick}
use Rattle.boxes.specs.Boxes.{part}

-- the bytes that stand for b
unfoldable pub shown : ℕ → List ℕ
shown b =
    pick (eqb b 0x26) (0x26 ∷ 0x61 ∷ 0x6D ∷ 0x70 ∷ 0x3B ∷ [])
    (pick (eqb b 0x3C) (0x26 ∷ 0x6C ∷ 0x74 ∷ 0x3B ∷ [])
    (pick (eqb b 0x3E) (0x26 ∷ 0x67 ∷ 0x74 ∷ 0x3B ∷ [])
    (b ∷ [])))

-- how many bytes more than one they are
unfoldable pub extra : ℕ → ℕ
extra b = pick (eqb b 0x26) 4 (pick (eqb b 0x3C) 3 (pick (eqb b 0x3E) 3 0))

unfoldable pub extras : List ℕ → ℕ
unfolding extra
extras [] = 0
extras (b ∷ s) = extra b + extras s

-- the first place of a text from `from` to `end` whose byte is escaped, or `end`
pub record PlainTo (s : List ℕ) (from end at : ℕ) : Type 0 where
  pub goes : from ≤ at
  pub ends : at ≤ end
  pub plain : extras (part s from at) ≡ 0
  pub stops : at < end → ¬ (extra (get_or s at 0) ≡ 0)
