-- Terms of the contracts: what stands in a slice once a setting is put there.
use Rattle.std.specs.Prelude.{ℕ, ◌≡◌, List, ◌∷◌, eqb, take}
use Rattle.base.specs.Choice.{pick}
use Rattle.settings.specs.Words.{SPACE}
use Rattle.settings.specs.Grammar.{Setting}
use Rattle.settings.specs.Form.{joined}

-- a word behind `at` bytes: with a space before it, if there are any
unfoldable pub spaced : ℕ → List ℕ → List ℕ
spaced at w = pick (eqb at 0) w (SPACE ∷ w)

-- the first n bytes of e are the first `at` of d with the settings joined to them
abbrev pub Joins : List ℕ → ℕ → List ℕ → ℕ → List Setting → Type 0
Joins d at e n ts = take n e ≡ joined (take at d) ts
