-- What is left of a text's characters: a run of CR and LF becomes one LF at the place of its first; leading and trailing runs go.
use Rattle.std.specs.Prelude.{ℕ, List, [], ◌∷◌, ◌++◌, Bool, true, eqb}
use Rattle.base.specs.Choice.{pick, both, any_of}
use Rattle.utf8.specs.Strings.{CR, LF}

-- CR or LF
unfoldable pub is_break : ℕ → Bool
is_break c = any_of (eqb c CR) (eqb c LF)

unfoldable pub only_breaks : List ℕ → Bool
unfolding is_break
only_breaks [] = true
only_breaks (c ∷ cs) = both (is_break c) (only_breaks cs)

-- what is left of c, with cs behind it: itself; of CR and LF one LF, unless one of them, or nothing, stands before it, or nothing else behind it
unfoldable pub left_of : Bool → ℕ → List ℕ → List ℕ
unfolding is_break only_breaks
left_of after c cs = pick (is_break c) (pick (any_of after (only_breaks cs)) [] (LF ∷ [])) (c ∷ [])

-- what is left of all; `after` says that CR, LF or nothing stands before them
unfoldable pub left_from : Bool → List ℕ → List ℕ
unfolding left_of
left_from after [] = []
left_from after (c ∷ cs) = left_of after c cs ++ left_from (is_break c) cs

-- the text that is left
unfoldable pub text_left : List ℕ → List ℕ
unfolding left_from
text_left cs = left_from true cs
