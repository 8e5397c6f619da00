-- The lines that hold `-->`: in a file that is read, these are the timing lines. Document 02, K1.
use Rattle.std.specs.Prelude.{ℕ, suc, List, [], ◌∷◌}
use Rattle.base.specs.Choice.{keep}
use Rattle.vtt_lines.specs.Lines.{Line, holds_arrow}

-- their indices, the first line's being n
unfoldable pub arrows_from : ℕ → List Line → List ℕ
arrows_from n [] = []
arrows_from n (l ∷ ls) = keep (holds_arrow l) n (arrows_from (suc n) ls)

-- their indices in order, counted from 0
unfoldable pub arrow_lines : List Line → List ℕ
unfolding arrows_from
arrow_lines ls = arrows_from 0 ls
