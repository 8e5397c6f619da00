-- The size and the type of a sample entry. Document 01, 'Order': in an entry the fixed fields come first.
use Rattle.std.specs.Prelude.{ℕ, List, not, ltb, eqb, length}
use Rattle.base.specs.Choice.{any_of}
use Rattle.verdict.specs.Verdict.{Verdict}
use Rattle.verdict.specs.Judgement.{◌gives◌at◌, ◌then◌}
use Rattle.fields.specs.BigEndian.{be}

-- fewer bytes than the fixed ones or than the size says (1); a size below the fixed ones or short of the bytes, another type (2)
unfoldable pub judge_head : List ℕ → ℕ → ℕ → Verdict
judge_head e fixed kind =
    any_of (ltb (length e) fixed) (ltb (length e) (be 4 e 0)) gives 1 at 0
    then any_of (ltb (be 4 e 0) fixed) (any_of (ltb (be 4 e 0) (length e)) (not (eqb (be 4 e 4) kind))) gives 2 at 0
