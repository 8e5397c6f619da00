-- An error that `?` passes on is the one that was met.
use mathlib.Core.Path.{◌≡◌, ap, ◌∙◌}
use Rattle.std.proofs.Common.{Result, Ok, Err}
use Rattle.std.specs.Result.{IsErr, IsErrAnd}
use Rattle.std.proofs.lemmas.Result.{err_from_is_err_and}

pub passed_on : {T E : Type 0} (r : Result T E) (y : E) → IsErr r × IsErrAnd r (λ x. x ≡ y) → r ≡ Err y
passed_on r y h = let p = err_from_is_err_and r h.1 in p.1 ∙ ap Err p.2
