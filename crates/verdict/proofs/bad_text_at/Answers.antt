-- `verdict::bad_text_at` meets its contract, by the definition.
use mathlib.Core.Path.{refl}
use Rattle.verdict.specs.Judgement.{bad_text}
use Rattle.verdict.proofs.bad_text_at.Goals as goal

pub returns : goal.returns
unfolding bad_text
returns c = refl
