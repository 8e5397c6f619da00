-- `captions::captions_judge_utf8` meets its contract: the answer of the operation, as C sees it.
use mathlib.Core.Path.{ap, ◌∙◌}
use Rattle.viable.specs.Judged.{Judged}
use Rattle.verdict.specs.Judgement.{text_at}
use Rattle.captions.specs.Flat.{flat_verdict, flat_text}
use Rattle.captions.proofs.captions_judge_utf8.Goals as goal

pub returns : goal.returns
unfolding flat_text
returns c = c.flat_text.ensures ∙ ap (λ (j : Judged). flat_verdict (text_at 0 j)) c.judge_utf8.ensures
