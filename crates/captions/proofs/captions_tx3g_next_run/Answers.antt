-- `captions::captions_tx3g_next_run` meets its contract: the answer of the operation, as C sees it.
use Rattle.captions.specs.Flat.{flat_run}
use Rattle.tx3g_runs.specs.declared.Run.{Run}
use mathlib.Core.Path.{ap, ◌∙◌}
use Rattle.captions.proofs.captions_tx3g_next_run.Goals as goal

pub returns : goal.returns
returns c = c.flat_run.ensures ∙ ap (λ (r : Run). flat_run r c.args.k) c.next_run.ensures
