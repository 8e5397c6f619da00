-- `captions::captions_drop_zero_durations` meets its contract: the answer of the operation, as C sees it.
use Rattle.captions.specs.Flat.{flat_dropped}
use Rattle.table.specs.Parts.{table_of, content_of}
use Rattle.table_lasting.specs.Dropped.{Dropped}
use Rattle.table_lasting.specs.Lasting.{lasting_of}
use Rattle.table_lasting.specs.Dropping.{out_of}
use mathlib.Core.Path.{ap, ◌∙◌}
use Rattle.captions.proofs.captions_drop_zero_durations.Goals as goal

pub returns : goal.returns
returns c = let a = c.args in
    let ps = lasting_of a.table.now a.samples.now in record { value = c.from.ensures ∙ ap flat_dropped c.drop_zero_durations-d.ensures.value; table_out_after = c.drop_zero_durations-d.ensures.rows_after ∙ ap (λ (x : Dropped). out_of x (table_of ps) a.table_out.now) c.drop_zero_durations-d.ensures.value; samples_out_after = c.drop_zero_durations-d.ensures.content_after ∙ ap (λ (x : Dropped). out_of x (content_of ps) a.samples_out.now) c.drop_zero_durations-d.ensures.value }
