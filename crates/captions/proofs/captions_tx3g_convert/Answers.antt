-- `captions::captions_tx3g_convert` meets its contract: the answer of the operation, as C sees it.
use Rattle.captions.specs.Flat.{flat_converted}
use Rattle.records_write.specs.Records.{records_of, pool_of}
use Rattle.tx3g_convert.specs.Converted.{Converted}
use Rattle.tx3g_convert.specs.Convert.{stock_cues, out_of}
use mathlib.Core.Path.{ap, ◌∙◌}
use Rattle.captions.proofs.captions_tx3g_convert.Goals as goal

pub returns : goal.returns
returns c = let a = c.args in
    let u = c.convert-c.ensures in
    let cs = stock_cues a.entry.now a.table.now a.samples.now in record { value = c.from.ensures ∙ ap flat_converted u.0; records_after = u.1 ∙ ap (λ (x : Converted). out_of x (records_of a.scale cs) a.records.now) u.0; pool_after = u.2 ∙ ap (λ (x : Converted). out_of x (pool_of cs) a.pool.now) u.0 }
