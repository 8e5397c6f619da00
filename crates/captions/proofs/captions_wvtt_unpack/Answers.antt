-- `captions::captions_wvtt_unpack` meets its contract: the answer of the operation, as C sees it.
use Rattle.captions.specs.Flat.{flat_unpacked}
use Rattle.records_write.specs.Records.{records_of, pool_of}
use Rattle.unpack.specs.Unpacking.{track_cues, out_of}
use Rattle.unpack.specs.Unpacked.{Unpacked}
use mathlib.Core.Path.{ap, ◌∙◌}
use Rattle.captions.proofs.captions_wvtt_unpack.Goals as goal

pub returns : goal.returns
returns c = let a = c.args in
    let u = c.unpack-u.ensures in
    let cs = track_cues a.table.now a.samples.now in record { value = c.from.ensures ∙ ap flat_unpacked u.0; records_after = u.1 ∙ ap (λ (x : Unpacked). out_of x (records_of a.scale cs) a.records.now) u.0; pool_after = u.2 ∙ ap (λ (x : Unpacked). out_of x (pool_of cs) a.pool.now) u.0 }
