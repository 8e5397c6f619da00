-- `captions::captions_wvtt_pack` meets its contract: the answer of the operation, as C sees it.
use Rattle.captions.specs.Flat.{flat_packed}
use Rattle.pack.specs.Packing.{packed_track, table_bytes, samples_bytes, after}
use Rattle.pack.specs.Packed.{Packed}
use mathlib.Core.Path.{ap, ◌∙◌}
use Rattle.captions.proofs.captions_wvtt_pack.Goals as goal

pub returns : goal.returns
returns c = let a = c.args in
    let track = packed_track a.scale a.t a.records.now a.pool.now in record { value = c.from.ensures ∙ ap flat_packed c.pack-p.ensures.value; table_after = c.pack-p.ensures.table_after ∙ ap (λ (x : Packed). after x (table_bytes track) a.table.now) c.pack-p.ensures.value; samples_after = c.pack-p.ensures.samples_after ∙ ap (λ (x : Packed). after x (samples_bytes track) a.samples.now) c.pack-p.ensures.value }
