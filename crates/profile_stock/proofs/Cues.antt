-- The payloads of samples, and of the records that a conversion writes.
use Prim.Native.Nat.{◌<◌}
use mathlib.Core.Path.{◌∙◌, subst⁻¹}
use native.Mathlib.Omega.{arith}
use lib.ListN.{length}
use Rattle.table.specs.Table.{bytes_of}
use Rattle.unpack_laws.proofs.Reading.{payload_is}
use Rattle.profile.specs.Grammar.{Profile}
use Rattle.tx3g_payload_write.specs.Sample.{characters_at, range_at, face_of, payload_in}
use Rattle.tx3g_stock.proofs.Rows.{row_reads}
use Rattle.tx3g_convert.specs.Convert.{stock_cues}
use Rattle.tx3g_convert.proofs.Rooms.{done-so}
use Rattle.tx3g_convert_laws.proofs.Samples.{each-is-a-sample}
use Rattle.tx3g_convert_laws.proofs.Fine.{few, fits}
use Rattle.tx3g_convert_laws.proofs.Payloads.{characters-right, sample-bytes}
use Rattle.profile_stock.specs.Statements.{SampleWithin, StockCuesWithin}
use Rattle.profile_stock.proofs.Within.{stock-within}

pub sample-within : SampleWithin
unfolding payload_in
sample-within e s b h = stock-within (range_at s) (face_of e s) (characters_at s) (characters-right e s b h).0

pub stock-cues-within : StockCuesWithin
stock-cues-within scale e table samples n r p T c b q k h =
    let so = done-so scale e table samples n r p T c q in
    let l : k < length (stock_cues e table samples) = omega (arith, h, so.cues) in
    let i = (each-is-a-sample e table samples).sample_of k in
    let w = (each-is-a-sample e table samples).each k l in
    subst⁻¹ Profile (payload_is scale (stock_cues e table samples) (few scale e table samples n r p T c q) (fits scale e table samples n r p T c q) k l ∙ w.payload)
    (sample-within e (bytes_of table samples i) (sample-bytes scale e table samples b i) (row_reads e table samples so.track i w.sample))
