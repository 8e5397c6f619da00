-- One tag behind the other.
use native.Mathlib.Omega.{arith}
use mathlib.Core.Bool.{Bool}
use mathlib.Core.Path.{sym, ap}
use Rattle.tx3g_payload.specs.Payload.{bold, italic, underline, closing}
use Rattle.tx3g_payload_write.specs.Terms.{given, closes}
use Rattle.tx3g_payload_write.proofs.Stores.{wrote_as, wrote-both}
use Rattle.tx3g_payload_write.proofs.put_closes.Goals as goal

pub returns : goal.returns
unfolding closes
returns c =
    let x = wrote_as _ _ _ _ _ _ _ (ap (λ (b : Bool). given b (closing underline)) (sym c.has_flag.ensures)) c.put_tag-second.ensures in
    let y = wrote_as _ _ _ _ _ _ _ (ap (λ (b : Bool). given b (closing italic)) (sym c.has_flag-2.ensures)) c.put_tag-third.ensures in
    let z = wrote_as _ _ _ _ _ _ _ (ap (λ (b : Bool). given b (closing bold)) (sym c.has_flag-3.ensures)) c.put_tag.ensures in
    wrote-both _ _ _ 4 8 _ _ _ _ _ (omega arith) x (wrote-both _ _ _ 4 4 _ _ _ _ _ (omega arith) y z)
