-- One tag behind the other.
use native.Mathlib.Omega.{arith}
use mathlib.Core.Bool.{Bool}
use mathlib.Core.Path.{sym, ap}
use Rattle.tx3g_payload.specs.Payload.{bold, italic, underline, opening}
use Rattle.tx3g_payload_write.specs.Terms.{given, opens}
use Rattle.tx3g_payload_write.proofs.Stores.{wrote_as, wrote-both}
use Rattle.tx3g_payload_write.proofs.put_opens.Goals as goal

pub returns : goal.returns
unfolding opens
returns c =
    let x = wrote_as _ _ _ _ _ _ _ (ap (λ (b : Bool). given b (opening bold)) (sym c.has_flag.ensures)) c.put_tag-second.ensures in
    let y = wrote_as _ _ _ _ _ _ _ (ap (λ (b : Bool). given b (opening italic)) (sym c.has_flag-2.ensures)) c.put_tag-third.ensures in
    let z = wrote_as _ _ _ _ _ _ _ (ap (λ (b : Bool). given b (opening underline)) (sym c.has_flag-3.ensures)) c.put_tag.ensures in
    wrote-both _ _ _ 3 6 _ _ _ _ _ (omega arith) x (wrote-both _ _ _ 3 3 _ _ _ _ _ (omega arith) y z)
