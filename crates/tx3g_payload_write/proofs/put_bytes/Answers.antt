-- A copy of all of them.
use native.Mathlib.Omega.{arith}
use lib.ListN.{length}
use mathlib.Core.Path.{◌≡◌}
use Rattle.tx3g_payload_write.proofs.Stores.{stored}
use Rattle.tx3g_payload_write.proofs.put_bytes.Goals as goal

pub returns : goal.returns
returns g c =
    let l : length c.args.bytes.now ≡ g.row.N = omega arith in
    (omega (arith, l), stored c.args.out.now c.args.bytes.now _ c.args.at g.row.N _ c.copy_from_slice.ensures.after (omega arith) l)
