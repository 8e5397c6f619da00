-- `records_write::put_cue` meets its contract: the halves of the record, and the texts.
use Prim.Native.Nat.{◌+◌, ◌*◌}
use native.Mathlib.Omega.{arith}
use lib.ListN.{length-append}
use Rattle.fields.proofs.BigEndian.{length-bytes}
use Rattle.records_write.specs.Records.{record_bytes}
use Rattle.base.proofs.Over.{in_two}
use Rattle.records_write.proofs.put_cue.Goals as goal

pub returns : goal.returns
unfolding record_bytes
returns c = let a = c.args in
    let texts = c.put_texts.ensures in (
      texts.0,
      in_two a.records.now _ _ _ _ (a.k * 24) (a.k * 24 + 16) c.put_front.ensures c.put_back.ensures (simp (length-append, length-bytes)) (omega arith),
      texts.1,
    )
