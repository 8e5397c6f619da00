use Prim.Native.Nat.{◌+◌}
use native.Mathlib.Omega.{arith}
use Rattle.fields.specs.BigEndian.{bytes}
use Rattle.fields.proofs.BigEndian.{length-bytes}
use Rattle.records_write.proofs.Laws.{in_four}
use Rattle.records_write.proofs.put_front.Goals as goal

pub returns : goal.returns
returns c = let a = c.args in
    let i = length-bytes 4 a.id in
    let g = length-bytes 4 a.start in
    let t = length-bytes 4 a.end in
    in_four a.d.now _ _ _ _ (bytes 4 a.id) (bytes 4 a.start) (bytes 4 a.end) (bytes 4 a.offset) a.at (a.at + 4) (a.at + 8) (a.at + 12)
    c.put32.ensures c.put32-2.ensures c.put32-3.ensures c.put32-4.ensures (omega arith) (omega arith) (omega arith) (omega arith)
