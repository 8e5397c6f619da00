use Prim.Native.Nat.{◌+◌}
use native.Mathlib.Omega.{arith}
use Rattle.fields.specs.BigEndian.{bytes}
use Rattle.fields.proofs.BigEndian.{length-bytes}
use Rattle.records_write.proofs.Laws.{in_four}
use Rattle.records_write.proofs.put_back.Goals as goal

pub returns : goal.returns
returns c = let a = c.args in
    let i = length-bytes 2 a.identifier in
    let g = length-bytes 2 a.settings in
    let t = length-bytes 2 a.payload in
    in_four a.d.now _ _ _ _ (bytes 2 a.identifier) (bytes 2 a.settings) (bytes 2 a.payload) (bytes 2 0) a.at (a.at + 2) (a.at + 4) (a.at + 6)
    c.put16.ensures c.put16-2.ensures c.put16-3.ensures c.put16-4.ensures (omega arith) (omega arith) (omega arith) (omega arith)
