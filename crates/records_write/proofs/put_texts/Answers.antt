-- `records_write::put_texts` meets its contract: three texts, each behind the one before.
use native.Mathlib.Omega.{arith}
use Rattle.base.proofs.Over.{in_three}
use Rattle.records_write.proofs.put_texts.Goals as goal

pub returns : goal.returns
returns c = let a = c.args in
    let x = c.put_text-second.ensures in
    let y = c.put_text-third.ensures in
    let z = c.put_text.ensures in
    (omega arith, in_three a.pool.now _ _ _ a.identifier.now a.settings.now a.payload.now a.at _ _ x.1 y.1 z.1 x.0 y.0 (omega arith))
