-- The tags, and the bytes behind them.
use native.Mathlib.Omega.{arith}
use Rattle.tx3g_payload_write.proofs.Plain.{stepped-plain, ahead-few, begin-room}
use Rattle.tx3g_payload_write.proofs.put_plain.Goals as goal

pub copy_run-requires : goal.copy_run-requires
copy_run-requires c =
    let p = c.requires in
    let few = ahead-few _ _ _ _ _ p.1 p.0 in
    let room = begin-room _ _ _ _ _ c.put_begin-begun.ensures p.3 p.4 in
    (omega (arith, few, room), p.1.inside)

pub returns : goal.returns
returns c =
    let p = c.requires in
    stepped-plain _ _ _ _ _ _ _ _ p.0 p.1 p.2 p.3 p.4 c.put_begin-begun.ensures (ahead-few _ _ _ _ _ p.1 p.0) c.copy_run.ensures
