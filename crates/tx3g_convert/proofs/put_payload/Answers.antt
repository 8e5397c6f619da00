-- The cue that is put is that of the payload.
use Prim.Native.Nat.{◌*◌}
use mathlib.Core.Path.{ap, ◌∙◌}
use Rattle.base.specs.Over.{wrote}
use Rattle.tx3g_convert.proofs.Writing.{record_is}
use Rattle.tx3g_convert.proofs.put_payload.Goals as goal

pub returns : goal.returns
returns c =
    let a = c.args in
    let p = c.requires in
    let put = c.put_cue.ensures in
    (put.1 ∙ ap (wrote a.records.now (a.state.cues * 24)) (record_is _ _ _ _ _ _ _ _ p.0 p.2.early c.ms_at-start.ensures c.ms_at-end.ensures), put.2)
