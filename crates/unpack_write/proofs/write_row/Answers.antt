-- `unpack_write::write_row` meets its contract: the cue that is put is that of the row.
use Prim.Native.Nat.{◌*◌}
use mathlib.Core.Path.{ap, ◌∙◌}
use native.Mathlib.Omega.{arith}
use Rattle.base.specs.Over.{wrote}
use Rattle.unpack_write.proofs.Laws.{TextsAre, row-lengths, row-record, row-texts}
use Rattle.unpack_write.proofs.write_row.Goals as goal

pub put_cue-requires : goal.put_cue-requires
put_cue-requires c =
    let texts : TextsAre c.args.samples.now c.args.row c.text_in-identifier.result.now c.text_in-settings.result.now c.text_in-payload.result.now = record { identifier = c.text_in-identifier.ensures; settings = c.text_in-settings.ensures; payload = c.text_in-payload.ensures } in
    let l = row-lengths _ _ _ _ _ (texts) c.requires.1 in
    (omega arith, omega (arith, l.0, c.requires.4), omega arith, omega (arith, l.1), omega (arith, l.2), omega (arith, l.3))

pub returns : goal.returns
returns c =
    let texts : TextsAre c.args.samples.now c.args.row c.text_in-identifier.result.now c.text_in-settings.result.now c.text_in-payload.result.now = record { identifier = c.text_in-identifier.ensures; settings = c.text_in-settings.ensures; payload = c.text_in-payload.ensures } in
    let a = c.args in let t = texts in
    let l = row-lengths _ _ _ _ _ t c.requires.1 in
    let e = c.put_cue.ensures in (
      omega (arith, e.0, l.0),
      e.1 ∙ ap (wrote a.records.now (a.k * 24)) (row-record _ _ _ _ _ t a.scale a.at _ _ c.ms_of-start.ensures.0 c.ms_of-end.ensures.0),
      e.2 ∙ ap (wrote a.pool.now a.at) (row-texts _ _ _ _ _ t),
    )
