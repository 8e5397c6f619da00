use Rattle.base.proofs.Results.{passed_on}
use mathlib.Core.List.{List}
use mathlib.Core.Path.{◌∙◌, ap, refl, subst}
use Rattle.timeline.specs.Cues.{Cue}
use Rattle.records_write.specs.Records.{records_of, pool_of}
use Rattle.unpack.specs.Unpacking.{roomed, out_of, unpack_of}
use Rattle.unpack.specs.Rows.{ReadAs}
use Rattle.unpack.proofs.Laws.{rows-answer}
use Rattle.unpack.proofs.unpack.Goals as goal

pub write_list-requires : goal.write_list-requires
write_list-requires c = (subst (ReadAs _ _ _ _) c.in_ok-count.was c.read_track.ensures).rows_ready

pub returns : goal.returns
returns c = let a = c.args in
    let w = subst (ReadAs _ _ _ _) c.in_ok-count.was c.read_track.ensures in
    let z = c.write_list.ensures in
    let r = c.write_list.result in (
      z.0 ∙ rows-answer _ _ _ _ _ _ w _ _,
      z.1 ∙ ap (λ (x : List Cue). out_of r (records_of a.scale x) a.records.now) w.cues,
      z.2 ∙ ap (λ (x : List Cue). out_of r (pool_of x) a.pool.now) w.cues,
    )

pub returns-in_err-count : goal.returns-in_err-count
unfolding unpack_of
returns-in_err-count c = rw (passed_on _ _ c.from_residual.ensures) (ap (roomed _ _) (subst (ReadAs _ _ _ _) c.in_err-count.was c.read_track.ensures), refl, refl)
