use Rattle.base.proofs.Results.{passed_on}
use mathlib.Core.Path.{◌∙◌, subst}
use Rattle.unpack.specs.Rows.{ReadAs}
use Rattle.unpack.proofs.Laws.{ready-measurable, rows-room}
use Rattle.unpack.proofs.unpack_room.Goals as goal

pub returns-in_err-count : goal.returns-in_err-count
returns-in_err-count c = passed_on _ _ c.from_residual.ensures ∙ subst (ReadAs _ _ _ _) c.in_err-count.was c.read_track.ensures

pub measure_rows-requires : goal.measure_rows-requires
measure_rows-requires c = ready-measurable _ _ _ _ _ (subst (ReadAs _ _ _ _) c.in_ok-count.was c.read_track.ensures).rows_ready

pub returns : goal.returns
returns c = c.measure_rows.ensures ∙ rows-room _ _ _ _ _ _ (subst (ReadAs _ _ _ _) c.in_ok-count.was c.read_track.ensures)
