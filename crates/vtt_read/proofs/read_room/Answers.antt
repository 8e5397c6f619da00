-- The header, and then the blocks.
use mathlib.Core.Path.{refl, ◌∙◌, subst}
use Rattle.base.proofs.Results.{passed_on}
use Rattle.vtt_read.specs.Steps.{BeginIs}
use Rattle.vtt_read.proofs.Ends.{room-refused}
use Rattle.vtt_read.proofs.read_room.Goals as goal

pub measure-requires : goal.measure-requires
measure-requires c = let b = subst (BeginIs c.args.file.now) c.in_ok-start.was c.judge_header.ensures in (b.0, b.1, refl, refl)

pub returns-in_err-start : goal.returns-in_err-start
returns-in_err-start c = passed_on _ _ c.from_residual.ensures ∙ room-refused _ _ (subst (BeginIs c.args.file.now) c.in_err-start.was c.judge_header.ensures)
