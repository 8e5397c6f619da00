-- The header, and then the blocks.
use mathlib.Core.Path.{◌∙◌, subst}
use Rattle.base.proofs.Results.{passed_on}
use Rattle.vtt_read.specs.Steps.{BeginIs}
use Rattle.vtt_read.proofs.Ends.{room-refused, stays-refused}
use Rattle.vtt_read.proofs.read.Goals as goal

pub write_list-requires : goal.write_list-requires
write_list-requires c = subst (BeginIs c.args.file.now) c.in_ok-start.was c.judge_header.ensures

pub returns-in_err-start : goal.returns-in_err-start
returns-in_err-start c =
    let e = passed_on _ _ c.from_residual.ensures in
    let w = stays-refused _ _ _ (e ∙ room-refused _ _ (subst (BeginIs c.args.file.now) c.in_err-start.was c.judge_header.ensures)) e in
    (w.0 _ _, w.1 _ _, w.1 _ _)
