-- `report::put_output` meets its contract.
use mathlib.Core.Path.{◌≡◌, refl, sym, ◌∙◌}
use lib.Seq.{length-take-le}
use Rattle.base.specs.Choice.{both}
use Rattle.report.specs.Report.{output_text, whole}
use Rattle.report.proofs.put_output.Goals as goal
use Rattle.report.proofs.put_output.Goals.{then-is_whole, else-is_whole}

pub slice_bounds-put_answer-end : goal.slice_bounds-put_answer-end
slice_bounds-put_answer-end c = sym (length-take-le c.args.first.n c.args.records.now c.requires.0)

pub slice_bounds-put_answer-end-2 : goal.slice_bounds-put_answer-end-2
slice_bounds-put_answer-end-2 c = sym (length-take-le c.args.second.n c.args.pool.now c.requires.1)

pub returns : goal.returns
unfolding output_text
returns c =
    let found : c.if-is_whole.found ≡ both (whole c.args.first) (whole c.args.second) = elim c.if-is_whole.branch [
      | then-is_whole w ↦ w.found-is ∙ rw (← c.is_whole.ensures, w.if-is_whole.true) w.is_whole-found.ensures
      | else-is_whole w ↦ w.found-is ∙ rw (← c.is_whole.ensures, w.if-is_whole.false) refl
    ] in
    rw (← found) c.put_answer.ensures
