use mathlib.Core.Path.{◌∙◌}
use native.Mathlib.Omega.{arith}
use Rattle.boxes.specs.Boxes.{part}
use Rattle.wvtt_write.proofs.Laws.{copied}
use Rattle.wvtt_write.proofs.copy16.Goals as goal

pub returns : goal.returns
unfolding part
returns c =
    let a = c.args in
    copied a.out.now a.src.now _ a.at a.from 16 _ (c.copy_from_slice-2.ensures.after ∙ c.copy_from_slice.ensures.after) (omega arith) (omega arith)
