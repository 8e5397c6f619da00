-- `tx3g_sample::read_beside` meets its contract.
use Rattle.base.proofs.Results.{passed_on}
use Rattle.tx3g_sample.proofs.Laws.{text-whole, text-refused, text-fine, count_past}
use Rattle.tx3g_sample.specs.Sample.{judge_sample}
use mathlib.Core.Path.{sym, ◌∙◌}
use native.Mathlib.Omega.{arith}
use Rattle.tx3g_sample.proofs.read_beside.Goals as goal

pub returns-in_err-characters : goal.returns-in_err-characters
unfolding judge_sample
returns-in_err-characters c = passed_on _ _ c.from_residual.ensures ∙ sym (rw (text-refused c.args.s.now _ (sym c.in_err-characters.was ∙ c.read_text.ensures)))

pub judge_boxes-requires : goal.judge_boxes-requires
judge_boxes-requires c = let w = text-whole c.args.s.now _ (sym c.in_ok-characters.was ∙ c.read_text.ensures) in
    let h = text-fine c.args.s.now w.0 in
    (c.requires, omega (arith, h, count_past c.args.s.now))

pub returns-in_err-judge_boxes : goal.returns-in_err-judge_boxes
unfolding judge_sample
returns-in_err-judge_boxes c = let w = text-whole c.args.s.now _ (sym c.in_ok-characters.was ∙ c.read_text.ensures) in
    passed_on _ _ c.from_residual-in_err-judge_boxes.ensures ∙ sym (rw (w.0, w.1, ← c.judge_boxes.ensures, c.in_err-judge_boxes.was))

pub returns : goal.returns
unfolding judge_sample
returns c = let w = text-whole c.args.s.now _ (sym c.in_ok-characters.was ∙ c.read_text.ensures) in
    rw (w.0, w.1, ← c.judge_boxes.ensures, c.in_ok-judge_boxes.was)
