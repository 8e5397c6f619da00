use mathlib.Core.Path.{refl, sym, ◌∙◌}
use native.Mathlib.Omega.{arith}
use Rattle.vtt_lines.proofs.Blocks.{line-filled, passing-start, passing_step, passing-stop}
use Rattle.vtt_lines.proofs.Arrows.{arrows-step, arrows-stop}
use Rattle.vtt_lines.proofs.pass_lines.Goals as goal

pub loop-l-init : goal.loop-l-init
loop-l-init c = (passing-start _ _ _ c.requires.0 c.requires.1, refl)

pub loop-l-smaller : goal.loop-l-smaller
loop-l-smaller c = omega (arith, (line-filled c.args.s.now c.loop-l.place (sym c.is_filled.ensures ∙ c.loop-l-test.true)).0)

pub loop-l-preserved : goal.loop-l-preserved
loop-l-preserved c =
    let h = sym c.is_filled.ensures ∙ c.loop-l-test.true in
    let l = c.line_from-l in
    let i = c.loop-l.invariant in
    (passing_step _ _ _ _ _ i.0 l.result h l.ensures.0 l.ensures.1, arrows-step _ _ c.loop-l.arrow l.result _ _ h l.ensures.0 c.sees_arrow-arrow.ensures ∙ i.1)

pub returns : goal.returns
returns c =
    let h = sym c.is_filled.ensures ∙ c.loop-l-test.false in
    let i = c.loop-l.invariant in
    (passing-stop _ _ _ _ _ i.0 h, sym (arrows-stop c.args.s.now c.loop-l.place _ h) ∙ i.1)
