use mathlib.Core.Path.{refl, sym, ◌∙◌}
use native.Mathlib.Omega.{arith}
use Rattle.vtt_lines.proofs.Arrows.{arrow-turn, arrow-found, arrow-last}
use Rattle.vtt_lines.proofs.holds_arrow.Goals as goal

pub returns-then-is_usual : goal.returns-then-is_usual
returns-then-is_usual c = sym (c.is_usual.ensures c.if-is_usual.true)

pub loop-i-init : goal.loop-i-init
loop-i-init c = (omega arith, refl)

pub returns-then-is_arrow : goal.returns-then-is_arrow
returns-then-is_arrow c = sym (sym c.loop-i.invariant.1 ∙ arrow-found c.args.line.now c.loop-i.i (omega arith) (sym c.is_arrow.ensures ∙ c.if-is_arrow.true))

pub loop-i-preserved : goal.loop-i-preserved
loop-i-preserved c = (omega arith, sym (arrow-turn c.args.line.now c.loop-i.i (omega arith) (sym c.is_arrow.ensures ∙ c.if-is_arrow.false)) ∙ c.loop-i.invariant.1)

pub returns : goal.returns
returns c = sym (sym c.loop-i.invariant.1 ∙ arrow-last c.args.line.now c.loop-i.i (omega arith))
