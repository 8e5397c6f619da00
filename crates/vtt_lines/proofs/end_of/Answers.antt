use mathlib.Core.Path.{◌≡◌, sym, ◌∙◌}
use native.Mathlib.Omega.{arith}
use lib.ListN.{length}
use Rattle.vtt_lines.proofs.Places.{end-turn, end-found, end-last}
use Rattle.vtt_lines.proofs.end_of.Goals as goal

pub returns-then-is_line_end : goal.returns-then-is_line_end
returns-then-is_line_end c = (end-found _ _ _ c.loop-i.invariant.1 c.loop-i-test.true (sym c.is_line_end.ensures ∙ c.if-is_line_end.true), omega arith)

pub loop-i-preserved : goal.loop-i-preserved
loop-i-preserved c = (omega arith, end-turn _ _ _ c.loop-i.invariant.1 c.loop-i-test.true (sym c.is_line_end.ensures ∙ c.if-is_line_end.false))

pub returns : goal.returns
returns c = let e : c.loop-i.i ≡ length c.args.s.now = omega arith in (sym e ∙ end-last _ _ _ c.loop-i.invariant.1 c.loop-i-test.false, omega arith)

pub loop-i-init : goal.loop-i-init
loop-i-init c = (omega arith, sym c.pass_inside-from.ensures.0)
