use mathlib.Core.Path.{◌≡◌, refl, sym, ◌∙◌}
use native.Mathlib.Omega.{arith}
use lib.ListN.{length}
use Rattle.vtt_timing.specs.Read.{in_run}
use Rattle.vtt_timing.proofs.Laws.{run_more, run-stop, run_end_lem}
use Rattle.vtt_timing.proofs.pass_run.Goals as goal

pub loop-i-init : goal.loop-i-init
loop-i-init c = (omega arith, refl)

pub returns-then-not-is_in : goal.returns-then-not-is_in
returns-then-not-is_in c =
    let l = c.loop-i in
    (run-stop (in_run c.args.run) c.args.s.now l.i c.loop-i-test.true (sym c.is_in.ensures ∙ c.if-not-is_in.true) ∙ l.invariant.1, l.invariant.0)

pub loop-i-preserved : goal.loop-i-preserved
loop-i-preserved c =
    let l = c.loop-i in
    (omega (arith, c.loop-i-test.true), run_more (in_run c.args.run) c.args.s.now l.i c.loop-i-test.true (sym c.is_in.ensures ∙ c.if-not-is_in.false) ∙ l.invariant.1)

pub returns : goal.returns
returns c =
    let l = c.loop-i in
    let e : l.i ≡ length c.args.s.now = omega arith in
    (sym e ∙ run_end_lem (in_run c.args.run) c.args.s.now l.i c.loop-i-test.false ∙ l.invariant.1, omega arith)
