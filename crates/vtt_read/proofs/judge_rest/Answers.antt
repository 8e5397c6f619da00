use Prim.Native.Nat.{ℕ}
use mathlib.Core.Path.{sym, ◌∙◌, subst, subst⁻¹}
use native.Mathlib.Omega.{arith}
use Rattle.base.proofs.Results.{passed_on}
use Rattle.vtt_read.specs.Steps.{Rows, TurnIs, EndIs}
use Rattle.vtt_read.proofs.Rows.{rows_none}
use Rattle.vtt_read.proofs.judge_rest.Goals as goal

pub skipped-state-requires : goal.skipped-state-requires
skipped-state-requires c = c.requires.0

pub loop-state-init : goal.loop-state-init
loop-state-init c = (c.skipped-state.ensures.0, c.requires.2, rows_none _ _ _ (c.skipped-state.ensures.2 ∙ c.requires.1) c.requires.3)

pub judge_next-requires : goal.judge_next-requires
judge_next-requires c = let i = c.loop-state.invariant in (i.0, c.loop-state-test.true, i.1, i.2)

pub skipped-state-requires-in-loop-state : goal.skipped-state-requires-in-loop-state
skipped-state-requires-in-loop-state c = (subst (TurnIs c.args.s.now c.loop-state.state.at c.judge_next.new.tab) c.in_ok-judge_next.was c.judge_next.ensures).0

pub loop-state-smaller : goal.loop-state-smaller
loop-state-smaller c = omega (arith, c.loop-state-test.true, c.skipped-state-in-loop-state.ensures.1, (subst (TurnIs c.args.s.now c.loop-state.state.at c.judge_next.new.tab) c.in_ok-judge_next.was c.judge_next.ensures).1)

pub loop-state-preserved : goal.loop-state-preserved
loop-state-preserved c =
    let t = subst (TurnIs c.args.s.now c.loop-state.state.at c.judge_next.new.tab) c.in_ok-judge_next.was c.judge_next.ensures in
    (c.skipped-state-in-loop-state.ensures.0, c.judge_next.auto.buf ∙ c.loop-state.invariant.1, subst⁻¹ (λ (n : ℕ). Rows c.args.s.now n c.judge_next.new.tab) c.skipped-state-in-loop-state.ensures.2 t.2)

pub shape_of-buf-in_err-judge_next : goal.shape_of-buf-in_err-judge_next
shape_of-buf-in_err-judge_next c = c.judge_next.auto.buf ∙ c.loop-state.invariant.1 ∙ sym c.requires.2

pub shape_of-tab-in_err-judge_next : goal.shape_of-tab-in_err-judge_next
shape_of-tab-in_err-judge_next c = c.judge_next.auto.tab ∙ c.loop-state.invariant.2.long ∙ sym c.requires.3

pub returns-in_err-judge_next : goal.returns-in_err-judge_next
returns-in_err-judge_next c = subst⁻¹ (EndIs c.args.s.now c.judge_next.new.tab) (passed_on _ _ c.from_residual.ensures) (subst (TurnIs c.args.s.now c.loop-state.state.at c.judge_next.new.tab) c.in_err-judge_next.was c.judge_next.ensures)

pub shape_of-buf : goal.shape_of-buf
shape_of-buf c = c.loop-state.invariant.1 ∙ sym c.requires.2

pub shape_of-tab : goal.shape_of-tab
shape_of-tab c = c.loop-state.invariant.2.long ∙ sym c.requires.3

pub returns : goal.returns
returns c = (c.loop-state.invariant.0, c.loop-state-test.false, c.loop-state.invariant.2)
