-- `boxes::step_at` meets its contract: each return is the case of `step_at` that its tests lead to.
use mathlib.Core.Path.{sym}
use native.Mathlib.Omega.{arith}
use Rattle.boxes.proofs.Laws.{step_end, step-short, step_small, step_past, step-whole}
use Rattle.boxes.proofs.step_at.Goals as goal

pub returns-then-end-at : goal.returns-then-end-at
returns-then-end-at c = sym (step_end _ _ _ (omega arith))

pub returns-then-end-at-lt8 : goal.returns-then-end-at-lt8
returns-then-end-at-lt8 c = rw c.fault_at.ensures (sym (step-short _ _ _ (omega arith) (omega arith)))

pub returns-then-size-lt8 : goal.returns-then-size-lt8
returns-then-size-lt8 c = rw c.fault_at-then-size-lt8.ensures (sym (step_small _ _ _ (omega arith) (omega arith) (omega arith)))

pub returns-then-end-at-2 : goal.returns-then-end-at-2
returns-then-end-at-2 c = rw c.fault_at-then-end-at-2.ensures (sym (step_past _ _ _ (omega arith) (omega arith) (omega arith) (omega arith)))

pub returns : goal.returns
returns c = rw (c.get32-size.ensures.0, c.get32-kind.ensures.0) (sym (step-whole _ _ _ (omega arith) (omega arith) (omega arith) (omega arith)))
