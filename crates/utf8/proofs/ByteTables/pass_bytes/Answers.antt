use Prim.Native.Nat.{ℕ, ◌-◌, ◌<◌, ◌≤◌}
use mathlib.Core.Path.{◌≡◌, sym, ap, ◌∙◌}
use native.Mathlib.Numerals.{add-one}
use native.Mathlib.Omega.{arith}
use mathlib.Core.List.{List}
use lib.ListN.{get_or}
use Rattle.utf8.specs.Forbidden.{forbidden}
use Rattle.utf8.specs.Machine.{ends_forbidden, next, before, step, run, PassedIs}
use Rattle.utf8.specs.Passed.{Bad}
use Rattle.utf8.specs.declared.Rule.{Rule}
use Rattle.utf8.specs.Utf8.{class_of}
use Rattle.utf8.proofs.Machine.{one-before, two-before, step-on, step-ends, step-bad, run-begins, run-turn}
use Rattle.utf8.proofs.ByteTables.pass_bytes.Goals as goal
use Rattle.utf8.proofs.ByteTables.pass_bytes.Goals.{then-state-eq8-via-then-state-eq8, then-state-eq8-via-else-state-eq8+then-ends_forbidden}

pub loop-i-init : goal.loop-i-init
loop-i-init c = (omega arith, run-begins _ _ _ _, c.byte_before-p.ensures, c.byte_before-q.ensures)

-- the byte at i leads into state 8
stopped : (rule : Rule) (s : List ℕ) (start from end st i : ℕ) → from ≤ i → i < end → st < 8 → st ≡ run rule s start from (i - from) → step rule s st i ≡ 8 → PassedIs rule s start from end (Bad i)
unfolding PassedIs
stopped rule s start from end st i h l b e z = (h, l, rw (← e) b, sym (run-turn rule s start from st i h e) ∙ z)

pub returns-then-state-eq8 : goal.returns-then-state-eq8
returns-then-state-eq8 c =
    let l = c.loop-i in
    let stepped : c.next-state.result ≡ next l.state (class_of (get_or c.args.s.now l.i 0)) = c.next-state.ensures.0 ∙ ap (next l.state) c.class.ensures.0 in
    stopped _ _ _ _ _ l.state l.i l.auto.i c.loop-i-test.true l.invariant.0 l.invariant.1
    (elim c.then-state-eq8.branch [
      | then-state-eq8-via-then-state-eq8 w ↦ step-bad _ _ _ _ (sym stepped ∙ w.if-state-eq8.true)
      | then-state-eq8-via-else-state-eq8+then-ends_forbidden w ↦
          let ended : w.ends_forbidden.result ≡ ends_forbidden (forbidden c.args.rule) (before 2 c.args.s.now l.i) (before 1 c.args.s.now l.i) (get_or c.args.s.now l.i 0) = rw (← l.invariant.2, ← l.invariant.3) w.ends_forbidden.ensures in
          step-ends _ _ _ _ (sym ended ∙ w.if-ends_forbidden.true)
    ])

pub loop-i-preserved : goal.loop-i-preserved
loop-i-preserved c =
    let l = c.loop-i in
    let stepped : c.next-state.result ≡ next l.state (class_of (get_or c.args.s.now l.i 0)) = c.next-state.ensures.0 ∙ ap (next l.state) c.class.ensures.0 in
    let ended : c.ends_forbidden.result ≡ ends_forbidden (forbidden c.args.rule) (before 2 c.args.s.now l.i) (before 1 c.args.s.now l.i) (get_or c.args.s.now l.i 0) = rw (← l.invariant.2, ← l.invariant.3) c.ends_forbidden.ensures in
    let alive : l.state ≡ 8 → ⊥ = λ z. omega arith in
    let e = step-on _ _ _ _ alive (sym ended ∙ c.if-ends_forbidden.false) in
    (omega arith, stepped ∙ sym e ∙ run-turn _ _ _ _ _ _ l.auto.i l.invariant.1, rw add-one (l.invariant.3 ∙ sym (two-before _ _)), rw add-one (sym (one-before _ _)))

pub returns : goal.returns
unfolding PassedIs
returns c = let e : c.loop-i.i ≡ c.args.end = omega arith in (c.loop-i.invariant.0, rw (← e) c.loop-i.invariant.1)
