use mathlib.Core.Path.{◌≡◌, refl, sym, ap, ◌∙◌}
use native.Mathlib.Omega.{arith}
use borrow.Author.Tests.{eq-eqb, ne_eqb}
use lib.ListN.{length}
use Rattle.base.specs.Iter.{iter}
use Rattle.viable.proofs.FirstBad.{judged-right, judged-bad}
use Rattle.utf8.specs.Machine.{word_table, run}
use Rattle.utf8.specs.Utf8.{class_table}
use Rattle.utf8.proofs.Machine.{run-passed, run-first, run-whole, run-ended}
use Rattle.utf8.proofs.judge_rule.Goals as goal

pub loop-i-init : goal.loop-i-init
unfolding run iter
loop-i-init c = (omega arith, omega arith, refl)

pub invariant_of-tables : goal.invariant_of-tables
unfolding class_table word_table
invariant_of-tables c = record { classes_right = refl; words_right = refl }

pub pass_block-requires : goal.pass_block-requires
pass_block-requires c = (omega arith, omega arith, omega arith)

pub returns-in-Err : goal.returns-in-Err
returns-in-Err c =
    let l = c.loop-i in
    run-first _ _ (λ j. (c.type_inv.s j).fits) l.state l.i c.block_end-end.result _ _ (omega arith) l.invariant.2 c.pass_block.ensures c.in-Err.is

pub loop-i-preserved : goal.loop-i-preserved
loop-i-preserved c =
    let l = c.loop-i in
    let w = run-passed _ _ l.state _ l.i c.block_end-end.result _ (omega arith) l.invariant.2 c.pass_block.ensures c.in-Ok.is in
    (omega arith, w.0, w.1)

pub returns-then-state-eq0 : goal.returns-then-state-eq0
returns-then-state-eq0 c =
    let over : c.loop-i.state ≡ run c.args.rule c.args.s.now 0 0 (length c.args.s.now) = let e : c.loop-i.i ≡ length c.args.s.now = omega arith in
    c.loop-i.invariant.2 ∙ ap (run _ _ 0 0) e in
    judged-right _ _ _ (sym (run-whole _ _ (λ j. (c.type_inv.s j).fits)) ∙ eq-eqb _ 0 (sym (over) ∙ c.if-state-eq0.true))

pub returns-else-state-eq0 : goal.returns-else-state-eq0
returns-else-state-eq0 c =
    let over : c.loop-i.state ≡ run c.args.rule c.args.s.now 0 0 (length c.args.s.now) = let e : c.loop-i.i ≡ length c.args.s.now = omega arith in
    c.loop-i.invariant.2 ∙ ap (run _ _ 0 0) e in
    judged-bad _ _ _ _ (sym (run-whole _ _ (λ j. (c.type_inv.s j).fits)) ∙ ne_eqb _ 0 (λ z. c.if-state-eq0.false (over ∙ z))) (run-ended _ _ (λ j. (c.type_inv.s j).fits) _ c.loop-i.invariant.1 (over))
