use Prim.Native.Nat.{ℕ, ◌-◌}
use mathlib.Core.Path.{◌≡◌, sym, ap, ◌∙◌, subst}
use native.Mathlib.Omega.{arith}
use native.Mathlib.Numerals.{add-one}
use borrow.Author.Tests.{eqb-true, eqb-false}
use lib.ListN.{length, get_or}
use Rattle.tx3g_tidy.specs.Tidy.{stays}
use Rattle.tx3g_tidy.proofs.Marks.{StaysTo, stay-begin, stay-more, stay-end, stay_none}
use Rattle.tx3g_tidy.proofs.is_tidy.Goals as goal

pub returns-then-is_empty : goal.returns-then-is_empty
returns-then-is_empty c = stay_none _ (eqb-true _ 0 (sym c.is_empty.ensures ∙ c.if-is_empty.true))

pub loop-i-init : goal.loop-i-init
loop-i-init c =
    let t = c.args.text.now in
    stay-begin t _ (omega (arith, eqb-false (length t) 0 (sym c.is_empty.ensures ∙ c.if-is_empty.false))) c.mark_for-x.ensures

pub loop-i-preserved : goal.loop-i-preserved
loop-i-preserved c =
    let t = c.args.text.now in
    let l = c.loop-i in
    rw add-one (stay-more t l.i l.x c.untidy_mark-x.result (omega arith) l.invariant (c.untidy_mark-x.ensures ∙ ap (λ (k : ℕ). stays (get_or t l.i 0) (get_or t k 0)) (add-one l.i)))

pub returns : goal.returns
returns c =
    let t = c.args.text.now in
    let l = c.loop-i in
    let e : l.i ≡ length t - 1 = omega arith in
    stay-end t (length t - 1) l.x _ (omega (arith, eqb-false (length t) 0 (sym c.is_empty.ensures ∙ c.if-is_empty.false))) (subst (λ (k : ℕ). StaysTo t k l.x) e l.invariant) c.untidy_mark-end.ensures
