use Prim.Native.Nat.{◌+◌, ◌-◌}
use mathlib.Core.Path.{◌≡◌, sym, ◌∙◌}
use native.Mathlib.Omega.{arith}
use lib.ListN.{length}
use borrow.Author.Tests.{leb-true}
use Rattle.tx3g_runs.proofs.Laws.{next-end, next_is, among_none, among-missing, among-here, among_later}
use Rattle.tx3g_runs.proofs.next_run.Goals as goal

pub returns-then-characters-k : goal.returns-then-characters-k
returns-then-characters-k c = sym (next-end _ _ _ _ _ c.if-characters-k.true)

pub loop-passed-init : goal.loop-passed-init
loop-passed-init c = let all : c.args.count - 0 ≡ c.args.count = omega arith in rw all

pub returns-then-not-has_style : goal.returns-then-not-has_style
returns-then-not-has_style c =
    c.plain_to.ensures
    ∙ sym (among-missing _ _ _ _ _ (omega arith) (sym c.has_style.ensures ∙ c.if-not-has_style.true))
    ∙ c.loop-passed.invariant ∙ sym (next_is _ _ _ _ _ c.if-characters-k.false)

pub lasts_from-requires : goal.lasts_from-requires
lasts_from-requires c = leb-true _ _ (sym c.has_style.ensures ∙ c.if-not-has_style.false)

pub run_by-requires : goal.run_by-requires
run_by-requires c = (leb-true _ _ (sym c.has_style.ensures ∙ c.if-not-has_style.false), omega arith)

pub returns-then-lasts_from : goal.returns-then-lasts_from
returns-then-lasts_from c =
    c.run_by.ensures
    ∙ sym (among-here _ _ _ _ _ (omega arith) (sym c.has_style.ensures ∙ c.if-not-has_style.false) (sym c.lasts_from.ensures ∙ c.if-lasts_from.true))
    ∙ c.loop-passed.invariant ∙ sym (next_is _ _ _ _ _ c.if-characters-k.false)

pub overflow_add-at : goal.overflow_add-at
overflow_add-at c = omega (arith, leb-true (c.loop-passed.at + 12) (length c.args.s.now) (sym c.has_style.ensures ∙ c.if-not-has_style.false))

pub loop-passed-preserved : goal.loop-passed-preserved
loop-passed-preserved c =
    let next : c.args.count - (c.loop-passed.passed + 1) ≡ c.args.count - c.loop-passed.passed - 1 = omega arith in
    rw next
    (among_later _ _ _ _ _ (omega arith) (sym c.has_style.ensures ∙ c.if-not-has_style.false) (sym c.lasts_from.ensures ∙ c.if-lasts_from.false)
    ∙ c.loop-passed.invariant)

pub returns : goal.returns
returns c = c.plain_to-2.ensures ∙ sym (among_none _ _ _ _ _ (omega arith)) ∙ c.loop-passed.invariant ∙ sym (next_is _ _ _ _ _ c.if-characters-k.false)
