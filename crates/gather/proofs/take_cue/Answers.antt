use native.Mathlib.Omega.{arith}
use mathlib.Core.Path.{sym, subst, ◌∙◌}
use lib.ListN.{length}
use Rattle.base.proofs.Results.{passed_on}
use Rattle.rows.specs.Table.{Placed, Finds}
use Rattle.gather.proofs.Laws.{take-unnamed, take-full, take-new, good_new, take-fault, take-known, good-known}
use Rattle.gather.proofs.take_cue.Goals as goal

pub returns-then-not-named : goal.returns-then-not-named
returns-then-not-named c = (take-unnamed _ _ _ _ _ _ _ c.if-not-named.true, tt)

pub judge_again-requires : goal.judge_again-requires
judge_again-requires c = (subst (Placed (length c.args.samples.now)) (sym c.row_at-x.ensures) (c.requires.2.placed c.in-Some.j c.in-Some.ensures.0), c.requires.3)

pub returns-in_err-judge_again : goal.returns-in_err-judge_again
returns-in_err-judge_again c = let a = c.args in
    rw (passed_on _ _ c.from_residual.ensures) (
      take-fault a.samples.now a.tab.now a.n a.k a.named a.y c.if-not-named.false (length a.samples.now) c.in-Some.j c.requires.2 c.in-Some.ensures.0 c.in-Some.ensures.1
          _ c.row_at-x.result c.row_at-x.ensures (sym c.judge_again.ensures ∙ c.in_err-judge_again.was),
      tt,
    )

pub returns-in-Some : goal.returns-in-Some
returns-in-Some c = let a = c.args in (
  take-known a.samples.now a.tab.now a.n a.k a.named a.y c.if-not-named.false (length a.samples.now) c.in-Some.j c.requires.2 c.in-Some.ensures.0 c.in-Some.ensures.1 (omega (arith, c.in-Some.ensures.0))
      c.row_at-x.result c.row_at-x.ensures (sym c.judge_again.ensures ∙ c.in_ok-judge_again.was),
  (c.requires.0, good-known a.samples.now a.tab.now a.n a.k a.named a.y c.if-not-named.false (length a.samples.now) c.in-Some.j c.requires.2 c.in-Some.ensures.0 c.in-Some.ensures.1 (omega (arith, c.in-Some.ensures.0))),
)

pub returns-then-n-lt1024 : goal.returns-then-n-lt1024
returns-then-n-lt1024 c = let a = c.args in
    let m = subst (Finds a.tab.now a.n a.y.id) c.in_default.is c.find_id.ensures in
    rw c.put_row.ensures (
      take-new a.samples.now a.tab.now a.n a.k a.named a.y c.if-not-named.false (length a.samples.now) c.requires.2 c.requires.3 m (omega arith) c.if-n-lt1024.true,
      (omega arith, good_new a.samples.now a.tab.now a.n a.k a.named a.y c.if-not-named.false (length a.samples.now) c.requires.2 c.requires.3 m (omega arith)),
    )

pub returns : goal.returns
returns c = let a = c.args in
    let m = subst (Finds a.tab.now a.n a.y.id) c.in_default.is c.find_id.ensures in
    (take-full a.samples.now a.tab.now a.n a.k a.named a.y c.if-not-named.false (length a.samples.now) c.requires.2 c.requires.3 m c.if-n-lt1024.false, tt)
