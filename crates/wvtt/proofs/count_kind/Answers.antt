-- `wvtt::count_kind` meets its contract: by the two cases of its test.
use native.Mathlib.Numerals.{add-one}
use borrow.Author.Tests.{eq-eqb, ne_eqb}
use Rattle.wvtt.proofs.count_kind.Goals as goal

pub returns-then-kind-wanted : goal.returns-then-kind-wanted
returns-then-kind-wanted c = simp (eq-eqb _ _ c.if-kind-wanted.true, add-one)

pub returns-else-kind-wanted : goal.returns-else-kind-wanted
returns-else-kind-wanted c = simp (ne_eqb _ _ c.if-kind-wanted.false)
