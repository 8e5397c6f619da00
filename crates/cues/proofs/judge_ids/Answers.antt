use mathlib.Core.Path.{◌≡◌, refl, ◌∙◌}
use native.Mathlib.Omega.{arith}
use borrow.Author.Count.{below_none, below_more}
use Rattle.cues.proofs.Laws.{Fresh, differ, fresh-apart, none-twice, one-twice, slots-more, free-fresh}
use Rattle.cues.proofs.judge_ids.Goals.{then-taken-slot+else-loop-j-test, else-taken-slot, else-search-test, then-search-test+then-taken-slot+then-loop-j-test+then-source_id-id}
use Rattle.cues.proofs.judge_ids.Goals as goal

pub search-init : goal.search-init
search-init c = (refl, below_none _, record { whole = refl; marked = below_none _ })

pub loop-j-init : goal.loop-j-init
loop-j-init c = (c.search.invariant.0, below_none _)

pub loop-j-preserved : goal.loop-j-preserved
loop-j-preserved c = (c.loop-j.invariant.0, below_more _ _ c.loop-j.invariant.1 (differ _ _ _ _ _ c.source_id.ensures.0 c.source_id-id.ensures.0 c.if-source_id-id.false))

pub search-preserved : goal.search-preserved
search-preserved c =
    let outer = c.search in
    let same = c.source_id-id.ensures.0 in
    let fresh : Fresh c.args.records.now c.search.i c.search.i = elim c.if-taken-slot.branch [
      | then-taken-slot+else-loop-j-test w ↦ λ k l. w.loop-j.invariant.1 k (omega (arith, l, w.loop-j-test.false))
      | else-taken-slot w ↦ free-fresh _ _ _ _ same outer.invariant.2 w.if-taken-slot.false
    ] in
    let place : c.if-taken-slot.place ≡ c.args.n = elim c.if-taken-slot.branch [
      | then-taken-slot+else-loop-j-test w ↦ w.place-is ∙ w.loop-j.invariant.0
      | else-taken-slot w ↦ w.place-is ∙ outer.invariant.0
    ] in
    (place, below_more _ _ outer.invariant.1 (fresh-apart _ _ fresh), slots-more _ _ _ _ same outer.invariant.2)

pub returns-then-place-n : goal.returns-then-place-n
returns-then-place-n c =
    elim c.search-test.branch [
      | else-search-test w ↦ absurd (omega (arith, w.place-is, c.if-place-n.true))
      | then-search-test+then-taken-slot+then-loop-j-test+then-source_id-id w ↦
          rw w.place-is at c.refused.ensures
          ∙ one-twice _ _ _ _ _ _ w.search-test.true w.loop-j-test.true w.source_id.ensures.0 w.source_id-id.ensures.0 w.if-source_id-id.true w.loop-j.invariant.1 c.search.invariant.1
    ]

pub returns-else-place-n : goal.returns-else-place-n
returns-else-place-n c =
    elim c.search-test.branch [
      | else-search-test w ↦ let e : c.search.i ≡ c.args.n = omega (arith, w.search-test.false) in none-twice _ _ c.search.i (omega arith) c.search.invariant.1
      | then-search-test+then-taken-slot+then-loop-j-test+then-source_id-id w ↦ absurd (omega (arith, w.place-is, w.search-test.true, c.if-place-n.false))
    ]
