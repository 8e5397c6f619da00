use mathlib.Core.Path.{◌≡◌, refl, ◌∙◌}
use native.Mathlib.Omega.{arith}
use lib.ListN.{drop}
use Rattle.characters.specs.Characters.{is_high, first_units}
use Rattle.characters.proofs.Counts.{units-at, units-end, mark-length, count-bad, count-right, count-units}
use Rattle.characters.proofs.Units.{units-start, units-turn, units-stop, units-odd, units-due, units-done}
use Rattle.characters.proofs.count_utf16.Goals as goal

pub loop-i-init : goal.loop-i-init
loop-i-init c = (mark-length _ c.requires, omega arith, units-start _ c.requires, omega arith)

pub returns-then-not-is_expected : goal.returns-then-not-is_expected
returns-then-not-is_expected c =
    let l = c.loop-i in
    count-bad _ _ (units-stop _ l.i l.due _ l.invariant.2 _ (omega arith) c.is_expected.ensures (c.if-not-is_expected.true))

pub loop-i-preserved : goal.loop-i-preserved
unfolding is_high
loop-i-preserved c =
    let l = c.loop-i in
    let u = units-at c.args.s.now l.i c.loop-i-test.true in
    let e = c.if-not-is_expected.false in
    let p = units-turn _ l.i l.due _ l.invariant.2 _ _ c.loop-i-test.true c.is_expected.ensures e c.is_within-due.ensures in
    (omega arith, omega arith, p, omega arith)

pub returns-then-is_expected : goal.returns-then-is_expected
returns-then-is_expected c =
    let l = c.loop-i in
    count-bad _ _ (units-odd _ l.i l.due _ l.invariant.2 _ _ refl c.if-i-s.true c.loop-i-test.false c.is_expected-then-i-s.ensures c.if-is_expected.true)

pub returns-else-is_expected : goal.returns-else-is_expected
returns-else-is_expected c =
    let l = c.loop-i in
    count-bad _ _ (units-stop _ l.i l.due _ l.invariant.2 _ c.if-i-s.true c.is_expected-then-i-s.ensures c.if-is_expected.false)

pub returns-then-due : goal.returns-then-due
returns-then-due c = let l = c.loop-i in count-bad _ _ (units-due _ l.i l.due _ l.invariant.2 l.invariant.0 c.if-i-s.false c.if-due.true)

pub returns-else-due : goal.returns-else-due
returns-else-due c =
    let l = c.loop-i in
    let s = c.args.s.now in
    let u = units-end s l.i c.if-i-s.false in
    let n : l.n ≡ first_units (drop 2 s) = omega arith in
    count-right s l.n (units-done s l.i l.due _ l.invariant.2 c.if-i-s.false c.if-due.false) (n ∙ count-units s c.requires)
