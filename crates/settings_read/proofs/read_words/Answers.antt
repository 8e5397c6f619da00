use Prim.Native.Nat.{◌-◌}
use lib.ListN.{drop, length-take}
use Rattle.settings_read.proofs.Laws.{begins, ends, word-ends, refuses, goes_on}
use native.Mathlib.Omega.{arith}
use borrow.Author.Rules.{rules}
use Rattle.settings_read.proofs.read_words.Goals as goal

pub unread_settings-x-requires : goal.unread_settings-x-requires
unread_settings-x-requires c = search rules

pub pass_long-i-requires : goal.pass_long-i-requires
pass_long-i-requires c = search rules

pub loop-i-init : goal.loop-i-init
loop-i-init c = begins c.args.s.now _ _ c.unread_settings-x.ensures c.pass_long-i.ensures.0 c.pass_long-i.ensures.1

pub pass_long-e-requires : goal.pass_long-e-requires
pass_long-e-requires c = c.loop-i.invariant.inside

pub slice_bounds-parse_word-count : goal.slice_bounds-parse_word-count
slice_bounds-parse_word-count c = omega (arith, word-ends _ _ _ c.loop-i-test.true (c.loop-i.invariant.solid c.loop-i-test.true) c.pass_long-e.ensures.0)

pub slice_bounds-parse_word-start : goal.slice_bounds-parse_word-start
slice_bounds-parse_word-start c = omega (arith, word-ends _ _ _ c.loop-i-test.true (c.loop-i.invariant.solid c.loop-i-test.true) c.pass_long-e.ensures.0)

pub slice_bounds-parse_word-end : goal.slice_bounds-parse_word-end
slice_bounds-parse_word-end c = omega (arith, c.pass_long-e.ensures.1)

pub parse_word-t-requires : goal.parse_word-t-requires
parse_word-t-requires c = omega (arith, length-take (c.pass_long-e.result - c.loop-i.i) (drop c.loop-i.i c.args.s.now), c.pass_long-e.ensures.1, c.well_formed.0.0, word-ends _ _ _ c.loop-i-test.true (c.loop-i.invariant.solid c.loop-i-test.true) c.pass_long-e.ensures.0)

pub name_of-k-requires : goal.name_of-k-requires
name_of-k-requires c = search rules

pub bounds-marks-k : goal.bounds-marks-k
bounds-marks-k c = omega (arith, c.name_of-k.ensures.1, c.loop-i.invariant.seven)

pub fault_at-requires : goal.fault_at-requires
fault_at-requires c = search rules

pub returns-then-marks-k-eq1 : goal.returns-then-marks-k-eq1
returns-then-marks-k-eq1 c = rw c.fault_at.ensures (refuses c.args.s.now c.loop-i.marks c.loop-i.x c.loop-i.i c.pass_long-e.result c.name_of-k.result c.parse_word-t.result c.loop-i.invariant c.loop-i-test.true c.pass_long-e.ensures.0 c.parse_word-t.ensures c.name_of-k.ensures.0 c.name_of-k.ensures.1 c.if-marks-k-eq1.true)

pub bounds-marks-k-in-loop-i : goal.bounds-marks-k-in-loop-i
bounds-marks-k-in-loop-i c = omega (arith, c.name_of-k.ensures.1, c.loop-i.invariant.seven)

pub take_setting-x-requires : goal.take_setting-x-requires
take_setting-x-requires c = search rules

pub pass_long-i-requires-in-loop-i : goal.pass_long-i-requires-in-loop-i
pass_long-i-requires-in-loop-i c = c.pass_long-e.ensures.1

pub loop-i-smaller : goal.loop-i-smaller
loop-i-smaller c = omega (arith, c.pass_long-i-in-loop-i.ensures.0, c.loop-i-test.true, word-ends _ _ _ c.loop-i-test.true (c.loop-i.invariant.solid c.loop-i-test.true) c.pass_long-e.ensures.0)

pub loop-i-preserved : goal.loop-i-preserved
loop-i-preserved c = goes_on c.args.s.now c.loop-i.marks c.loop-i.x c.loop-i.i c.pass_long-e.result c.name_of-k.result c.parse_word-t.result c.loop-i.invariant c.loop-i-test.true c.pass_long-e.ensures.0 c.parse_word-t.ensures c.name_of-k.ensures.0 c.name_of-k.ensures.1 c.if-marks-k-eq1.false _ _ c.take_setting-x.ensures c.pass_long-i-in-loop-i.ensures.0 c.pass_long-i-in-loop-i.ensures.1

pub returns : goal.returns
returns c = ends c.args.s.now _ _ _ c.loop-i-test.false c.loop-i.invariant
