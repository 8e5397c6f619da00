-- `input::take_read` meets its contract.
use native.Mathlib.Omega.{arith}
use mathlib.Core.Path.{sym, ap, ◌∙◌}
use mathlib.Core.Bool.{Bool}
use borrow.Author.Tests.{eq-eqb}
use lib.IntN.{ℤ, pos}
use lib.ListN.{length-take}
use lib.Signed.{lt_z}
use mir.Syntax.{w64}
use mir.ValLaws.{to_z-of_z}
use Rattle.input.proofs.Moved.{not-failed, unsigned-fits, failed, at-end, not_yet}
use Rattle.input.proofs.take_read.Goals as goal

pub returns-then-got-lt0 : goal.returns-then-got-lt0
returns-then-got-lt0 c = let a = c.args in
    failed a.state a.buffer.now (to_z-of_z w64 a.got c.ranges.got) c.if-got-lt0.true

pub overflow_cast-got : goal.overflow_cast-got
overflow_cast-got c = let a = c.args in
    let f = c.ranges.got in
    let e = to_z-of_z w64 a.got f in
    rw e (not-failed a.got (ap (λ (z : ℤ). lt_z z (pos 0)) (sym e) ∙ c.if-got-lt0.false), unsigned-fits a.got f)

pub slice_bounds-feed-end : goal.slice_bounds-feed-end
slice_bounds-feed-end c = let s = c.args.buffer.now in omega (arith, length-take c.min-n.result s)

pub returns-then-n-eq0 : goal.returns-then-n-eq0
returns-then-n-eq0 c =
    ap (λ (l : Bool). record { state = c.feed-next.result; last = l }) (eq-eqb _ _ c.if-n-eq0.true)
    ∙ at-end c.args.state c.args.buffer.now (to_z-of_z w64 c.args.got c.ranges.got) c.min-n.result c.feed-next.result c.if-got-lt0.false c.min-n.ensures c.feed-next.ensures c.if-n-eq0.true

pub returns-else-n-eq0 : goal.returns-else-n-eq0
returns-else-n-eq0 c =
    not_yet c.args.state c.args.buffer.now (to_z-of_z w64 c.args.got c.ranges.got) c.min-n.result c.feed-next.result c.if-got-lt0.false c.min-n.ensures c.feed-next.ensures c.if-n-eq0.false
    c.is_wrong-last.result c.is_wrong-last.ensures
