use Prim.Native.Nat.{◌+◌, ◌≤◌}
use mathlib.Core.Path.{◌≡◌, refl, sym, ◌∙◌}
use native.Mathlib.Omega.{arith}
use lib.ListN.{length}
use Rattle.vtt_lines.specs.Cursor.{end_at}
use Rattle.vtt_lines.proofs.Places.{end-eight}
use Rattle.vtt_lines.proofs.pass_inside.Goals as goal

pub loop-i-preserved : goal.loop-i-preserved
loop-i-preserved c =
    let stride : let s = c.args.s.now in let i = c.loop-i.i in (i + 8 ≤ length s) × (end_at s (i + 8) ≡ end_at s c.args.at) = let l = c.loop-i.invariant in end-eight _ _ _ l.0 (sym c.is_inside8.ensures ∙ c.loop-i-test.true) l.1 in
    stride

pub returns : goal.returns
returns c = let l = c.loop-i.invariant in (l.1, l.0)

pub loop-i-init : goal.loop-i-init
loop-i-init c = (c.requires, refl)

pub is_inside8-requires : goal.is_inside8-requires
is_inside8-requires c = c.loop-i.invariant.0

pub overflow_add-i : goal.overflow_add-i
overflow_add-i c =
    let stride : let s = c.args.s.now in let i = c.loop-i.i in (i + 8 ≤ length s) × (end_at s (i + 8) ≡ end_at s c.args.at) = let l = c.loop-i.invariant in end-eight _ _ _ l.0 (sym c.is_inside8.ensures ∙ c.loop-i-test.true) l.1 in
    omega (arith, stride.0)

pub loop-i-smaller : goal.loop-i-smaller
loop-i-smaller c =
    let stride : let s = c.args.s.now in let i = c.loop-i.i in (i + 8 ≤ length s) × (end_at s (i + 8) ≡ end_at s c.args.at) = let l = c.loop-i.invariant in end-eight _ _ _ l.0 (sym c.is_inside8.ensures ∙ c.loop-i-test.true) l.1 in
    omega (arith, stride.0)
