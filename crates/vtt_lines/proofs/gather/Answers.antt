use Prim.Native.Nat.{◌-◌, ◌≤◌}
use mathlib.Core.Path.{sym, ◌∙◌}
use native.Mathlib.Omega.{arith}
use lib.ListN.{length, drop, length-take, length-drop}
use Rattle.vtt_lines.proofs.Blocks.{line-filled, passing-start, passing_step, passing-stop}
use Rattle.vtt_lines.proofs.Gathering.{gathering-start, gathered-step, gathered-stop, gathered-fits, joint-short}
use Rattle.vtt_lines.proofs.gather.Goals as goal

pub loop-l-init : goal.loop-l-init
loop-l-init c = (passing-start _ _ _ c.requires.0 c.requires.1, gathering-start _ _)

pub put_joint-from-requires : goal.put_joint-from-requires
put_joint-from-requires c =
    let fits : c.loop-l.size ≤ length c.args.s.now = let a = c.args in gathered-fits a.s.now _ a.at _ _ _ c.loop-l.invariant.1 in
    omega (arith, fits)

pub put_bytes-size-requires : goal.put_bytes-size-requires
put_bytes-size-requires c =
    let fits : c.loop-l.size ≤ length c.args.s.now = let a = c.args in gathered-fits a.s.now _ a.at _ _ _ c.loop-l.invariant.1 in
    let l = c.line_from-l.result in
    let i = c.loop-l in
    let s = c.args.s.now in
    omega (arith, fits, joint-short i.size, c.put_joint-from.ensures.0, length-take (l.end - i.place) (drop i.place s), length-drop i.place s)

pub loop-l-smaller : goal.loop-l-smaller
loop-l-smaller c = omega (arith, (line-filled c.args.s.now c.loop-l.place (sym c.is_filled.ensures ∙ c.loop-l-test.true)).0)

pub loop-l-preserved : goal.loop-l-preserved
loop-l-preserved c =
    let h = sym c.is_filled.ensures ∙ c.loop-l-test.true in
    let l = c.line_from-l in
    let i = c.loop-l.invariant in
    let a = c.put_joint-from.ensures in
    let b = c.put_bytes-size.ensures in
    (passing_step _ _ _ _ _ i.0 l.result h l.ensures.0 l.ensures.1, gathered-step _ _ _ _ _ _ l.result _ _ _ _ _ h l.ensures.0 i.1 a.0 a.1 b.0 b.1)

pub shape_of-buf : goal.shape_of-buf
shape_of-buf c = c.loop-l.invariant.1.kept

pub returns : goal.returns
returns c =
    let h = sym c.is_filled.ensures ∙ c.loop-l-test.false in
    let i = c.loop-l.invariant in
    (passing-stop _ _ _ _ _ i.0 h, gathered-stop _ _ _ c.loop-l.place _ _ h i.1)
