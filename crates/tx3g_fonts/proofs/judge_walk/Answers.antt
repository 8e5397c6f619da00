use Rattle.tx3g_fonts.proofs.Laws.{font-zero, font-more, cut, cut-after, cut_short}
use Rattle.tx3g_fonts.specs.Fonts.{font_at}
use Rattle.bodies.specs.Bodies.{filled}
use mathlib.Core.Path.{◌≡◌, sym, ap, ◌∙◌}
use Prim.Native.Nat.{ℕ, ◌+◌, ◌<◌}
use native.Mathlib.Omega.{arith}
use Rattle.tx3g_fonts.proofs.judge_walk.Goals as goal

pub returns-then-next-body-lt2 : goal.returns-then-next-body-lt2
returns-then-next-body-lt2 c = let h : c.args.next < c.args.body + 2 = omega arith in c.refused.ensures ∙ cut_short _ _ _ _ _ h

pub loop-k-init : goal.loop-k-init
loop-k-init c = (font-zero _ _, omega arith)

pub returns-then-next-at-lt3 : goal.returns-then-next-at-lt3
returns-then-next-at-lt3 c = let i = c.loop-k.invariant in
    let h : c.args.next < font_at c.args.s.now c.args.body c.loop-k._k + 3 = omega arith in
    c.refused-then-next-at-lt3.ensures ∙ sym (rw (← c.get16-count.ensures.0) (cut _ _ _ _ _ _ (omega arith) h))

pub returns-then-next-end : goal.returns-then-next-end
returns-then-next-end c = let h : c.args.next < font_at c.args.s.now c.args.body (c.loop-k._k + 1) = rw (← font-more _ _ _ _ _ c.loop-k.invariant.0 c.pass_font-end.ensures.0) c.if-next-end.true in
    c.refused-then-next-end.ensures ∙ sym (rw (← c.get16-count.ensures.0) (cut-after _ _ _ _ _ _ (omega arith) h))

pub loop-k-preserved : goal.loop-k-preserved
loop-k-preserved c = (font-more _ _ _ _ _ c.loop-k.invariant.0 c.pass_font-end.ensures.0, omega arith)

pub returns : goal.returns
returns c = let e : c.loop-k._k ≡ c.get16-count.result = omega arith in
    c.judge_end.ensures ∙ ap (λ (x : ℕ). filled c.args.place x c.args.next) (c.loop-k.invariant.0 ∙ ap (font_at c.args.s.now c.args.body) (e ∙ c.get16-count.ensures.0))
