use Prim.Native.Nat.{ℕ, ◌+◌, ◌-◌}
use mathlib.Core.Path.{◌≡◌, sym, ◌∙◌, subst}
use native.Mathlib.Omega.{arith}
use Rattle.vtt_timing.proofs.Laws.{Trimmed, trimming-start, trimming-more, trimming-stop, trimming-end}
use Rattle.vtt_timing.proofs.trim_end.Goals as goal

pub loop-to-init : goal.loop-to-init
loop-to-init c = trimming-start c.args.s.now c.args.from (omega arith)

pub returns-then-not-is_edge : goal.returns-then-not-is_edge
returns-then-not-is_edge c =
    let l = c.loop-to in
    let e : l.to ≡ l.to - 1 + 1 = omega arith in
    subst (Trimmed c.args.s.now c.args.from) e
    (l.invariant.0, l.invariant.1, trimming-stop c.args.s.now c.args.from l.to (omega arith) (sym c.is_edge.ensures ∙ c.if-not-is_edge.true) l.invariant)

pub loop-to-preserved : goal.loop-to-preserved
loop-to-preserved c = trimming-more c.args.s.now c.args.from c.loop-to.to (omega arith) (sym c.is_edge.ensures ∙ c.if-not-is_edge.false) c.loop-to.invariant

pub returns : goal.returns
returns c =
    let l = c.loop-to in
    let e : l.to ≡ c.args.from = omega arith in
    subst (Trimmed c.args.s.now c.args.from) e (l.invariant.0, l.invariant.1, trimming-end c.args.s.now c.args.from l.to (omega arith) l.invariant)
