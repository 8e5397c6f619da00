use Prim.Native.Nat.{◌<◌}
use native.Mathlib.Nat.{le_antisymm}
use mathlib.Core.Path.{refl, sym, ap, ◌∙◌, subst}
use Rattle.verdict.specs.Judgement.{each}
use Rattle.verdict.proofs.Judgement.{each_more, each-stops}
use Rattle.rows.specs.declared.Row.{Row}
use Rattle.unpack.specs.Rows.{row_times}
use Rattle.unpack.proofs.Laws.{times-bad, times-good}
use native.Mathlib.Omega.{arith}
use Rattle.unpack.proofs.judge_times.Goals as goal

pub loop-i-init : goal.loop-i-init
unfolding each
loop-i-init c = (omega arith, refl)

pub bad_times-requires : goal.bad_times-requires
bad_times-requires c = let w = c.requires.2 c.loop-i.i (omega arith) in
    subst (λ (r : Row). (0 < c.args.scale) × (r.start < 281474976710656) × (r.end < 281474976710656)) (sym c.row_at-row.ensures) (c.requires.0, w.0, w.1)

pub returns-then-bad_times : goal.returns-then-bad_times
returns-then-bad_times c = c.refused.ensures ∙ sym (each-stops (row_times c.args.scale c.args.tab.now) c.loop-i.i c.args.n _ (omega arith) c.loop-i.invariant.1 (times-bad _ _ _ c.row_at-row.result c.bad_times.result c.row_at-row.ensures c.bad_times.ensures c.if-bad_times.true))

pub loop-i-preserved : goal.loop-i-preserved
loop-i-preserved c = (omega arith, each_more (row_times c.args.scale c.args.tab.now) _ c.loop-i.invariant.1 (times-good _ _ _ c.row_at-row.result c.bad_times.result c.row_at-row.ensures c.bad_times.ensures c.if-bad_times.false))

pub returns : goal.returns
returns c = sym (ap (each (row_times c.args.scale c.args.tab.now)) (sym (le_antisymm c.loop-i.invariant.0 (omega arith))) ∙ c.loop-i.invariant.1)
