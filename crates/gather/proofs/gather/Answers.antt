use native.Mathlib.Numerals.{add-one}
use Prim.Native.Nat.{ℕ, ◌+◌, ◌<◌}
use mathlib.Core.Path.{◌≡◌, refl, sym, ap, ◌∙◌, subst}
use Rattle.table.proofs.Laws.{offset-suc}
use Rattle.table.specs.Table.{row_count, offset_of}
use Rattle.track.specs.Track.{track_of}
use Rattle.timeline.proofs.Joined.{joined_is}
use Rattle.track.proofs.Samples.{track-positive}
use Rattle.timeline.specs.Joining.{joined}
use Rattle.timeline.specs.Tracks.{total}
use Rattle.timeline.specs.Lists.{listed}
use Rattle.rows.specs.Table.{known}
use Rattle.gather.specs.Gathering.{taking_of, Settled}
use Rattle.verdict.specs.Judgement.{fault}
use Rattle.gather.specs.Took.{Goes}
use Rattle.gather.proofs.Walking.{ticks_to, ticks-more, ticks-all, row_inside, rows-most, track-end, track-more, track-stop, good_none}
use native.Mathlib.Omega.{arith}
use Rattle.gather.proofs.gather.Goals as goal

pub loop-i-init : goal.loop-i-init
unfolding row_count offset_of ticks_to listed total known joined
loop-i-init c = (omega arith, refl, refl, omega arith, omega arith, refl, omega arith, good_none _ _, c.requires.1, joined_is (track_of c.args.table.now c.args.samples.now) (track-positive c.args.table.now c.args.samples.now c.requires.0))

pub overflow_add-e : goal.overflow_add-e
overflow_add-e c = let l = c.loop-i in omega (arith, rows-most c.args.table.now c.args.samples.now c.requires.0, l.invariant.1, l.invariant.6, c.duration_at.ensures.1)

pub overflow_add-end : goal.overflow_add-end
overflow_add-end c = let l = c.loop-i in let a = c.args in
    omega (arith, row_inside a.table.now a.samples.now c.requires.0 l.i (omega (arith, l.invariant.1)), offset-suc a.table.now l.i, l.invariant.2, c.size_at.ensures.0)

pub take_sample-requires : goal.take_sample-requires
take_sample-requires c = let l = c.loop-i in let a = c.args in
    (l.invariant.4, l.invariant.8, l.invariant.7, omega arith, omega (arith, row_inside a.table.now a.samples.now c.requires.0 l.i (omega (arith, l.invariant.1)), offset-suc a.table.now l.i, l.invariant.2, c.size_at.ensures.0))

pub returns-in-Err : goal.returns-in-Err
unfolding fault
returns-in-Err c = let l = c.loop-i in let a = c.args in
    let h : l.i < row_count a.table.now = omega (arith, l.invariant.1) in
    rw c.fault_at.ensures
    (track-stop a.table.now a.samples.now l.b l.i _ l.invariant.9 h c.duration_at.result l.at c.size_at.result c.duration_at.ensures.0 l.invariant.2 c.size_at.ensures.0 _ (sym (ap (taking_of _ _) c.in-Err.is) ∙ c.take_sample.ensures.0), refl)

pub loop-i-preserved : goal.loop-i-preserved
loop-i-preserved c = let l = c.loop-i in let a = c.args in
    let h : l.i < row_count a.table.now = omega (arith, l.invariant.1) in
    let q : c.take_sample.result ≡ Goes c.in-Ok.count _ = c.in-Ok.is in
    let w = subst (Settled _ _) q c.take_sample.ensures.1 in
    let o = offset-suc a.table.now l.i in (
      omega arith,
      l.invariant.1,
      rw add-one (omega (arith, o, l.invariant.2, c.size_at.ensures.0)),
      omega (arith, row_inside a.table.now a.samples.now c.requires.0 l.i h, o, l.invariant.2, c.size_at.ensures.0),
      w.0,
      ap (λ (x : ℕ). x + c.duration_at.result) l.invariant.5 ∙ ticks-more a.table.now a.samples.now l.i _ c.duration_at.ensures.0,
      omega (arith, l.invariant.6, c.duration_at.ensures.1),
      w.1,
      omega arith,
      track-more a.table.now a.samples.now l.b l.i _ l.invariant.9 h c.duration_at.result l.at c.size_at.result c.duration_at.ensures.0 l.invariant.2 c.size_at.ensures.0 _ _ (sym (ap (taking_of _ _) q) ∙ c.take_sample.ensures.0),
    )

pub returns : goal.returns
returns c = let l = c.loop-i in let a = c.args in
    let e : l.i ≡ row_count a.table.now = omega (arith, l.invariant.0, l.invariant.1) in (
      track-end a.table.now a.samples.now l.b l.i _ l.invariant.9 (omega arith),
      (l.invariant.4, l.invariant.7, l.invariant.5 ∙ ap (ticks_to a.table.now a.samples.now) e ∙ ticks-all a.table.now a.samples.now, omega (arith, rows-most a.table.now a.samples.now c.requires.0, l.invariant.6)),
    )
