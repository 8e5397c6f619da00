use Rattle.conform.proofs.Laws.{ends-short, ends-well, few-rows, row_inside, sound-rises, sound-pooled, reached-start, reached-on, answer-start, answer-past, answer-wrong, answer-on}
use native.Mathlib.Omega.{arith}
use native.Mathlib.Numerals.{add-one}
use Rattle.conform.specs.Conformance.{answered}
use Rattle.table.proofs.Laws.{offset-suc, bytes-at, in_table}
use Rattle.table.specs.Table.{row_count, offset_of, bytes_of}
use Rattle.wvtt_cues.specs.Cues.{sample_cues}
use Rattle.cues.specs.List.{cues_of}
use Rattle.boxes.specs.Boxes.{part}
use Rattle.timeline.specs.Checking.{matches}
use Rattle.times.specs.Times.{tick}
use mathlib.Core.List.{List}
use mathlib.Core.Path.{◌≡◌, refl, ◌∙◌, sym, ap}
use Prim.Native.Nat.{ℕ, ◌+◌}
use Rattle.conform.proofs.check_samples.Goals as goal

pub loop-i-init : goal.loop-i-init
unfolding offset_of
loop-i-init c = (omega arith, omega arith, refl, reached-start _ _, answer-start _ _ _ _)

pub duration_at-requires : goal.duration_at-requires
unfolding row_count
duration_at-requires c = in_table c.args.table.now _ (omega arith)

pub overflow_add-end : goal.overflow_add-end
unfolding row_count
overflow_add-end c = omega (arith, few-rows _ _ c.requires.1)

pub returns-then-limit-end : goal.returns-then-limit-end
unfolding row_count
returns-then-limit-end c = c.refused.ensures ∙ ap answered (sym (answer-past _ _ _ _ _ _ _ (omega arith) (ap (λ (d : ℕ). c.loop-i.begin + d) (c.from.ensures ∙ c.duration_at.ensures.0)) (rw (← c.tick_of-limit.ensures.0) c.if-limit-end.true)) ∙ c.loop-i.invariant.4)

pub size_at-requires : goal.size_at-requires
unfolding row_count
size_at-requires c = in_table c.args.table.now _ (omega arith)

pub overflow_add-after : goal.overflow_add-after
unfolding row_count
overflow_add-after c = omega (arith, row_inside _ _ c.loop-i.i c.requires.1 (omega arith), c.size_at.ensures.0)

pub move_window-window-requires : goal.move_window-window-requires
move_window-window-requires c = (omega arith, c.loop-i.invariant.3, sound-rises _ _ _ _ c.requires.0)

pub slice_bounds-match_sample-end : goal.slice_bounds-match_sample-end
unfolding row_count
slice_bounds-match_sample-end c = omega (arith, row_inside _ _ c.loop-i.i c.requires.1 (omega arith), c.size_at.ensures.0)

pub match_sample-requires : goal.match_sample-requires
match_sample-requires c = (sound-pooled _ _ _ _ c.requires.0, c.move_window-window.ensures)

pub returns-then-not-match_sample : goal.returns-then-not-match_sample
unfolding row_count part
returns-then-not-match_sample c =
    let held : let a = c.args in
    c.match_sample.result ≡ matches (cues_of a.scale a.records.now a.pool.now) c.loop-i.begin (c.loop-i.begin + c.from.result) (sample_cues (bytes_of a.table.now a.samples.now c.loop-i.i)) = c.match_sample.ensures
    ∙ ap (λ (l : List ℕ). matches (cues_of c.args.scale c.args.records.now c.args.pool.now) c.loop-i.begin (c.loop-i.begin + c.from.result) (sample_cues l)) (sym (bytes-at c.args.table.now c.args.samples.now c.loop-i.i c.loop-i.at c.size_at.result c.loop-i.invariant.2 c.size_at.ensures.0)) in
    c.refused-then-not-match_sample.ensures ∙ ap answered (sym (answer-wrong _ _ _ _ _ _ _ (omega arith) (ap (λ (d : ℕ). c.loop-i.begin + d) (c.from.ensures ∙ c.duration_at.ensures.0)) (rw (← c.tick_of-limit.ensures.0) c.if-limit-end.false) (sym c.if-not-match_sample.true ∙ held)) ∙ c.loop-i.invariant.4)

pub loop-i-preserved : goal.loop-i-preserved
unfolding row_count part
loop-i-preserved c =
    let held : let a = c.args in
    c.match_sample.result ≡ matches (cues_of a.scale a.records.now a.pool.now) c.loop-i.begin (c.loop-i.begin + c.from.result) (sample_cues (bytes_of a.table.now a.samples.now c.loop-i.i)) = c.match_sample.ensures
    ∙ ap (λ (l : List ℕ). matches (cues_of c.args.scale c.args.records.now c.args.pool.now) c.loop-i.begin (c.loop-i.begin + c.from.result) (sample_cues l)) (sym (bytes-at c.args.table.now c.args.samples.now c.loop-i.i c.loop-i.at c.size_at.result c.loop-i.invariant.2 c.size_at.ensures.0)) in
    let a = c.args in
    let b = c.loop-i.begin in
    let q = ap (λ (d : ℕ). b + d) (c.from.ensures ∙ c.duration_at.ensures.0) in
    let on = answer-on (cues_of a.scale a.records.now a.pool.now) (tick a.scale a.t) a.table.now a.samples.now b (b + c.from.result) c.loop-i.i (omega arith) q (rw (← c.tick_of-limit.ensures.0) c.if-limit-end.false) (sym c.if-not-match_sample.false ∙ held) in
    (omega arith, omega arith, rw (add-one, offset-suc _ _) (omega (arith, c.size_at.ensures.0, c.loop-i.invariant.2)), reached-on _ _ _ _ (omega arith) c.move_window-window.ensures, sym on ∙ c.loop-i.invariant.4)

pub returns-then-begin-limit : goal.returns-then-begin-limit
unfolding row_count
returns-then-begin-limit c = c.refused-then-begin-limit.ensures ∙ ends-short _ _ _ _ _ _ c.loop-i.invariant.0 (omega arith) (omega (arith, c.tick_of-limit.ensures.0)) c.loop-i.invariant.4

pub returns : goal.returns
unfolding row_count
returns c = ends-well _ _ _ _ _ _ (omega arith) (omega (arith, c.tick_of-limit.ensures.0)) c.loop-i.invariant.4
