use Prim.Native.Nat.{ℕ, ◌-◌}
use mathlib.Core.Path.{◌≡◌, sym, ap, ◌∙◌, subst, subst⁻¹}
use Rattle.std.proofs.Common.{Ok}
use Rattle.base.proofs.Results.{passed_on}
use Rattle.gather.specs.Took.{Took}
use Rattle.wvtt_cues.specs.Cues.{sample_cues}
use lib.ListN.{length}
use Rattle.wvtt_cues.specs.Walk.{Next, Inside}
use Rattle.wvtt_cues.proofs.Walk.{next-means, next-none}
use Rattle.wvtt_cues.specs.Cues.{held_by}
use Rattle.timeline.specs.Joining.{take_body, all_taken}
use Rattle.boxes.specs.Boxes.{part}
use Rattle.rows.proofs.Laws.{held_moved, placed-moved}
use Rattle.rows.specs.Table.{Placed, known, body_at, new_row}
use Rattle.rows.specs.declared.Row.{Row}
use Rattle.gather.specs.Gathering.{taking_of, Settled}
use Rattle.gather.proofs.Walking.{length_part, all_held, take-end, take_more, take-stop}
use native.Mathlib.Omega.{arith}
use Rattle.gather.proofs.take_sample.Goals as goal

pub loop-held-init : goal.loop-held-init
loop-held-init c = (c.requires.0, c.requires.1, c.requires.2, ap (all_taken _ _ _ 0) (all_held _))

pub returns-in_default : goal.returns-in_default
unfolding part
returns-in_default c = let l = c.loop-held in
    (take-end _ _ _ _ _ _ l.invariant.3 (next-none _ _ _ (sym c.in_default.is ∙ c.next_cue.ensures) tt), (l.invariant.0, l.invariant.2))

pub returns-in_default-held : goal.returns-in_default-held
unfolding part
returns-in_default-held c = let l = c.loop-held in
    (take-end _ _ _ _ _ _ l.invariant.3 (next-none _ _ _ (sym (c.in-Ok.is ∙ ap Ok c.in_default-held.is) ∙ c.next_cue.ensures) tt), (l.invariant.0, l.invariant.2))

pub new_row-y-requires : goal.new_row-y-requires
unfolding part
new_row-y-requires c =
    let got : let a = c.args in Next (part a.samples.now a.at a.end) c.loop-held.from c.in-Some.parts c.in-Some.next = next-means _ _ _ (sym (c.in-Ok.is ∙ ap Ok c.in-Some.is) ∙ c.next_cue.ensures) in
    let inside : let a = c.args in Inside (a.end - a.at) c.in-Some.parts = let a = c.args in
    subst (λ (l : ℕ). Inside l c.in-Some.parts) (length_part a.samples.now a.at a.end c.requires.3 c.requires.4) (got).inside in
    let w = inside in omega (arith, w.identifier.order, w.identifier.inside, w.settings.order, w.settings.inside, w.payload.order, w.payload.inside, c.requires.3, c.requires.4)

pub take_cue-requires : goal.take_cue-requires
unfolding part
take_cue-requires c =
    let got : let a = c.args in Next (part a.samples.now a.at a.end) c.loop-held.from c.in-Some.parts c.in-Some.next = next-means _ _ _ (sym (c.in-Ok.is ∙ ap Ok c.in-Some.is) ∙ c.next_cue.ensures) in
    let inside : let a = c.args in Inside (a.end - a.at) c.in-Some.parts = let a = c.args in
    subst (λ (l : ℕ). Inside l c.in-Some.parts) (length_part a.samples.now a.at a.end c.requires.3 c.requires.4) (got).inside in
    let l = c.loop-held in let a = c.args in
    (l.invariant.0, l.invariant.1, l.invariant.2, subst (Placed (length a.samples.now)) (sym c.new_row-y.ensures) (placed-moved a.at a.end (length a.samples.now) a.b a.e _ c.requires.3 c.requires.4 (inside)))

pub returns-in_err-more : goal.returns-in_err-more
unfolding part new_row
returns-in_err-more c =
    let got : let a = c.args in Next (part a.samples.now a.at a.end) c.loop-held.from c.in-Some.parts c.in-Some.next = next-means _ _ _ (sym (c.in-Ok.is ∙ ap Ok c.in-Some.is) ∙ c.next_cue.ensures) in
    let inside : let a = c.args in Inside (a.end - a.at) c.in-Some.parts = let a = c.args in
    subst (λ (l : ℕ). Inside l c.in-Some.parts) (length_part a.samples.now a.at a.end c.requires.3 c.requires.4) (got).inside in
    let step : let a = c.args in let l = c.loop-held in
    taking_of a.samples.now c.take_cue.new.tab c.take_cue.result
    ≡ take_body a.b a.e (known a.samples.now l.tab l.count) l.k (held_by (part a.samples.now a.at a.end) c.in-Some.parts) = let a = c.args in let l = c.loop-held in
    c.take_cue.ensures.0
    ∙ ap (λ (y : Row). take_body y.start y.end (known a.samples.now l.tab l.count) l.k (body_at a.samples.now c.in-Some.parts.named y)) c.new_row-y.ensures
    ∙ ap (take_body a.b a.e (known a.samples.now l.tab l.count) l.k) (sym (held_moved a.samples.now a.at a.end a.b a.e c.in-Some.parts c.requires.3 (inside))) in
    let l = c.loop-held in let a = c.args in
    subst⁻¹ (λ (t : Took). (taking_of a.samples.now c.take_cue.new.tab t ≡ all_taken a.b a.e (known a.samples.now a.tab.now a.n) 0 (sample_cues (part a.samples.now a.at a.end))) × Settled (length a.samples.now) c.take_cue.new.tab t) (passed_on _ _ c.from_residual.ensures)
    (take-stop _ _ _ _ _ _ l.invariant.3 _ _ (got).held _ (sym (ap (taking_of _ _) c.in_err-more.was) ∙ step), tt)

pub loop-held-smaller : goal.loop-held-smaller
unfolding part
loop-held-smaller c =
    let got : let a = c.args in Next (part a.samples.now a.at a.end) c.loop-held.from c.in-Some.parts c.in-Some.next = next-means _ _ _ (sym (c.in-Ok.is ∙ ap Ok c.in-Some.is) ∙ c.next_cue.ensures) in
    let w = got in omega (arith, w.on, w.within, length_part c.args.samples.now c.args.at c.args.end c.requires.3 c.requires.4)

pub loop-held-preserved : goal.loop-held-preserved
unfolding part new_row
loop-held-preserved c =
    let got : let a = c.args in Next (part a.samples.now a.at a.end) c.loop-held.from c.in-Some.parts c.in-Some.next = next-means _ _ _ (sym (c.in-Ok.is ∙ ap Ok c.in-Some.is) ∙ c.next_cue.ensures) in
    let inside : let a = c.args in Inside (a.end - a.at) c.in-Some.parts = let a = c.args in
    subst (λ (l : ℕ). Inside l c.in-Some.parts) (length_part a.samples.now a.at a.end c.requires.3 c.requires.4) (got).inside in
    let step : let a = c.args in let l = c.loop-held in
    taking_of a.samples.now c.take_cue.new.tab c.take_cue.result
    ≡ take_body a.b a.e (known a.samples.now l.tab l.count) l.k (held_by (part a.samples.now a.at a.end) c.in-Some.parts) = let a = c.args in let l = c.loop-held in
    c.take_cue.ensures.0
    ∙ ap (λ (y : Row). take_body y.start y.end (known a.samples.now l.tab l.count) l.k (body_at a.samples.now c.in-Some.parts.named y)) c.new_row-y.ensures
    ∙ ap (take_body a.b a.e (known a.samples.now l.tab l.count) l.k) (sym (held_moved a.samples.now a.at a.end a.b a.e c.in-Some.parts c.requires.3 (inside))) in
    let l = c.loop-held in let w = subst (Settled _ _) (c.in_ok-more.was) c.take_cue.ensures.1 in
    (w.0, omega arith, w.1, take_more _ _ _ _ _ _ l.invariant.3 _ _ (got).held _ _ (sym (ap (taking_of _ _) c.in_ok-more.was) ∙ step))
