-- `times::timeline_allowed` meets its contract, test by test.
use mathlib.Core.Path.{◌≡◌, sym, ap, ◌∙◌}
use mathlib.Core.Bool.{true, false}
use Rattle.base.specs.Choice.{within}
use Rattle.times.specs.Times.{timeline_allowed}
use Rattle.times.proofs.timeline_allowed.Goals as goal
use Rattle.times.proofs.timeline_allowed.Goals.{then-scale_allowed, else-scale_allowed}

pub returns-then-is_within : goal.returns-then-is_within
unfolding timeline_allowed
returns-then-is_within c = elim c.if-scale_allowed.branch [
  | then-scale_allowed w ↦
      let m : within 1 359999999 c.args.t ≡ true = sym (w.is_within.ensures ∙ ap (within 1 359999999) w.from.ensures) ∙ sym w.value-is ∙ c.if-is_within.true in
      simp (← c.scale_allowed.ensures, w.if-scale_allowed.true, m, ← c.tick_of.ensures.0, ← c.is_within-then-is_within.ensures)
  | else-scale_allowed w ↦ cc
]

pub returns-else-is_within : goal.returns-else-is_within
unfolding timeline_allowed
returns-else-is_within c = elim c.if-scale_allowed.branch [
  | then-scale_allowed w ↦
      let m : within 1 359999999 c.args.t ≡ false = sym (w.is_within.ensures ∙ ap (within 1 359999999) w.from.ensures) ∙ sym w.value-is ∙ c.if-is_within.false in
      simp (c.if-is_within.false, ← c.scale_allowed.ensures, w.if-scale_allowed.true, m)
  | else-scale_allowed w ↦ simp (w.value-is, ← c.scale_allowed.ensures, w.if-scale_allowed.false)
]
