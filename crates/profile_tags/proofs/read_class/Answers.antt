-- One byte of the class, then the others.
use mathlib.Core.Path.{refl, sym, ◌∙◌}
use Rattle.profile.proofs.Readings.{r-end}
use Rattle.profile_tags.specs.Terms.{Head}
use Rattle.profile_tags.proofs.Heads.{dot-dead, dot-class}
use Rattle.profile_tags.proofs.read_class.Goals as goal
use Rattle.profile_tags.proofs.read_class.Goals.{then-at-s-via-then-at-s, then-at-s-via-else-at-s+then-not-is_class}

pub returns-then-at-s : goal.returns-then-at-s
returns-then-at-s c = elim c.then-at-s.branch [
  | then-at-s-via-then-at-s w ↦ r-end Head _ _ _ _ w.if-at-s.true (λ x. refl)
  | then-at-s-via-else-at-s+then-not-is_class w ↦ dot-dead _ _ w.if-at-s.false (sym w.is_class.ensures ∙ w.if-not-is_class.true)
]

pub returns : goal.returns
returns c = dot-class _ _ c.if-at-s.false _ (sym c.is_class.ensures ∙ c.if-not-is_class.false) c.skip_class.ensures
