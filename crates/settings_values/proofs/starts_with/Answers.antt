-- A text that is long enough, and agrees.
use mathlib.Core.Path.{refl}
use mathlib.Core.Bool.{false}
use Rattle.base.proofs.Choice.{true-false}
use Rattle.settings_values.proofs.Laws.{shorter-not}
use Rattle.settings_values.proofs.starts_with.Goals as goal

pub returns-then-s-p : goal.returns-then-s-p
returns-then-s-p c = (shorter-not _ _ c.if-s-p.true, λ t. true-false false t refl)

pub returns : goal.returns
returns c = (c.agrees.ensures, λ t. c.if-s-p.false)
