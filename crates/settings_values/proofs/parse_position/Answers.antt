-- The value up to the first comma, and the alignment behind it.
use mathlib.Core.Path.{sym, ◌∙◌}
use lib.Seq.{length-take-le}
use Rattle.settings_values.proofs.Laws.{position-plain, position-edged}
use native.Mathlib.Omega.{arith}
use Rattle.settings_values.proofs.parse_position.Goals as goal

pub slice_bounds-read_percent-end : goal.slice_bounds-read_percent-end
slice_bounds-read_percent-end c = sym (length-take-le c.find_comma-k.result c.args.s.now c.find_comma-k.ensures.1)

pub returns-then-k-s : goal.returns-then-k-s
returns-then-k-s c = c.position_with.ensures ∙ position-plain _ _ c.find_comma-k.ensures.0 _ c.read_percent-at.ensures c.if-k-s.true

pub returns : goal.returns
returns c = c.align_position.ensures ∙ position-edged _ _ c.find_comma-k.ensures.0 _ c.read_percent-at.ensures (omega (arith, c.find_comma-k.ensures.1, c.if-k-s.false))
