-- What stands behind the whole percents, and the limit.
use mathlib.Core.Path.{sym, ap, ◌∙◌}
use Rattle.timestamps.specs.Timestamps.{digit}
use Rattle.timestamps.proofs.Laws.{front-most}
use Rattle.settings_values.proofs.Laws.{no-percents, no-decimals, too_much, percent-is}
use Rattle.settings_values.specs.Terms.{percent_or}
use native.Mathlib.Omega.{arith}
use Rattle.settings_values.proofs.end_percent.Goals as goal

pub returns-then-n-eq0 : goal.returns-then-n-eq0
returns-then-n-eq0 c = sym (no-percents _ _ _ c.requires.0 c.requires.1 c.if-n-eq0.true)

pub slice_bounds-read_decimals-count : goal.slice_bounds-read_decimals-count
slice_bounds-read_decimals-count c = omega (arith, c.requires.0, front-most digit c.args.s.now)

pub slice_bounds-read_decimals-start : goal.slice_bounds-read_decimals-start
slice_bounds-read_decimals-start c = omega (arith, c.requires.0, front-most digit c.args.s.now)

pub returns-in_err-h : goal.returns-in_err-h
returns-in_err-h c = rw c.from_residual.ensures (sym (no-decimals _ _ _ c.requires.0 c.requires.1 c.if-n-eq0.false (sym c.read_decimals.ensures ∙ ap percent_or c.in_err-h.was)))

pub returns-then-p-gt10000 : goal.returns-then-p-gt10000
returns-then-p-gt10000 c = sym (too_much _ _ _ c.requires.0 c.requires.1 c.if-n-eq0.false _ (sym c.read_decimals.ensures ∙ ap percent_or c.in_ok-h.was) c.if-p-gt10000.true)

pub returns : goal.returns
returns c = sym (percent-is _ _ _ c.requires.0 c.requires.1 c.if-n-eq0.false _ (sym c.read_decimals.ensures ∙ ap percent_or c.in_ok-h.was) c.if-p-gt10000.false)
