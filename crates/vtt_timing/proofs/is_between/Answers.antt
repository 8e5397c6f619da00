-- `-->` and a blank, as far as there are bytes.
use mathlib.Core.Path.{sym, ◌∙◌}
use native.Mathlib.Omega.{arith}
use Rattle.vtt_timing.specs.Timing.{blank}
use Rattle.vtt_timing.proofs.Laws.{between-short, begins-at}
use Rattle.vtt_timing.proofs.is_between.Goals as goal

pub returns-then-l-i : goal.returns-then-l-i
returns-then-l-i c = sym (between-short c.args.l.now c.args.i (omega (arith, c.if-l-i.true)))

pub returns-then-l-i-lt4 : goal.returns-then-l-i-lt4
returns-then-l-i-lt4 c = sym (between-short c.args.l.now c.args.i c.if-l-i-lt4.true)

pub returns-then-not-is_arrow : goal.returns-then-not-is_arrow
returns-then-not-is_arrow c = rw (sym c.is_arrow.ensures ∙ c.if-not-is_arrow.true)

pub returns : goal.returns
returns c =
    rw (sym c.is_arrow.ensures ∙ c.if-not-is_arrow.false, begins-at blank c.args.l.now c.args.i (omega arith))
    c.is_blank.ensures
