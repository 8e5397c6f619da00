-- Hours, a colon and `mm:ss.mmm`, test by test.
use mathlib.Core.Path.{sym, ap, ◌∙◌}
use native.Mathlib.Omega.{arith}
use Rattle.timestamps.specs.Timestamps.{digit, answered}
use Rattle.timestamps.proofs.Laws.{front-most, few-digits, other_length, no-colon, no-minutes, long-is, long-capped}
use Rattle.timestamps.proofs.read_long.Goals as goal

pub returns-then-n-lt2 : goal.returns-then-n-lt2
returns-then-n-lt2 c = sym (ap answered (few-digits _ _ c.read_digits-hours.ensures.0 c.if-n-lt2.true))

pub overflow_sub-s : goal.overflow_sub-s
overflow_sub-s c = omega (arith, c.read_digits-hours.ensures.0, front-most digit c.args.s.now)

pub returns-then-s-n-ne10 : goal.returns-then-s-n-ne10
returns-then-s-n-ne10 c = sym (ap answered (other_length _ _ c.read_digits-hours.ensures.0 c.if-s-n-ne10.true))

pub returns-then-s-n-ne58 : goal.returns-then-s-n-ne58
returns-then-s-n-ne58 c = sym (ap answered (no-colon _ _ c.read_digits-hours.ensures.0 c.if-s-n-ne10.false c.if-s-n-ne58.true))

pub returns-then-not-is_minutes : goal.returns-then-not-is_minutes
returns-then-not-is_minutes c = sym (ap answered (no-minutes _ _ c.read_digits-hours.ensures.0 c.if-s-n-ne10.false (sym c.is_minutes.ensures ∙ c.if-not-is_minutes.true)))

pub minutes_ms-requires : goal.minutes_ms-requires
minutes_ms-requires c =
    (omega (arith, c.if-s-n-ne10.false), sym c.is_minutes.ensures ∙ c.if-not-is_minutes.false)

pub returns : goal.returns
returns c =
    let hours = c.read_digits-hours.ensures in
    c.capped_ms.ensures ∙ long-capped _ _ _ _ hours.1 c.minutes_ms.ensures.0
    ∙ sym (ap answered (long-is _ _ hours.0 c.if-s-n-ne10.false c.if-n-lt2.false c.if-s-n-ne58.false (sym c.is_minutes.ensures ∙ c.if-not-is_minutes.false)))
