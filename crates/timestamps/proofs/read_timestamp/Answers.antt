-- `hh:mm:ss.mmm`, `mm:ss.mmm`, or other hours.
use Prim.Native.Nat.{ℕ}
use mathlib.Core.Path.{sym, ap, ◌∙◌}
use native.Mathlib.Omega.{arith}
use Rattle.timestamps.specs.Timestamp.{Ms}
use Rattle.timestamps.specs.Timestamps.{capped, answered}
use Rattle.timestamps.proofs.Laws.{nine-is, nine-not, not-nine, uncapped}
use Rattle.timestamps.proofs.read_timestamp.Goals as goal

pub returns-then-s-eq12 : goal.returns-then-s-eq12
returns-then-s-eq12 c = c.read_usual.ensures ∙ sym (ap answered (not-nine _ (λ e. omega (arith, c.if-s-eq12.true, e))))

pub returns-then-s-ne9 : goal.returns-then-s-ne9
returns-then-s-ne9 c = c.read_long.ensures ∙ sym (ap answered (not-nine _ c.if-s-ne9.true))

pub returns-then-not-is_minutes : goal.returns-then-not-is_minutes
returns-then-not-is_minutes c = sym (ap answered (nine-not _ c.if-s-ne9.false (sym c.is_minutes.ensures ∙ c.if-not-is_minutes.true)))

pub minutes_ms-requires : goal.minutes_ms-requires
minutes_ms-requires c = (omega (arith, c.if-s-ne9.false), sym c.is_minutes.ensures ∙ c.if-not-is_minutes.false)

pub returns : goal.returns
returns c =
    let m = c.minutes_ms.ensures in
    uncapped _ (omega (arith, m.1)) ∙ ap (λ (x : ℕ). Ms (capped x)) m.0
    ∙ sym (ap answered (nine-is _ c.if-s-ne9.false (sym c.is_minutes.ensures ∙ c.if-not-is_minutes.false)))
