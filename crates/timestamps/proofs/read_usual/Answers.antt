-- Hours of two digits, and `mm:ss.mmm`: below 100 hours.
use Prim.Native.Nat.{ℕ, ◌+◌, ◌*◌}
use mathlib.Core.Path.{sym, ap, ap₂, ◌∙◌}
use native.Mathlib.Omega.{arith}
use Rattle.timestamps.specs.Timestamp.{Ms}
use Rattle.timestamps.specs.Timestamps.{COLON, capped, answered}
use Rattle.timestamps.proofs.Laws.{pair-first, pair-second, usual-not, usual-no-minutes, usual-is, uncapped}
use Rattle.timestamps.proofs.read_usual.Goals as goal

pub returns-then-not-is_pair : goal.returns-then-not-is_pair
returns-then-not-is_pair c = sym (ap answered (usual-not _ c.requires (sym c.is_pair.ensures ∙ c.if-not-is_pair.true)))

pub returns-then-not-is_minutes : goal.returns-then-not-is_minutes
returns-then-not-is_minutes c =
    let p = sym c.is_pair.ensures ∙ c.if-not-is_pair.false in
    sym (ap answered (usual-no-minutes _ c.requires p (sym c.is_minutes.ensures ∙ c.if-not-is_minutes.true)))

pub two_digits-requires : goal.two_digits-requires
two_digits-requires c =
    let p = sym c.is_pair.ensures ∙ c.if-not-is_pair.false in
    let s = c.args.s.now in
    (omega (arith, c.requires), pair-first s 0 57 COLON (omega arith) p, pair-second s 0 57 COLON (omega arith) p)

pub minutes_ms-requires : goal.minutes_ms-requires
minutes_ms-requires c = (omega (arith, c.requires), sym c.is_minutes.ensures ∙ c.if-not-is_minutes.false)

pub returns : goal.returns
returns c =
    let p = sym c.is_pair.ensures ∙ c.if-not-is_pair.false in
    let m = sym c.is_minutes.ensures ∙ c.if-not-is_minutes.false in
    let h = c.two_digits.ensures in
    let q = c.minutes_ms.ensures in
    uncapped _ (omega (arith, h.1, q.1))
    ∙ ap₂ (λ (x y : ℕ). Ms (capped (x * 3600000 + y))) h.0 q.0
    ∙ sym (ap answered (usual-is _ c.requires p m))
