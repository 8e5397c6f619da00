-- The blocks stay the same.
use Prim.Native.Nat.{◌≤◌}
use mathlib.Core.Path.{◌≡◌, refl, subst⁻¹}
use Rattle.vtt_read.specs.declared.State.{State}
use Rattle.vtt_read.specs.Steps.{Stands}
use Rattle.vtt_read.proofs.States.{skip-on}
use Rattle.vtt_read.proofs.skipped.Goals as goal

pub returns : goal.returns
returns c =
    let a = c.args in
    let e = c.pass_empty-c.ensures in
    subst⁻¹ (λ (x : State). Stands a.s.now x × (a.state.at ≤ x.at) × (x.count ≡ a.state.count)) c.moved.ensures
    (skip-on _ _ c.requires _ _ e, e.onward, refl)
