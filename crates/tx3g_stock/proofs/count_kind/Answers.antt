-- By the test.
use Prim.Native.Nat.{ℕ, ◌+◌}
use mathlib.Core.Bool.{Bool, true, false}
use mathlib.Core.Path.{◌≡◌, refl, ap, ◌∙◌}
use mir.Val.{bool_byte}
use Rattle.base.specs.Choice.{pick}
use Rattle.tx3g_stock.proofs.count_kind.Goals as goal

one-if : (b : Bool) → bool_byte b ≡ pick b 1 0
one-if true = refl
one-if false = refl

pub returns : goal.returns
returns c = ap (λ (x : ℕ). c.args.n + x) (c.from.ensures ∙ one-if _)
