-- A cue is counted where there are bytes.
use Prim.Native.Nat.{ℕ, ◌+◌}
use mathlib.Core.Bool.{Bool, true, false}
use mathlib.Core.Path.{◌≡◌}
use native.Mathlib.Omega.{arith}
use lib.Dec.{ltb}
use mir.Val.{bool_byte}
use Rattle.tx3g_convert.specs.Convert.{counting}
use Rattle.tx3g_convert.proofs.behind.Goals as goal

counting-is : (t : Bool) (k : ℕ) → k + bool_byte t ≡ counting t k
counting-is true k = omega arith
counting-is false k = omega arith

pub returns : goal.returns
returns c = rw (c.from.ensures, counting-is (ltb 0 c.args.n) c.args.state.cues)
