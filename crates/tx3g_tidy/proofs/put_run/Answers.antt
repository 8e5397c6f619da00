-- A copy, or nothing.
use Prim.Native.Nat.{ℕ, ◌+◌, ◌-◌}
use mathlib.Core.Path.{◌≡◌}
use mathlib.Core.List.{List}
use native.Mathlib.Omega.{arith}
use Rattle.base.specs.Over.{wrote}
use Rattle.base.proofs.Over.{wrote-nil}
use Rattle.boxes.specs.Boxes.{part}
use Rattle.tx3g_tidy.proofs.put_run.Goals as goal

none : (d s : List ℕ) (at from n : ℕ) → n ≡ 0 → d ≡ wrote d at (part s from (from + n))
unfolding part
none d s at from n e = let z : from + n - from ≡ 0 = omega arith in rw z (wrote-nil d at)

pub returns-else-n-gt0 : goal.returns-else-n-gt0
returns-else-n-gt0 c = let a = c.args in none a.out.now a.text.now a.at a.from a.n (omega arith)
