-- Big-endian numbers of any width: one of v + w bytes is its first v bytes, weighed by the width of the rest, and the rest.
use Prim.Native.Nat.{ℕ, zero, suc, ◌+◌, ◌*◌, ◌^◌}
use mathlib.Core.Path.{◌≡◌}
use mathlib.Core.List.{List}
use native.Mathlib.Omega.{arith}
use native.Mathlib.Nat.{add-zero, add-suc, add_assoc, pow-suc}
use Rattle.fields.specs.BigEndian.{be}

pub be-add : (v w : ℕ) (s : List ℕ) (at : ℕ) → be (v + w) s at ≡ be v s at * 256 ^ w + be w s (at + v)
unfolding be
be-add v zero s at = rw add-zero (omega arith)
be-add v (suc w) s at = rw (add-suc, be, be-add v w s at, pow-suc, add_assoc) (omega arith)
