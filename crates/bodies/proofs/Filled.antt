-- A content that fills its body ends where the body ends.
use Prim.Native.Nat.{ℕ}
use mathlib.Core.Path.{◌≡◌, refl}
use mathlib.Core.Bool.{Bool, true, false}
use native.Mathlib.Omega.{arith}
use native.Mathlib.Nat.{le_antisymm}
use lib.Dec.{ltb}
use borrow.Author.Tests.{ltb-false}
use Rattle.verdict.specs.Verdict.{Fine}
use Rattle.verdict.specs.Judgement.{◌gives◌at◌}
use Rattle.verdict.proofs.Judgement.{both-fine}
use Rattle.bodies.specs.Bodies.{filled}

-- a judgement that says nothing
pub fine-false : (t : Bool) (n p : ℕ) → t gives n at p ≡ Fine → t ≡ false
fine-false true n p e = let z : ◌≡◌ {A = ℕ} 0 1 = cc in absurd (omega arith)
fine-false false n p e = refl

pub filled-fine : (p e n : ℕ) → filled p e n ≡ Fine → e ≡ n
unfolding filled
filled-fine p e n h =
    let w = both-fine (ltb n e gives 1 at p) (ltb e n gives 2 at p) h in
    le_antisymm (ltb-false n e (fine-false (ltb n e) 1 p w.0)) (ltb-false e n (fine-false (ltb e n) 2 p w.1))
