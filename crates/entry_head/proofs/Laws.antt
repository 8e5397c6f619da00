-- A head with no fault, and that an entry with one has its fixed bytes.
use Prim.Native.Nat.{ℕ, ◌≤◌}
use mathlib.Core.Path.{◌≡◌, refl}
use mathlib.Core.Bool.{Bool, true, false}
use mathlib.Core.List.{List}
use lib.Dec.{ltb}
use lib.ListN.{length}
use borrow.Author.Tests.{ltb-false, le-ltb, eq-eqb}
use Rattle.base.specs.Choice.{any_of}
use Rattle.base.proofs.Choice.{true-false}
use Rattle.verdict.specs.Verdict.{Fine}
use Rattle.verdict.specs.Judgement.{◌gives◌at◌}
use Rattle.verdict.proofs.Judgement.{both-fine, not-given}
use Rattle.fields.specs.BigEndian.{be}
use Rattle.entry_head.specs.Head.{judge_head}

neither : (a b : Bool) → any_of a b ≡ false → a ≡ false
neither true b e = true-false true refl e
neither false b e = refl

pub head_fixed : (e : List ℕ) (fixed kind : ℕ) → judge_head e fixed kind ≡ Fine → fixed ≤ length e
unfolding judge_head
head_fixed e fixed kind h =
    let a = ltb (length e) fixed in
    let b = ltb (length e) (be 4 e 0) in
    let w = both-fine (any_of a b gives 1 at 0) _ h in
    ltb-false (length e) fixed (neither a b (not-given (any_of a b) 1 0 w.0))

-- a head with no fault
pub head-fine : (e : List ℕ) (fixed kind : ℕ) → fixed ≤ length e → be 4 e 0 ≤ length e → fixed ≤ be 4 e 0 → length e ≤ be 4 e 0 → be 4 e 4 ≡ kind
    → Fine ≡ judge_head e fixed kind
unfolding judge_head
head-fine e fixed kind h k l m n = rw (le-ltb (length e) fixed h, le-ltb (length e) (be 4 e 0) k, le-ltb (be 4 e 0) fixed l, le-ltb (be 4 e 0) (length e) m, eq-eqb (be 4 e 4) kind n)
