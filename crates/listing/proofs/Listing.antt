-- How long the lines are at most.
use Prim.Native.Nat.{ℕ, ◌≤◌, ◌<◌}
use native.Mathlib.Omega.{arith}
use lib.ListN.{length, length-append}
use Rattle.decimal.proofs.Decimal.{decimal-short, decimal-length}
use Rattle.listing.specs.Listing.{pair_text, refusal_text}

-- how long the lines are at most
pub pair-short : (n m : ℕ) → n < 4294967296 → m < 4294967296 → length (pair_text n m) ≤ 22
unfolding pair_text
pair-short n m h k = simp length-append (omega (arith, decimal-short n h, decimal-short m k))

pub refusal-short : (n m : ℕ) → n < 4294967296 → length (refusal_text n m) ≤ 40
unfolding refusal_text
refusal-short n m h = simp length-append (omega (arith, decimal-short n h, decimal-length m))
