-- A term of the contracts of private functions: the rank of a number of 16 bits. A reader need not believe it: `order_is` says that its order is that of
-- signed numbers.
use Rattle.std.specs.Prelude.{ℕ, ◌+◌, ◌-◌, ◌<◌, ◌≡◌, ltb, leb}
use Rattle.std.specs.Int.Signed.{le_z}
use Rattle.base.specs.Choice.{pick}
use Rattle.signed.specs.Signed.{signed16}

-- how many numbers of 16 bits are smaller, as signed numbers
unfoldable pub shift16 : ℕ → ℕ
shift16 v = pick (ltb v 32768) (v + 32768) (v - 32768)

-- numbers are in the order of their ranks; proved in proofs/Laws.antt
abbrev pub OrderIs : Type 0
OrderIs = (a b : ℕ) → a < 65536 → b < 65536 → le_z (signed16 a) (signed16 b) ≡ leb (shift16 a) (shift16 b)
