-- Decimal numbers: the digits of a number, and the number of digits.
use Rattle.std.specs.Prelude.{ℕ, zero, suc, ◌+◌, ◌-◌, ◌*◌, ◌/◌, ◌%◌, ◌^◌, ◌<◌, ◌≡◌, Bool, true, false, List, [], ◌∷◌, ◌++◌, ltb}

-- the last digit of n behind the digits before it; a number below 10 is its only digit
abbrev pub last_behind : Bool → ℕ → (Unit {0} → List ℕ) → List ℕ
last_behind true n front = (48 + n) ∷ []
last_behind false n front = front tt ++ (48 + n % 10) ∷ []

-- the digits of n, the highest first, where there are at most f
unfoldable pub digits : ℕ → ℕ → List ℕ
digits zero n = []
digits (suc f) n = last_behind (ltb n 10) n (λ _. digits f (n / 10))

-- the digits of a number below 10 ^ 20
unfoldable pub decimal : ℕ → List ℕ
unfolding digits
decimal n = digits 20 n

-- the number that v becomes with the digits behind it
unfoldable pub value_from : ℕ → List ℕ → ℕ
value_from v [] = v
value_from v (d ∷ ds) = value_from (v * 10 + (d - 48)) ds

-- the number of a list of digits
unfoldable pub value : List ℕ → ℕ
unfolding value_from
value ds = value_from 0 ds

-- the digits of a number, read again, give it back; proved in proofs/Decimal.antt
abbrev pub ValueDecimal : Type 0
ValueDecimal = (n : ℕ) → n < 10 ^ 20 → value (decimal n) ≡ n
