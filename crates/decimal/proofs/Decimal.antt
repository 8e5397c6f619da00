-- Laws of decimal numbers.
use Prim.Native.Nat.{ℕ, zero, suc, ◌+◌, ◌-◌, ◌*◌, ◌/◌, ◌%◌, ◌^◌, ◌≤◌, ◌<◌}
use mathlib.Core.Path.{◌≡◌, refl, sym, ap, ◌∙◌}
use mathlib.Core.Bool.{Bool}
use mathlib.Core.List.{List, [], ◌∷◌, ◌++◌}
use native.Mathlib.Omega.{arith}
use native.Mathlib.Nat.{pow-suc}
use lib.Dec.{ltb}
use lib.ListN.{length, length-append}
use borrow.Author.Tests.{lt-ltb, le-ltb}
use Rattle.base.proofs.Choice.{by-test}
use Rattle.decimal.specs.Decimal.{last_behind, digits, decimal, value_from, value, ValueDecimal}

digits-enough : (f n : ℕ) → n < 10 ^ suc f → digits (suc (suc f)) n ≡ digits (suc f) n
unfolding digits
digits-enough zero n h = rw (lt-ltb n 10 (omega arith))
digits-enough (suc f) n h =
    by-test (ltb n 10) (λ e. rw e)
    (λ e. let k : n < 10 ^ suc f * 10 = rw pow-suc at h in ap (λ (x : List ℕ). last_behind (ltb n 10) n (λ _. x)) (digits-enough f (n / 10) (omega arith)))

-- the equation with no bound in it
pub decimal-is : (n : ℕ) → n < 10 ^ 20 → decimal n ≡ last_behind (ltb n 10) n (λ _. decimal (n / 10))
unfolding decimal digits
decimal-is n h = ap (λ (x : List ℕ). last_behind (ltb n 10) n (λ _. x)) (sym (digits-enough 18 (n / 10) (omega arith)))

pub decimal-one : (n : ℕ) → n < 10 → decimal n ≡ (48 + n) ∷ []
unfolding decimal digits
decimal-one n h = rw (lt-ltb n 10 h)

pub decimal-more : (n : ℕ) → 10 ≤ n → n < 10 ^ 20 → decimal n ≡ decimal (n / 10) ++ (48 + n % 10) ∷ []
decimal-more n h k = decimal-is n k ∙ ap (λ (b : Bool). last_behind b n (λ _. decimal (n / 10))) (le-ltb n 10 h)

pub value-append : (v : ℕ) (a b : List ℕ) → value_from v (a ++ b) ≡ value_from (value_from v a) b
unfolding value_from
value-append v [] b = refl
value-append v (d ∷ a) b = value-append (v * 10 + (d - 48)) a b

digits_value : (f n : ℕ) → n < 10 ^ f → value_from 0 (digits f n) ≡ n
unfolding digits value_from
digits_value zero n h = omega arith
digits_value (suc f) n h =
    let k : n < 10 ^ f * 10 = rw pow-suc at h in
    let r = digits_value f (n / 10) (omega arith) in
    by-test (ltb n 10) (λ e. rw e (omega arith))
    (λ e. rw (e, value-append 0 (digits f (n / 10)) ((48 + n % 10) ∷ []), r) (omega arith))

pub value-decimal : ValueDecimal
unfolding value decimal
value-decimal n h = digits_value 20 n h

digits-length : (f n : ℕ) → length (digits f n) ≤ f
unfolding digits
digits-length zero n = omega arith
digits-length (suc f) n =
    let r = digits-length f (n / 10) in
    by-test (ltb n 10) (λ e. rw e (omega arith)) (λ e. rw (e, length-append) (omega arith))

digits-short : (f g n : ℕ) → n < 10 ^ suc g → length (digits f n) ≤ suc g
unfolding digits
digits-short zero g n h = omega arith
digits-short (suc f) zero n h = rw (lt-ltb n 10 (omega arith)) (omega arith)
digits-short (suc f) (suc g) n h =
    let k : n < 10 ^ suc g * 10 = rw pow-suc at h in
    let r = digits-short f g (n / 10) (omega arith) in
    by-test (ltb n 10) (λ e. rw e (omega arith)) (λ e. rw (e, length-append) (omega arith))

-- how many digits there are at most
pub decimal-length : (n : ℕ) → length (decimal n) ≤ 20
unfolding decimal
decimal-length n = digits-length 20 n

pub decimal-short : (n : ℕ) → n < 4294967296 → length (decimal n) ≤ 10
unfolding decimal
decimal-short n h = digits-short 20 9 n (omega arith)

pub decimal-some : (n : ℕ) → 1 ≤ length (decimal n)
unfolding decimal digits
decimal-some n = by-test (ltb n 10) (λ e. rw e (omega arith)) (λ e. rw (e, length-append) (omega arith))
