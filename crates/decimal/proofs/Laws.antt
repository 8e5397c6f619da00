-- Laws for writing the digits of a number: the only one, or the last behind those before it.
use Prim.Native.Nat.{ℕ, ◌+◌, ◌/◌, ◌%◌, ◌≤◌, ◌<◌, ◌^◌}
use mathlib.Core.Path.{◌≡◌, sym, ap, ◌∙◌}
use mathlib.Core.List.{List, [], ◌∷◌}
use native.Mathlib.Omega.{arith}
use lib.ListN.{length, set, length-append}
use Rattle.base.specs.Over.{wrote}
use Rattle.base.proofs.Over.{wrote-more, sets-wrote, length-wrote}
use Rattle.decimal.specs.Decimal.{decimal}
use Rattle.decimal.proofs.Decimal.{decimal-one, decimal-more}

pub length-one : (n : ℕ) → n < 10 → length (decimal n) ≡ 1
length-one n h = rw (decimal-one n h)

pub length_more : (n : ℕ) → 10 ≤ n → n < 10 ^ 20 → length (decimal n) ≡ length (decimal (n / 10)) + 1
length_more n h k = ap length (decimal-more n h k) ∙ length-append (decimal (n / 10)) ((48 + n % 10) ∷ [])

pub one-digit : (d : List ℕ) (at n : ℕ) → n < 10 → at < length d → set d at (48 + n) ≡ wrote d at (decimal n)
one-digit d at n h k = sets-wrote d at ((48 + n) ∷ []) (omega arith) ∙ ap (wrote d at) (sym (decimal-one n h))

pub last-digit : (d d₁ : List ℕ) (at last n : ℕ) → 10 ≤ n → n < 10 ^ 20 → d₁ ≡ wrote d at (decimal (n / 10)) → last ≡ at + length (decimal (n / 10)) → last < length d
    → set d₁ last (48 + n % 10) ≡ wrote d at (decimal n)
last-digit d d₁ at last n h k e q l =
    let m : length d₁ ≡ length d = ap length e ∙ length-wrote d at (decimal (n / 10)) (omega arith) in
    sets-wrote d₁ last ((48 + n % 10) ∷ []) (omega arith)
    ∙ ap (λ (x : List ℕ). wrote x last ((48 + n % 10) ∷ [])) e
    ∙ wrote-more d at last (decimal (n / 10)) ((48 + n % 10) ∷ []) (omega arith) q
    ∙ ap (wrote d at) (sym (decimal-more n h k))
