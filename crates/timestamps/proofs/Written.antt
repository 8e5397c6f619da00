-- A time that is written is read again.
use Prim.Native.Nat.{ℕ, ◌+◌, ◌-◌, ◌*◌, ◌/◌, ◌%◌, ◌≤◌}
use mathlib.Core.Path.{◌≡◌, refl, sym, ap, ◌∙◌}
use mathlib.Core.Bool.{Bool, true, false}
use mathlib.Core.Option.{some}
use mathlib.Core.List.{List, [], ◌∷◌, ◌++◌}
use native.Mathlib.Omega.{arith}
use native.Mathlib.Nat.{div-add-mod', div-div-eq-div-mul}
use borrow.Author.Tests.{le-leb}
use lib.ListN.{length}
use Rattle.base.specs.Choice.{within}
use Rattle.base.specs.Over.{wrote}
use Rattle.base.proofs.Over.{in_two}
use Rattle.base.proofs.Tests.{both-no}
use Rattle.decimal.specs.Decimal.{value, value_from}
use Rattle.timestamps.specs.Timestamps.{All, COLON, DOT, digit, shaped, minutes, minutes_ms, hours_ms, time_of, two, three, time_text, TimesComeBack}
use Rattle.timestamps.proofs.Runs.{front-stop, behind-stop}

-- ---- its bytes

pub length_two : (n : ℕ) → length (two n) ≡ 2
unfolding two
length_two n = refl

pub length_three : (n : ℕ) → length (three n) ≡ 3
unfolding three two
length_three n = refl

pub length-time : (t : ℕ) → length (time_text t) ≡ 12
unfolding time_text two three
length-time t = refl

-- ---- its digits

digit-in : (d m : ℕ) → d ≤ m → within 48 (48 + m) (48 + d) ≡ true
unfolding within
digit-in d m h = rw (le-leb 48 (48 + d) (omega arith), le-leb (48 + d) (48 + m) (omega arith))

off : (d : ℕ) → 48 + d - 48 ≡ d
off d = omega arith

-- a colon where a dot should stand
not_short : (a b c d e : ℕ) (s : List ℕ) → shaped minutes (a ∷ b ∷ c ∷ d ∷ e ∷ 58 ∷ s) ≡ false
unfolding shaped within
not_short a b c d e s = simp both-no

is_digit : (d : ℕ) → d ≤ 9 → digit (48 + d) ≡ true
unfolding digit
is_digit d h = digit-in d 9 h

-- hours of two digits
hours-time : (a b c d e f g h i : ℕ) → c ≤ 5 → d ≤ 9 → e ≤ 5 → f ≤ 9 → g ≤ 9 → h ≤ 9 → i ≤ 9
    → hours_ms ((48 + a) ∷ (48 + b) ∷ []) (58 ∷ (48 + c) ∷ (48 + d) ∷ 58 ∷ (48 + e) ∷ (48 + f) ∷ 46 ∷ (48 + g) ∷ (48 + h) ∷ (48 + i) ∷ [])
    ≡ some ((a * 10 + b) * 3600000 + ((c * 10 + d) * 60000 + (e * 10 + f) * 1000 + (g * 100 + h * 10 + i)))
unfolding hours_ms shaped minutes_ms value value_from within
hours-time a b c d e f g h i hc hd he hf hg hh hi =
    simp (digit-in c 5 hc, digit-in d 9 hd, digit-in e 5 he, digit-in f 9 hf, digit-in g 9 hg, digit-in h 9 hh, digit-in i 9 hi, off) (ap some (omega arith))

-- nine digits and three marks
digits-time : (a b c d e f g h i : ℕ) → a ≤ 9 → b ≤ 9 → c ≤ 5 → d ≤ 9 → e ≤ 5 → f ≤ 9 → g ≤ 9 → h ≤ 9 → i ≤ 9
    → time_of ((48 + a) ∷ (48 + b) ∷ 58 ∷ (48 + c) ∷ (48 + d) ∷ 58 ∷ (48 + e) ∷ (48 + f) ∷ 46 ∷ (48 + g) ∷ (48 + h) ∷ (48 + i) ∷ [])
    ≡ some ((a * 10 + b) * 3600000 + ((c * 10 + d) * 60000 + (e * 10 + f) * 1000 + (g * 100 + h * 10 + i)))
unfolding time_of digit within
digits-time a b c d e f g h i ha hb hc hd he hf hg hh hi =
    let hs : List ℕ = (48 + a) ∷ (48 + b) ∷ [] in
    let r : List ℕ = (48 + c) ∷ (48 + d) ∷ 58 ∷ (48 + e) ∷ (48 + f) ∷ 46 ∷ (48 + g) ∷ (48 + h) ∷ (48 + i) ∷ [] in
    let p : All digit hs = (is_digit a ha, (is_digit b hb, tt)) in
    rw (not_short (48 + a) (48 + b) 58 (48 + c) (48 + d) ((48 + e) ∷ (48 + f) ∷ 46 ∷ (48 + g) ∷ (48 + h) ∷ (48 + i) ∷ []), front-stop digit hs 58 r p refl, behind-stop digit hs 58 r p refl)
    (hours-time a b c d e f g h i hc hd he hf hg hh hi)

ten : (n : ℕ) → n / 10 * 10 + n % 10 ≡ n
ten n = div-add-mod' n 10

hundred : (n : ℕ) → n / 100 * 100 + n % 100 / 10 * 10 + n % 100 % 10 ≡ n
hundred n = omega (arith, div-add-mod' n 100, div-add-mod' (n % 100) 10)

sum : (t q m h x s k : ℕ) → q * 1000 + x ≡ t → m * 60 + s ≡ q → h * 60 + k ≡ m → h * 3600000 + (k * 60000 + s * 1000 + x) ≡ t
sum t q m h x s k a b c = omega arith

pub whole : (t : ℕ) → t / 3600000 * 3600000 + (t / 60000 % 60 * 60000 + t / 1000 % 60 * 1000 + t % 1000) ≡ t
whole t =
    sum t (t / 1000) (t / 60000) (t / 3600000) (t % 1000) (t / 1000 % 60) (t / 60000 % 60)
    (div-add-mod' t 1000)
    (ap (λ (q : ℕ). q * 60 + t / 1000 % 60) (sym (div-div-eq-div-mul t 1000 60)) ∙ div-add-mod' (t / 1000) 60)
    (ap (λ (q : ℕ). q * 60 + t / 60000 % 60) (sym (div-div-eq-div-mul t 60000 60)) ∙ div-add-mod' (t / 60000) 60)

pub times-come-back : TimesComeBack
unfolding time_text two three
times-come-back t l =
    digits-time (t / 3600000 / 10) (t / 3600000 % 10) (t / 60000 % 60 / 10) (t / 60000 % 60 % 10) (t / 1000 % 60 / 10) (t / 1000 % 60 % 10) (t % 1000 / 100) (t % 1000 % 100 / 10) (t % 1000 % 100 % 10)
    (omega arith) (omega arith) (omega arith) (omega arith) (omega arith) (omega arith) (omega arith) (omega arith) (omega arith)
    ∙ ap some (rw (ten (t / 3600000), ten (t / 60000 % 60), ten (t / 1000 % 60), hundred (t % 1000)) (whole t))

-- ---- what passes a test

-- digits, colons and a dot
pub time-bytes : (p : ℕ → Bool) (t : ℕ) → ((x : ℕ) → p (48 + x) ≡ true) → p COLON ≡ true → p DOT ≡ true → All p (time_text t)
unfolding time_text two three
time-bytes p t d c k = (d _, (d _, (c, (d _, (d _, (c, (d _, (d _, (k, (d _, (d _, (d _, tt))))))))))))

pub time-begins : (t : ℕ) → (x : ℕ) × (r : List ℕ) × (time_text t ≡ (48 + x) ∷ r)
unfolding time_text two three
time-begins t = (_, _, refl)

-- ---- its parts, each behind the one before

pub time-wrote : (d d₁ d₂ d₃ d₄ : List ℕ) (at t : ℕ) → at + 12 ≤ length d
    → d₁ ≡ wrote d at (two (t / 3600000) ++ COLON ∷ []) → d₂ ≡ wrote d₁ (at + 3) (two (t / 60000 % 60) ++ COLON ∷ [])
    → d₃ ≡ wrote d₂ (at + 6) (two (t / 1000 % 60) ++ DOT ∷ []) → d₄ ≡ wrote d₃ (at + 9) (three (t % 1000)) → d₄ ≡ wrote d at (time_text t)
unfolding time_text two three
time-wrote d d₁ d₂ d₃ d₄ at t h e₁ e₂ e₃ e₄ =
    let f₂ = in_two d d₁ d₂ _ _ at (at + 3) e₁ e₂ refl (omega arith) in
    let f₃ = in_two d d₂ d₃ _ _ at (at + 6) f₂ e₃ refl (omega arith) in
    in_two d d₃ d₄ _ _ at (at + 9) f₃ e₄ refl (omega arith)
