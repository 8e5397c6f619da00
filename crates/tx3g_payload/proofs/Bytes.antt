-- The bytes of a character that is no ASCII are 80 or more.
use Prim.Native.Nat.{ℕ, ◌+◌, ◌/◌, ◌%◌, ◌≤◌}
use mathlib.Core.Path.{◌≡◌}
use mathlib.Core.Bool.{Bool, true, false}
use mathlib.Core.List.{List, [], ◌∷◌}
use native.Mathlib.Omega.{arith}
use lib.Dec.{eqb}
use borrow.Author.Tests.{le-leb, lt-leb, eqb-true}
use Rattle.base.proofs.Choice.{by-test, either}
use Rattle.code_points.specs.CodePoints.{encode}
use Rattle.tx3g_payload.specs.Payload.{escape}

-- each byte passes; there is one and each passes
abbrev pub All : (ℕ → Bool) → List ℕ → Type 0
All p [] = Unit {0}
All p (b ∷ s) = (p b ≡ true) × All p s

abbrev pub Some : (ℕ → Bool) → List ℕ → Type 0
Some p [] = ⊥
Some p (b ∷ s) = (p b ≡ true) × All p s

pub some-all : (p : ℕ → Bool) (s : List ℕ) → Some p s → All p s
some-all p [] h = absurd h
some-all p (b ∷ s) h = h

pub encode-some : (p : ℕ → Bool) (c : ℕ) → p c ≡ true → ((b : ℕ) → 0x80 ≤ b → p b ≡ true) → Some p (encode c)
unfolding encode
encode-some p c one high =
    either c 0x7F (λ a. rw (le-leb c 0x7F a) (one, tt))
    (λ a. either c 0x7FF (λ b. rw (lt-leb c 0x7F a, le-leb c 0x7FF b) (high (0xC0 + c / 64) (omega arith), (high (0x80 + c % 64) (omega arith), tt)))
    (λ b. either c 0xFFFF
    (λ d. rw (lt-leb c 0x7F a, lt-leb c 0x7FF b, le-leb c 0xFFFF d) (high (0xE0 + c / 4096) (omega arith), (high (0x80 + c / 64 % 64) (omega arith), (high (0x80 + c % 64) (omega arith), tt))))
    (λ d. rw (lt-leb c 0x7F a, lt-leb c 0x7FF b, lt-leb c 0xFFFF d) (high (0xF0 + c / 262144) (omega arith), (high (0x80 + c / 4096 % 64) (omega arith), (high (0x80 + c / 64 % 64) (omega arith), (high (0x80 + c % 64) (omega arith), tt)))))))

-- an escape by its cases
pub escape-cases : (P : ℕ → List ℕ → Type 0) (c : ℕ) → P 0x26 (escape 0x26) → P 0x3C (escape 0x3C) → P 0x3E (escape 0x3E)
    → (eqb c 0x26 ≡ false → eqb c 0x3C ≡ false → eqb c 0x3E ≡ false → P c (encode c)) → P c (escape c)
unfolding escape
escape-cases P c amp less more plain =
    by-test (eqb c 0x26) (λ e. rw (eqb-true c 0x26 e) amp)
    (λ e. by-test (eqb c 0x3C) (λ f. rw (eqb-true c 0x3C f) less)
    (λ f. by-test (eqb c 0x3E) (λ g. rw (eqb-true c 0x3E g) more)
    (λ g. rw (e, f, g) (plain e f g))))
