-- Of a text whose bytes stay all characters are left.
use Prim.Native.Nat.{ℕ, zero, suc, ◌<◌}
use mathlib.Core.Path.{◌≡◌, refl, sym, ap, ap₂, ◌∙◌, subst}
use mathlib.Core.Bool.{Bool, true, false, not}
use mathlib.Core.List.{List, [], ◌∷◌, ◌++◌}
use native.Mathlib.Omega.{arith}
use lib.Dec.{eqb}
use lib.ListN.{length, get_or}
use borrow.Author.Tests.{eqb-true, eqb-false, ne_eqb, not-true}
use Rattle.base.specs.Choice.{both, any_of}
use Rattle.base.specs.Iter.{iter}
use Rattle.base.proofs.Choice.{both_left, both_right, either, by-test, true-false}
use Rattle.base.proofs.Tests.{one-of-first, one-of-second}
use Rattle.utf8.specs.Strings.{CR, LF}
use Rattle.code_points.specs.CodePoints.{encode, joined}
use Rattle.tx3g_payload.specs.Points.{points8}
use Rattle.tx3g_payload.specs.Left.{is_break, only_breaks, left_from, text_left}
use Rattle.tx3g_payload.specs.Statements.{has_zero}
use Rattle.tx3g_payload_write.specs.Terms.{Spelled}
use Rattle.tx3g_payload_write.proofs.Breaks.{stays as not-gone, line-feed}
use Rattle.tx3g_payload_write.proofs.Characters.{form-1}
use Rattle.tx3g_tidy.specs.Tidy.{stays, stay_first, tidy}

-- ---- each byte

abbrev Stays : List ℕ → Type 0
Stays [] = Unit {0}
Stays (b ∷ s) = (stays b (get_or s 0 LF) ≡ true) × Stays s

first-at : (s : List ℕ) (n k : ℕ) → stay_first s n ≡ true → k < n → stays (get_or s k LF) (get_or s (suc k) LF) ≡ true
unfolding stay_first iter
first-at s zero k h l = absurd (omega arith)
first-at s (suc n) k h l =
    either (suc k) n
    (λ m. first-at s n k (both_left (stay_first s n) (stays (get_or s n LF) (get_or s (suc n) LF)) h) m)
    (λ m. let z : n ≡ k = omega arith in
    subst (λ (x : ℕ). stays (get_or s x LF) (get_or s (suc x) LF) ≡ true) z (both_right (stay_first s n) (stays (get_or s n LF) (get_or s (suc n) LF)) h))

all_stay : (s : List ℕ) → ((k : ℕ) → k < length s → stays (get_or s k LF) (get_or s (suc k) LF) ≡ true) → Stays s
all_stay [] h = tt
all_stay (b ∷ s) h = (h 0 (omega arith), all_stay s (λ k l. h (suc k) (omega arith)))

stays-behind : (a r : List ℕ) → Stays (a ++ r) → Stays r
stays-behind [] r h = h
stays-behind (b ∷ a) r h = stays-behind a r h.1

-- ---- each character

high-no : (c : ℕ) → 0x7F < c → any_of (eqb c 0) (eqb c CR) ≡ false
high-no c a = rw (ne_eqb c 0 (λ z. omega arith), ne_eqb c CR (λ z. omega arith))

high-break : (c : ℕ) → 0x7F < c → is_break c ≡ false
unfolding is_break
high-break c a = rw (ne_eqb c CR (λ z. omega arith), ne_eqb c LF (λ z. omega arith))

line-end : (c : ℕ) → eqb c CR ≡ false → is_break c ≡ true → eqb c LF ≡ true
unfolding is_break
line-end c n b = rw n at b

-- a character that stays in front of r: if it is a line end, it is LF, and no LF stands behind it
record Kept (c : ℕ) (r : List ℕ) : Type 0 where
  no_zero : eqb c 0 ≡ false
  line : is_break c ≡ true → (c ≡ LF) × (get_or r 0 LF ≡ LF → ⊥)
  rest : Stays r

kept_low : (c : ℕ) (r : List ℕ) → stays c (get_or r 0 LF) ≡ true → Stays r → Kept c r
unfolding stays
kept_low c r t w =
    let x : Bool = both (eqb c LF) (eqb (get_or r 0 LF) LF) in
    let y : Bool = any_of (eqb c 0) (eqb c CR) in
    let none : y ≡ false = not-true y (both_left (not y) (not x) t) in
    let other : x ≡ false = not-true x (both_right (not y) (not x) t) in
    record {
      no_zero = one-of-first (eqb c 0) (eqb c CR) none;
      line = λ b. let l = line-end c (one-of-second (eqb c 0) (eqb c CR) none) b in (eqb-true c LF l, eqb-false (get_or r 0 LF) LF (rw l at other));
      rest = w;
    }

kept : (c : ℕ) (r : List ℕ) → Stays (encode c ++ r) → Kept c r
kept c r h =
    either c 0x7F
    (λ a. let w : Stays (c ∷ r) = subst (λ (x : List ℕ). Stays (x ++ r)) (form-1 c a) h in kept_low c r w.0 w.1)
    (λ a. record { no_zero = one-of-first (eqb c 0) (eqb c CR) (high-no c a); line = λ b. true-false (is_break c) b (high-break c a); rest = stays-behind (encode c) r h })

-- the first byte of LF and what is behind it
first_line : (c : ℕ) (r : List ℕ) → c ≡ LF → get_or (encode c ++ r) 0 LF ≡ LF
unfolding encode
first_line c r e = rw e

-- ---- the text

-- where no LF stands first, something else does
only-not : (cs : List ℕ) → Stays (joined encode cs) → (get_or (joined encode cs) 0 LF ≡ LF → ⊥) → only_breaks cs ≡ false
unfolding joined only_breaks
only-not [] h f = absurd (f refl)
only-not (c ∷ cs) h f =
    by-test (is_break c)
    (λ b. absurd (f (first_line c (joined encode cs) ((kept c (joined encode cs) h).line b).0)))
    (λ b. rw b)

left-same : (cs : List ℕ) (after : Bool) → Stays (joined encode cs) → (after ≡ true → get_or (joined encode cs) 0 LF ≡ LF → ⊥) → left_from after cs ≡ cs
unfolding joined left_from
left-same [] after h f = refl
left-same (c ∷ cs) after h f =
    let k = kept c (joined encode cs) h in
    by-test (is_break c)
    (λ b. let l = k.line b in
    let o = only-not cs k.rest l.1 in
    let a : after ≡ false = by-test after (λ t. absurd (f t (first_line c (joined encode cs) l.0))) (λ t. t) in
    ap₂ (λ (x y : List ℕ). x ++ y) (sym (line-feed after c cs (sym b) a (sym o)) ∙ ap (λ (x : ℕ). x ∷ []) (sym l.0))
    (left-same cs (is_break c) k.rest (λ t. l.1)))
    (λ b. ap₂ (λ (x y : List ℕ). x ++ y) (sym (not-gone after c cs (sym b)))
    (left-same cs (is_break c) k.rest (λ t. true-false (is_break c) t b)))

zero-none : (cs : List ℕ) → Stays (joined encode cs) → has_zero cs ≡ false
unfolding joined has_zero
zero-none [] h = refl
zero-none (c ∷ cs) h = let k = kept c (joined encode cs) h in rw k.no_zero (zero-none cs k.rest)

-- all of its characters are left, and none is zero
pub record Standing (t : List ℕ) : Type 0 where
  pub left : text_left (points8 t) ≡ points8 t
  pub no_zero : has_zero (points8 t) ≡ false

pub points-stand : (t : List ℕ) → Spelled false t → tidy t ≡ true → Standing t
unfolding tidy text_left
points-stand t w h =
    let cs : List ℕ = points8 t in
    let e : joined encode cs ≡ t = w.bytes_are in
    let x : Bool = not (eqb (get_or t 0 LF) LF) in
    let no-first : get_or t 0 LF ≡ LF → ⊥ = eqb-false (get_or t 0 LF) LF (not-true (eqb (get_or t 0 LF) LF) (both_left x (stay_first t (length t)) h)) in
    let each : Stays (joined encode cs) = subst Stays (sym e) (all_stay t (λ k l. first-at t (length t) k (both_right x (stay_first t (length t)) h) l)) in
    record { left = left-same cs true each (λ a z. no-first (ap (λ (x : List ℕ). get_or x 0 LF) (sym e) ∙ z)); no_zero = zero-none cs each }
