-- Laws of the readers of words.
use Prim.Native.Nat.{ℕ, suc, ◌+◌, ◌*◌, ◌≤◌, ◌<◌}
use mathlib.Core.Path.{◌≡◌, refl, subst, ◌∙◌}
use mathlib.Core.Bool.{Bool, true, not}
use mathlib.Core.Logic.{◌⊎◌, inl, inr, ⊎_elim}
use mathlib.Core.Option.{some}
use mathlib.Core.List.{List, [], ◌∷◌}
use native.Mathlib.Omega.{arith}
use native.Mathlib.Nat.{add-zero}
use native.Mathlib.Numerals.{add-one}
use lib.Dec.{eqb}
use lib.ListN.{length, get_or, drop, drop_of_length-le}
use lib.Seq.{drop-cons}
use borrow.Author.Tests.{eq-eqb, ne_eqb, eqb-true, not-true}
use Rattle.base.specs.Choice.{pick, both}
use Rattle.base.proofs.Choice.{by-test, both_left, both_right, true-false}
use Rattle.profile.specs.Spot.{Past, Bad}
use Rattle.profile.specs.Machine.{State, at, Amp, AmpL, lit, find, escapes, escapes_l, step}
use Rattle.profile.specs.Readings.{Reads, Anywhere, goes_on}
use Rattle.profile.proofs.Readings.{r-here, r-dead, byte_step, on-byte, on-dead, on-end}

-- a word

abbrev pub worded : List ℕ → Anywhere → State
worded w x = at (lit w x.0) x.1 x.2

module _ (s w : List ℕ) (p i : ℕ) where
  -- i bytes of the word are read
  pub Word : Type 0
  Word = Reads Anywhere s p (Past (p + i)) (worded w) (worded (drop i w))

  pub word-short : Word → i < length w → length s ≤ p + i → Reads Anywhere s p (Bad (p + i)) (worded w) goes_on
  unfolding Word
  word-short k l h = on-end Anywhere s p (p + i) (worded w) (worded (drop i w)) goes_on k h (λ x. rw (drop-cons w i 0 l))

  pub word-wrong : Word → i < length w → p + i < length s → (get_or s (p + i) 0 ≡ get_or w i 0 → ⊥) → Reads Anywhere s p (Bad (p + i)) (worded w) goes_on
  unfolding Word step
  word-wrong k l h d = on-dead Anywhere s p (p + i) (worded w) (worded (drop i w)) goes_on k h (λ x. rw (drop-cons w i 0 l, ne_eqb (get_or s (p + i) 0) (get_or w i 0) d))

  pub word-done : Word → length w ≤ i → Reads Anywhere s p (Past (p + i)) (worded w) goes_on
  unfolding Word
  word-done k h = subst (λ (l : List ℕ). Reads Anywhere s p (Past (p + i)) (worded w) (worded l)) (drop_of_length-le w h) k

pub word-turn : (s w : List ℕ) (p i : ℕ) → Word s w p i → i < length w → p + i < length s → get_or s (p + i) 0 ≡ get_or w i 0 → Word s w p (i + 1)
unfolding Word step
word-turn s w p i k l h e =
    let n : p + (i + 1) ≡ p + i + 1 = omega arith in
    rw (n, add-one i) (on-byte Anywhere s p (p + i) (worded w) (worded (drop i w)) (worded (drop (suc i) w)) k h (λ x. rw (drop-cons w i 0 l, eq-eqb (get_or s (p + i) 0) (get_or w i 0) e)))

pub word-start : (s w : List ℕ) (p : ℕ) → p ≤ length s → Word s w p 0
unfolding Word
word-start s w p h = rw (add-zero p) (r-here Anywhere s p (worded w) h)

-- the bytes of w stand from i behind p on
abbrev pub Stands : List ℕ → ℕ → ℕ → List ℕ → Type 0
Stands s p i [] = Unit {0}
Stands s p i (c ∷ w) = (get_or s (p + i) 0 ≡ c) × Stands s p (i + 1) w

pub stands_read : (s : List ℕ) (p i : ℕ) (w : List ℕ) (a : Anywhere → State) → p + i + length w ≤ length s → Reads Anywhere s p (Past (p + i)) a (worded w) → Stands s p i w
    → Reads Anywhere s p (Past (p + (i + length w))) a goes_on
unfolding step
stands_read s p i [] a h k t = rw (add-zero i) k
stands_read s p i (c ∷ w) a h k t =
    let n : p + (i + 1) ≡ p + i + 1 = omega arith in
    let m : i + suc (length w) ≡ i + 1 + length w = omega arith in
    rw m (stands_read s p (i + 1) w a (omega arith) (rw n (on-byte Anywhere s p (p + i) a (worded (c ∷ w)) (worded w) k (omega arith) (λ x. rw (eq-eqb (get_or s (p + i) 0) c t.0)))) t.1)

-- an escape

abbrev pub amps : Anywhere → State
amps x = at (Amp x.0) x.1 x.2

abbrev pub ampls : Anywhere → State
ampls x = at (AmpL x.0) x.1 x.2

pub amp-dead : (s : List ℕ) (p : ℕ) → p < length s → (get_or s p 0 ≡ 97 → ⊥) → (get_or s p 0 ≡ 103 → ⊥) → (get_or s p 0 ≡ 108 → ⊥) → (get_or s p 0 ≡ 110 → ⊥) → (get_or s p 0 ≡ 114 → ⊥)
    → Reads Anywhere s p (Bad p) amps goes_on
unfolding step find escapes
amp-dead s p h a b c d e = r-dead Anywhere s p amps goes_on h (λ x. simp (ne_eqb _ _ a, ne_eqb _ _ b, ne_eqb _ _ c, ne_eqb _ _ d, ne_eqb _ _ e))

pub ampl-dead : (s : List ℕ) (p : ℕ) → p < length s → (get_or s p 0 ≡ 116 → ⊥) → (get_or s p 0 ≡ 114 → ⊥) → Reads Anywhere s p (Bad p) ampls goes_on
unfolding step find escapes_l
ampl-dead s p h a b = r-dead Anywhere s p ampls goes_on h (λ x. simp (ne_eqb _ _ a, ne_eqb _ _ b))

-- the length of an escape

module _ (s : List ℕ) (p : ℕ) (h : p + 5 ≤ length s) where
  Long : ℕ → Type 0
  Long n = Reads Anywhere s p (Past (p + n)) amps goes_on

  first : (c : ℕ) (b : Anywhere → State) → get_or s p 0 ≡ c → ((x : Anywhere) → step (amps x) c ≡ some (b x)) → Reads Anywhere s p (Past (p + 1)) amps b
  first c b e f = byte_step Anywhere s p (Past (p + 1)) c amps b b (omega arith) e f (r-here Anywhere s (p + 1) b (omega arith))

  second : (c : ℕ) (w : List ℕ) → get_or s p 0 ≡ 108 → get_or s (p + 1) 0 ≡ c → ((x : Anywhere) → step (ampls x) c ≡ some (worded w x)) → Reads Anywhere s p (Past (p + 2)) amps (worded w)
  unfolding step find escapes
  second c w l e f =
      let n : p + 2 ≡ p + 1 + 1 = omega arith in
      rw n (on-byte Anywhere s p (p + 1) amps ampls (worded w) (first 108 ampls l (λ x. refl)) (omega arith) (λ x. rw e (f x)))

  long_lt : get_or s p 0 ≡ 108 → get_or s (p + 1) 0 ≡ 116 → get_or s (p + 2) 0 ≡ 59 → Long 3
  unfolding Long step find escapes_l
  long_lt a b c = stands_read s p 2 (59 ∷ []) amps (omega arith) (second 116 (59 ∷ []) a b (λ x. refl)) (c, tt)

  long-gt : get_or s p 0 ≡ 103 → get_or s (p + 1) 0 ≡ 116 → get_or s (p + 2) 0 ≡ 59 → Long 3
  unfolding Long step find escapes
  long-gt a b c = stands_read s p 1 (116 ∷ 59 ∷ []) amps (omega arith) (first 103 (worded (116 ∷ 59 ∷ [])) a (λ x. refl)) (b, (c, tt))

  long-amp : get_or s p 0 ≡ 97 → get_or s (p + 1) 0 ≡ 109 → get_or s (p + 2) 0 ≡ 112 → get_or s (p + 3) 0 ≡ 59 → Long 4
  unfolding Long step find escapes
  long-amp a b c d = stands_read s p 1 (109 ∷ 112 ∷ 59 ∷ []) amps (omega arith) (first 97 (worded (109 ∷ 112 ∷ 59 ∷ [])) a (λ x. refl)) (b, (c, (d, tt)))

  long-lrm : get_or s p 0 ≡ 108 → get_or s (p + 1) 0 ≡ 114 → get_or s (p + 2) 0 ≡ 109 → get_or s (p + 3) 0 ≡ 59 → Long 4
  unfolding Long step find escapes_l
  long-lrm a b c d = stands_read s p 2 (109 ∷ 59 ∷ []) amps (omega arith) (second 114 (109 ∷ 59 ∷ []) a b (λ x. refl)) (c, (d, tt))

  long-rlm : get_or s p 0 ≡ 114 → get_or s (p + 1) 0 ≡ 108 → get_or s (p + 2) 0 ≡ 109 → get_or s (p + 3) 0 ≡ 59 → Long 4
  unfolding Long step find escapes
  long-rlm a b c d = stands_read s p 1 (108 ∷ 109 ∷ 59 ∷ []) amps (omega arith) (first 114 (worded (108 ∷ 109 ∷ 59 ∷ [])) a (λ x. refl)) (b, (c, (d, tt)))

  long-nbsp : get_or s p 0 ≡ 110 → get_or s (p + 1) 0 ≡ 98 → get_or s (p + 2) 0 ≡ 115 → get_or s (p + 3) 0 ≡ 112 → get_or s (p + 4) 0 ≡ 59 → Long 5
  unfolding Long step find escapes
  long-nbsp a b c d e = stands_read s p 1 (98 ∷ 115 ∷ 112 ∷ 59 ∷ []) amps (omega arith) (first 110 (worded (98 ∷ 115 ∷ 112 ∷ 59 ∷ [])) a (λ x. refl)) (b, (c, (d, (e, tt))))

-- a mark m of x and w
abbrev pub Mark : ℕ → ℕ → ℕ → Type 0
Mark m x w = (m ≡ pick (eqb x w) 1 0) × (m ≤ 1)

mark-cases : (m x w : ℕ) → Mark m x w → (m ≡ 0) ⊎ ((m ≡ 1) × (x ≡ w))
mark-cases m x w k = by-test (eqb x w) (λ t. inr (rw t at k.0, eqb-true x w t)) (λ t. inl (rw t at k.0))

abbrev Found : List ℕ → ℕ → ℕ → Type 0
Found s p n = (n ≡ 0) ⊎ Reads Anywhere s p (Past (p + n)) amps goes_on

found : (s : List ℕ) (p : ℕ) (h : p + 5 ≤ length s) (n m : ℕ) → n ≡ m → Long s p h m → Found s p n
unfolding Long
found s p h n m e k = rw e (inr k)

-- no key of the list
away : ℕ → List ℕ → Bool
away t [] = true
away t (k ∷ ks) = both (not (eqb t k)) (away t ks)

module _ (s : List ℕ) (p : ℕ) (h : p + 5 ≤ length s) (two : ℕ) where
  -- a sum over marks, each of which fixes the first two bytes by its key: it tells a length, and is 0 for other bytes
  Sum : List ℕ → ℕ → Type 0
  Sum ks n = Found s p n × (away two ks ≡ true → n ≡ 0)

  -- one mark more
  more : (n m x w key : ℕ) (ks : List ℕ) (rest : ℕ) → Mark m x w → (x ≡ w → two ≡ key) → away key ks ≡ true → (x ≡ w → Long s p h n) → Sum ks rest → Sum (key ∷ ks) (n * m + rest)
  unfolding Sum away
  more n m x w key ks rest k f a l r =
      ⊎_elim
      (λ z.
      let e : n * m + rest ≡ rest = rw z (omega arith) in
      (rw e r.0, λ q. e ∙ r.1 (both_right (not (eqb two key)) (away two ks) q)))
      (λ y.
      let t = f y.1 in
      let e : n * m + rest ≡ n = rw (y.0, r.1 (rw t a)) (omega arith) in
      (found s p h (n * m + rest) n e (l y.1), λ q. true-false (eqb two key) (eq-eqb two key t) (not-true (eqb two key) (both_left (not (eqb two key)) (away two ks) q))))
      (mark-cases m x w k)

-- a byte of the text
abbrev pub Byte : List ℕ → ℕ → ℕ → Type 0
Byte s p b = (b ≡ get_or s p 0) × (b < 256)

module _ (s : List ℕ) (p : ℕ) (h : p + 5 ≤ length s) (a b c d e : ℕ) (ka : Byte s p a) (kb : Byte s (p + 1) b) (kc : Byte s (p + 2) c) (kd : Byte s (p + 3) d) (ke : Byte s (p + 4) e)
    (three four five : ℕ) (e3 : three ≡ (a * 256 + b) * 256 + c) (e4 : four ≡ three * 256 + d) (e5 : five ≡ four * 256 + e) (lt gt amp lrm rlm nbsp : ℕ)
    (m-lt : Mark lt three 0x6C743B) (m-gt : Mark gt three 0x67743B) (m-amp : Mark amp four 0x616D703B) (m-lrm : Mark lrm four 0x6C726D3B) (m-rlm : Mark rlm four 0x726C6D3B)
    (m-nbsp : Mark nbsp five 0x6E6273703B) where
  abbrev Told : Type 0
  Told = Found s p (3 * (lt + gt) + 4 * (amp + lrm + rlm) + 5 * nbsp)

  pub length-told : Told
  unfolding Sum away
  length-told =
      let two = a * 256 + b in
      let nothing : Sum s p h two [] 0 = (inl refl, λ q. refl) in
      let r₁ = more s p h two 5 nbsp five 0x6E6273703B 0x6E62 [] 0 m-nbsp (λ q. omega arith) refl (λ q. long-nbsp s p h (omega arith) (omega arith) (omega arith) (omega arith) (omega arith)) nothing in
      let r₂ = more s p h two 4 rlm four 0x726C6D3B 0x726C (0x6E62 ∷ []) (5 * nbsp + 0) m-rlm (λ q. omega arith) refl (λ q. long-rlm s p h (omega arith) (omega arith) (omega arith) (omega arith)) r₁ in
      let r₃ = more s p h two 4 lrm four 0x6C726D3B 0x6C72 (0x726C ∷ 0x6E62 ∷ []) (4 * rlm + (5 * nbsp + 0)) m-lrm (λ q. omega arith) refl (λ q. long-lrm s p h (omega arith) (omega arith) (omega arith) (omega arith)) r₂ in
      let r₄ = more s p h two 4 amp four 0x616D703B 0x616D (0x6C72 ∷ 0x726C ∷ 0x6E62 ∷ []) (4 * lrm + (4 * rlm + (5 * nbsp + 0))) m-amp (λ q. omega arith) refl (λ q. long-amp s p h (omega arith) (omega arith) (omega arith) (omega arith)) r₃ in
      let r₅ = more s p h two 3 gt three 0x67743B 0x6774 (0x616D ∷ 0x6C72 ∷ 0x726C ∷ 0x6E62 ∷ []) (4 * amp + (4 * lrm + (4 * rlm + (5 * nbsp + 0)))) m-gt (λ q. omega arith) refl (λ q. long-gt s p h (omega arith) (omega arith) (omega arith)) r₄ in
      let r₆ = more s p h two 3 lt three 0x6C743B 0x6C74 (0x6774 ∷ 0x616D ∷ 0x6C72 ∷ 0x726C ∷ 0x6E62 ∷ []) (3 * gt + (4 * amp + (4 * lrm + (4 * rlm + (5 * nbsp + 0))))) m-lt (λ q. omega arith) refl (λ q. long_lt s p h (omega arith) (omega arith) (omega arith)) r₅ in
      subst (Found s p) (omega arith) r₆.0
