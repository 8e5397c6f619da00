-- Tests at each place of a text, as the loops of the quick tests know them, and texts that pass one.
use Prim.Native.Nat.{ℕ, zero, suc, ◌+◌, ◌-◌, ◌<◌, ◌≤◌}
use mathlib.Core.Path.{◌≡◌, refl, sym, ap, ◌∙◌}
use mathlib.Core.Bool.{Bool, true, false}
use mathlib.Core.List.{List, [], ◌∷◌}
use native.Mathlib.Omega.{arith}
use native.Mathlib.Nat.{zero-add}
use borrow.Author.Tests.{lt-ltb, ltb-false, eqb-true, not-true}
use lib.Bits.{bit_or, or_lt}
use lib.Dec.{eqb, ltb}
use lib.ListN.{length, get_or}
use Rattle.base.specs.Choice.{both, any_of}
use Rattle.base.specs.Iter.{iter}
use Rattle.base.proofs.Choice.{either, both_left, both_right, by-test, true-false}
use Rattle.base.proofs.Tests.{one-of-first, one-of-second, both_yes, both-no}
use Rattle.ascii.specs.Ascii.{ascii, unmarked, all, mark, low, dashes, unlined, lined, all_pairs}
use Rattle.ascii.proofs.Blocks.{all-lined}
use Rattle.viable.specs.Judged.{Right}
use Rattle.viable.specs.FirstBad.{judged_by}
use Rattle.viable.proofs.FirstBad.{judged-right}
use Rattle.utf8.specs.declared.Rule.{Rule}
use Rattle.utf8.specs.declared.Rule.TheVariants.{Payload}
use Rattle.utf8.specs.Strings.{CR, LF, DASH, GREATER, starts_with_any, has_any}
use Rattle.utf8.specs.Forbidden.{not_in_payload, forbidden, keeps, keeps_begun}
use Rattle.utf8.proofs.Machine.{ascii-utf8, unmarked-keeps}

-- the byte at a place is no mark and no `>`; it is lined with the next one
abbrev pub unmarked_at : List ℕ → ℕ → Bool
unmarked_at s k = unmarked GREATER (get_or s k 0)

abbrev pub lined_at : List ℕ → ℕ → Bool
lined_at s k = lined (get_or s k 0) (get_or s (k + 1) 0)

-- the test passes at each of the n places from i: `all` and `all_pairs` are this
abbrev every : (ℕ → Bool) → ℕ → ℕ → Bool
every f i n = iter (λ k b. both b (f (i + k))) true n

module _ (f : ℕ → Bool) where
  -- the test passes from i up to n
  pub record Passes (i n : ℕ) : Type 0 where
    pub at : (k : ℕ) → i ≤ k → k < n → f k ≡ true

  every-passes : (i n : ℕ) → every f i n ≡ true → Passes i (i + n)
  unfolding iter
  every-passes i zero h = record { at = λ k l g. absurd (omega (arith, l, g)) }
  every-passes i (suc n) h =
      let a = every-passes i n (both_left (every f i n) (f (i + n)) h) in
      let b = both_right (every f i n) (f (i + n)) h in
      record {
        at = λ k l g. either (i + n) k
            (λ m. let e : k ≡ i + n = omega (arith, g, m) in ap f e ∙ b)
            (λ m. a.at k l m);
      }

  passes-every : (i n : ℕ) → Passes i (i + n) → every f i n ≡ true
  unfolding iter
  passes-every i zero p = refl
  passes-every i (suc n) p =
      rw (passes-every i n (record { at = λ k l g. p.at k l (omega (arith, g)) })) (p.at (i + n) (omega arith) (omega arith))

  -- where a part fails, so does the whole
  part-fails : (i j m n : ℕ) → i ≤ j → j + m ≤ i + n → every f j m ≡ false → false ≡ every f i n
  part-fails i j m n l h e =
      by-test (every f i n)
      (λ a. let p = every-passes i n a in true-false (every f j m) (passes-every j m (record { at = λ k c d. p.at k (omega (arith, l, c)) (omega (arith, h, d)) })) e)
      (λ a. sym a)

  pub none_pass : Passes 0 0
  none_pass = record { at = λ k l h. absurd (omega (arith, h)) }

  -- m places more
  more-pass : (i m : ℕ) → Passes 0 i → every f i m ≡ true → Passes 0 (i + m)
  more-pass i m p h = record { at = λ k l g. either i k (λ j. (every-passes i m h).at k j g) (λ j. p.at k l j) }

  -- the last m places, which may begin before i
  last-pass : (i m n : ℕ) → m ≤ n → n - m ≤ i → Passes 0 i → every f (n - m) m ≡ true → Passes 0 n
  last-pass i m n l b p h =
      record { at = λ k a g. either i k (λ j. (every-passes (n - m) m h).at k (omega (arith, b, j)) (omega (arith, l, g))) (λ j. p.at k a j) }

  last-is : (i m n : ℕ) → m ≤ n → n - m ≤ i → Passes 0 i → every f (n - m) m ≡ every f 0 n
  last-is i m n l b p =
      by-test (every f (n - m) m)
      (λ h. let q : Passes 0 (0 + n) = rw zero-add (last-pass i m n l b p h) in h ∙ sym (passes-every 0 n q))
      (λ h. h ∙ part-fails 0 (n - m) m n (omega arith) (omega (arith, l)) h)

-- ---- bytes with no mark and no `>`

module _ (s : List ℕ) where
  pub clear-fails : (j m n : ℕ) → j + m ≤ n → all (unmarked GREATER) s j m ≡ false → false ≡ all (unmarked GREATER) s 0 n
  unfolding all
  clear-fails j m n h e = part-fails (unmarked_at s) 0 j m n (omega arith) (omega (arith, h)) e

  pub clear-more : (i m : ℕ) → Passes (unmarked_at s) 0 i → all (unmarked GREATER) s i m ≡ true → Passes (unmarked_at s) 0 (i + m)
  unfolding all
  clear-more i m p h = more-pass (unmarked_at s) i m p h

  pub clear-last : (i m n : ℕ) → m ≤ n → n - m ≤ i → Passes (unmarked_at s) 0 i → all (unmarked GREATER) s (n - m) m ≡ all (unmarked GREATER) s 0 n
  unfolding all
  clear-last i m n l b p = last-is (unmarked_at s) i m n l b p

-- such a text keeps each rule
pub clear-judged : (rule : Rule) (s : List ℕ) → ((j : ℕ) → get_or s j 0 < 256) → all (unmarked GREATER) s 0 (length s) ≡ true → Right ≡ judged_by (keeps rule) (keeps_begun rule) s
clear-judged rule s bytes h = judged-right _ _ _ (sym (unmarked-keeps rule s bytes h))

-- ---- texts with single line ends and no two dashes

-- what is known of a lined byte
record Known (b next : ℕ) : Type 0 where
  pub some : eqb b 0 ≡ false
  pub under : ltb 0x7F b ≡ false
  pub apart : ltb (bit_or b next) 16 ≡ false
  pub single : both (eqb b DASH) (eqb next DASH) ≡ false

known : (b next : ℕ) → lined b next ≡ true → Known b next
unfolding lined unlined mark low dashes
known b next h =
    let p = not-true (unlined b next) h in
    let o = one-of-first (any_of (mark 0 1 b) (low (bit_or b next))) (dashes b next) p in
    let q = one-of-second (ltb b 1) (any_of (ltb 0x7F b) (eqb b 0)) (one-of-first (mark 0 1 b) (low (bit_or b next)) o) in
    record {
      some = one-of-second (ltb 0x7F b) (eqb b 0) q;
      under = one-of-first (ltb 0x7F b) (eqb b 0) q;
      apart = one-of-second (mark 0 1 b) (low (bit_or b next)) o;
      single = one-of-second (any_of (mark 0 1 b) (low (bit_or b next))) (dashes b next) p;
    }

-- a third test does not help where two fail
third-fails : (a b c : Bool) → both a b ≡ false → both a (both b c) ≡ false
third-fails true true c h = true-false true refl h
third-fails true false c h = refl
third-fails false b c h = refl

-- two bytes below 16 do not stand together
apart-both : (b c x y : ℕ) → x < 16 → y < 16 → ltb (bit_or b c) 16 ≡ false → both (eqb b x) (eqb c y) ≡ false
apart-both b c x y k l h =
    by-test (both (eqb b x) (eqb c y))
    (λ e. let p = eqb-true b x (both_left (eqb b x) (eqb c y) e) in let q = eqb-true c y (both_right (eqb b x) (eqb c y) e) in
    true-false (ltb (bit_or b c) 16) (lt-ltb (bit_or b c) 16 (or_lt 4 b c (omega (arith, p, k)) (omega (arith, q, l)))) h)
    (λ e. e)

-- none of the strings that a payload may not hold begins at the front of a lined text
front-free : (b : ℕ) (s : List ℕ) → Passes (lined_at (b ∷ s)) 0 (length (b ∷ s)) → starts_with_any not_in_payload (b ∷ s) ≡ false
unfolding starts_with_any not_in_payload
front-free b [] p = let k = known b 0 (p.at 0 (omega arith) (omega arith)) in simp (k.some, both-no)
front-free b (c ∷ []) p =
    let k = known b c (p.at 0 (omega arith) (omega arith)) in
    simp (k.some, both_yes, both-no, apart-both b c LF LF (omega arith) (omega arith) k.apart, apart-both b c LF CR (omega arith) (omega arith) k.apart, apart-both b c CR CR (omega arith) (omega arith) k.apart)
front-free b (c ∷ d ∷ s) p =
    let k = known b c (p.at 0 (omega arith) (omega arith)) in
    simp (k.some, third-fails (eqb b DASH) (eqb c DASH) (eqb d GREATER) k.single, both_yes, apart-both b c LF LF (omega arith) (omega arith) k.apart, apart-both b c LF CR (omega arith) (omega arith) k.apart, apart-both b c CR CR (omega arith) (omega arith) k.apart)

lined-free : (s : List ℕ) → Passes (lined_at s) 0 (length s) → has_any not_in_payload s ≡ false
unfolding has_any
lined-free [] p = refl
lined-free (b ∷ s) p =
    let q : Passes (lined_at s) 0 (length s) = record { at = λ k l h. let e : suc (k + 1) ≡ suc k + 1 = omega arith in ap (λ (x : ℕ). lined (get_or s k 0) (get_or (b ∷ s) x 0)) e ∙ p.at (suc k) (omega arith) (omega (arith, h)) } in
    rw (front-free b s p, lined-free s q)

-- a lined text keeps a payload's rule
pub lined-keeps : (s : List ℕ) → ((j : ℕ) → get_or s j 0 < 256) → Passes (lined_at s) 0 (length s) → keeps Payload s ≡ true
unfolding keeps forbidden all ascii
lined-keeps s bytes p =
    let a : all ascii s 0 (length s) ≡ true = passes-every (λ k. ascii (get_or s k 0)) 0 (length s) (record { at = λ k l h. let g = ltb-false 0x7F (get_or s k 0) (known (get_or s k 0) (get_or s (k + 1) 0) (p.at k l (omega (arith, h)))).under in lt-ltb (get_or s k 0) 0x80 (omega (arith, g)) }) in
    rw (← ascii-utf8 s bytes a, lined-free s p)

-- so does a text with no mark and no `-`
pub dashless-keeps : (s : List ℕ) → ((j : ℕ) → get_or s j 0 < 256) → all (unmarked DASH) s 0 (length s) ≡ true → keeps Payload s ≡ true
unfolding all_pairs
dashless-keeps s bytes h =
    let p : Passes (lined_at s) 0 (length s) = rw zero-add at (every-passes (lined_at s) 0 (length s) (sym (all-lined s 0 (length s) h))) in
    lined-keeps s bytes p

module _ (s : List ℕ) where
  pub lined-more : (i m : ℕ) → Passes (lined_at s) 0 i → all_pairs lined s i m ≡ true → Passes (lined_at s) 0 (i + m)
  unfolding all_pairs
  lined-more i m p h = more-pass (lined_at s) i m p h

  -- the last m bytes have no mark and no `-`
  pub lined-last : (i m n : ℕ) → m ≤ n → n - m ≤ i → Passes (lined_at s) 0 i → all (unmarked DASH) s (n - m) m ≡ true → Passes (lined_at s) 0 n
  unfolding all_pairs
  lined-last i m n l b p h = last-pass (lined_at s) i m n l b p (sym (all-lined s (n - m) m h))
