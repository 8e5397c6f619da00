-- Places of lines: where a line ends, where the next one begins, and what the loops of `end_of` and `after_end` know.
use Prim.Native.Nat.{ℕ, zero, suc, ◌+◌, ◌-◌, ◌<◌, ◌≤◌}
use mathlib.Core.Path.{◌≡◌, refl, sym, ◌∙◌}
use mathlib.Core.Bool.{Bool, true, false}
use mathlib.Core.List.{List, [], ◌∷◌}
use native.Mathlib.Omega.{arith}
use native.Mathlib.Nat.{add-zero}
use native.Mathlib.Numerals.{add-one}
use borrow.Author.Tests.{eq-eqb, ne_eqb, leb-true, leb-false, not-true}
use lib.Dec.{leb}
use lib.ListN.{length, take, drop, get_or, drop_of_length-le, length-drop}
use lib.Seq.{drop-cons}
use Rattle.base.specs.Choice.{pick, both}
use Rattle.base.specs.Iter.{iter}
use Rattle.base.proofs.Choice.{both_left, both_right}
use Rattle.base.proofs.Tests.{both-no}
use Rattle.ascii.specs.Ascii.{all}
use Rattle.utf8.specs.Strings.{CR, LF, starts_with}
use Rattle.vtt_lines.specs.Lines.{crlf, line_end}
use Rattle.vtt_lines.specs.Cursor.{low, high, run, end_size, line_at, end_at, next_at, found_at, Ahead}

run_at : (s : List ℕ) (i : ℕ) → i < length s → run (drop i s) ≡ pick (line_end (get_or s i 0)) 0 (suc (run (drop (suc i) s)))
unfolding run
run_at s i h = rw (drop-cons s i 0 h)

-- ---- the end of the line from `at` on is that of the line from i on

module _ (s : List ℕ) (at i : ℕ) (e : end_at s at ≡ end_at s i) where
  pub end-turn : i < length s → line_end (get_or s i 0) ≡ false → end_at s at ≡ end_at s (i + 1)
  unfolding end_at
  end-turn h p = let g : i + suc (run (drop (suc i) s)) ≡ suc i + run (drop (suc i) s) = omega arith in e ∙ rw (run_at s i h, p, add-one) g

  pub end-found : i < length s → line_end (get_or s i 0) ≡ true → i ≡ end_at s at
  unfolding end_at
  end-found h p = sym (e ∙ rw (run_at s i h, p, add-zero))

  pub end-last : length s ≤ i → i ≡ end_at s at
  unfolding end_at run
  end-last h = sym (e ∙ rw (drop_of_length-le s h, add-zero))

high-inside : (b : ℕ) → high b ≡ true → line_end b ≡ false
unfolding high low
high-inside b h =
    let k = leb-false b CR (not-true (leb b CR) h) in
    let p : b ≡ CR → ⊥ = λ e. omega (arith, k, e) in
    let q : b ≡ LF → ⊥ = λ e. omega (arith, k, e) in
    rw (ne_eqb b CR p, ne_eqb b LF q)

-- n bytes that end no line are passed at once
end-stride : (s : List ℕ) (i n : ℕ) → i + n ≤ length s → all high s i n ≡ true → end_at s i ≡ end_at s (i + n)
unfolding all iter
end-stride s i zero h p = rw add-zero
end-stride s i (suc n) h p =
    let l = high-inside (get_or s (i + n) 0) (both_right (all high s i n) (high (get_or s (i + n) 0)) p) in
    let e = end-stride s i n (omega arith) (both_left (all high s i n) (high (get_or s (i + n) 0)) p) in
    let k : i + suc n ≡ i + n + 1 = omega arith in
    rw k (end-turn s i (i + n) e (omega arith) l)

-- eight bytes that end no line
pub end-eight : (s : List ℕ) (at i : ℕ) → i ≤ length s → both (leb 8 (length s - i)) (all high s i 8) ≡ true → end_at s i ≡ end_at s at
    → (i + 8 ≤ length s) × (end_at s (i + 8) ≡ end_at s at)
end-eight s at i h p e =
    let l = leb-true 8 (length s - i) (both_left (leb 8 (length s - i)) (all high s i 8) p) in
    let k : i + 8 ≤ length s = omega arith in
    (k, sym (end-stride s i 8 k (both_right (leb 8 (length s - i)) (all high s i 8) p)) ∙ e)

-- ---- the place behind a line's end

module _ (s : List ℕ) (e : ℕ) where
  pub after_last : length s ≤ e → e ≡ e + end_size (drop e s)
  unfolding end_size
  after_last h = rw (drop_of_length-le s h) (sym (add-zero e))

  pub after-other : e < length s → (get_or s e 0 ≡ CR → ⊥) → e + 1 ≡ e + end_size (drop e s)
  unfolding end_size
  after-other h p = rw (drop-cons s e 0 h, ne_eqb (get_or s e 0) CR p)

  pub after-short : e < length s → length s ≤ e + 1 → e + 1 ≡ e + end_size (drop e s)
  unfolding end_size starts_with
  after-short h k = let g : length s ≤ suc e = omega arith in rw (drop-cons s e 0 h, drop_of_length-le s g, both-no)

  pub after-cr : e + 1 < length s → (get_or s (e + 1) 0 ≡ LF → ⊥) → e + 1 ≡ e + end_size (drop e s)
  unfolding end_size starts_with
  after-cr h q =
      let g : suc e < length s = omega arith in
      let q' : get_or s (suc e) 0 ≡ LF → ⊥ = λ z. q (rw add-one z) in
      rw (drop-cons s e 0 (omega arith), drop-cons s (suc e) 0 g, ne_eqb (get_or s (suc e) 0) LF q', both-no)

  pub after-crlf : e + 1 < length s → get_or s e 0 ≡ CR → get_or s (e + 1) 0 ≡ LF → e + 1 + 1 ≡ e + end_size (drop e s)
  unfolding end_size starts_with
  after-crlf h p q =
      let g : suc e < length s = omega arith in
      let q' : get_or s (suc e) 0 ≡ LF = rw add-one at q in
      rw (drop-cons s e 0 (omega arith), drop-cons s (suc e) 0 g, eq-eqb (get_or s e 0) CR p, eq-eqb (get_or s (suc e) 0) LF q') (omega arith)

-- ---- bounds

run-le : (t : List ℕ) → run t ≤ length t
unfolding run
run-le [] = omega arith
run-le (b ∷ t) = go (line_end b) (run-le t)
  where
    go : (x : Bool) → run t ≤ length t → pick x 0 (suc (run t)) ≤ suc (length t)
    go true h = omega arith
    go false h = omega arith

pub size-le : (t : List ℕ) → (end_size t ≤ length t) × (length t ≤ end_size t + (length t - 1))
unfolding end_size starts_with
size-le [] = omega arith
size-le (b ∷ []) = rw both-no (omega arith)
size-le (b ∷ c ∷ t) = go (crlf b (c ∷ t))
  where
    go : (x : Bool) → (pick x 2 1 ≤ suc (suc (length t))) × (suc (suc (length t)) ≤ pick x 2 1 + (suc (suc (length t)) - 1))
    go true = omega arith
    go false = omega arith

-- the next line begins later, and within the text
pub line-ahead : (s : List ℕ) (at line : ℕ) → at ≤ length s → Ahead s at line (found_at s at line)
unfolding end_at next_at
line-ahead s at line h =
    let e = at + run (drop at s) in
    let a = run-le (drop at s) in
    let b = size-le (drop e s) in
    let p = length-drop at s in
    let q = length-drop e s in
    record { ends = omega arith; follows = omega arith; moves = omega arith; within = omega arith; counts = refl }

-- the bytes up to the line's end are the line
pub line_is : (s : List ℕ) (at : ℕ) → take (end_at s at - at) (drop at s) ≡ line_at s at
unfolding end_at line_at
line_is s at = let e : at + run (drop at s) - at ≡ run (drop at s) = omega arith in rw e
