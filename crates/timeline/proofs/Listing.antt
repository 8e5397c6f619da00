-- Laws of numbered lists: length, elements, parts, members, and what is chosen of one cue more.
use Prim.Native.Nat.{ℕ, zero, suc, ◌+◌, ◌<◌, ◌≤◌}
use mathlib.Core.Path.{◌≡◌, refl, sym, ap, ◌∙◌, subst}
use mathlib.Core.Bool.{Bool}
use mathlib.Core.List.{[], ◌∷◌, ◌++◌, Memᴰ}
use native.Mathlib.Omega.{arith}
use native.Mathlib.Nat.{not-suc-le-zero}
use native.Mathlib.Numerals.{add-one}
use lib.ListN.{length, take, drop, get_or, length-append, get_or-append}
use lib.Seq.{get_or_at, drop-cons, take-length, take-append-le}
use Rattle.base.proofs.Choice.{either}
use Rattle.base.specs.Choice.{keep}
use Rattle.timeline.specs.Lists.{listed}
use Rattle.timeline.specs.Cues.{Cue, Pairs, chosen}
use Rattle.timeline.specs.Packing.{edges}
use Rattle.timeline.proofs.Running.{chosen-append}
use Rattle.timeline.proofs.Packed.{edges-append}
use Rattle.timeline.proofs.Indexed.{mem_index, index-mem, pairs-index}

module _ {A : Type 0} (f : ℕ → A) where
  pub length-listed : (n : ℕ) → length (listed f n) ≡ n
  unfolding listed
  length-listed zero = refl
  length-listed (suc k) = length-append (listed f k) (f k ∷ []) ∙ (omega (arith, length-listed k))

  pub listed_at : (n i : ℕ) (d : A) → i < n → get_or (listed f n) i d ≡ f i
  unfolding listed
  listed_at zero i d h = absurd (not-suc-le-zero h)
  listed_at (suc k) i d h =
      either (suc i) k
      (λ l. get_or-append (listed f k) (f k ∷ []) d i (omega (arith, length-listed k)) ∙ listed_at k i d l)
      (λ l. let e : i ≡ k = omega arith in get_or_at (listed f k) (f k) [] d i (length-listed k ∙ sym e) ∙ ap f (sym e))

  -- what is left from number i on begins with f i
  pub listed-from : (n i : ℕ) → i < n → drop i (listed f n) ≡ f i ∷ drop (suc i) (listed f n)
  listed-from n i h =
      drop-cons (listed f n) i (f i) (omega (arith, length-listed n))
      ∙ ap (λ (x : A). x ∷ drop (suc i) (listed f n)) (listed_at n i (f i) h)

  pub listed-take : (n i : ℕ) → i ≤ n → take i (listed f n) ≡ listed f i
  unfolding listed
  listed-take zero i h = let e : i ≡ 0 = omega arith in rw e
  listed-take (suc k) i h =
      either i k
      (λ l. take-append-le i (listed f k) (f k ∷ []) (omega (arith, length-listed k)) ∙ listed-take k i l)
      (λ l. let e : i ≡ suc k = omega arith in
      ap (λ (x : ℕ). take x (listed f (suc k))) (e ∙ sym (length-listed (suc k))) ∙ take-length (listed f (suc k)) ∙ ap (listed f) (sym e))

  pub mem-listed : (n : ℕ) (x : A) → Memᴰ x (listed f n) → (i : ℕ) × (i < n) × (x ≡ f i)
  mem-listed n x m =
      let w = mem_index (listed f n) x x m in
      let l : w.0 < n = omega (arith, w.1, length-listed n) in
      (w.0, l, w.2 ∙ listed_at n w.0 x l)

  pub listed-mem : (n i : ℕ) → i < n → Memᴰ (f i) (listed f n)
  listed-mem n i h = subst (λ (x : A). Memᴰ x (listed f n)) (listed_at n i (f i) h) (index-mem (listed f n) i (f i) (omega (arith, length-listed n)))

-- a relation of each cue to all later ones, by number
pub listed-pairs : (R : Cue → Cue → Type 0) (f : ℕ → Cue) (n : ℕ) → ((i j : ℕ) → i < j → j < n → R (f i) (f j)) → Pairs R (listed f n)
listed-pairs R f n h = pairs-index R (f 0) (listed f n) by
  where
    by : (i j : ℕ) → i < j → j < length (listed f n) → R (get_or (listed f n) i (f 0)) (get_or (listed f n) j (f 0))
    by i j a b =
        let l : j < n = omega (arith, b, length-listed f n) in
        let k : i < n = omega arith in
        subst (λ (x : Cue). R x (get_or (listed f n) j (f 0))) (sym (listed_at f n i (f 0) k)) (subst (λ (y : Cue). R (f i) y) (sym (listed_at f n j (f 0) l)) (h i j a l))

-- one cue more
pub chosen-listed : (p : Cue → Bool) (f : ℕ → Cue) (k : ℕ) → chosen p (listed f (k + 1)) ≡ chosen p (listed f k) ++ keep (p (f k)) (f k).body []
unfolding listed chosen
chosen-listed p f k = ap (λ (x : ℕ). chosen p (listed f x)) (add-one k) ∙ chosen-append p (listed f k) (f k ∷ [])

pub edges-listed : (f : ℕ → Cue) (k : ℕ) → edges (listed f (k + 1)) ≡ edges (listed f k) ++ (f k).start ∷ (f k).end ∷ []
unfolding listed edges
edges-listed f k = ap (λ (x : ℕ). edges (listed f x)) (add-one k) ∙ edges-append (listed f k) (f k ∷ [])
