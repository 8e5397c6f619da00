-- The window leaves nothing out, and the next cut is the nearest.
use Prim.Native.Nat.{ℕ, zero, suc, min, ◌+◌, ◌-◌, ◌*◌, ◌≤◌, ◌<◌}
use mathlib.Core.Path.{◌≡◌, refl, sym, ap, ◌∙◌, subst}
use mathlib.Core.Logic.{◌⊎◌, inl, inr}
use mathlib.Core.Bool.{false}
use mathlib.Core.List.Memᴰ
use mathlib.Core.List.{List, [], ◌∷◌, Memᴰ}
use native.Mathlib.Omega.{arith}
use native.Mathlib.Nat.{add-zero, add-suc, le_refl}
use native.Mathlib.Numerals.{add-one}
use lib.Dec.{leb, ltb}
use lib.ListN.{length, get_or, length-append}
use borrow.Author.Tests.{lt-ltb, le-ltb, le-leb, lt-leb}
use Rattle.base.specs.Choice.{pick}
use Rattle.base.proofs.Choice.{either, by-test}
use Rattle.timeline.specs.Packing.{sorted}
use Rattle.timeline.proofs.Sorting.{sorted-sorts, no_longer}
use Rattle.timeline.specs.Nearest.{nearest}
use Rattle.timeline.proofs.Nearest.{nearest-top, nearest-append}
use Rattle.timeline.proofs.Indexed.{mem_index, rising-index, cut-next, cut-more}
use Rattle.cuts.specs.Cuts.{start_tick, end_tick, ticks_to, cuts_of, runs_at, record_size, cues_size, or_empty, bytes_to, Lasting, Timed, CutAt}
use Rattle.cuts.specs.Window.{Ended, Started, Later, Window, From}
use Rattle.cuts.specs.declared.Stretch.{Stretch}

-- what holds below k, and at k
pub below_next : (P : ℕ → Type 0) (k : ℕ) → ((j : ℕ) → j < k → P j) → P k → (j : ℕ) → j < k + 1 → P j
below_next P k h p j l = either (suc j) k (λ a. h j a) (λ a. let e : k ≡ j = omega arith in subst P e p)

-- the nearest number of a list none of which is above b; of a start and an end above b; below a lower limit
near-pair : (T b s e : ℕ) → b < s → s < e → e ≤ T → nearest T b (s ∷ e ∷ []) ≡ s
unfolding nearest
near-pair T b s e h k l = let m : b < e = omega arith in rw (lt-ltb b s h, lt-ltb b e m) (omega arith)

pub near-lower : (T s b : ℕ) (l : List ℕ) → s ≤ T → nearest s b l ≡ min (nearest T b l) s
unfolding nearest
near-lower T s b [] h = omega arith
near-lower T s b (x ∷ xs) h = by-test (ltb b x) (λ e. rw e (omega (arith, near-lower T s b xs h))) (λ e. rw e (near-lower T s b xs h))

pub near-marks : (T b : ℕ) (l : List ℕ) → nearest T b (0 ∷ T ∷ l) ≡ nearest T b l
unfolding nearest
near-marks T b l =
    let z : 0 ≤ b = omega arith in
    rw (le-ltb b 0 z) (by-test (ltb b T) (λ e. rw e (omega (arith, nearest-top T b l))) (λ e. rw e))

module _ (scale : ℕ) (recs : List ℕ) (b : ℕ) where
  -- the ticks of records that have ended by b are none above it
  pub near_before : (top first : ℕ) → Ended scale recs first b → Lasting scale recs first → nearest top b (ticks_to scale recs first) ≡ top
  unfolding ticks_to nearest
  near_before top zero h k = refl
  near_before top (suc i) h k =
      let e = h i (le_refl (suc i)) in
      let s : start_tick scale recs i ≤ b = omega (arith, k i (le_refl (suc i))) in
      let r = near_before top i (λ j l. h j (omega arith)) (λ j l. k j (omega arith)) in
      nearest-append top b (ticks_to scale recs i) (start_tick scale recs i ∷ end_tick scale recs i ∷ [])
      ∙ rw (le-ltb b (start_tick scale recs i) s, le-ltb b (end_tick scale recs i) e) (omega (arith, r))

  -- a record that has started adds its end
  pub near-more : (top k : ℕ) → start_tick scale recs k ≤ b
      → nearest top b (ticks_to scale recs (k + 1)) ≡ pick (ltb b (end_tick scale recs k)) (min (end_tick scale recs k) (nearest top b (ticks_to scale recs k))) (nearest top b (ticks_to scale recs k))
  unfolding ticks_to nearest
  near-more top k h =
      let t = nearest-top top b (ticks_to scale recs k) in
      rw add-one
      (nearest-append top b (ticks_to scale recs k) (start_tick scale recs k ∷ end_tick scale recs k ∷ [])
      ∙ rw (le-ltb b (start_tick scale recs k) h)
      (by-test (ltb b (end_tick scale recs k)) (λ e. rw e (omega arith)) (λ e. rw e (omega arith))))

  later-on : (T n last : ℕ) → Timed scale T recs n → b < start_tick scale recs last → (d : ℕ) → last + suc d ≤ n
      → nearest T b (ticks_to scale recs (last + suc d)) ≡ nearest (start_tick scale recs last) b (ticks_to scale recs last)
  unfolding ticks_to
  later-on T n last w h zero l =
      let i : last < n = omega arith in
      let a = w.lasts last i in
      let m : start_tick scale recs last ≤ T = omega (arith, a, w.ends last i) in
      let e : last + 1 ≡ suc last = omega arith in
      let t = near-lower T (start_tick scale recs last) b (ticks_to scale recs last) m in
      rw e
      (nearest-append T b (ticks_to scale recs last) (start_tick scale recs last ∷ end_tick scale recs last ∷ [])
      ∙ rw (near-pair T b (start_tick scale recs last) (end_tick scale recs last) h a (w.ends last i)) (sym t))
  later-on T n last w h (suc d) l =
      let i : last + suc d < n = omega arith in
      let a = w.lasts (last + suc d) i in
      let o = w.ordered last (last + suc d) (omega arith) i in
      let g : b < start_tick scale recs (last + suc d) = omega arith in
      let e : last + suc (suc d) ≡ suc (last + suc d) = omega arith in
      let t = nearest-top (start_tick scale recs last) b (ticks_to scale recs last) in
      rw e
      (nearest-append T b (ticks_to scale recs (last + suc d)) (start_tick scale recs (last + suc d) ∷ end_tick scale recs (last + suc d) ∷ [])
      ∙ rw (near-pair T b (start_tick scale recs (last + suc d)) (end_tick scale recs (last + suc d)) g a (w.ends (last + suc d) i), later-on T n last w h d (omega arith)) (omega arith))

  -- of the records that start later the first start is the nearest tick
  pub near-after : (T n last : ℕ) → Timed scale T recs n → last ≤ n → (last < n → b < start_tick scale recs last)
      → nearest (pick (ltb last n) (start_tick scale recs last) T) b (ticks_to scale recs last) ≡ nearest T b (ticks_to scale recs n)
  near-after T n last w l h =
      either n last
      (λ k. let e : n ≡ last = omega arith in rw (le-ltb last n k, e))
      (λ k. let e : last + suc (n - suc last) ≡ n = omega arith in
      rw (lt-ltb last n k) (sym (later-on T n last w (h k) (n - suc last) (omega arith)) ∙ ap (λ (x : ℕ). nearest T b (ticks_to scale recs x)) e))

  -- a record that has started runs until its end
  pub runs-started : (k : ℕ) → start_tick scale recs k ≤ b → runs_at scale recs b k ≡ ltb b (end_tick scale recs k)
  unfolding runs_at
  runs-started k h = rw (le-leb (start_tick scale recs k) b h)

  pub runs-ended : (k : ℕ) → end_tick scale recs k ≤ b → runs_at scale recs b k ≡ false
  unfolding runs_at
  runs-ended k h = rw (le-ltb b (end_tick scale recs k) h) (by-test (leb (start_tick scale recs k) b) (λ e. rw e) (λ e. rw e))

  pub runs-later : (k : ℕ) → b < start_tick scale recs k → runs_at scale recs b k ≡ false
  unfolding runs_at
  runs-later k h = rw (lt-leb (start_tick scale recs k) b h)

  pub size-more : (k : ℕ) → start_tick scale recs k ≤ b → cues_size scale recs b (k + 1) ≡ cues_size scale recs b k + pick (ltb b (end_tick scale recs k)) (record_size recs k) 0
  unfolding cues_size
  size-more k h = rw (add-one, cues_size, runs-started k h)

  pub size-before : (first : ℕ) → Ended scale recs first b → cues_size scale recs b first ≡ 0
  unfolding cues_size
  size-before zero h = refl
  size-before (suc k) h = rw (runs-ended k (h k (le_refl (suc k)))) (omega (arith, size-before k (λ j l. h j (omega arith))))

  size-on : (d k n : ℕ) → ((j : ℕ) → k ≤ j → j < n → b < start_tick scale recs j) → k + d ≤ n → cues_size scale recs b (k + d) ≡ cues_size scale recs b k
  unfolding cues_size
  size-on zero k n h l = rw add-zero
  size-on (suc d) k n h l = rw (add-suc, cues_size, runs-later (k + d) (h (k + d) (omega arith) (omega arith))) (omega (arith, size-on d k n h (omega arith)))

  pub size-after : (n last : ℕ) → Later scale recs n last b → last ≤ n → cues_size scale recs b last ≡ cues_size scale recs b n
  size-after n last h l = let e : n ≡ last + (n - last) = omega arith in sym (ap (cues_size scale recs b) e ∙ size-on (n - last) last n h (omega arith))

  pub size-most : (d k : ℕ) → cues_size scale recs b k ≤ cues_size scale recs b (k + d)
  unfolding cues_size
  size-most zero k = rw add-zero (le_refl (cues_size scale recs b k))
  size-most (suc d) k = rw (add-suc, cues_size) (omega (arith, size-most d k))

  -- what has ended has started
  pub window-rises : (n first last : ℕ) → Lasting scale recs n → Window scale recs n first last b → first ≤ last
  window-rises n first last k w =
      either first last (λ l. l)
      (λ l. absurd (omega (arith, w.ended last l, w.later last (le_refl last) (omega (arith, w.first_most)), k last (omega (arith, w.first_most)))))

-- from the first record on that starts later, all do
pub later-from : (scale : ℕ) (recs : List ℕ) (T n b i : ℕ) → Timed scale T recs n → (i < n → b < start_tick scale recs i) → Later scale recs n i b
later-from scale recs T n b i w h j l g = let o = w.ordered i j l g in let s = h (omega arith) in omega arith

ticks-of : (scale : ℕ) (recs : List ℕ) (n t : ℕ) → Memᴰ t (ticks_to scale recs n) → (i : ℕ) × (i < n) × ((t ≡ start_tick scale recs i) ⊎ (t ≡ end_tick scale recs i))
unfolding ticks_to
ticks-of scale recs zero t m = absurd (Memᴰ.not-nil m)
ticks-of scale recs (suc k) t m =
    elim (Memᴰ.append_cases (ticks_to scale recs k) m) [
      | inl p ↦ let w = ticks-of scale recs k t p in (w.0, omega (arith, w.1), w.2)
      | inr p ↦ elim (Memᴰ.cases_cons p) [
        | inl e ↦ (k, le_refl (suc k), inl e)
        | inr q ↦ elim (Memᴰ.cases_cons q) [ inl e ↦ (k, le_refl (suc k), inr e) | inr z ↦ absurd (Memᴰ.not-nil z) ]
      ]
    ]

length-ticks : (scale : ℕ) (recs : List ℕ) (n : ℕ) → length (ticks_to scale recs n) ≡ 2 * n
unfolding ticks_to
length-ticks scale recs zero = refl
length-ticks scale recs (suc k) = length-append (ticks_to scale recs k) (start_tick scale recs k ∷ end_tick scale recs k ∷ []) ∙ (omega (arith, length-ticks scale recs k))

module _ (scale T : ℕ) (recs : List ℕ) (n : ℕ) where
  top : Timed scale T recs n → (t : ℕ) → Memᴰ t (0 ∷ T ∷ ticks_to scale recs n) → t ≤ T
  top w t m =
      elim (Memᴰ.cases_cons m) [
        | inl e ↦ omega arith
        | inr k ↦ elim (Memᴰ.cases_cons k) [ inl e ↦ omega arith | inr j ↦ by (ticks-of scale recs n t j) ]
      ]
    where
      by : (i : ℕ) × (i < n) × ((t ≡ start_tick scale recs i) ⊎ (t ≡ end_tick scale recs i)) → t ≤ T
      by v = elim v.2 [ inl e ↦ omega (arith, w.lasts v.0 v.1, w.ends v.0 v.1) | inr e ↦ omega (arith, w.ends v.0 v.1) ]

  -- n records have at most 2n + 2 cuts
  pub cuts-most : length (cuts_of scale T recs n) ≤ 2 * n + 2
  unfolding cuts_of
  cuts-most =
      let k = no_longer (sorted (0 ∷ T ∷ ticks_to scale recs n)) (0 ∷ T ∷ ticks_to scale recs n) (sorted-sorts (0 ∷ T ∷ ticks_to scale recs n)).rising (λ t p. ((sorted-sorts (0 ∷ T ∷ ticks_to scale recs n)).members t).0 p) in
      omega (arith, length-ticks scale recs n)

  -- the first cut is 0
  pub cut-first : CutAt scale T recs n 0 0
  unfolding cuts_of
  cut-first =
      let s = sorted-sorts (0 ∷ T ∷ ticks_to scale recs n) in
      let w = mem_index (sorted (0 ∷ T ∷ ticks_to scale recs n)) 0 0 ((s.members 0).1 (Memᴰ.head refl)) in
      record {
        there = omega (arith, w.1);
        is = either 1 w.0
            (λ l. absurd (omega (arith, w.2, rising-index (sorted (0 ∷ T ∷ ticks_to scale recs n)) s.rising 0 w.0 l w.1)))
            (λ l. let e : w.0 ≡ 0 = omega arith in w.2 ∙ ap (λ (x : ℕ). get_or (sorted (0 ∷ T ∷ ticks_to scale recs n)) x 0) e);
      }

  -- below T there is a next cut, the nearest tick
  pub cut-goes : Timed scale T recs n → (i b : ℕ) → CutAt scale T recs n i b → b < T → CutAt scale T recs n (i + 1) (nearest T b (ticks_to scale recs n)) × (b < nearest T b (ticks_to scale recs n))
  unfolding cuts_of
  cut-goes w i b c h =
      let g : get_or (sorted (0 ∷ T ∷ ticks_to scale recs n)) i 0 < T = omega (arith, c.is) in
      let k = (cut-more T (0 ∷ T ∷ ticks_to scale recs n) (Memᴰ.tail (Memᴰ.head refl)) (top w) i c.there).0 g in
      let e : nearest T b (ticks_to scale recs n) ≡ get_or (sorted (0 ∷ T ∷ ticks_to scale recs n)) (suc i) 0 =
      sym (near-marks T b (ticks_to scale recs n)) ∙ ap (λ (x : ℕ). nearest T x (0 ∷ T ∷ ticks_to scale recs n)) c.is ∙ cut-next T (0 ∷ T ∷ ticks_to scale recs n) (Memᴰ.tail (Memᴰ.head refl)) (top w) i k in
      let r = rising-index (sorted (0 ∷ T ∷ ticks_to scale recs n)) (sorted-sorts (0 ∷ T ∷ ticks_to scale recs n)).rising i (suc i) (le_refl (suc i)) k in
      (record { there = omega (arith, k); is = rw (add-one i) e }, omega (arith, e, r, c.is))

  -- a cut before another is below T
  pub cut_below : Timed scale T recs n → (i : ℕ) → suc i < length (cuts_of scale T recs n) → get_or (cuts_of scale T recs n) i 0 < T
  unfolding cuts_of
  cut_below w i h = (cut-more T (0 ∷ T ∷ ticks_to scale recs n) (Memᴰ.tail (Memᴰ.head refl)) (top w) i (omega arith)).1 h

  -- at T the cuts are at their end
  pub cut-stops : Timed scale T recs n → (i b : ℕ) → CutAt scale T recs n i b → T ≤ b → suc i ≡ length (cuts_of scale T recs n)
  unfolding cuts_of
  cut-stops w i b c h =
      either (suc (suc i)) (length (sorted (0 ∷ T ∷ ticks_to scale recs n)))
      (λ l. absurd (omega (arith, c.is, (cut-more T (0 ∷ T ∷ ticks_to scale recs n) (Memᴰ.tail (Memᴰ.head refl)) (top w) i c.there).1 l)))
      (λ l. omega (arith, c.there))

  pub bytes-more : (i b : ℕ) → CutAt scale T recs n i b → bytes_to scale T recs n (i + 1) ≡ bytes_to scale T recs n i + or_empty (cues_size scale recs b n)
  unfolding bytes_to
  bytes-more i b c = rw (add-one, bytes_to, ← c.is)

pub not-empty : (n : ℕ) → (n ≡ 0 → ⊥) → n ≡ or_empty n
not-empty zero h = absurd (h refl)
not-empty (suc n) h = refl

-- from a begin to the next: its cut, and the window that is kept
pub turn : (scale T : ℕ) (recs : List ℕ) (n i b : ℕ) (s : Stretch) → Timed scale T recs n → CutAt scale T recs n i b → b < T → From scale T recs n b s
    → CutAt scale T recs n (i + 1) s.next × Ended scale recs s.first s.next × Started scale recs s.last s.next × (b < s.next)
turn scale T recs n i b s w c h f =
    let g = cut-goes scale T recs n w i b c h in
    let e = f.next_is in
    let k : b < s.next = omega (arith, g.1) in
    (subst (CutAt scale T recs n (i + 1)) (sym e) g.0, (λ j l. omega (arith, f.window.ended j l)), (λ j l. omega (arith, f.window.started j l)), k)
