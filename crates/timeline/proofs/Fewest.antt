-- Packing makes at most 2n + 1 samples, and no right track has fewer.
use Prim.Native.Nat.{◌*◌, ◌+◌, ◌<◌, ◌≤◌, suc, zero, ℕ}
use mathlib.Core.Path.{◌∙◌, ◌≡◌, ap, refl, sym}
use mathlib.Core.Logic.{◌⊎◌, inl, inr}
use mathlib.Core.List.Memᴰ
use mathlib.Core.List.{List, Memᴰ, [], ◌∷◌}
use native.Mathlib.Omega.{arith}
use native.Mathlib.Nat.{le_of_suc-le-suc, not-suc-le-zero}
use lib.ListN.{length, take}
use Rattle.base.proofs.Choice.{either}
use Rattle.timeline.specs.Cues.{Body, Cue, Proper, running_at}
use Rattle.timeline.specs.Tracks.{Right, Sample, There, begin_of, total}
use Rattle.timeline.specs.Packing.{edges, held_over, marks, packed, sorted, stretches}
use Rattle.timeline.proofs.Running.{moves, runs-early, runs-late, runs-yes}
use Rattle.timeline.proofs.Holding.{held-there, some_inj, some-there}
use Rattle.timeline.proofs.Sorting.{no_longer, sorted-sorts}
use Rattle.timeline.proofs.Packed.{edge_of, marks-le}

pub count-stretches : (h : ℕ → ℕ → List Body) (b : ℕ) (r : List ℕ) → length (stretches h (b ∷ r)) ≡ length r
unfolding stretches
count-stretches h b [] = refl
count-stretches h b (e ∷ r) = ap suc (count-stretches h e r)

-- a list that has the cuts is longer than the packed track
longer : (cues : List Cue) (T : ℕ) (m : List ℕ) → ((t : ℕ) → Memᴰ t (marks cues T) → Memᴰ t m) → suc (length (packed cues T)) ≤ length m
unfolding packed marks
longer cues T m f = go (sorted (marks cues T)) (no_longer (sorted (marks cues T)) m (sorted-sorts (marks cues T)).rising (λ t k. f t (((sorted-sorts (marks cues T)).members t).0 k)))
    (((sorted-sorts (marks cues T)).members 0).1 (Memᴰ.head refl))
  where
    go : (l : List ℕ) → length l ≤ length m → Memᴰ 0 l → suc (length (stretches (held_over cues) l)) ≤ length m
    go [] p k = absurd (Memᴰ.not-nil k)
    go (b ∷ r) p k = rw (count-stretches (held_over cues) b r) p

pub length-edges : (cues : List Cue) → length (edges cues) ≡ 2 * length cues
unfolding edges
length-edges [] = refl
length-edges (c ∷ cs) = omega (arith, length-edges cs)

-- n cues give at most 2n + 1 samples
pub at_most : (cues : List Cue) (T : ℕ) → length (packed cues T) ≤ 2 * length cues + 1
unfolding marks
at_most cues T = omega (arith, longer cues T (marks cues T) (λ t k. k), length-edges cues)

-- where the samples begin
unfoldable pub begins : ℕ → List Sample → List ℕ
begins b [] = []
begins b (s ∷ ss) = b ∷ begins (b + s.duration) ss

pub length-begins : (b : ℕ) (track : List Sample) → length (begins b track) ≡ length track
unfolding begins
length-begins b [] = refl
length-begins b (s ∷ ss) = ap suc (length-begins (b + s.duration) ss)

pub begins-has : (b : ℕ) (track : List Sample) (i t : ℕ) → i < length track → t ≡ b + total (take i track) → Memᴰ t (begins b track)
unfolding begins total
begins-has b [] i t l e = absurd (not-suc-le-zero l)
begins-has b (s ∷ ss) zero t l e = let q : t ≡ b = omega arith in Memᴰ.head q
begins-has b (s ∷ ss) (suc i) t l e = Memᴰ.tail (begins-has (b + s.duration) ss i t (le_of_suc-le-suc l) (omega arith))

-- at an edge what runs changes
edge-changes : (cues : List Cue) (T : ℕ) → Proper cues T → (u : ℕ) → Memᴰ (suc u) (edges cues) → running_at cues u ≡ running_at cues (suc u) → ⊥
edge-changes cues T ok u m e = go (edge_of cues (suc u) m)
  where
    go : (c : Cue) × Memᴰ c cues × ((suc u ≡ c.start) ⊎ (suc u ≡ c.end)) → ⊥
    go w =
        let c = w.0 in
        let k = ok.lasts c w.1 in
        elim w.2 [
          | inl q ↦ moves cues ok.distinct c w.1 (suc u) u (runs-yes c (suc u) (omega arith) (omega arith)) (runs-early c u (omega arith)) (sym e)
          | inr q ↦ moves cues ok.distinct c w.1 u (suc u) (runs-yes c u (omega arith) (omega arith)) (runs-late c (suc u) (omega arith)) e
        ]

-- a right track has a sample that begins at each cut below T
pub cut-begins : (cues : List Cue) (T : ℕ) (track : List Sample) → Proper cues T → Right cues T track → (t : ℕ) → Memᴰ t (marks cues T) → t < T
    → Memᴰ t (begins 0 track)
unfolding begin_of marks
cut-begins cues T track ok right t m l = go t m l (some-there track t (omega (arith, right.sums)))
  where
    edge : (u : ℕ) → suc u < T → Memᴰ (suc u) (marks cues T) → Memᴰ (suc u) (edges cues)
    edge u k n =
        elim (Memᴰ.cases_cons n) [
          | inl q ↦ absurd (omega arith)
          | inr j ↦ elim (Memᴰ.cases_cons j) [ inl q ↦ absurd (omega arith) | inr i ↦ i ]
        ]

    go : (x : ℕ) → Memᴰ x (marks cues T) → x < T → (i : ℕ) × There track i x → Memᴰ x (begins 0 track)
    go zero n k w = begins-has 0 track w.0 0 w.1.0 (omega (arith, w.1.1))
    go (suc u) n k w =
        either (suc u) (begin_of track w.0)
        (λ h. begins-has 0 track w.0 (suc u) w.1.0 (omega (arith, w.1.1)))
        (λ h. absurd (edge-changes cues T ok u (edge u k n)
        (some_inj (sym (right.holds u (omega arith)) ∙ held-there track w.0 u (w.1.0, omega arith, omega (arith, w.1.2)) ∙ sym (held-there track w.0 (suc u) w.1) ∙ right.holds (suc u) k))))

-- no right track has fewer samples than the packed one
pub fewest : (cues : List Cue) (T : ℕ) (track : List Sample) → Proper cues T → Right cues T track → length (packed cues T) ≤ length track
fewest cues T track ok right =
    omega (
      arith,
      length-begins 0 track,
      longer cues T (T ∷ begins 0 track)
          (λ t m. either T t (λ h. let k = marks-le cues T ok t m in let q : t ≡ T = omega arith in Memᴰ.head q) (λ h. Memᴰ.tail (cut-begins cues T track ok right t m h))),
    )
