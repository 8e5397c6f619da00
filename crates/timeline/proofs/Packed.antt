-- An honest house's track and the packed track are right.
use Prim.Native.Nat.{◌+◌, ◌-◌, ◌<◌, ◌≤◌, ℕ}
use mathlib.Core.Path.{◌∙◌, ◌≡◌, ap, refl, subst, sym}
use mathlib.Core.Logic.{◌⊎◌, inl, inr}
use mathlib.Core.Bool.{false, true}
use mathlib.Core.Option.{some}
use mathlib.Core.List.Memᴰ
use mathlib.Core.List.{List, Memᴰ, [], ◌++◌, ◌∷◌, append-nil}
use native.Mathlib.Omega.{arith}
use native.Mathlib.Nat.{le_of_lt, not-suc-le-zero, zero-add}
use lib.Dec.{leb, ltb}
use borrow.Author.Tests.{le-leb, le-ltb, lt-leb, lt-ltb}
use Rattle.base.specs.Choice.{both}
use Rattle.base.proofs.Choice.{by-test, either}
use Rattle.timeline.specs.Cues.{Body, Cue, Proper, running_at, runs}
use Rattle.timeline.specs.Tracks.{Right, Sample, held_at, held_from, total}
use Rattle.timeline.specs.Packing.{Honest, Rising, Sorts, edges, held_over, marks, packed, sorted, stretches}
use Rattle.timeline.proofs.Running.{chosen-same, runs-early, runs-is, runs-late, runs-not, runs-yes}
use Rattle.timeline.proofs.Holding.{from-later, from-now}
use Rattle.timeline.proofs.Sorting.{sorted-sorts}

pub edges-append : (a b : List Cue) → edges (a ++ b) ≡ edges a ++ edges b
unfolding edges
edges-append [] b = refl
edges-append (c ∷ a) b = rw (edges-append a b)

-- edges are starts and ends
pub start-edge : (cs : List Cue) (c : Cue) → Memᴰ c cs → Memᴰ c.start (edges cs)
unfolding edges
start-edge [] c m = absurd (Memᴰ.not-nil m)
start-edge (x ∷ cs) c m =
    elim (Memᴰ.cases_cons m) [ inl e ↦ Memᴰ.head (ap (λ (z : Cue). z.start) e) | inr k ↦ Memᴰ.tail (Memᴰ.tail (start-edge cs c k)) ]

pub end-edge : (cs : List Cue) (c : Cue) → Memᴰ c cs → Memᴰ c.end (edges cs)
unfolding edges
end-edge [] c m = absurd (Memᴰ.not-nil m)
end-edge (x ∷ cs) c m =
    elim (Memᴰ.cases_cons m) [ inl e ↦ Memᴰ.tail (Memᴰ.head (ap (λ (z : Cue). z.end) e)) | inr k ↦ Memᴰ.tail (Memᴰ.tail (end-edge cs c k)) ]

pub edge_of : (cs : List Cue) (t : ℕ) → Memᴰ t (edges cs) → (c : Cue) × Memᴰ c cs × ((t ≡ c.start) ⊎ (t ≡ c.end))
unfolding edges
edge_of [] t m = absurd (Memᴰ.not-nil m)
edge_of (x ∷ cs) t m = go (Memᴰ.cases_cons m) (λ k. edge_of cs t k)
  where
    low : (t ≡ x.end) ⊎ Memᴰ t (edges cs) → (Memᴰ t (edges cs) → (c : Cue) × Memᴰ c cs × ((t ≡ c.start) ⊎ (t ≡ c.end)))
        → (c : Cue) × Memᴰ c (x ∷ cs) × ((t ≡ c.start) ⊎ (t ≡ c.end))
    low (inl e) f = (x, Memᴰ.head refl, inr e)
    low (inr k) f = let w = f k in (w.0, Memᴰ.tail w.1, w.2)

    go : (t ≡ x.start) ⊎ Memᴰ t (x.end ∷ edges cs) → (Memᴰ t (edges cs) → (c : Cue) × Memᴰ c cs × ((t ≡ c.start) ⊎ (t ≡ c.end)))
        → (c : Cue) × Memᴰ c (x ∷ cs) × ((t ≡ c.start) ⊎ (t ≡ c.end))
    go (inl e) f = (x, Memᴰ.head refl, inl e)
    go (inr k) f = low (Memᴰ.cases_cons k) f

-- no edge lies between b and e
abbrev pub Quiet : List Cue → ℕ → ℕ → Type 0
Quiet cues b e = (t : ℕ) → b < t → t < e → Memᴰ t (edges cues) → ⊥

-- where no edge lies between, what runs at the begin runs through
pub steady : (cues : List Cue) (b e : ℕ) → Quiet cues b e → (t : ℕ) → b ≤ t → t < e → running_at cues b ≡ running_at cues t
unfolding running_at
steady cues b e quiet t lo hi = chosen-same (λ c. runs c b) (λ c. runs c t) cues (λ c m. by-test (runs c b) (λ y. y ∙ sym (on c m (runs-is c b y))) (λ y. y ∙ sym (off c m (runs-not c b y))))
  where
    on : (c : Cue) → Memᴰ c cues → (c.start ≤ b) × (b < c.end) → runs c t ≡ true
    on c m w = runs-yes c t (omega (arith, w.0)) (either c.end t (λ h. absurd (quiet c.end w.1 (omega arith) (end-edge cues c m))) (λ h. h))

    off : (c : Cue) → Memᴰ c cues → (b < c.start) ⊎ (c.end ≤ b) → runs c t ≡ false
    off c m (inl w) = runs-early c t (either c.start t (λ h. absurd (quiet c.start w (omega arith) (start-edge cues c m))) (λ h. h))
    off c m (inr w) = runs-late c t (omega arith)

-- and what packing puts there is that
pub over-is : (cues : List Cue) (b e : ℕ) → b < e → Quiet cues b e → held_over cues b e ≡ running_at cues b
unfolding held_over running_at runs
over-is cues b e l quiet = chosen-same (λ c. both (leb c.start b) (leb e c.end)) (λ c. runs c b) cues (λ c m. ap (both (leb c.start b)) (same c m))
  where
    same : (c : Cue) → Memᴰ c cues → leb e c.end ≡ ltb b c.end
    same c m =
        either c.end b
        (λ h. lt-leb e c.end (omega arith) ∙ sym (le-ltb b c.end h))
        (λ h. le-leb e c.end (either e c.end (λ k. k) (λ k. absurd (quiet c.end h k (end-edge cues c m)))) ∙ sym (lt-ltb b c.end h))

-- the stretches of any rising list that has every edge and ends at T
module _ (cues : List Cue) (T : ℕ) (h : ℕ → ℕ → List Body) (ok : (b e : ℕ) → b < e → Quiet cues b e → h b e ≡ running_at cues b) where
  -- what is known of the cuts from b on
  record Cuts (b : ℕ) (r : List ℕ) : Type 0 where
    rising : Rising (b ∷ r)
    has_end : Memᴰ T (b ∷ r)
    within : (t : ℕ) → Memᴰ t (b ∷ r) → t ≤ T
    every : (t : ℕ) → b < t → Memᴰ t (edges cues) → Memᴰ t r

  next : (b e : ℕ) (r : List ℕ) → Cuts b (e ∷ r) → Cuts e r
  unfolding Rising
  next b e r c = record {
    rising = c.rising.1;
    has_end = elim (Memᴰ.cases_cons c.has_end) [ inl q ↦ absurd (omega (arith, c.rising.0 e (Memᴰ.head refl), c.within e (Memᴰ.tail (Memᴰ.head refl)))) | inr k ↦ k ];
    within = λ t m. c.within t (Memᴰ.tail m);
    every = λ t l m. elim (Memᴰ.cases_cons (c.every t (omega (arith, c.rising.0 e (Memᴰ.head refl))) m)) [ inl q ↦ absurd (omega arith) | inr k ↦ k ];
  }

  gap : (b e : ℕ) (r : List ℕ) → Cuts b (e ∷ r) → b < e
  unfolding Rising
  gap b e r c = c.rising.0 e (Memᴰ.head refl)

  quiet : (b e : ℕ) (r : List ℕ) → Cuts b (e ∷ r) → Quiet cues b e
  unfolding Rising
  quiet b e r c t lo hi m =
      elim (Memᴰ.cases_cons (c.every t lo m)) [ inl q ↦ omega arith | inr k ↦ omega (arith, c.rising.1.0 t k) ]

  sums : (b : ℕ) (r : List ℕ) → Cuts b r → b + total (stretches h (b ∷ r)) ≡ T
  unfolding stretches total
  sums b [] c = elim (Memᴰ.cases_cons c.has_end) [ inl q ↦ omega arith | inr k ↦ absurd (Memᴰ.not-nil k) ]
  sums b (e ∷ r) c = omega (arith, sums e r (next b e r c), gap b e r c)

  positive : (b : ℕ) (r : List ℕ) → Cuts b r → (s : Sample) → Memᴰ s (stretches h (b ∷ r)) → 0 < s.duration
  unfolding stretches
  positive b [] c s m = absurd (Memᴰ.not-nil m)
  positive b (e ∷ r) c s m = go (Memᴰ.cases_cons m) (λ k. positive e r (next b e r c) s k)
    where
      go : (s ≡ record { duration = e - b; held = h b e }) ⊎ Memᴰ s (stretches h (e ∷ r)) → (Memᴰ s (stretches h (e ∷ r)) → 0 < s.duration) → 0 < s.duration
      go (inl q) f = omega (arith, ap (λ (x : Sample). x.duration) q, gap b e r c)
      go (inr k) f = f k

  holds : (b : ℕ) (r : List ℕ) → Cuts b r → (t : ℕ) → b ≤ t → t < T → held_from b (stretches h (b ∷ r)) t ≡ some (running_at cues t)
  unfolding stretches
  holds b [] c t lo hi = absurd (elim (Memᴰ.cases_cons c.has_end) [ inl q ↦ omega arith | inr k ↦ Memᴰ.not-nil k ])
  holds b (e ∷ r) c t lo hi =
      let g = gap b e r c in
      let s : Sample = record { duration = e - b; held = h b e } in
      let far : b + (e - b) ≡ e = omega arith in
      either e t
      (λ k. from-later b s (stretches h (e ∷ r)) t (omega arith)
      ∙ ap (λ (x : ℕ). held_from x (stretches h (e ∷ r)) t) far
      ∙ holds e r (next b e r c) t k hi)
      (λ k. from-now b s (stretches h (e ∷ r)) t lo (omega arith)
      ∙ ap some (ok b e g (quiet b e r c) ∙ steady cues b e (quiet b e r c) t lo k))

  -- each sample holds what runs at its begin
  at-begin : (b : ℕ) (r : List ℕ) → Cuts b r → stretches h (b ∷ r) ≡ stretches (λ x y. running_at cues x) (b ∷ r)
  unfolding stretches
  at-begin b [] c = refl
  at-begin b (e ∷ r) c = rw (ok b e (gap b e r c) (quiet b e r c), at-begin e r (next b e r c))

  -- what is known of all the cuts of a sorted list
  from_sorted : (m : List ℕ) → Memᴰ 0 m → Memᴰ T m → ((t : ℕ) → Memᴰ t m → t ≤ T)
      → ((t : ℕ) → Memᴰ t (edges cues) → Memᴰ t m) → (r : List ℕ) × (sorted m ≡ 0 ∷ r) × Cuts 0 r
  unfolding Rising
  from_sorted m zin tin top all = go (sorted m) (sorted-sorts m) refl
    where
      start : (x : ℕ) (r : List ℕ) → Sorts (x ∷ r) m → (0 ≡ x) ⊎ Memᴰ 0 r → x ≡ 0
      start x r s (inl q) = sym q
      start x r s (inr k) = absurd (not-suc-le-zero (s.rising.0 0 k))

      known : (r : List ℕ) → Sorts (0 ∷ r) m → Cuts 0 r
      known r s = record {
        rising = s.rising;
        has_end = (s.members T).1 tin;
        within = λ t k. top t ((s.members t).0 k);
        every = λ t l k. elim (Memᴰ.cases_cons ((s.members t).1 (all t k))) [ inl q ↦ absurd (omega arith) | inr j ↦ j ];
      }

      go : (l : List ℕ) → Sorts l m → sorted m ≡ l → (r : List ℕ) × (sorted m ≡ 0 ∷ r) × Cuts 0 r
      go [] s e = absurd (Memᴰ.not-nil ((s.members 0).1 zin))
      go (x ∷ r) s e =
          let z : x ≡ 0 = start x r s (Memᴰ.cases_cons ((s.members 0).1 zin)) in
          (r, e ∙ ap (λ (y : ℕ). y ∷ r) z, known r (subst (λ (y : ℕ). Sorts (y ∷ r) m) z s))

  -- a list of cuts makes a right track
  pub stretches-right : (m : List ℕ) → Memᴰ 0 m → Memᴰ T m → ((t : ℕ) → Memᴰ t m → t ≤ T)
      → ((t : ℕ) → Memᴰ t (edges cues) → Memᴰ t m) → Right cues T (stretches h (sorted m))
  unfolding held_at
  stretches-right m zin tin top all =
      let w = from_sorted m zin tin top all in
      subst (λ (l : List ℕ). Right cues T (stretches h l)) (sym w.1) (build w.0 w.2)
    where
      build : (r : List ℕ) → Cuts 0 r → Right cues T (stretches h (0 ∷ r))
      build r c = record { positive = positive 0 r c; sums = sym (zero-add (total (stretches h (0 ∷ r)))) ∙ sums 0 r c; holds = λ t l. holds 0 r c t (omega arith) l }

-- the marks lie on the timeline
pub marks-le : (cues : List Cue) (T : ℕ) → Proper cues T → (t : ℕ) → Memᴰ t (marks cues T) → t ≤ T
unfolding marks
marks-le cues T ok t m = go (Memᴰ.cases_cons m)
  where
    edge : (c : Cue) × Memᴰ c cues × ((t ≡ c.start) ⊎ (t ≡ c.end)) → t ≤ T
    edge w = elim w.2 [ inl q ↦ omega (arith, ok.lasts w.0 w.1, ok.ends w.0 w.1) | inr q ↦ omega (arith, ok.ends w.0 w.1) ]

    low : (t ≡ T) ⊎ Memᴰ t (edges cues) → t ≤ T
    low (inl q) = omega arith
    low (inr k) = edge (edge_of cues t k)

    go : (t ≡ 0) ⊎ Memᴰ t (T ∷ edges cues) → t ≤ T
    go (inl q) = omega arith
    go (inr k) = low (Memᴰ.cases_cons k)

-- any honest house's track is right
pub honest-right : (cues : List Cue) (T : ℕ) (track : List Sample) → Proper cues T → Honest cues T track → Right cues T track
unfolding marks
honest-right cues T track ok house =
    subst (λ (x : List Sample). Right cues T x) (sym house.cut)
    (stretches-right cues T (λ b e. running_at cues b) (λ b e l q. refl) (marks cues T ++ house.further)
    (Memᴰ.head refl) (Memᴰ.tail (Memᴰ.head refl))
    (λ t m. elim (Memᴰ.append_cases (marks cues T) m) [ inl k ↦ marks-le cues T ok t k | inr k ↦ le_of_lt (house.below t k) ])
    (λ t m. Memᴰ.tail (Memᴰ.tail (Memᴰ.append_left house.further m))))

-- a track that is cut where packing cuts, and at further ticks, is right
further-right : (cues : List Cue) (T : ℕ) → Proper cues T → (further : List ℕ) → ((t : ℕ) → Memᴰ t further → t ≤ T) → Right cues T (stretches (held_over cues) (sorted (further ++ marks cues T)))
unfolding marks
further-right cues T ok further below =
    stretches-right cues T (held_over cues) (over-is cues) (further ++ marks cues T)
    (Memᴰ.append_right further (Memᴰ.head refl)) (Memᴰ.append_right further (Memᴰ.tail (Memᴰ.head refl)))
    (λ t m. elim (Memᴰ.append_cases further m) [ inl k ↦ below t k | inr k ↦ marks-le cues T ok t k ])
    (λ t m. Memᴰ.append_right further (Memᴰ.tail (Memᴰ.tail m)))

-- the packed track is right
pub packed-right : (cues : List Cue) (T : ℕ) → Proper cues T → Right cues T (packed cues T)
unfolding packed
packed-right cues T ok = further-right cues T ok [] (λ t m. absurd (Memᴰ.not-nil m))
