-- What the answers of the check mean: each is given exactly if it is true.
use Prim.Native.Nat.{◌+◌, ◌<◌, ◌≤◌, suc, zero, ℕ}
use mathlib.Core.Path.{◌∙◌, ◌≡◌, ap, refl, subst, sym}
use mathlib.Core.Logic.{◌↔◌, ◌⊎◌, inl, inr}
use mathlib.Core.Bool.{Bool, false, true}
use mathlib.Core.Option.{some}
use mathlib.Core.List.Memᴰ
use mathlib.Core.List.{List, Memᴰ, [], ◌++◌, ◌∷◌, append-nil}
use native.Mathlib.Omega.{arith}
use native.Mathlib.Nat.{le_of_suc-le-suc, not-suc-le-zero}
use native.Mathlib.Numerals.{add-one}
use lib.Dec.{leb, ltb}
use lib.ListN.{get_or, length, length-append, take}
use lib.Seq.{append_snoc}
use borrow.Author.Tests.{leb-false, leb-true, ltb-false, ltb-true}
use Rattle.base.specs.Choice.{pick}
use Rattle.base.proofs.Choice.{both_false, both_left, both_right, by-test, either, true-false}
use Rattle.timeline.specs.Cues.{Cue, Distinct, Lasting, Proper, running_at}
use Rattle.timeline.specs.Tracks.{Positive, Right, Sample, begin_of, blank, end_of, held_of, total}
use Rattle.timeline.specs.Checking.{Answer, Bad, Good, Means, accepted, check, check_from, fits, matches, short, wrong}
use Rattle.timeline.proofs.Holding.{begin-at, end-at, held-at, held-there, some_inj, some-there, total-snoc}
use Rattle.timeline.proofs.Matching.{matches-right, matches-wrong, same_held, same-so, same_bodies}

-- a sample by its place behind p
module _ (cues : List Cue) (T : ℕ) (p : List Sample) (s : Sample) (q track : List Sample) (e : track ≡ p ++ s ∷ q) where
  begins : begin_of track (length p) ≡ total p
  begins = ap (λ (x : List Sample). begin_of x (length p)) e ∙ begin-at p (s ∷ q)

  ends : end_of track (length p) ≡ total p + s.duration
  ends = ap (λ (x : List Sample). end_of x (length p)) e ∙ end-at p s q

  holds : held_of track (length p) ≡ s.held
  holds = ap (λ (x : List Sample). held_of x (length p)) e ∙ held-at p s q

  inside : length p < length track
  inside = rw (e, length-append) (omega arith)

  is-good : 0 < s.duration → Lasting cues → fits cues T (total p) s ≡ true → Good cues T track (length p)
  unfolding fits
  is-good k l h =
      let a = leb (total p + s.duration) T in
      let b = matches cues (total p) (total p + s.duration) s.held in
      let x = leb-true (total p + s.duration) T (both_left a b h) in
      let y = matches-right cues (total p) (total p + s.duration) s.held (omega arith) l (both_right a b h) in
      (omega (arith, ends), λ t w. holds ∙ sym (y t (omega (arith, begins, w.1)) (omega (arith, ends, w.2))))

  is-bad : 0 < s.duration → Lasting cues → Distinct cues → fits cues T (total p) s ≡ false → Bad cues T track (length p)
  unfolding fits
  is-bad k l d h = go (both_false (leb (total p + s.duration) T) (matches cues (total p) (total p + s.duration) s.held) h)
    where
      go : (leb (total p + s.duration) T ≡ false) ⊎ (matches cues (total p) (total p + s.duration) s.held ≡ false) → Bad cues T track (length p)
      go (inl x) = inl (omega (arith, ends, leb-false (total p + s.duration) T x))
      go (inr x) =
          let w = matches-wrong cues (total p) (total p + s.duration) s.held (omega arith) l d x in
          inr (w.0, (inside, omega (arith, begins, w.1), omega (arith, ends, w.2)), λ z. w.3 (sym z ∙ holds))

end-le : (track : List Sample) (i : ℕ) → i < length track → total (take i track) + (get_or track i blank).duration ≤ total track
unfolding total
end-le [] i l = absurd (not-suc-le-zero l)
end-le (s ∷ ss) zero l = omega arith
end-le (s ∷ ss) (suc i) l = omega (arith, end-le ss i (le_of_suc-le-suc l))

pub end-of-le : (track : List Sample) (i : ℕ) → i < length track → end_of track i ≤ total track
unfolding end_of begin_of
end-of-le track i l = end-le track i l

-- good samples that sum to T make a right track, and the other way round
pub good_right : (cues : List Cue) (T : ℕ) (track : List Sample) → Positive track → total track ≡ T → ((j : ℕ) → j < length track → Good cues T track j) → Right cues T track
good_right cues T track pos sums g = record {
  positive = pos;
  sums = sums;
  holds = λ t l. let w = some-there track t (omega arith) in held-there track w.0 t w.1 ∙ ap some ((g w.0 w.1.0).1 t w.1);
}

pub right-good : (cues : List Cue) (T : ℕ) (track : List Sample) → Right cues T track → (j : ℕ) → j < length track → Good cues T track j
right-good cues T track r j l =
    let k = end-of-le track j l in
    (omega (arith, r.sums), λ t w. some_inj (sym (held-there track j t w) ∙ r.holds t (omega (arith, r.sums, w.2))))

pub good-not-bad : (cues : List Cue) (T : ℕ) (track : List Sample) (i : ℕ) → Good cues T track i → Bad cues T track i → ⊥
good-not-bad cues T track i g (inl h) = omega (arith, g.0)
good-not-bad cues T track i g (inr h) = h.2 (g.1 h.0 h.1)

module _ (cues : List Cue) (T : ℕ) (l : Lasting cues) (d : Distinct cues) (track : List Sample) (pos : Positive track) where
  more : (p : List Sample) (s : Sample) → ((j : ℕ) → j < length p → Good cues T track j) → Good cues T track (length p)
      → (j : ℕ) → j < length (p ++ s ∷ []) → Good cues T track j
  more p s before now j h =
      either (suc j) (length p) (λ k. before j k)
      (λ k. let m : length (p ++ s ∷ []) ≡ length p + 1 = length-append p (s ∷ []) in
      let e : j ≡ length p = omega arith in
      subst (λ (x : ℕ). Good cues T track x) (sym e) now)

  at-end : (p : List Sample) → track ≡ p → ((j : ℕ) → j < length p → Good cues T track j) → total p ≤ T → (t : Bool) → ltb (total p) T ≡ t → Means cues T track (pick t (short (length p)) accepted)
  at-end p f before low true h = (ap length (sym f), (λ j k. before j (subst (λ (x : List Sample). j < length x) f k)), subst (λ (x : List Sample). total x < T) (sym f) (ltb-true (total p) T h))
  at-end p f before low false h = good_right cues T track pos (ap total f ∙ (omega (arith, ltb-false (total p) T h))) (λ j k. before j (subst (λ (x : List Sample). j < length x) f k))

  walk : (p rest : List Sample) → track ≡ p ++ rest → ((j : ℕ) → j < length p → Good cues T track j) → total p ≤ T
      → Means cues T track (check_from cues T (total p) (length p) rest)
  unfolding check_from
  walk p [] e before low = at-end p (e ∙ append-nil p) before low (ltb (total p) T) refl
  walk p (s ∷ ss) e before low =
      let k = pos s (subst (λ (x : List Sample). Memᴰ s x) (sym e) (Memᴰ.append_right p (Memᴰ.head refl))) in
      by-test (fits cues T (total p) s)
      (λ h. rw h (next (is-good cues T p s ss track e k l h) (λ a b c. walk (p ++ s ∷ []) ss a b c)))
      (λ h. rw h (inside cues T p s ss track e, is-bad cues T p s ss track e k l d h, before))
    where
      longer : length (p ++ s ∷ []) ≡ suc (length p)
      longer = length-append p (s ∷ []) ∙ add-one (length p)

      further : total (p ++ s ∷ []) ≡ total p + s.duration
      further = total-snoc p s

      next : Good cues T track (length p)
          → (track ≡ p ++ s ∷ [] ++ ss → ((j : ℕ) → j < length (p ++ s ∷ []) → Good cues T track j) → total (p ++ s ∷ []) ≤ T
          → Means cues T track (check_from cues T (total (p ++ s ∷ [])) (length (p ++ s ∷ [])) ss))
          → Means cues T track (check_from cues T (total p + s.duration) (suc (length p)) ss)
      next g rest =
          let r = rest (e ∙ sym (append_snoc p s ss)) (more p s before g) (omega (arith, further, g.0, ends cues T p s ss track e)) in
          subst (λ (n : ℕ). Means cues T track (check_from cues T (total p + s.duration) n ss)) longer
          (subst (λ (n : ℕ). Means cues T track (check_from cues T n (length (p ++ s ∷ [])) ss)) further r)

  means : Means cues T track (check cues T track)
  unfolding check total
  means = walk [] track refl (λ j h. absurd (not-suc-le-zero h)) (omega arith)

-- only one answer is true of a track
pub one_answer : (cues : List Cue) (T : ℕ) (track : List Sample) (v w : Answer) → Means cues T track v → Means cues T track w → v ≡ w
one_answer cues T track accepted accepted a b = refl
one_answer cues T track accepted (wrong j) a b = absurd (good-not-bad cues T track j (right-good cues T track a j b.0) b.1)
one_answer cues T track accepted (short m) a b = absurd (omega (arith, a.sums, b.2))
one_answer cues T track (wrong i) accepted a b = absurd (good-not-bad cues T track i (right-good cues T track b i a.0) a.1)
one_answer cues T track (wrong i) (wrong j) a b =
    ap wrong
    (either (suc i) j (λ h. absurd (good-not-bad cues T track i (b.2 i h) a.1))
    (λ h. either (suc j) i (λ k. absurd (good-not-bad cues T track j (a.2 j k) b.1)) (λ k. omega arith)))
one_answer cues T track (wrong i) (short m) a b = absurd (good-not-bad cues T track i (b.1 i a.0) a.1)
one_answer cues T track (short n) accepted a b = absurd (omega (arith, b.sums, a.2))
one_answer cues T track (short n) (wrong j) a b = absurd (good-not-bad cues T track j (a.1 j b.0) b.1)
one_answer cues T track (short n) (short m) a b = ap short (a.0 ∙ sym b.0)

-- the check says v exactly if v is true of the track
pub answers : (cues : List Cue) (T : ℕ) (track : List Sample) → Proper cues T → Positive track → (v : Answer) → (check cues T track ≡ v) ↔ Means cues T track v
answers cues T track ok pos v =
    let m = means cues T ok.lasts ok.distinct track pos in
    ((λ e. subst (λ (x : Answer). Means cues T track x) e m), λ n. one_answer cues T track (check cues T track) v m n)

-- it accepts exactly the right tracks
pub accepts : (cues : List Cue) (T : ℕ) (track : List Sample) → Proper cues T → Positive track → (check cues T track ≡ accepted) ↔ Right cues T track
accepts cues T track ok pos = answers cues T track ok pos accepted

-- a sample is good where it is not bad
pub not-bad-good : (cues : List Cue) (T : ℕ) (track : List Sample) (j : ℕ) → ¬ Bad cues T track j → Good cues T track j
not-bad-good cues T track j n = (
  either (end_of track j) T (λ h. h) (λ h. absurd (n (inl h))),
  λ t w. by-test (same_bodies (held_of track j) (running_at cues t)) (λ s. same_held (held_of track j) (running_at cues t) s)
      (λ s. absurd (n (inr (t, w, λ q. true-false (same_bodies (held_of track j) (running_at cues t)) (same-so (held_of track j) (running_at cues t) q) s)))),
)
