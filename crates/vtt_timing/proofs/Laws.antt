-- The definition as the code goes over places of the line.
use Prim.Native.Nat.{ℕ, suc, ◌+◌, ◌-◌, ◌<◌, ◌≤◌}
use mathlib.Core.Path.{◌≡◌, refl, sym, ap, ap₂, ◌∙◌}
use mathlib.Core.Bool.{Bool, true, false}
use mathlib.Core.Option.{Option, none, some}
use mathlib.Core.List.{List, [], ◌∷◌, ◌++◌}
use native.Mathlib.Omega.{arith}
use borrow.Author.Tests.{eq-eqb, ne_eqb, eqb-true, eqb-false}
use lib.Dec.{eqb}
use lib.ListN.{length, take, drop, get_or, length-drop, drop_of_length-le}
use lib.Seq.{drop-cons, drop-drop, take-suc, take_all, get_or-drop}
use Rattle.base.specs.Choice.{both}
use Rattle.base.proofs.Choice.{by-test, either, true-false}
use Rattle.base.proofs.Tests.{both-no}
use Rattle.utf8.specs.Strings.{starts_with}
use Rattle.utf8.specs.Forbidden.{arrow}
use Rattle.timestamps.specs.Timestamp.{Ms, Malformed}
use Rattle.timestamps.specs.Timestamps.{front, behind, time_of, capped, answered}
use Rattle.timestamps.proofs.Laws.{behind-drop}
use Rattle.vtt_timing.specs.Timing.{blank, unblank, edge, begins, unless_edge, trimmed_end, trimmed, timing, after_word, timing_of}
use Rattle.vtt_timing.specs.Read.{TimesIn}

-- ---- runs

pub front-take : (p : ℕ → Bool) (s : List ℕ) → front p s ≡ take (length (front p s)) s
unfolding front
front-take p [] = refl
front-take p (b ∷ s) = by-test (p b) (λ e. rw e (ap (λ (x : List ℕ). b ∷ x) (front-take p s))) (λ e. rw e)

module _ (p : ℕ → Bool) (s : List ℕ) where
  -- where the run from a place ends
  abbrev pub run_end : ℕ → ℕ
  run_end i = i + length (front p (drop i s))

  pub run_more : (i : ℕ) → i < length s → p (get_or s i 0) ≡ true → run_end (i + 1) ≡ run_end i
  unfolding front
  run_more i h e =
      let n : i + 1 ≡ suc i = omega arith in
      let f : length (front p (drop i s)) ≡ suc (length (front p (drop (i + 1) s))) = rw (drop-cons s i 0 h, e, n) in
      omega (arith, f)

  pub run-stop : (i : ℕ) → i < length s → p (get_or s i 0) ≡ false → i ≡ run_end i
  unfolding front
  run-stop i h e =
      let f : length (front p (drop i s)) ≡ 0 = rw (drop-cons s i 0 h, e) in
      omega (arith, f)

  pub run_end_lem : (i : ℕ) → length s ≤ i → i ≡ run_end i
  unfolding front
  run_end_lem i h =
      let f : length (front p (drop i s)) ≡ 0 = rw (drop_of_length-le s h) in
      omega (arith, f)

  -- the run is a part of the text, and what is behind it begins at its end
  pub front-part : (i j : ℕ) → j ≡ run_end i → front p (drop i s) ≡ take (j - i) (drop i s)
  front-part i j e =
      let n : j - i ≡ length (front p (drop i s)) = omega (arith, e) in
      front-take p (drop i s) ∙ ap (λ (k : ℕ). take k (drop i s)) (sym n)

  pub behind-part : (i j : ℕ) → j ≡ run_end i → behind p (drop i s) ≡ drop j s
  behind-part i j e = behind-drop p (drop i s) ∙ drop-drop (length (front p (drop i s))) i s ∙ ap (λ (k : ℕ). drop k s) (sym e)

-- ---- trimming

trim-edge : (s : List ℕ) (b : ℕ) → edge b ≡ true → trimmed_end (s ++ b ∷ []) ≡ trimmed_end s
unfolding trimmed_end
trim-edge [] b h = rw h
trim-edge (c ∷ s) b h = ap (unless_edge c) (trim-edge s b h)

trim-other : (s : List ℕ) (b : ℕ) → edge b ≡ false → trimmed_end (s ++ b ∷ []) ≡ s ++ b ∷ []
unfolding trimmed_end
trim-other [] b h = rw h
trim-other (c ∷ s) b h = ap (unless_edge c) (trim-other s b h) ∙ stays c s b
  where
    stays : (c : ℕ) (s : List ℕ) (b : ℕ) → unless_edge c (s ++ b ∷ []) ≡ c ∷ (s ++ b ∷ [])
    stays c [] b = refl
    stays c (x ∷ s) b = refl

module _ (s : List ℕ) (from : ℕ) where
  -- from `from` up to `to`
  abbrev pub up_to : ℕ → List ℕ
  up_to to = take (to - from) (drop from s)

  last_of : (to : ℕ) → from < to → to ≤ length s → up_to to ≡ up_to (to - 1) ++ get_or s (to - 1) 0 ∷ []
  last_of to h k =
      let n : to - from ≡ suc (to - 1 - from) = omega arith in
      let l : to - 1 - from < length (drop from s) = omega (arith, length-drop from s) in
      let m : from + (to - 1 - from) ≡ to - 1 = omega arith in
      ap (λ (i : ℕ). take i (drop from s)) n
      ∙ take-suc (drop from s) (to - 1 - from) 0 l
      ∙ ap (λ (b : ℕ). up_to (to - 1) ++ b ∷ []) (get_or-drop from s (to - 1 - from) 0 ∙ ap (λ (i : ℕ). get_or s i 0) m)

  -- `to` is behind the end, or behind edges from the end
  abbrev pub Trimming : ℕ → Type 0
  Trimming to = (from ≤ to) × (to ≤ length s) × (trimmed_end (up_to to) ≡ trimmed_end (drop from s))

  -- what is left up to `to` has no edges at its end
  abbrev pub Trimmed : ℕ → Type 0
  Trimmed to = (from ≤ to) × (to ≤ length s) × (up_to to ≡ trimmed_end (drop from s))

  pub trimming-start : from ≤ length s → Trimming (length s)
  trimming-start h = (h, omega arith, ap trimmed_end (take_all (length s - from) (drop from s) (omega (arith, length-drop from s))))

  pub trimming-more : (to : ℕ) → from < to → edge (get_or s (to - 1) 0) ≡ true → Trimming to → Trimming (to - 1)
  trimming-more to h e t = (omega arith, omega (arith, t.1), sym (trim-edge (up_to (to - 1)) (get_or s (to - 1) 0) e) ∙ ap trimmed_end (sym (last_of to h t.1)) ∙ t.2)

  pub trimming-stop : (to : ℕ) → from < to → edge (get_or s (to - 1) 0) ≡ false → Trimming to → up_to to ≡ trimmed_end (drop from s)
  trimming-stop to h e t = let l = last_of to h t.1 in l ∙ sym (trim-other (up_to (to - 1)) (get_or s (to - 1) 0) e) ∙ ap trimmed_end (sym l) ∙ t.2

  pub trimming-end : (to : ℕ) → to ≤ from → Trimming to → up_to to ≡ trimmed_end (drop from s)
  unfolding trimmed_end
  trimming-end to h t =
      let n : to - from ≡ 0 = omega arith in
      let e : up_to to ≡ [] = ap (λ (i : ℕ). take i (drop from s)) n in
      e ∙ ap trimmed_end (sym e) ∙ t.2

-- ---- the arrow

pub between-short : (s : List ℕ) (i : ℕ) → length s - i < 4 → both (starts_with arrow (drop i s)) (begins blank (drop 3 (drop i s))) ≡ false
between-short s i h =
    let l : length (drop i s) ≤ 3 = omega (arith, length-drop i s) in
    ap (λ (x : List ℕ). both (starts_with arrow (drop i s)) (begins blank x)) (drop_of_length-le (drop i s) l) ∙ both-no (starts_with arrow (drop i s))

pub begins-at : (p : ℕ → Bool) (s : List ℕ) (i : ℕ) → i + 3 < length s → begins p (drop 3 (drop i s)) ≡ p (get_or s (i + 3) 0)
begins-at p s i h = ap (begins p) (drop-drop 3 i s ∙ drop-cons s (i + 3) 0 h)

pub between-room : (s : List ℕ) (i : ℕ) → both (starts_with arrow (drop i s)) (begins blank (drop 3 (drop i s))) ≡ true → i + 3 ≤ length s
between-room s i h = either (i + 3) (length s) (λ k. k) (λ k. true-false _ h (between-short s i (omega arith)))

-- ---- an answered timestamp

answered-none : (o : Option ℕ) → Malformed ≡ answered o → o ≡ none
answered-none none e = refl
answered-none (some t) e = let z : ◌≡◌ {A = ℕ} 0 1 = cc in absurd (omega arith)

pub answered-some : (o : Option ℕ) (x : ℕ) → Ms x ≡ answered o → (t : ℕ) × (o ≡ some t) × (x ≡ capped t)
answered-some none x e = let z : ◌≡◌ {A = ℕ} 0 1 = cc in absurd (omega arith)
answered-some (some t) x e = (t, refl, cc)

timing-some : (b : Bool) (o u : Option ℕ) (s t : List ℕ) (x y : ℕ) → b ≡ true → o ≡ some x → u ≡ some y → s ≡ t → timing b o u s ≡ some (record { start = x; end = y; settings = t })
timing-some b o u s t x y e p q r = rw (e, p, q, r)

-- ---- the line

module _ (l : List ℕ) (first arr second rest : ℕ)
    (first-is : first ≡ run_end unblank l 0) (arr_is : arr ≡ run_end blank l first)
    (second_is : second ≡ run_end blank l (arr + 3)) (rest-is : rest ≡ run_end unblank l second) where
  after_is : after_word l ≡ drop arr l
  unfolding after_word
  after_is = ap (behind blank) (behind-part unblank l 0 first first-is) ∙ behind-part blank l first arr arr_is

  second_from : behind blank (drop 3 (after_word l)) ≡ drop second l
  second_from = ap (λ (x : List ℕ). behind blank (drop 3 x)) after_is ∙ ap (behind blank) (drop-drop 3 arr l) ∙ behind-part blank l (arr + 3) second second_is

  pub timing-by : timing_of l ≡ timing (both (starts_with arrow (drop arr l)) (begins blank (drop 3 (drop arr l)))) (time_of (take (first - 0) (drop 0 l))) (time_of (take (rest - second) (drop second l))) (trimmed (drop rest l))
  unfolding timing_of
  timing-by =
      rw (second_from, after_is)
      (ap₂ (λ (x y : List ℕ). timing (both (starts_with arrow (drop arr l)) (begins blank (drop 3 (drop arr l)))) (time_of x) (time_of (front unblank (drop second l))) (trimmed y))
      (front-part unblank l 0 first first-is) (behind-part unblank l second rest rest-is)
      ∙ ap (λ (x : List ℕ). timing (both (starts_with arrow (drop arr l)) (begins blank (drop 3 (drop arr l)))) (time_of (take (first - 0) (drop 0 l))) (time_of x) (trimmed (drop rest l)))
      (front-part unblank l second rest rest-is))

  -- the line is malformed where a part of it is
  pub no_arrow : both (starts_with arrow (drop arr l)) (begins blank (drop 3 (drop arr l))) ≡ false → timing_of l ≡ none
  no_arrow e = timing-by ∙ rw e

  pub no_start : Malformed ≡ answered (time_of (take (first - 0) (drop 0 l))) → timing_of l ≡ none
  no_start e = timing-by ∙ rw (answered-none (time_of (take (first - 0) (drop 0 l))) e) (nothing (both (starts_with arrow (drop arr l)) (begins blank (drop 3 (drop arr l)))))
    where
      nothing : (b : Bool) → timing b none (time_of (take (rest - second) (drop second l))) (trimmed (drop rest l)) ≡ none
      nothing true = refl
      nothing false = refl

  pub no_end : Malformed ≡ answered (time_of (take (rest - second) (drop second l))) → timing_of l ≡ none
  no_end e = timing-by ∙ rw (answered-none (time_of (take (rest - second) (drop second l))) e) (nothing (both (starts_with arrow (drop arr l)) (begins blank (drop 3 (drop arr l)))) (time_of (take (first - 0) (drop 0 l))))
    where
      nothing : (b : Bool) (o : Option ℕ) → timing b o none (trimmed (drop rest l)) ≡ none
      nothing false o = refl
      nothing true none = refl
      nothing true (some t) = refl

  -- and else says its times and settings
  pub times-in : (start end from to : ℕ) → both (starts_with arrow (drop arr l)) (begins blank (drop 3 (drop arr l))) ≡ true
      → Ms start ≡ answered (time_of (take (first - 0) (drop 0 l))) → Ms end ≡ answered (time_of (take (rest - second) (drop second l)))
      → from ≡ run_end edge l rest → (from ≤ to) × (to ≤ length l) × (up_to l from to ≡ trimmed_end (drop from l)) → TimesIn l start end from to
  unfolding trimmed
  times-in start end from to b p q f t =
      let u = answered-some (time_of (take (first - 0) (drop 0 l))) start p in
      let v = answered-some (time_of (take (rest - second) (drop second l))) end q in
      let w : trimmed (drop rest l) ≡ up_to l from to = ap trimmed_end (behind-part edge l rest from f) ∙ sym t.2 in
      record {
        says = record { start = u.0; end = v.0; settings = up_to l from to };
        is = timing-by ∙ timing-some _ _ _ _ (up_to l from to) u.0 v.0 b u.1 v.1 w;
        start_is = u.2;
        end_is = v.2;
        ordered = t.0;
        within = t.1;
        settings_is = refl;
      }

-- ---- only blanks

-- nothing is left behind the run exactly where it ends with the text
pub none-behind : (p : ℕ → Bool) (s : List ℕ) (i j : ℕ) → j ≡ run_end p s i → j ≤ length s → eqb j (length s) ≡ eqb (length (behind p (drop i s))) 0
none-behind p s i j e h =
    let l : length (behind p (drop i s)) ≡ length s - j = ap length (behind-part p s i j e) ∙ length-drop j s in
    by-test (eqb j (length s))
    (λ t. t ∙ sym (eq-eqb (length (behind p (drop i s))) 0 (omega (arith, eqb-true j (length s) t, l))))
    (λ t. t ∙ sym (ne_eqb (length (behind p (drop i s))) 0 (λ z. eqb-false j (length s) t (omega (arith, l, z)))))
