-- The places of a timestamp, one after another.
use Prim.Native.Nat.{ℕ, zero, suc, ◌+◌, ◌-◌, ◌*◌, ◌≤◌, ◌<◌}
use mathlib.Core.Path.{◌≡◌, refl, ap, ◌∙◌, subst}
use mathlib.Core.Option.{none, some}
use mathlib.Core.List.{List, [], ◌∷◌, map}
use native.Mathlib.Omega.{arith}
use native.Mathlib.Nat.{add-zero, not-suc-le-zero, le_of_suc-le-suc, mul-le-mul_right}
use native.Mathlib.Numerals.{add-one}
use lib.Bits.{bit_or, or_add_and, and_le_l, and_le_r}
use lib.Dec.{leb}
use lib.ListN.{length, get_or, drop}
use lib.Seq.{drop-cons}
use borrow.Author.Tests.{le-leb, lt-leb, ne_eqb}
use Rattle.base.specs.Choice.{pick}
use Rattle.base.proofs.Choice.{either}
use Rattle.profile.specs.declared.Tag.{Tag}
use Rattle.profile.specs.Spot.{Past, Bad}
use Rattle.profile.specs.Machine.{Place, clock, most, timed_on, timing, State, at, Text, Lt, Stamp, step, judge_from}
use Rattle.profile.specs.Readings.{Reads, from}
use Rattle.profile.proofs.Readings.{r-end, r-dead, r-here, r-step, r-then}
use Rattle.profile_times.specs.Stamped.{Time, Amiss}
use Rattle.profile_times.specs.Terms.{TimeIs, Told, lows, highs, Fits}

-- the milliseconds of a step, from the clock's places
abbrev pub units : List ℕ
units = map (λ (p : Place). p.2) clock

-- what the places behind each can bring
unfoldable pub rests_of : List Place → List ℕ
rests_of [] = []
rests_of (p ∷ ps) = most ps ∷ rests_of ps

abbrev pub rests : List ℕ
rests = rests_of clock

entry : (ps : List Place) (k : ℕ) → k < length ps
    → drop k ps ≡ (get_or (map (λ (p : Place). p.0) ps) k 0, get_or (map (λ (p : Place). p.1) ps) k 0, get_or (map (λ (p : Place). p.2) ps) k 0) ∷ drop (suc k) ps
entry [] k h = absurd (not-suc-le-zero h)
entry (p ∷ ps) zero h = refl
entry (p ∷ ps) (suc k) h = entry ps k (le_of_suc-le-suc h)

rest-is : (ps : List Place) (k : ℕ) → get_or (rests_of ps) k 0 ≡ most (drop (suc k) ps)
unfolding rests_of most
rest-is [] k = refl
rest-is (p ∷ ps) zero = refl
rest-is (p ∷ ps) (suc k) = rest-is ps k

-- m milliseconds are read, these places are to come
abbrev pub stamping : List Place → ℕ → ℕ → List Tag → State
stamping [] m low st = at Text st (suc m)
stamping (p ∷ ps) m low st = at (Stamp p ps m) st low

timed-on : (ps : List Place) (m low : ℕ) (st : List Tag) → timed_on ps m st low ≡ some (stamping ps m low st)
timed-on [] m low st = refl
timed-on (p ∷ ps) m low st = refl

-- k places from p on are read: m milliseconds, and with those to come at most 99:59:59.999
pub record Begun (s : List ℕ) (p low k m : ℕ) : Type 0 where
  pub reads : Reads (List Tag) s p (Past (p + k)) (λ st. at Lt st low) (stamping (drop k clock) m low)
  pub fits : m + most (drop k clock) ≤ 359999999

pub none_read : (s : List ℕ) (p low : ℕ) → p < length s → get_or s p 0 ≤ 57 → (get_or s p 0 ≡ 47 → ⊥) → Begun s p low 0 0
unfolding from judge_from step clock most
none_read s p low h d e = record {
  reads = rw (add-zero p) (record { bounds = (omega arith, omega arith); leads = λ st. rw (drop-cons s p 0 h, ne_eqb (get_or s p 0) 47 e, le-leb (get_or s p 0) 57 d) });
  fits = omega arith;
}

pub all_read : {s : List ℕ} {p low k m : ℕ} → Begun s p low k m → k ≡ 13 → TimeIs s p low (Time (p + 13) m)
unfolding clock most
all_read {s} {p} {low} {k} {m} t e = let u : Begun s p low 13 m = rw e at t in (omega (arith, u.fits), u.reads)

module _ {s : List ℕ} {p low k m : ℕ} (t : Begun s p low k m) (h : k < 13) where
  abbrev b : ℕ
  b = get_or s (p + k) 0

  abbrev lo : ℕ
  lo = get_or lows k 0

  abbrev hi : ℕ
  hi = get_or highs k 0

  abbrev unit : ℕ
  unit = get_or units k 0

  abbrev ps : List Place
  ps = drop (suc k) clock

  split : drop k clock ≡ (lo, hi, unit) ∷ ps
  unfolding clock
  split = entry clock k h

  now : List Tag → State
  now st = at (Stamp (lo, hi, unit) ps m) st low

  so_far : Reads (List Tag) s p (Past (p + k)) (λ st. at Lt st low) now
  unfolding now
  so_far = subst (λ (l : List Place). Reads (List Tag) s p (Past (p + k)) (λ st. at Lt st low) (stamping l m low)) split t.reads

  stops : Reads (List Tag) s (p + k) (Bad (p + k)) now (λ st. at Lt st low) → TimeIs s p low (Amiss (p + k))
  stops = r-then (List Tag) s p (p + k) (Bad (p + k)) (λ st. at Lt st low) now (λ st. at Lt st low) so_far

  pub ends : length s ≤ p + k → TimeIs s p low (Amiss (p + k))
  unfolding now
  ends e = stops (r-end (List Tag) s (p + k) now (λ st. at Lt st low) e (λ st. refl))

  module _ (l : p + k < length s) where
    dies : ((st : List Tag) → step (now st) b ≡ none) → TimeIs s p low (Amiss (p + k))
    dies f = stops (r-dead (List Tag) s (p + k) now (λ st. at Lt st low) l f)

    pub below : b < lo → TimeIs s p low (Amiss (p + k))
    unfolding now step timing
    below e = dies (λ st. rw (lt-leb lo b e))

    pub above : lo ≤ b → hi < b → TimeIs s p low (Amiss (p + k))
    unfolding now step timing
    above d e = dies (λ st. rw (le-leb lo b d, lt-leb b hi e))

    module _ (d : lo ≤ b) (e : b ≤ hi) where
      abbrev next : ℕ
      next = m + (b - lo) * unit

      abbrev top : ℕ
      top = next + get_or rests k 0

      top-fits : top ≤ 359999999
      unfolding most
      top-fits = omega (arith, rest-is clock k, rw split at t.fits, mul-le-mul_right {m = b - lo} {n = hi - lo} unit (omega arith))

      pub steps-fit : ((b - lo) * unit ≤ 359999999) × (next + get_or rests k 0 ≤ 359999999)
      steps-fit = (omega (arith, top-fits), top-fits)

      steps : (st : List Tag) → step (now st) b ≡ pick (leb low top) (some (stamping ps next low st)) none
      unfolding now step timing
      steps st = rw (le-leb lo b d, le-leb b hi e, timed-on ps next low st, rest-is clock k)

      pub late : top < low → TimeIs s p low (Amiss (p + k))
      late f = dies (λ st. steps st ∙ rw (lt-leb low top f))

      pub on : low ≤ top → Begun s p low (k + 1) next
      on f =
          let i : p + suc k ≡ p + k + 1 = omega arith in
          let a = stamping ps next low in
          rw (add-one k) (record {
            reads = rw i (r-then (List Tag) s p (p + k) (Past (p + k + 1)) (λ st. at Lt st low) now a so_far (r-step (List Tag) s (p + k) (Past (p + k + 1)) now a a l (λ st. steps st ∙ rw (le-leb low top f)) (r-here (List Tag) s (p + k + 1) a (omega arith))));
            fits = rw (rest-is clock k) at top-fits;
          })

-- one byte more fits, if both marks joined are 0
pub fits_on : (s : List ℕ) (p k x y : ℕ) → (x ≡ 0 → Fits s p k) → (y ≡ 0 → (get_or lows k 0 ≤ get_or s (p + k) 0) × (get_or s (p + k) 0 ≤ get_or highs k 0)) → bit_or x y ≡ 0 → Fits s p (k + 1)
fits_on s p k x y f g e j h =
    let a = or_add_and x y in
    let b = and_le_l x y in
    let c = and_le_r x y in
    either k j (λ i. let q : j ≡ k = omega arith in rw q (g (omega arith))) (λ i. f (omega arith) j i)

-- k places from p on are read with each least time that can still be reached, if the 13 bytes fit
abbrev pub Reached : List ℕ → ℕ → ℕ → ℕ → Type 0
Reached s p k m = (low : ℕ) → low ≤ m + most (drop k clock) → Begun s p low k m

module _ {s : List ℕ} {p : ℕ} (l : p + 13 ≤ length s) (f : Fits s p 13) where
  pub none-reached : Reached s p 0 0
  unfolding clock
  none-reached low h = let b = rw (add-zero p) at (f 0 (omega arith)) in none_read s p low (omega arith) b.1 (λ e. omega (arith, b.0))

  pub reached-on : {k m : ℕ} → Reached s p k m → k < 13 → Reached s p (k + 1) (m + (get_or s (p + k) 0 - get_or lows k 0) * get_or units k 0)
  unfolding clock most
  reached-on {k} {m} r h low i =
      let b = f k h in
      let q : (get_or s (p + k) 0 - get_or lows k 0) * get_or units k 0 ≤ (get_or highs k 0 - get_or lows k 0) * get_or units k 0 = mul-le-mul_right (get_or units k 0) (omega (arith, b.0, b.1)) in
      let j : low ≤ m + (get_or s (p + k) 0 - get_or lows k 0) * get_or units k 0 + get_or rests k 0 = rw (rest-is clock k) (rw (add-one k) at i) in
      on (r low (omega (arith, ap most (entry clock k h), rest-is clock k))) h (omega arith) b.0 b.1 j

  pub reached-all : {k m : ℕ} → Reached s p k m → k ≡ 13 → Told s p m
  unfolding clock most
  reached-all r e low h = all_read (r low (rw e (omega arith))) e
