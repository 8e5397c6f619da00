-- `held_at` says what `There` says.
use Prim.Native.Nat.{◌+◌, ◌<◌, ◌≤◌, suc, zero, ℕ}
use mathlib.Core.Path.{◌∙◌, ◌≡◌, ap, refl, sym}
use mathlib.Core.Option.{Option, none, some}
use mathlib.Core.List.{List, [], ◌++◌, ◌∷◌}
use native.Mathlib.Omega.{arith}
use native.Mathlib.Nat.{add_assoc, add-zero, le_of_suc-le-suc, not-suc-le-zero, zero-add}
use lib.ListN.{get_or, length, take}
use lib.Seq.{get_or_at, take_at}
use borrow.Author.Tests.{le-leb, le-ltb, lt-ltb}
use Rattle.base.proofs.Choice.{either}
use Rattle.timeline.specs.Cues.{Body}
use Rattle.timeline.specs.Tracks.{Sample, There, begin_of, blank, end_of, held_at, held_from, held_of, total}

pub from-now : (b : ℕ) (s : Sample) (ss : List Sample) (t : ℕ) → b ≤ t → t < b + s.duration → held_from b (s ∷ ss) t ≡ some s.held
unfolding held_from
from-now b s ss t lo hi = rw (le-leb b t lo, lt-ltb t (b + s.duration) hi)

pub from-later : (b : ℕ) (s : Sample) (ss : List Sample) (t : ℕ) → b + s.duration ≤ t → held_from b (s ∷ ss) t ≡ held_from (b + s.duration) ss t
unfolding held_from
from-later b s ss t lo = let l : b ≤ t = omega arith in rw (le-leb b t l, le-ltb t (b + s.duration) lo)

from-there : (b : ℕ) (track : List Sample) (i t : ℕ) → i < length track → b + total (take i track) ≤ t → t < b + total (take i track) + (get_or track i blank).duration
    → held_from b track t ≡ some (get_or track i blank).held
unfolding total
from-there b [] i t l lo hi = absurd (not-suc-le-zero l)
from-there b (s ∷ ss) zero t l lo hi = from-now b s ss t (omega arith) (omega arith)
from-there b (s ∷ ss) (suc i) t l lo hi = from-later b s ss t (omega arith) ∙ from-there (b + s.duration) ss i t (le_of_suc-le-suc l) (omega arith) (omega arith)

from_some : (b : ℕ) (track : List Sample) (t : ℕ) → b ≤ t → t < b + total track
    → (i : ℕ) × (i < length track) × (b + total (take i track) ≤ t) × (t < b + total (take i track) + (get_or track i blank).duration)
unfolding total
from_some b [] t lo hi = absurd (omega arith)
from_some b (s ∷ ss) t lo hi =
    either (b + s.duration) t
    (λ h. let r = from_some (b + s.duration) ss t h (omega arith) in (suc r.0, omega (arith, r.1), omega (arith, r.2), omega (arith, r.3)))
    (λ h. (0, omega arith, omega arith, omega arith))

from-none : (b : ℕ) (track : List Sample) (t : ℕ) → b + total track ≤ t → held_from b track t ≡ none
unfolding total held_from
from-none b [] t h = refl
from-none b (s ∷ ss) t h = from-later b s ss t (omega arith) ∙ from-none (b + s.duration) ss t (omega arith)

-- the sample there at t decides what is held at t
pub held-there : (track : List Sample) (i t : ℕ) → There track i t → held_at track t ≡ some (held_of track i)
unfolding held_at begin_of end_of held_of
held-there track i t h = from-there 0 track i t h.0 (omega arith) (omega arith)

-- some sample is there at each tick below the sum
pub some-there : (track : List Sample) (t : ℕ) → t < total track → (i : ℕ) × There track i t
unfolding begin_of end_of
some-there track t h = let r = from_some 0 track t (omega arith) (omega arith) in (r.0, (r.1, omega (arith, r.2), omega (arith, r.3)))

-- none is there from the sum on
pub none-there : (track : List Sample) (t : ℕ) → total track ≤ t → held_at track t ≡ none
unfolding held_at
none-there track t h = from-none 0 track t (omega arith)

pub total-append : (p q : List Sample) → total (p ++ q) ≡ total p + total q
unfolding total
total-append [] q = sym (zero-add (total q))
total-append (s ∷ p) q = rw (total-append p q) (sym (add_assoc s.duration (total p) (total q)))

pub total-snoc : (p : List Sample) (s : Sample) → total (p ++ s ∷ []) ≡ total p + s.duration
unfolding total
total-snoc p s = total-append p (s ∷ []) ∙ ap (λ (n : ℕ). total p + n) (add-zero s.duration)

-- a sample behind p
pub begin-at : (p : List Sample) (q : List Sample) → begin_of (p ++ q) (length p) ≡ total p
unfolding begin_of
begin-at p q = ap total (take_at p q (length p) refl)

pub end-at : (p : List Sample) (s : Sample) (q : List Sample) → end_of (p ++ s ∷ q) (length p) ≡ total p + s.duration
unfolding end_of
end-at p s q = rw (begin-at p (s ∷ q), get_or_at p s q blank (length p) refl)

pub held-at : (p : List Sample) (s : Sample) (q : List Sample) → held_of (p ++ s ∷ q) (length p) ≡ s.held
unfolding held_of
held-at p s q = ap (λ (x : Sample). x.held) (get_or_at p s q blank (length p) refl)

pub some_inj : {x y : List Body} → ◌≡◌ {A = Option (List Body)} (some x) (some y) → x ≡ y
some_inj e = cc
