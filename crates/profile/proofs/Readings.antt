-- Laws of readers' answers: one byte, and one reading behind another.
use Prim.Native.Nat.{ℕ, suc, ◌+◌, ◌≤◌, ◌<◌}
use mathlib.Core.Path.{◌≡◌, refl, sym, ap, ◌∙◌}
use mathlib.Core.Bool.{true, false}
use mathlib.Core.Option.{none, some}
use mathlib.Core.List.{List, []}
use native.Mathlib.Omega.{arith}
use native.Mathlib.Nat.{add-zero, zero-add}
use native.Mathlib.Numerals.{add-one}
use lib.ListN.{length, get_or, drop, drop_of_length-le}
use lib.Seq.{drop-cons}
use Rattle.viable.specs.Judged.{Judged, Right, Bad as BadAt}
use Rattle.profile.specs.Spot.{Spot, Past, Bad}
use Rattle.profile.specs.Machine.{State, at, Text, step, final, later, judge_from, judge}
use Rattle.profile.specs.Readings.{shift, from, Reads}

-- one byte
pub from_end : (s : List ℕ) (p : ℕ) (a : State) → length s ≤ p → final a ≡ false → from s p a ≡ BadAt p
unfolding from judge_from
from_end s p a h f = rw (drop_of_length-le s h, f) (ap BadAt (add-zero p))

pub from-yes : (s : List ℕ) (p : ℕ) (a : State) → length s ≤ p → final a ≡ true → from s p a ≡ Right
unfolding from judge_from
from-yes s p a h f = rw (drop_of_length-le s h, f)

pub from-dead : (s : List ℕ) (p : ℕ) (a : State) → p < length s → step a (get_or s p 0) ≡ none → from s p a ≡ BadAt p
unfolding from judge_from
from-dead s p a h e = rw (drop-cons s p 0 h, e) (ap BadAt (add-zero p))

shift-later : (p : ℕ) (v : Judged) → shift p (later v) ≡ shift (p + 1) v
shift-later p Right = refl
shift-later p (BadAt q) = ap BadAt (omega arith)

pub from_step : (s : List ℕ) (p : ℕ) (a b : State) → p < length s → step a (get_or s p 0) ≡ some b → from s p a ≡ from s (p + 1) b
unfolding from judge_from
from_step s p a b h e = rw (drop-cons s p 0 h, e) (shift-later p (judge_from (drop (suc p) s) b) ∙ ap (λ (n : ℕ). shift (p + 1) (judge_from (drop n s) b)) (sym (add-one p)))

pub from-whole : (s : List ℕ) → judge s ≡ from s 0 (at Text [] 0)
unfolding from judge
from-whole s = go (judge_from s (at Text [] 0))
  where
    go : (v : Judged) → v ≡ shift 0 v
    go Right = refl
    go (BadAt q) = ap BadAt (sym (zero-add q))

module _ (X : Type 0) (s : List ℕ) where
  pub r-end : (p : ℕ) (a b : X → State) → length s ≤ p → ((x : X) → final (a x) ≡ false) → Reads X s p (Bad p) a b
  r-end p a b h f = record { bounds = tt; leads = λ x. from_end s p (a x) h (f x) }

  pub r-dead : (p : ℕ) (a b : X → State) → p < length s → ((x : X) → step (a x) (get_or s p 0) ≡ none) → Reads X s p (Bad p) a b
  r-dead p a b h f = record { bounds = tt; leads = λ x. from-dead s p (a x) h (f x) }

  pub r-here : (p : ℕ) (a : X → State) → p ≤ length s → Reads X s p (Past p) a a
  r-here p a h = record { bounds = (omega arith, h); leads = λ x. refl }

  pub r-step : (p : ℕ) (r : Spot) (a a₁ b : X → State) → p < length s → ((x : X) → step (a x) (get_or s p 0) ≡ some (a₁ x)) → Reads X s (p + 1) r a₁ b → Reads X s p r a b
  r-step p (Past n) a a₁ b h f k = record { bounds = (omega (arith, k.bounds.0), k.bounds.1); leads = λ x. from_step s p (a x) (a₁ x) h (f x) ∙ k.leads x }
  r-step p (Bad q) a a₁ b h f k = record { bounds = tt; leads = λ x. from_step s p (a x) (a₁ x) h (f x) ∙ k.leads x }

  pub r-then : (p n : ℕ) (r : Spot) (a b c : X → State) → Reads X s p (Past n) a b → Reads X s n r b c → Reads X s p r a c
  r-then p n (Past m) a b c k l = record { bounds = (omega (arith, k.bounds.0, l.bounds.0), l.bounds.1); leads = λ x. k.leads x ∙ l.leads x }
  r-then p n (Bad q) a b c k l = record { bounds = tt; leads = λ x. k.leads x ∙ l.leads x }

  pub r-bad : (p q : ℕ) (a b c : X → State) → Reads X s p (Bad q) a b → Reads X s p (Bad q) a c
  r-bad p q a b c k = record { bounds = tt; leads = k.leads }

pub r-map : (X Y : Type 0) (f : Y → X) (s : List ℕ) (p : ℕ) (r : Spot) (a b : X → State) → Reads X s p r a b → Reads Y s p r (λ y. a (f y)) (λ y. b (f y))
r-map X Y f s p r a b k = record { bounds = k.bounds; leads = λ y. k.leads (f y) }

module _ (X : Type 0) (s : List ℕ) where
  -- a byte that is known, then more
  pub byte_step : (p : ℕ) (r : Spot) (c : ℕ) (a a₁ b : X → State) → p < length s → get_or s p 0 ≡ c → ((x : X) → step (a x) c ≡ some (a₁ x)) → Reads X s (p + 1) r a₁ b → Reads X s p r a b
  byte_step p r c a a₁ b h e f k = r-step X s p r a a₁ b h (λ x. rw e (f x)) k

  -- behind what is read up to i: one byte more, a byte that cannot stand there, the end
  module _ (p i : ℕ) (a b c : X → State) (k : Reads X s p (Past i) a b) where
    pub on-byte : i < length s → ((x : X) → step (b x) (get_or s i 0) ≡ some (c x)) → Reads X s p (Past (i + 1)) a c
    on-byte h f = r-then X s p i (Past (i + 1)) a b c k (r-step X s i (Past (i + 1)) b c c h f (r-here X s (i + 1) c (omega arith)))

    pub on-dead : i < length s → ((x : X) → step (b x) (get_or s i 0) ≡ none) → Reads X s p (Bad i) a c
    on-dead h f = r-then X s p i (Bad i) a b c k (r-dead X s i b c h f)

    pub on-end : length s ≤ i → ((x : X) → final (b x) ≡ false) → Reads X s p (Bad i) a c
    on-end h f = r-then X s p i (Bad i) a b c k (r-end X s i b c h f)
