-- Laws of judgements: the first fault wins.
use Prim.Native.Nat.{ℕ, zero, suc, ◌+◌, ◌-◌, ◌<◌}
use mathlib.Core.Path.{◌≡◌, refl, sym, ap, ◌∙◌}
use mathlib.Core.Bool.{Bool, true, false}
use native.Mathlib.Omega.{arith}
use native.Mathlib.Nat.{add-zero, add-suc}
use native.Mathlib.Numerals.{add-one}
use Rattle.verdict.specs.declared.Refusal.{Refusal}
use Rattle.verdict.specs.Verdict.{Verdict, Fine, Refused}
use mathlib.Core.List.{List}
use Rattle.viable.specs.FirstBad.{judged_by}
use Rattle.viable.proofs.FirstBad.{judged-right, when-right}
use Rattle.viable.specs.Judged.{Judged, Right, Bad}
use Rattle.verdict.specs.Judgement.{◌gives◌at◌, text_at, ◌then◌, each}

pub then-fine : (v w : Verdict) → v ≡ Fine → v then w ≡ w
then-fine v w e = rw e

pub then-refused : (v w : Verdict) (r : Refusal) → v ≡ Refused r → v then w ≡ Refused r
then-refused v w r e = rw e

pub then-assoc : (u v w : Verdict) → (u then v) then w ≡ u then (v then w)
then-assoc Fine v w = refl
then-assoc (Refused r) v w = refl

-- no fault: neither has one
pub both-fine : (v w : Verdict) → v then w ≡ Fine → (v ≡ Fine) × (w ≡ Fine)
both-fine Fine w e = (refl, e)
both-fine (Refused r) w e = let z : ◌≡◌ {A = ℕ} 0 1 = cc in absurd (omega arith)

-- a test that gives no fault does not pass
pub not-given : (b : Bool) (n p : ℕ) → b gives n at p ≡ Fine → b ≡ false
not-given true n p e = let z : ◌≡◌ {A = ℕ} 0 1 = cc in absurd (omega arith)
not-given false n p e = refl

-- a text gives no fault exactly if it keeps its rule
right-fine : (p : ℕ) (j : Judged) → text_at p j ≡ Fine → j ≡ Right
right-fine p Right e = refl
right-fine p (Bad q) e = let z : ◌≡◌ {A = ℕ} 0 1 = cc in absurd (omega arith)

module _ (keeps begun : List ℕ → Bool) (p : ℕ) (s : List ℕ) where
  pub text-fine : text_at p (judged_by keeps begun s) ≡ Fine → keeps s ≡ true
  text-fine e = when-right keeps begun s (right-fine p (judged_by keeps begun s) e)

  pub text-right : keeps s ≡ true → text_at p (judged_by keeps begun s) ≡ Fine
  text-right h = ap (text_at p) (sym (judged-right keeps begun s h))

-- one turn of a loop
pub each_more : (f : ℕ → Verdict) (k : ℕ) → each f k ≡ Fine → f k ≡ Fine → each f (k + 1) ≡ Fine
unfolding each
each_more f k e q = rw (add-one, each, e) q

-- a refused turn settles the judgement
pub each-stops : (f : ℕ → Verdict) (k n : ℕ) (r : Refusal) → k < n → each f k ≡ Fine → f k ≡ Refused r → each f n ≡ Refused r
unfolding each
each-stops f k n r l e q = let s : n ≡ suc k + (n - suc k) = omega arith in rw s (on (n - suc k))
  where
    on : (d : ℕ) → each f (suc k + d) ≡ Refused r
    on zero = rw (add-zero, each, e) q
    on (suc d) = rw (add-suc, each, on d)

-- no fault in all: none in each
pub each-fine : (f : ℕ → Verdict) (n k : ℕ) → each f n ≡ Fine → k < n → f k ≡ Fine
unfolding each
each-fine f n k e l = let s : n ≡ suc k + (n - suc k) = omega arith in on (n - suc k) (ap (each f) (sym s) ∙ e)
  where
    on : (d : ℕ) → each f (suc k + d) ≡ Fine → f k ≡ Fine
    on zero h = (both-fine (each f k) (f k) (rw add-zero at h)).1
    on (suc d) h = on d (both-fine (each f (suc k + d)) (f (suc k + d)) (rw add-suc at h)).0

-- no fault in each: none in all
pub each_all : (f : ℕ → Verdict) (n : ℕ) → ((k : ℕ) → k < n → f k ≡ Fine) → each f n ≡ Fine
unfolding each
each_all f zero h = refl
each_all f (suc n) h = rw (each_all f n (λ k l. h k (omega arith))) (h n (omega arith))
