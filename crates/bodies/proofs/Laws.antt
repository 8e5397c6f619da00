-- Laws of specs/Bodies.antt: for the search, and that a body found among boxes without fault has none.
use Prim.Native.Nat.{ℕ, zero, suc}
use mathlib.Core.Path.{◌≡◌, refl}
use mathlib.Core.List.{List, ◌∷◌}
use mathlib.Core.Bool.{Bool, true, false}
use native.Mathlib.Omega.{arith}
use lib.Dec.{eqb}
use borrow.Author.Tests.{eq-eqb, ne_eqb, eqb-true}
use Rattle.base.specs.Choice.{pick}
use Rattle.verdict.specs.declared.Refusal.{Refusal}
use Rattle.verdict.specs.Verdict.{Verdict, Fine, Refused}
use Rattle.verdict.proofs.Judgement.{both-fine}
use Rattle.boxes.specs.declared.Step.{Step}
use Rattle.boxes.specs.declared.Step.TheVariants.{Box, Refused as Stopped, End}
use Rattle.boxes.specs.Boxes.{step_at, stopped_by, Boxes, clean, broken, box, on_step, boxes_f, boxes_in, judged}
use Rattle.boxes.proofs.Laws.{boxes-at, boxes-box, NoBox, Lies, step-box}
use Rattle.bodies.specs.Body.{Body, At, Refused as Broken, Nowhere}
use Rattle.bodies.specs.Bodies.{body_of}

-- where no box stands: a refused header, or the end
abbrev pub missing : Verdict → Body
missing Fine = Nowhere
missing (Refused r) = Broken r

-- the search: no further box, a box of the kind, a box of another
pub body-stop : (k : ℕ) (s : List ℕ) (at end : ℕ) (t : Step) → step_at s at end ≡ t → NoBox t → body_of k (boxes_in s at end) ≡ missing (stopped_by t)
unfolding body_of
body-stop k s at end t e h = rw (boxes-at s at end, e) (go t h)
  where
    go : (u : Step) → NoBox u → body_of k (on_step u at (λ n. boxes_in s n end)) ≡ missing (stopped_by u)
    go (Box k b n) h = absurd h
    go (Stopped r) h = refl
    go End h = refl

module _ (j : ℕ) (s : List ℕ) (at end k b n : ℕ) (e : step_at s at end ≡ Box k b n) where
  pub body-found : k ≡ j → body_of j (boxes_in s at end) ≡ At b
  unfolding body_of
  body-found q = rw (boxes-box s at end k b n e, body_of, eq-eqb k j q)

  pub body-other : (k ≡ j → ⊥) → body_of j (boxes_in s n end) ≡ body_of j (boxes_in s at end)
  unfolding body_of
  body-other q = rw (boxes-box s at end k b n e, body_of, ne_eqb k j q)

-- A box of kind k, whose body begins at b, has been judged without fault, and lies within the container.
pub record Judged (inside : List ℕ → ℕ → ℕ → ℕ → ℕ → Verdict) (end k b : ℕ) : Type 0 where
  pub kinds : List ℕ
  pub place : ℕ
  pub next : ℕ
  pub fine : inside kinds place k b next ≡ Fine
  pub lies : Lies place end b next

-- no body is found
abbrev pub NoBody : Body → Type 0
NoBody (At b) = ⊥
NoBody (Broken r) = Unit {0}
NoBody Nowhere = Unit {0}

at_same : (a b : ℕ) → At a ≡ At b → a ≡ b
at_same a b e = cc

module _ (inside : List ℕ → ℕ → ℕ → ℕ → ℕ → Verdict) (last : List ℕ → Verdict) (s : List ℕ) (end k b : ℕ) where
  within : (f at : ℕ) (before : List ℕ) → judged inside last before (boxes_f f s at end) ≡ Fine → body_of k (boxes_f f s at end) ≡ At b → Judged inside end k b
  unfolding boxes_f body_of judged
  within zero at before h q = let z : ◌≡◌ {A = ℕ} 0 1 = cc in absurd (omega arith)
  within (suc f) at before h q = go (step_at s at end) refl h q (λ j n x y. within f n (j ∷ before) x y)
    where
      go : (t : Step) → step_at s at end ≡ t → judged inside last before (on_step t at (λ n. boxes_f f s n end)) ≡ Fine
          → body_of k (on_step t at (λ n. boxes_f f s n end)) ≡ At b
          → ((j n : ℕ) → judged inside last (j ∷ before) (boxes_f f s n end) ≡ Fine → body_of k (boxes_f f s n end) ≡ At b → Judged inside end k b)
          → Judged inside end k b
      go (Box j c n) e h q rest = here (eqb j k) refl q
        where
          w : (inside before at j c n ≡ Fine) × (judged inside last (j ∷ before) (boxes_f f s n end) ≡ Fine)
          w = both-fine (inside before at j c n) (judged inside last (j ∷ before) (boxes_f f s n end)) h

          here : (t : Bool) → eqb j k ≡ t → pick t (At c) (body_of k (boxes_f f s n end)) ≡ At b → Judged inside end k b
          here true p u =
              let x = eqb-true j k p in
              let y = at_same c b u in
              record {
                kinds = before;
                place = at;
                next = n;
                fine = rw (← x, ← y) w.0;
                lies = rw (← y) (step-box s at end j c n e);
              }
          here false p u = rest j n w.1 u
      go (Stopped r) e h q rest = let z : ◌≡◌ {A = ℕ} 0 1 = cc in absurd (omega arith)
      go End e h q rest = let z : ◌≡◌ {A = ℕ} 0 1 = cc in absurd (omega arith)

  pub judged-found : (at : ℕ) (before : List ℕ) → judged inside last before (boxes_in s at end) ≡ Fine → body_of k (boxes_in s at end) ≡ At b → Judged inside end k b
  unfolding boxes_in
  judged-found at before h q = within (suc end) at before h q

-- among boxes without fault no header is refused
pub judged-whole : (inside : List ℕ → ℕ → ℕ → ℕ → ℕ → Verdict) (last : List ℕ → Verdict) (k : ℕ) (r : Refusal) (bs : Boxes) (before : List ℕ)
    → judged inside last before bs ≡ Fine → body_of k bs ≡ Broken r → ⊥
unfolding judged body_of
judged-whole inside last k r clean before h q = let z : ◌≡◌ {A = ℕ} 0 1 = cc in absurd (omega arith)
judged-whole inside last k r (broken u) before h q = let z : ◌≡◌ {A = ℕ} 0 1 = cc in absurd (omega arith)
judged-whole inside last k r (box p j b n rest) before h q =
    go (eqb j k) q (λ u. judged-whole inside last k r rest (j ∷ before) (both-fine (inside before p j b n) (judged inside last (j ∷ before) rest) h).1 u)
  where
    go : (t : Bool) → pick t (At b) (body_of k rest) ≡ Broken r → (body_of k rest ≡ Broken r → ⊥) → ⊥
    go true u f = let z : ◌≡◌ {A = ℕ} 0 1 = cc in omega arith
    go false u f = f u
