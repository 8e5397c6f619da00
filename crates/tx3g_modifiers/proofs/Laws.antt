-- Laws of specs/Modifiers.antt: for the loop, and that the modifiers handed out are those of the sample.
use Prim.Native.Nat.{ℕ}
use mathlib.Core.Path.{◌≡◌, refl, sym, ◌∙◌}
use mathlib.Core.List.{List}
use mathlib.Core.Bool.{Bool, true, false, not}
use mathlib.Core.Logic.{◌≢◌}
use native.Mathlib.Omega.{arith}
use lib.Dec.{eqb}
use borrow.Author.Tests.{eq-eqb, ne_eqb, eqb-true, le-ltb}
use Rattle.base.proofs.Choice.{both_left, both_right}
use Rattle.verdict.specs.declared.Refusal.{Refusal}
use Rattle.verdict.specs.Verdict.{Verdict, Fine, Refused}
use Rattle.boxes.specs.declared.Step.{Step}
use Rattle.boxes.specs.declared.Step.TheVariants.{Box, Refused as Stopped, End as Ended}
use Rattle.boxes.specs.Boxes.{step_at, stopped_by, on_step, boxes_in}
use Rattle.boxes.proofs.Laws.{boxes-at, boxes-box, NoBox}
use Rattle.bodies.specs.Bodies.{filled}
use Rattle.bodies.proofs.Filled.{filled-fine}
use Rattle.tx3g_contents.specs.Kinds.{blnk, known}
use Rattle.tx3g_contents.specs.Contents.{content_end}
use Rattle.tx3g_modifiers.specs.Held.{Held, One, Refused as Broken, End}
use Rattle.tx3g_modifiers.specs.Modifiers.{handed, whole, modifier_of, next_modifier}

-- the kinds that are handed out: known, and not `blnk`
pub handed-known : (k : ℕ) → handed k ≡ true → (known k ≡ true) × (k ≢ blnk)
unfolding handed
handed-known k h = (both_right (not (eqb k blnk)) (known k) h, λ e. go (eqb k blnk) (both_left (not (eqb k blnk)) (known k) h) (eq-eqb k blnk e))
  where
    go : (b : Bool) → not b ≡ true → b ≡ true → ⊥
    go true p q = let z : ◌≡◌ {A = ℕ} 0 1 = cc in omega arith
    go false p q = let z : ◌≡◌ {A = ℕ} 0 1 = cc in omega arith

pub handed-blnk : (k : ℕ) → k ≡ blnk → false ≡ handed k
unfolding handed
handed-blnk k e = rw (eq-eqb k blnk e)

pub handed-other : (k : ℕ) → k ≢ blnk → known k ≡ handed k
unfolding handed
handed-other k e = rw (ne_eqb k blnk e)

-- a box that is handed out is whole if its content fills it
pub whole-filled : (s : List ℕ) (p k b n : ℕ) (v : Verdict) → handed k ≡ true → v ≡ filled p (content_end s k b) n → v ≡ Fine → whole s k b n ≡ true
unfolding whole
whole-filled s p k b n v h e q = rw (h, eq-eqb (content_end s k b) n (filled-fine p (content_end s k b) n (sym e ∙ q)))

filled-refused : (p e n : ℕ) (r : Refusal) → filled p e n ≡ Refused r → eqb e n ≡ false
unfolding filled
filled-refused p e n r h = ne_eqb e n (λ q. go q h)
  where
    go : e ≡ n → filled p e n ≡ Refused r → ⊥
    go q h =
        let a : filled p e n ≡ Fine = rw (le-ltb n e (omega arith), le-ltb e n (omega arith)) in
        let z : ◌≡◌ {A = ℕ} 0 1 = clash (sym a ∙ h) in omega arith
      where
        clash : Fine ≡ Refused r → ◌≡◌ {A = ℕ} 0 1
        clash x = cc

pub whole-not : (s : List ℕ) (p k b n : ℕ) (v : Verdict) (r : Refusal) → handed k ≡ true → v ≡ filled p (content_end s k b) n → v ≡ Refused r → whole s k b n ≡ false
unfolding whole
whole-not s p k b n v r h e q = rw (h, filled-refused p (content_end s k b) n r (sym e ∙ q))

pub whole-other : (s : List ℕ) (k b n : ℕ) → handed k ≡ false → whole s k b n ≡ false
unfolding whole
whole-other s k b n h = rw h

pub whole-kind : (s : List ℕ) (k b n : ℕ) → whole s k b n ≡ true → handed k ≡ true
unfolding whole
whole-kind s k b n h = both_left (handed k) (eqb (content_end s k b) n) h

pub whole-end : (s : List ℕ) (k b n : ℕ) → whole s k b n ≡ true → content_end s k b ≡ n
unfolding whole
whole-end s k b n h = eqb-true (content_end s k b) n (both_right (handed k) (eqb (content_end s k b) n) h)

-- where no box stands: a refused header, or the end
abbrev pub ended : Verdict → Held
ended Fine = End
ended (Refused r) = Broken r

-- the loop: no further box, a box that is handed out, one that is passed over
pub next-stop : (s : List ℕ) (at end : ℕ) (t : Step) → step_at s at end ≡ t → NoBox t → next_modifier s (boxes_in s at end) ≡ ended (stopped_by t)
unfolding next_modifier
next-stop s at end t e h = rw (boxes-at s at end, e) (go t h)
  where
    go : (u : Step) → NoBox u → next_modifier s (on_step u at (λ n. boxes_in s n end)) ≡ ended (stopped_by u)
    go (Box k b n) h = absurd h
    go (Stopped r) h = refl
    go Ended h = refl

module _ (s : List ℕ) (at end k b n : ℕ) (e : step_at s at end ≡ Box k b n) where
  pub next-found : whole s k b n ≡ true → next_modifier s (boxes_in s at end) ≡ One (modifier_of s k b) n
  unfolding next_modifier
  next-found q = rw (boxes-box s at end k b n e, next_modifier, q)

  pub next-other : whole s k b n ≡ false → next_modifier s (boxes_in s n end) ≡ next_modifier s (boxes_in s at end)
  unfolding next_modifier
  next-other q = rw (boxes-box s at end k b n e, next_modifier, q)
