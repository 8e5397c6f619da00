-- A check that stops at the first cue that starts at or past the end of the sample is the same, since starts never fall.
use Prim.Native.Nat.{◌≤◌, ℕ}
use mathlib.Core.Path.{◌∙◌, ◌≡◌, ap, refl, sym}
use mathlib.Core.Logic.{◌⊎◌, inl, inr}
use mathlib.Core.Bool.{Bool}
use mathlib.Core.List.Memᴰ
use mathlib.Core.List.{List, Memᴰ, [], ◌∷◌}
use native.Mathlib.Omega.{arith}
use lib.Dec.{ltb}
use borrow.Author.Tests.{le-ltb, ltb-false}
use Rattle.base.specs.Choice.{both, pick}
use Rattle.base.proofs.Choice.{by-test}
use Rattle.timeline.specs.Cues.{Body, Cue, Ordered, Pairs, same_body}
use Rattle.timeline.specs.Checking.{Stand, matches, meets, none_left, out, part, standing, whole}

unfoldable pub stopping : List Cue → ℕ → ℕ → List Body → Bool
unfolding standing
stopping [] b e held = none_left held
stopping (c ∷ cs) b e held = pick (ltb c.start e) (meets (standing c b e) c.body held (λ r. stopping cs b e r)) (none_left held)

none_more : (cs : List Cue) (b e : ℕ) (held : List Body) → ((c : Cue) → Memᴰ c cs → e ≤ c.start) → matches cs b e held ≡ none_left held
unfolding matches standing
none_more [] b e held h = refl
none_more (c ∷ cs) b e held h = rw (le-ltb c.start e (h c (Memᴰ.head refl))) (none_more cs b e held (λ x m. h x (Memᴰ.tail m)))

meets-same : (s : Stand) (x : Body) (held : List Body) (f g : List Body → Bool) → ((r : List Body) → f r ≡ g r) → meets s x held f ≡ meets s x held g
meets-same out x held f g h = h held
meets-same whole x [] f g h = refl
meets-same whole x (y ∷ ys) f g h = ap (both (same_body x y)) (h ys)
meets-same part x held f g h = refl

pub stopping-is : (cs : List Cue) (b e : ℕ) (held : List Body) → Ordered cs → stopping cs b e held ≡ matches cs b e held
unfolding stopping matches Pairs
stopping-is [] b e held o = refl
stopping-is (c ∷ cs) b e held o =
    let on : Bool = meets (standing c b e) c.body held (λ r. stopping cs b e r) in
    by-test (ltb c.start e)
    (λ h. ap (λ (z : Bool). pick z on (none_left held)) h ∙ meets-same (standing c b e) c.body held (λ r. stopping cs b e r) (λ r. matches cs b e r) (λ r. stopping-is cs b e r o.1))
    (λ h. ap (λ (z : Bool). pick z on (none_left held)) h ∙ sym (none_more (c ∷ cs) b e held (λ x m. past (ltb-false c.start e h) x (Memᴰ.cases_cons m))))
  where
    past : e ≤ c.start → (x : Cue) → (x ≡ c) ⊎ Memᴰ x cs → e ≤ x.start
    past h x (inl q) = omega (arith, ap (λ (z : Cue). z.start) q)
    past h x (inr m) = omega (arith, o.0 x m)
