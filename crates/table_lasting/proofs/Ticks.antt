-- Dropping the samples that last no tick changes nothing at any tick.
use Prim.Native.Nat.{ℕ, ◌+◌}
use mathlib.Core.Path.{◌≡◌, refl, ap}
use mathlib.Core.Bool.{false}
use mathlib.Core.List.{List, [], ◌∷◌}
use mathlib.Core.Option.{Option, some}
use native.Mathlib.Omega.{arith}
use lib.Dec.{leb, ltb, eqb}
use borrow.Author.Tests.{eqb-true, leb-true, le-ltb}
use Rattle.base.specs.Choice.{both, pick}
use Rattle.base.proofs.Choice.{by-test}
use Rattle.timeline.specs.Cues.{Body}
use Rattle.timeline.specs.Tracks.{Sample, total, held_from, held_at}
use Rattle.table_lasting.specs.Lasting.{lasting}
use Rattle.table_lasting.specs.Statements.{ZeroGone}

total-lasting : (ss : List Sample) → total (lasting ss) ≡ total ss
unfolding total lasting
total-lasting [] = refl
total-lasting (s ∷ ss) =
    by-test (eqb s.duration 0)
    (λ e. rw e (omega (arith, eqb-true s.duration 0 e, total-lasting ss)))
    (λ e. rw e (omega (arith, total-lasting ss)))

-- no tick is in a stretch of none
never : (b d t : ℕ) → d ≡ 0 → both (leb b t) (ltb t (b + d)) ≡ false
never b d t e = by-test (leb b t) (λ h. rw h (le-ltb t (b + d) (omega (arith, leb-true b t h)))) (λ h. rw h)

held-lasting : (b : ℕ) (ss : List Sample) (t : ℕ) → held_from b (lasting ss) t ≡ held_from b ss t
unfolding held_from lasting
held-lasting b [] t = refl
held-lasting b (s ∷ ss) t =
    by-test (eqb s.duration 0)
    (λ e. let z = eqb-true s.duration 0 e in
    let q : b + s.duration ≡ b = omega arith in
    rw (e, never b s.duration t z, q) (held-lasting b ss t))
    (λ e. rw e (ap (λ (r : Option (List Body)). pick (both (leb b t) (ltb t (b + s.duration))) (some s.held) r) (held-lasting (b + s.duration) ss t)))

pub zero-gone : ZeroGone
unfolding held_at
zero-gone track = (total-lasting track, λ t. held-lasting 0 track t)
