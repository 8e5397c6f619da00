-- The stretches are the longest: neighbours are in different ranges.
use Prim.Native.Nat.{ℕ}
use mathlib.Core.List.{List, [], ◌∷◌, ◌++◌}
use Rattle.base.proofs.Choice.{by-test}
use Rattle.timeline.specs.Cues.{same_id as same_mark}
use Rattle.tx3g_payload.specs.Payload.{Stretch, onto, stretches}
use Rattle.tx3g_payload.specs.Statements.{Apart, StretchesApart}

relabel : (q : Stretch) (s : List ℕ) (qs : List Stretch) → Apart (q ∷ qs) → Apart (record { mark = q.mark; left = s } ∷ qs)
relabel q s [] h = tt
relabel q s (r ∷ qs) h = h

onto-apart : (p : Stretch) (qs : List Stretch) → Apart qs → Apart (onto p qs)
unfolding onto
onto-apart p [] h = tt
onto-apart p (q ∷ qs) h = by-test (same_mark p.mark q.mark) (λ e. rw e (relabel q (p.left ++ q.left) qs h)) (λ e. rw e (e, h))

pub stretches-apart : StretchesApart
unfolding stretches
stretches-apart [] = tt
stretches-apart (p ∷ ps) = onto-apart p (stretches ps) (stretches-apart ps)
