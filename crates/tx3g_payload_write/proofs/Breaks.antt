-- What is left of characters, from one to the next.
use Prim.Native.Nat.{ℕ, ◌≤◌}
use mathlib.Core.Path.{◌≡◌, refl, sym, ap, ◌∙◌}
use mathlib.Core.Bool.{Bool, true, false}
use mathlib.Core.List.{List, [], ◌∷◌}
use lib.ListN.{length, drop, drop_of_length-le}
use Rattle.tx3g_payload.specs.Left.{is_break, only_breaks, left_of}
use Rattle.tx3g_payload.specs.Points.{points8, points16}
use Rattle.tx3g_payload_write.specs.Terms.{points_by, CharacterAt}

-- at the end of a text there is no character
points_none : (u : Bool) → points_by u [] ≡ []
unfolding points8 points16
points_none true = refl
points_none false = refl

pub points-end : (u : Bool) (s : List ℕ) (at : ℕ) → length s ≤ at → points_by u (drop at s) ≡ []
points-end u s at h = ap (points_by u) (drop_of_length-le s h) ∙ points_none u

module _ (u : Bool) (s : List ℕ) (at c n : ℕ) (w : CharacterAt u s at c n) where
  pub only_no : false ≡ is_break c → only_breaks (points_by u (drop at s)) ≡ false
  unfolding only_breaks
  only_no h = ap only_breaks w.is ∙ go h
    where
      go : false ≡ is_break c → only_breaks (c ∷ points_by u (drop n s)) ≡ false
      go h = rw (sym h)

  pub only_yes : true ≡ is_break c → only_breaks (points_by u (drop at s)) ≡ only_breaks (points_by u (drop n s))
  unfolding only_breaks
  only_yes h = ap only_breaks w.is ∙ go h
    where
      go : true ≡ is_break c → only_breaks (c ∷ points_by u (drop n s)) ≡ only_breaks (points_by u (drop n s))
      go h = rw (sym h)

pub only_end : (u : Bool) (s : List ℕ) (at : ℕ) → length s ≤ at → only_breaks (points_by u (drop at s)) ≡ true
unfolding only_breaks
only_end u s at h = ap only_breaks (points-end u s at h)

-- what is left of one
pub stays : (after : Bool) (c : ℕ) (cs : List ℕ) → false ≡ is_break c → c ∷ [] ≡ left_of after c cs
unfolding left_of
stays after c cs h = rw (sym h)

pub gone-after : (after : Bool) (c : ℕ) (cs : List ℕ) → true ≡ is_break c → after ≡ true → [] ≡ left_of after c cs
unfolding left_of
gone-after after c cs h a = rw (sym h, a)

pub gone-last : (after : Bool) (c : ℕ) (cs : List ℕ) → true ≡ is_break c → true ≡ only_breaks cs → [] ≡ left_of after c cs
unfolding left_of
gone-last true c cs h a = rw (sym h)
gone-last false c cs h a = rw (sym h, sym a)

pub line-feed : (after : Bool) (c : ℕ) (cs : List ℕ) → true ≡ is_break c → after ≡ false → false ≡ only_breaks cs → 0x0A ∷ [] ≡ left_of after c cs
unfolding left_of
line-feed after c cs h a o = rw (sym h, a, sym o)
