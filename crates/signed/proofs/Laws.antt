-- The order of signed numbers is that of their ranks; the bytes that are -1, 0 or 1; the numbers themselves.
use Prim.Native.Nat.{ℕ, suc, ◌+◌, ◌-◌, ◌≤◌, ◌<◌}
use mathlib.Core.Path.{◌≡◌, refl, sym, ◌∙◌}
use mathlib.Core.List.{List}
use mathlib.Core.Bool.{Bool, true, false}
use native.Mathlib.Omega.{arith}
use lib.Dec.{ltb, leb}
use lib.IntN.{ℤ, pos, negsuc, ◌-ℤ◌}
use mir.Syntax.{w32}
use mir.Val.{to_z, of_z, SFits}
use mir.Facts.{to_z-of_z}
use lib.Signed.{le_z}
use borrow.Author.Tests.{ltb-true, ltb-false, leb-true, leb-false, le-leb, lt-leb, lt-ltb, le-ltb}
use Rattle.base.specs.Choice.{pick, both}
use Rattle.fields.specs.BigEndian.{be}
use Rattle.signed.specs.declared.Edges.{Edges}
use Rattle.signed.specs.Signed.{signed, signed16, signed8, justified, edges_at}
use Rattle.signed.specs.Rank.{shift16, OrderIs}

-- two tests with equal answers
same_test : (a b c d : ℕ) → (a ≤ b → c ≤ d) → (c ≤ d → a ≤ b) → leb a b ≡ leb c d
same_test a b c d f g = go (leb a b) refl
  where
    go : (t : Bool) → leb a b ≡ t → leb a b ≡ leb c d
    go true e = e ∙ sym (le-leb c d (f (leb-true a b e)))
    go false e = e ∙ sym (lt-leb c d (let l = leb-false a b e in go₂ (leb c d) refl l))
      where
        go₂ : (t : Bool) → leb c d ≡ t → b < a → d < c
        go₂ true q l = let k = g (leb-true c d q) in absurd (omega arith)
        go₂ false q l = leb-false c d q

pub order_is : OrderIs
unfolding signed shift16
order_is a b ha hb = go (ltb a 32768) (ltb b 32768) refl refl
  where
    go : (s t : Bool) → ltb a 32768 ≡ s → ltb b 32768 ≡ t
        → le_z (pick s (pos a) (negsuc (65535 - a))) (pick t (pos b) (negsuc (65535 - b))) ≡ leb (pick s (a + 32768) (a - 32768)) (pick t (b + 32768) (b - 32768))
    go true true p q = same_test a b (a + 32768) (b + 32768) (λ h. omega arith) (λ h. omega arith)
    go true false p q = let u = ltb-true a 32768 p in let v = ltb-false b 32768 q in sym (lt-leb (a + 32768) (b - 32768) (omega arith))
    go false true p q = let u = ltb-false a 32768 p in let v = ltb-true b 32768 q in sym (le-leb (a - 32768) (b + 32768) (omega arith))
    go false false p q = let u = ltb-false a 32768 p in let v = ltb-false b 32768 q in same_test (65535 - b) (65535 - a) (a - 32768) (b - 32768) (λ h. omega arith) (λ h. omega arith)

-- a byte that is -1, 0 or 1
pub just-minus : (v : ℕ) → v ≡ 255 → true ≡ justified v
unfolding justified signed
just-minus v e = rw e

pub just-other : (v : ℕ) → v < 256 → (v ≡ 255 → ⊥) → ltb v 2 ≡ justified v
unfolding justified signed
just-other v h n = go (ltb v 128) refl
  where
    go : (t : Bool) → ltb v 128 ≡ t → ltb v 2 ≡ both (le_z (negsuc 0) (pick t (pos v) (negsuc (255 - v)))) (le_z (pick t (pos v) (negsuc (255 - v))) (pos 1))
    go true p = small (leb v 1) refl
      where
        small : (u : Bool) → leb v 1 ≡ u → ltb v 2 ≡ leb v 1
        small true q = let l = leb-true v 1 q in lt-ltb v 2 (omega arith) ∙ sym q
        small false q = let l = leb-false v 1 q in le-ltb v 2 (omega arith) ∙ sym q
    go false p =
        let l = ltb-false v 128 p in
        rw (lt-leb (255 - v) 0 (omega arith), le-ltb v 2 (omega arith))

-- the numbers that the code makes, of 16 bits and fewer
module _ (half v : ℕ) (few : half ≤ 32768) where
  pub small_is : v < half → to_z w32 v ≡ signed half v
  unfolding signed
  small_is h = rw (lt-ltb v half h, lt-ltb v 2147483648 (omega arith))

  -- x is twice half, however it is written
  pub large_is : (x : ℕ) → x ≡ half + half → half ≤ v → v < half + half → to_z w32 v -ℤ to_z w32 x ≡ signed half v
  unfolding signed
  large_is x twice k h =
      let top : x ≡ suc (half + half - 1) = omega arith in
      let e : suc (half + half - 1) - suc v ≡ half + half - 1 - v = omega arith in
      rw
      (top, le-ltb v half k, lt-ltb v 2147483648 (omega arith), lt-ltb (suc (half + half - 1)) 2147483648 (omega arith), lt-ltb v (suc (half + half - 1)) (omega arith), e)

  pub signed-fits : v < half + half → SFits w32 (signed half v)
  unfolding signed
  signed-fits h = go (ltb v half)
    where
      go : (t : Bool) → SFits w32 (pick t (pos v) (negsuc (half + half - 1 - v)))
      go true = record { sfits = omega arith }
      go false = record { sfits = omega arith }

  pub large_fits : (x : ℕ) → x ≡ half + half → half ≤ v → v < half + half → SFits w32 (to_z w32 v -ℤ to_z w32 x)
  large_fits x twice k h = rw (large_is x twice k h) (signed-fits h)

  pub large_kept : (x : ℕ) → x ≡ half + half → half ≤ v → v < half + half → to_z w32 (of_z w32 (to_z w32 v -ℤ to_z w32 x)) ≡ signed half v
  large_kept x twice k h = rw (large_is x twice k h) (to_z-of_z (signed-fits h))

  -- a number as it is kept in a field
  pub kept : (z : ℤ) → z ≡ signed half v → v < half + half → to_z w32 (of_z w32 z) ≡ signed half v
  kept z e h = rw e (to_z-of_z (signed-fits h))

pub kept16 : (z : ℤ) (v : ℕ) → z ≡ signed16 v → v < 65536 → to_z w32 (of_z w32 z) ≡ signed16 v
kept16 z v e h = kept 32768 v (omega arith) z e h

pub kept8 : (z : ℤ) (v : ℕ) → z ≡ signed8 v → v < 256 → to_z w32 (of_z w32 z) ≡ signed8 v
kept8 z v e h = kept 128 v (omega arith) z e h

pub edges_are : (s : List ℕ) (at : ℕ) (a b c d : ℤ) → a ≡ signed16 (be 2 s at) → b ≡ signed16 (be 2 s (at + 2)) → c ≡ signed16 (be 2 s (at + 4)) → d ≡ signed16 (be 2 s (at + 6))
    → ◌≡◌ {A = Edges} (record { top = a; left = b; bottom = c; right = d }) (edges_at s at)
unfolding edges_at
edges_are s at a b c d p q r t = rw (p, q, r, t)
