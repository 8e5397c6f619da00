-- Laws of specs/Rules.antt for the loops over styles and over karaoke entries.
use Prim.Native.Nat.{ℕ, ◌+◌, ◌*◌, ◌≤◌, ◌<◌}
use mathlib.Core.Path.{◌≡◌, refl}
use mathlib.Core.List.{List}
use mathlib.Core.Bool.{Bool}
use native.Mathlib.Omega.{arith}
use native.Mathlib.Numerals.{add-one}
use Rattle.fields.specs.BigEndian.{be}
use Rattle.tx3g_contents.specs.Contents.{styles_end, karaoke_end}
use Rattle.tx3g_rules.specs.Rules.{style_fault, style_at, end_before, judge_style, turn_fault, turn_at, time_before, judge_turn}

module _ (s : List ℕ) (b : ℕ) where
  -- style k lies within the content
  pub style-room : (k n : ℕ) → k < be 2 s b → styles_end s b ≤ n → b + 2 + k * 12 + 12 ≤ n
  unfolding styles_end
  style-room k n h l = omega arith

  pub style-place : (k : ℕ) → b + 2 + k * 12 ≡ style_at b k
  unfolding style_at
  style-place k = refl

  pub end-zero : 0 ≡ end_before s b 0
  unfolding end_before
  end-zero = refl

  pub end_more : (k q x : ℕ) → q ≡ style_at b k → x ≡ be 2 s (q + 2) → x ≡ end_before s b (k + 1)
  unfolding end_before
  end_more k q x e h = rw (add-one, end_before, ← e) h

  pub style-is : (fonts : ℕ → Bool) (c p k previous q : ℕ) → previous ≡ end_before s b k → q ≡ style_at b k → style_fault fonts c s p previous q ≡ judge_style fonts c s p b k
  unfolding judge_style
  style-is fonts c p k previous q e h = rw (e, h)

  -- the same for karaoke
  pub turn-room : (k n : ℕ) → k < be 2 s (b + 4) → karaoke_end s b ≤ n → b + 6 + k * 8 + 8 ≤ n
  unfolding karaoke_end
  turn-room k n h l = omega arith

  pub turn-place : (k : ℕ) → b + 6 + k * 8 ≡ turn_at b k
  unfolding turn_at
  turn-place k = refl

  pub time-zero : (x : ℕ) → x ≡ be 4 s b → x ≡ time_before s b 0
  unfolding time_before
  time-zero x e = e

  pub time-more : (k q x : ℕ) → q ≡ turn_at b k → x ≡ be 4 s q → x ≡ time_before s b (k + 1)
  unfolding time_before
  time-more k q x e h = rw (add-one, time_before, ← e) h

  pub turn_is : (c p k previous q : ℕ) → previous ≡ time_before s b k → q ≡ turn_at b k → turn_fault c s p previous q ≡ judge_turn c s p b k
  unfolding judge_turn
  turn_is c p k previous q e h = rw (e, h)
