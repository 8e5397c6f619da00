-- In a sample without fault the styles are in order, so at most one holds a character.
use Prim.Native.Nat.{ℕ, zero, suc, ◌+◌, ◌-◌, ◌≤◌, ◌<◌}
use mathlib.Core.Path.{◌≡◌, refl, ap}
use mathlib.Core.List.{List}
use mathlib.Core.Bool.{Bool, true, not}
use native.Mathlib.Omega.{arith}
use native.Mathlib.Nat.{add-zero, add-suc, le_antisymm}
use lib.Dec.{ltb, leb}
use borrow.Author.Tests.{leb-true, ltb-true, not-false}
use Rattle.base.specs.Choice.{both}
use Rattle.base.proofs.Choice.{both_left, both_right, either}
use Rattle.verdict.specs.Verdict.{Fine}
use Rattle.verdict.specs.Judgement.{◌gives◌at◌, each}
use Rattle.verdict.proofs.Judgement.{each-fine, both-fine}
use Rattle.fields.specs.BigEndian.{be}
use Rattle.bodies.specs.Body.{At}
use Rattle.bodies.proofs.Filled.{fine-false}
use Rattle.tx3g_contents.specs.Kinds.{styl, single, known}
use Rattle.tx3g_entry.specs.Entry.{fonts_of}
use Rattle.tx3g_rules.specs.Rules.{in_range, style_fault, style_at, end_before, judge_style, judge_records}
use Rattle.tx3g_sample.specs.Reading.{Good}
use Rattle.tx3g_sample.specs.Sample.{fonts_in, read_sample}
use Rattle.tx3g_sample.proofs.Laws.{read-good, records-fine}
use Rattle.tx3g_style.specs.Style.{holds_at, holds, styles_of}
use Rattle.tx3g_style.specs.Only.{OnlyOne}

module _ (fonts : ℕ → Bool) (c : ℕ) (s : List ℕ) (p b : ℕ) where
  -- a style without fault begins at or after the end before it, ends no earlier than it begins, and within the text
  in_order : (i : ℕ) → judge_style fonts c s p b i ≡ Fine
      → (end_before s b i ≤ be 2 s (style_at b i)) × (be 2 s (style_at b i) ≤ be 2 s (style_at b i + 2)) × (be 2 s (style_at b i + 2) ≤ c)
  unfolding judge_style style_fault in_range
  in_order i h =
      let q = style_at b i in
      let r : Bool = both (leb (be 2 s q) (be 2 s (q + 2))) (leb (be 2 s (q + 2)) c) in
      let t : Bool = both (leb (end_before s b i) (be 2 s q)) r in
      let w = (both-fine (not (fonts (be 2 s (q + 4))) gives 8 at p) (not t gives 7 at p) h).1 in
      let y = not-false t (fine-false (not t) 7 p w) in
      let x = both_right (leb (end_before s b i) (be 2 s q)) r y in (
        leb-true (end_before s b i) (be 2 s q) (both_left (leb (end_before s b i) (be 2 s q)) r y),
        leb-true (be 2 s q) (be 2 s (q + 2)) (both_left (leb (be 2 s q) (be 2 s (q + 2))) (leb (be 2 s (q + 2)) c) x),
        leb-true (be 2 s (q + 2)) c (both_right (leb (be 2 s q) (be 2 s (q + 2))) (leb (be 2 s (q + 2)) c) x),
      )

  module _ (n : ℕ) (fine : each (judge_style fonts c s p b) n ≡ Fine) where
    -- a later style begins at or after the end of an earlier one
    later : (i d : ℕ) → i + suc d < n → be 2 s (style_at b i + 2) ≤ be 2 s (style_at b (i + suc d))
    unfolding end_before
    later i zero l =
        let w : end_before s b (suc (i + 0)) ≤ be 2 s (style_at b (suc (i + 0))) = (in_order (suc (i + 0)) (each-fine (judge_style fonts c s p b) n (suc (i + 0)) fine (omega arith))).0 in
        rw (add-suc i 0, add-zero i) (rw (add-zero i) at w)
    later i (suc d) l =
        let m : ℕ = i + suc d in
        let w : end_before s b (suc m) ≤ be 2 s (style_at b (suc m)) = (in_order (suc m) (each-fine (judge_style fonts c s p b) n (suc m) fine (omega arith))).0 in
        let v = (in_order m (each-fine (judge_style fonts c s p b) n m fine (omega arith))).1 in
        let r = later i d (omega arith) in
        rw (add-suc i (suc d)) (omega (arith, w, v, r))

    -- the same for any two
    after : (i j : ℕ) → i < j → j < n → be 2 s (style_at b i + 2) ≤ be 2 s (style_at b j)
    after i j l u =
        let e : j ≡ i + suc (j - suc i) = omega arith in
        let r = later i (j - suc i) (omega arith) in
        omega (arith, r, ap (λ (m : ℕ). be 2 s (style_at b m)) e)

    -- so two that hold the same character are one
    apart : (k i j : ℕ) → i < j → j < n → holds s b k i ≡ true → holds s b k j ≡ true → ⊥
    unfolding holds holds_at
    apart k i j l u x y =
        let a = ltb-true k (be 2 s (style_at b i + 2)) (both_right (leb (be 2 s (style_at b i)) k) (ltb k (be 2 s (style_at b i + 2))) x) in
        let d = leb-true (be 2 s (style_at b j)) k (both_left (leb (be 2 s (style_at b j)) k) (ltb k (be 2 s (style_at b j + 2))) y) in
        omega (arith, a, d, after i j l u)

    one : (k i j : ℕ) → i < n → j < n → holds s b k i ≡ true → holds s b k j ≡ true → i ≡ j
    one k i j l u x y =
        either i j (λ h. either j i (λ g. le_antisymm h g) (λ g. absurd (apart k i j g u x y))) (λ g. absurd (apart k j i g l y x))

styles-fine : (fonts : ℕ → Bool) (c : ℕ) (s : List ℕ) (p b : ℕ) → judge_records fonts c s p styl b ≡ Fine → each (judge_style fonts c s p b) (be 2 s b) ≡ Fine
unfolding judge_records
styles-fine fonts c s p b h = h

pub only_one : OnlyOne
unfolding styles_of known single
only_one e s n b k i j h q l u x y =
    let r = records-fine e n s styl b refl (read-good e s n h).modifiers q in
    one (fonts_in e (fonts_of e)) n s r.0 b (be 2 s b) (styles-fine (fonts_in e (fonts_of e)) n s r.0 b r.1) k i j l u x y

-- the styles of a sample without fault: each within the text, each at or after the end of those before it
pub record Ordered (s : List ℕ) (b n : ℕ) : Type 0 where
  pub range : (i : ℕ) → i < be 2 s b → (be 2 s (style_at b i) ≤ be 2 s (style_at b i + 2)) × (be 2 s (style_at b i + 2) ≤ n)
  pub after-ends : (i j : ℕ) → i < j → j < be 2 s b → be 2 s (style_at b i + 2) ≤ be 2 s (style_at b j)

pub styles-ordered : (e s : List ℕ) (n b : ℕ) → read_sample e s ≡ Good n → styles_of s ≡ At b → Ordered s b n
unfolding styles_of known single
styles-ordered e s n b h q =
    let fonts = fonts_in e (fonts_of e) in
    let r = records-fine e n s styl b refl (read-good e s n h).modifiers q in
    let f = styles-fine fonts n s r.0 b r.1 in
    record {
      range = λ i l. let w = in_order fonts n s r.0 b i (each-fine (judge_style fonts n s r.0 b) (be 2 s b) i f l) in (w.1, w.2);
      after-ends = after fonts n s r.0 b (be 2 s b) f;
    }
