-- A run of the walk over the styles is a stretch.
use Prim.Native.Nat.{ℕ, zero, suc, ◌+◌, ◌≤◌, ◌<◌}
use mathlib.Core.Path.{◌≡◌, refl, sym, ap, ◌∙◌, subst}
use mathlib.Core.Logic.{◌⊎◌, inl, inr}
use mathlib.Core.Bool.{Bool, true, false}
use mathlib.Core.Option.{Option, none, some}
use mathlib.Core.List.{List}
use native.Mathlib.Omega.{arith}
use lib.Dec.{ltb, leb}
use borrow.Author.Tests.{le-leb, lt-ltb, le-ltb, leb-true}
use Rattle.base.specs.First.{or_else, first_from, first}
use Rattle.base.proofs.Choice.{by-test, both_left, true-false}
use Rattle.base.proofs.First.{first-none, first_some}
use Rattle.base.proofs.Tests.{both-no}
use Rattle.fields.specs.BigEndian.{be}
use Rattle.bodies.specs.Body.{Body, At, Refused as Stopped, Nowhere}
use Rattle.timeline.specs.Cues.{same_id as same_mark}
use Rattle.timeline.proofs.Running.{same_id_lem}
use Rattle.tx3g_contents.specs.Kinds.{styl}
use Rattle.tx3g_rules.specs.Rules.{style_at}
use Rattle.tx3g_sample.specs.Reading.{Good}
use Rattle.tx3g_sample.specs.Sample.{read_sample}
use Rattle.tx3g_sample.proofs.Laws.{read-good, boxes-whole}
use Rattle.tx3g_style.specs.declared.Style.{Style}
use Rattle.tx3g_style.specs.Styled.{Found}
use Rattle.tx3g_style.specs.Style.{holds_at, holds, style_in, style_or, default_style, styles_of, style_of}
use Rattle.tx3g_style.proofs.Only.{only_one}
use Rattle.tx3g_read.specs.declared.Styles.{Styles}
use Rattle.tx3g_read.specs.Sample.{styles_in}
use Rattle.tx3g_runs.specs.declared.Run.TheVariants.{Styled, Plain, End}
use Rattle.tx3g_runs.specs.Runs.{next_run}
use Rattle.tx3g_runs.specs.Statements.{Stands, RunMeans}
use Rattle.tx3g_runs.proofs.Walk.{walk_begins, run_is, plain_is}
use Rattle.tx3g_payload_write.specs.Sample.{range_at, face_of}
use Rattle.tx3g_payload_write.specs.Terms.{WalkAt, StretchIs}

-- the first number that passes a test passes it
from-holds : (P : ℕ → Bool) (c i k : ℕ) → first_from P c i ≡ some k → P k ≡ true
unfolding first_from
from-holds P zero i k e = let z : ◌≡◌ {A = ℕ} 0 1 = cc in absurd (omega arith)
from-holds P (suc c) i k e = go (P i) refl e (from-holds P c (suc i) k)
  where
    go : (b : Bool) → P i ≡ b → or_else b i (λ _. first_from P c (suc i)) ≡ some k → (first_from P c (suc i) ≡ some k → P k ≡ true) → P k ≡ true
    go true h q rest = let z : i ≡ k = cc in subst (λ (x : ℕ). P x ≡ true) z h
    go false h q rest = rest q

first_holds : (P : ℕ → Bool) (n k : ℕ) → first P n ≡ some k → P k ≡ true
unfolding first
first_holds P n k e = from-holds P n 0 k e

none-some : (i : ℕ) → same_mark none (some i) ≡ false
unfolding same_mark
none-some i = refl

found-same : (a b : Style) → Found a ≡ Found b → a ≡ b
found-same a b e = cc

module _ (e s : List ℕ) (n b : ℕ) (good : read_sample e s ≡ Good n) (found : styles_of s ≡ At b) where
  at-range : (j : ℕ) → range_at s j ≡ first (holds s b j) (be 2 s b)
  unfolding range_at
  at-range j = rw found

  in-range : (j i : ℕ) → i < be 2 s b → holds s b j i ≡ true → range_at s j ≡ some i
  in-range j i l h =
      at-range j ∙ first_some (holds s b j) (be 2 s b) i l h
      (λ m q. by-test (holds s b j m) (λ y. let z = only_one e s n b j m i good found (omega arith) l y h in absurd (omega arith)) (λ y. y))

  not_in : (j i : ℕ) → holds s b j i ≡ false → same_mark (some i) (range_at s j) ≡ false
  not_in j i h =
      by-test (same_mark (some i) (range_at s j))
      (λ t. let q : some i ≡ range_at s j = same_id_lem (some i) (range_at s j) t in
      true-false (holds s b j i) (first_holds (holds s b j) (be 2 s b) i (sym (at-range j) ∙ sym q)) h)
      (λ t. t)

  face-some : (m : Option ℕ) → face_of e s m ≡ (style_or e s b m).face
  unfolding face_of
  face-some m = rw found

  -- a style holds the characters from one that it holds to its end
  held_on : (k j i : ℕ) → holds s b k i ≡ true → k ≤ j → j < be 2 s (style_at b i + 2) → holds s b j i ≡ true
  unfolding holds holds_at
  held_on k j i h l m =
      let q = style_at b i in
      let a = leb-true (be 2 s q) k (both_left (leb (be 2 s q) k) (ltb k (be 2 s (q + 2))) h) in
      rw (le-leb (be 2 s q) j (omega arith), lt-ltb j (be 2 s (q + 2)) m)

  held-not : (i : ℕ) → holds s b (be 2 s (style_at b i + 2)) i ≡ false
  unfolding holds holds_at
  held-not i =
      let q = style_at b i in
      rw (le-ltb (be 2 s (q + 2)) (be 2 s (q + 2)) (omega arith), both-no (leb (be 2 s q) (be 2 s (q + 2))))

  answered : (k i : ℕ) (t : Style) → k < n → range_at s k ≡ some i → style_of e s k ≡ Found t → t ≡ style_in s (style_at b i)
  unfolding style_of
  answered k i t l h q =
      let a : Found (style_or e s b (first (holds s b k) (be 2 s b))) ≡ Found t = sym (rw (good, lt-ltb k n l, found)) ∙ q in
      sym (found-same _ t a) ∙ ap (style_or e s b) (sym (at-range k) ∙ h)

  styled-by : (k x left q : ℕ) (t : Style) → RunMeans e s n b k (Styled x t left q) → StretchIs e s n k (record { end = x; face = t.face; left = left; next = q })
  styled-by k x left q t w =
      let i = w.4 in
      let l = w.5 in
      let h = w.6 in
      let ends = w.7 in
      let on : (j : ℕ) → k ≤ j → j < x → range_at s j ≡ some i = λ j a m. in-range j i l (held_on k j i h a (omega (arith, m, ends))) in
      record {
        mark = some i;
        goes = w.0;
        ends = w.1;
        face_is = ap (λ (y : Style). y.face) (answered k i t (omega (arith, w.0, w.1)) (in-range k i l h) (w.2 k (omega arith) w.0)) ∙ sym (face-some (some i));
        same = on;
        other = inr (subst (λ (y : ℕ). same_mark (some i) (range_at s y) ≡ false) (sym ends) (not_in (be 2 s (style_at b i + 2)) i (held-not i)));
        walk = inr (subst (WalkAt s left q x) (sym found) w.3);
      }

  plain_by : (k x left q f : ℕ) → f ≡ (default_style e).face → RunMeans e s n b k (Plain x left q) → StretchIs e s n k (record { end = x; face = f; left = left; next = q })
  plain_by k x left q f p w =
      record {
        mark = none;
        goes = w.0;
        ends = w.1;
        face_is = p ∙ sym (face-some none);
        same = λ j a m. at-range j ∙ first-none (holds s b j) (be 2 s b) (w.2 j a m).1;
        other = next-other w.3;
        walk = next-walk w.3;
      }
    where
      next-other : (x ≡ n) ⊎ (Stands s b left q x × (i : ℕ) × (i < be 2 s b) × (holds s b x i ≡ true)) → (x ≡ n) ⊎ (same_mark none (range_at s x) ≡ false)
      next-other (inl y) = inl y
      next-other (inr y) = inr (ap (same_mark none) (in-range x y.1 y.2 y.3) ∙ none-some y.1)

      next-walk : (x ≡ n) ⊎ (Stands s b left q x × (i : ℕ) × (i < be 2 s b) × (holds s b x i ≡ true)) → (x ≡ n) ⊎ WalkAt s left q x (styles_of s)
      next-walk (inl y) = inl y
      next-walk (inr y) = inr (subst (WalkAt s left q x) (sym found) y.0)

-- without styles there is one stretch
module _ (e s : List ℕ) (n : ℕ) (good : read_sample e s ≡ Good n) (found : styles_of s ≡ Nowhere) where
  no-range : (j : ℕ) → range_at s j ≡ none
  unfolding range_at
  no-range j = rw found

  no-face : (m : Option ℕ) → face_of e s m ≡ (default_style e).face
  unfolding face_of
  no-face m = rw found

  alone : (k x left q f : ℕ) → k < n → f ≡ (default_style e).face → x ≡ n → StretchIs e s n k (record { end = x; face = f; left = left; next = q })
  alone k x left q f l p h =
      record {
        mark = none;
        goes = omega (arith, l, h);
        ends = omega (arith, h);
        face_is = p ∙ sym (no-face none);
        same = λ j a m. no-range j;
        other = inl h;
        walk = inl h;
      }

no_stop : (e s : List ℕ) (n : ℕ) → read_sample e s ≡ Good n → (B : Body) → styles_of s ≡ B → {X : Type 0} → ((b : ℕ) → styles_of s ≡ At b → X) → (styles_of s ≡ Nowhere → X) → X
unfolding styles_of
no_stop e s n good (At b) q f g = f b q
no_stop e s n good (Stopped r) q f g = absurd (boxes-whole e n s styl r (read-good e s n good).modifiers q)
no_stop e s n good Nowhere q f g = g q

run-plain : (x l q y m p : ℕ) → Plain x l q ≡ Plain y m p → x ≡ y
run-plain x l q y m p e = cc

module _ (e s : List ℕ) (n k left q : ℕ) (good : read_sample e s ≡ Good n) (l : k < n) (w : WalkAt s left q k (styles_of s)) where
  nowhere-is : styles_of s ≡ Nowhere → next_run s left q k n ≡ Plain n 0 0
  nowhere-is h = let z : left ≡ 0 = subst (WalkAt s left q k) h w in ap (λ (y : ℕ). next_run s y q k n) z ∙ (plain_is e s n q k good h l).0

  pub stretch-styled : (x left₂ q₂ : ℕ) (t : Style) → Styled x t left₂ q₂ ≡ next_run s left q k n → StretchIs e s n k (record { end = x; face = t.face; left = left₂; next = q₂ })
  stretch-styled x left₂ q₂ t r =
      no_stop e s n good (styles_of s) refl
      (λ b h. styled-by e s n b good h k x left₂ q₂ t (subst (RunMeans e s n b k) (sym r) (run_is e s n b left q k good h (subst (WalkAt s left q k) h w) l)))
      (λ h. let c = r ∙ nowhere-is h in let z : ◌≡◌ {A = ℕ} 0 1 = cc in absurd (omega arith))

  pub stretch-plain : (x left₂ q₂ f : ℕ) → f ≡ (default_style e).face → Plain x left₂ q₂ ≡ next_run s left q k n → StretchIs e s n k (record { end = x; face = f; left = left₂; next = q₂ })
  stretch-plain x left₂ q₂ f p r =
      no_stop e s n good (styles_of s) refl
      (λ b h. plain_by e s n b good h k x left₂ q₂ f p (subst (RunMeans e s n b k) (sym r) (run_is e s n b left q k good h (subst (WalkAt s left q k) h w) l)))
      (λ h. alone e s n good h k x left₂ q₂ f l p (run-plain x left₂ q₂ n 0 0 (r ∙ nowhere-is h)))

  pub stretch-none : End ≡ next_run s left q k n → ⊥
  stretch-none r =
      no_stop e s n good (styles_of s) refl
      (λ b h. subst (RunMeans e s n b k) (sym r) (run_is e s n b left q k good h (subst (WalkAt s left q k) h w) l))
      (λ h. let c = r ∙ nowhere-is h in let z : ◌≡◌ {A = ℕ} 0 1 = cc in absurd (omega arith))

-- a walk begins with all styles
pub walk-starts : (s : List ℕ) (f : Styles) → f ≡ styles_in s (styles_of s) → WalkAt s f.count f.from 0 (styles_of s)
walk-starts s f e = subst (λ (x : Styles). WalkAt s x.count x.from 0 (styles_of s)) (sym e) (go (styles_of s))
  where
    go : (B : Body) → WalkAt s (styles_in s B).count (styles_in s B).from 0 B
    go (At b) = walk_begins s b
    go (Stopped r) = tt
    go Nowhere = refl
