-- A run is what it says of its characters.
use Prim.Native.Nat.{ℕ, zero, suc, ◌+◌, ◌-◌, ◌≤◌, ◌<◌, min}
use mathlib.Core.Path.{◌≡◌, refl, sym, ap, ap₂, ◌∙◌, subst, subst⁻¹}
use mathlib.Core.Logic.{inl, inr}
use mathlib.Core.Bool.{Bool, true, false}
use mathlib.Core.List.{List}
use native.Mathlib.Omega.{arith}
use lib.Dec.{ltb, leb}
use lib.ListN.{length}
use borrow.Author.Tests.{le-leb, lt-leb, lt-ltb, le-ltb, ltb-true, leb-true}
use Rattle.base.specs.Choice.{both}
use Rattle.base.proofs.Choice.{by-test, either, both_left, both_right, true-false}
use Rattle.fields.specs.BigEndian.{be}
use Rattle.bodies.specs.Body.{At}
use Rattle.tx3g_rules.specs.Rules.{style_at}
use Rattle.tx3g_rules.proofs.Laws.{style-room, style-place}
use Rattle.tx3g_sample.specs.Reading.{Good}
use Rattle.tx3g_sample.specs.Sample.{read_sample}
use Rattle.tx3g_style.specs.Styled.{Found}
use Rattle.tx3g_style.specs.Style.{holds_at, holds, style_in, default_style, style_among, styles_of, style_of}
use Rattle.tx3g_style.proofs.Laws.{NoneBefore, style-found, style-none, styles-lie}
use Rattle.tx3g_style.proofs.Only.{styles-ordered}
use Rattle.tx3g_runs.specs.declared.Run.TheVariants.{Styled, Plain}
use Rattle.tx3g_runs.specs.Runs.{lasts, run_by, run_among}
use Rattle.tx3g_runs.specs.Statements.{WalkBegins, RunMeans, RunIs, PlainIs, WalkEnds}
use Rattle.tx3g_runs.proofs.Laws.{next-end, next_is, among_none, among-here, among_later}

-- a style that has no character from k on has none from a later one on, and holds none
none-later : (s : List ℕ) (k x q : ℕ) → k ≤ x → lasts s k q ≡ false → lasts s x q ≡ false
unfolding lasts
none-later s k x q h e =
    by-test (ltb x (be 2 s (q + 2)))
    (λ t. let l = ltb-true x (be 2 s (q + 2)) t in rw t (ap (λ (u : Bool). both u (ltb (be 2 s q) (be 2 s (q + 2)))) (sym (lt-ltb k (be 2 s (q + 2)) (omega arith))) ∙ e))
    (λ t. rw t)

not-held : (s : List ℕ) (b k x i : ℕ) → k ≤ x → lasts s k (style_at b i) ≡ false → holds s b x i ≡ false
unfolding holds holds_at lasts
not-held s b k x i h e =
    let q = style_at b i in
    by-test (both (leb (be 2 s q) x) (ltb x (be 2 s (q + 2))))
    (λ t. let l = leb-true (be 2 s q) x (both_left (leb (be 2 s q) x) (ltb x (be 2 s (q + 2))) t) in
    let u = ltb-true x (be 2 s (q + 2)) (both_right (leb (be 2 s q) x) (ltb x (be 2 s (q + 2))) t) in
    true-false (both (ltb k (be 2 s (q + 2))) (ltb (be 2 s q) (be 2 s (q + 2))))
    (rw (lt-ltb k (be 2 s (q + 2)) (omega arith), lt-ltb (be 2 s q) (be 2 s (q + 2)) (omega arith))) e)
    (λ t. t)

-- what it is that a style has a character from k on
has_one : (s : List ℕ) (k q : ℕ) → lasts s k q ≡ true → (k < be 2 s (q + 2)) × (be 2 s q < be 2 s (q + 2))
unfolding lasts
has_one s k q e = (
  ltb-true k (be 2 s (q + 2)) (both_left (ltb k (be 2 s (q + 2))) (ltb (be 2 s q) (be 2 s (q + 2))) e),
  ltb-true (be 2 s q) (be 2 s (q + 2)) (both_right (ltb k (be 2 s (q + 2))) (ltb (be 2 s q) (be 2 s (q + 2))) e),
)

next-style : (b i : ℕ) → style_at b i + 12 ≡ style_at b (suc i)
unfolding style_at
next-style b i = omega arith

-- the run by a style: up to its start, or of it
by-start : (s : List ℕ) (left q k n : ℕ) → k < be 2 s q → be 2 s q ≤ n → run_by s left q k n ≡ Plain (be 2 s q) left q
unfolding run_by
by-start s left q k n h l = let e : min (be 2 s q) n ≡ be 2 s q = omega arith in rw (lt-ltb k (be 2 s q) h, e)

by_end : (s : List ℕ) (left q k n : ℕ) → be 2 s q ≤ k → be 2 s (q + 2) ≤ n → run_by s (suc left) q k n ≡ Styled (be 2 s (q + 2)) (style_in s q) left (q + 12)
unfolding run_by
by_end s left q k n h l =
    let e : min (be 2 s (q + 2)) n ≡ be 2 s (q + 2) = omega arith in
    let f : suc left - 1 ≡ left = omega arith in
    rw (le-ltb k (be 2 s q) h, e, f)

pub walk_begins : WalkBegins
unfolding style_at
walk_begins s b = record { passed = 0; counted = omega arith; here = omega arith; over = λ j l. absurd (omega arith) }

pub walk_ends : WalkEnds
walk_ends s n left q k h = next-end s q k n left h

module _ (e s : List ℕ) (n b : ℕ) (good : read_sample e s ≡ Good n) (found : styles_of s ≡ At b) where
  -- the style of a character, as it is answered: by the style that holds it, or by none
  answered : (j : ℕ) → j < n → style_of e s j ≡ Found (style_among e s j b)
  unfolding style_of
  answered j l = rw (good, lt-ltb j n l, found)

  of-style : (j i : ℕ) → j < n → i < be 2 s b → holds s b j i ≡ true → NoneBefore s b j i → style_of e s j ≡ Found (style_in s (style_at b i))
  unfolding style_at
  of-style j i l u h z = answered j l ∙ ap Found (sym (style-found e s b j i u h z))

  of_none : (j : ℕ) → j < n → NoneBefore s b j (be 2 s b) → (style_of e s j ≡ Found (default_style e)) × NoneBefore s b j (be 2 s b)
  unfolding default_style
  of_none j l z = (answered j l ∙ ap Found (sym (style-none e s b j z)), z)

  module _ (left i k : ℕ) (counted-so : i + suc left ≡ be 2 s b) (over-so : (j : ℕ) → j < i → lasts s k (style_at b j) ≡ false) (t : lasts s k (style_at b i) ≡ true) where
    -- a style that has a character from k on, and has begun: the run is of that style
    of-it : be 2 s (style_at b i) ≤ k → RunMeans e s n b k (run_by s (suc left) (style_at b i) k n)
    unfolding holds holds_at lasts
    of-it begun =
        let q = style_at b i in
        let m = has_one s k q t in
        let r = (styles-ordered e s n b good found).range i (omega (arith, counted-so)) in
        subst⁻¹ (RunMeans e s n b k) (by_end s left q k n begun r.1) (
          m.0,
          r.1,
          (λ j h l. of-style j i (omega (arith, l, r.1)) (omega (arith, counted-so)) (rw (le-leb (be 2 s q) j (omega arith), lt-ltb j (be 2 s (q + 2)) l)) (λ x y. not-held s b k j x h (over-so x y))),
          record {
            passed = suc i;
            counted = omega (arith, counted-so);
            here = next-style b i;
            over = λ j l. either (suc j) i
                (λ h. none-later s k (be 2 s (q + 2)) (style_at b j) (omega (arith, m.0)) (over-so j h))
                (λ h. let f : i ≡ j = omega arith in subst (λ (x : ℕ). lasts s (be 2 s (q + 2)) (style_at b x) ≡ false) f (rw (le-ltb (be 2 s (q + 2)) (be 2 s (q + 2)) (omega arith))));
          },
          i,
          omega (arith, counted-so),
          rw (le-leb (be 2 s q) k begun, lt-ltb k (be 2 s (q + 2)) m.0),
          refl,
        )

    -- one that has not: up to its start the default style holds
    up-to-it : k < be 2 s (style_at b i) → RunMeans e s n b k (run_by s (suc left) (style_at b i) k n)
    unfolding holds holds_at
    up-to-it later =
        let q = style_at b i in
        let m = has_one s k q t in
        let o = styles-ordered e s n b good found in
        let r = o.range i (omega (arith, counted-so)) in
        subst⁻¹ (RunMeans e s n b k) (by-start s (suc left) q k n later (omega (arith, r.0, r.1))) (
          later,
          omega (arith, r.0, r.1),
          (λ j h l. of_none j (omega (arith, l, r.0, r.1)) (λ x y. either (suc x) i
              (λ p. not-held s b k j x h (over-so x p))
              (λ p. rw (lt-leb (be 2 s (style_at b x)) j (either i x (λ g. either x i (λ f. let z : x ≡ i = omega arith in omega (arith, l, ap (λ (y : ℕ). be 2 s (style_at b y)) z)) (λ f. omega (arith, l, r.0, o.after-ends i x f y))) (λ g. absurd (omega arith))))))),
          inr (
            record { passed = i; counted = counted-so; here = refl; over = λ j l. none-later s k (be 2 s q) (style_at b j) (omega (arith, later)) (over-so j l) },
            i,
            omega (arith, counted-so),
            rw (le-leb (be 2 s q) (be 2 s q) (omega arith), lt-ltb (be 2 s q) (be 2 s (q + 2)) m.1),
          ),
        )

  walk : (left i k : ℕ) → i + left ≡ be 2 s b → ((j : ℕ) → j < i → lasts s k (style_at b j) ≡ false) → k < n → RunMeans e s n b k (run_among s left (style_at b i) k n)
  walk zero i k c o h =
      subst⁻¹ (RunMeans e s n b k) (among_none s (style_at b i) k n 0 (omega arith))
      (h, omega arith, (λ j a l. of_none j l (λ x y. not-held s b k j x a (o x (omega (arith, c, y))))), inl refl)
  walk (suc left) i k c o h =
      let q = style_at b i in
      let room : leb (q + 12) (length s) ≡ true = le-leb (q + 12) (length s) (rw (← style-place s b i) (style-room s b i (length s) (omega (arith, c)) (styles-lie e s n b good found))) in
      by-test (lasts s k q)
      (λ t. subst⁻¹ (RunMeans e s n b k) (among-here s q k n (suc left) (omega arith) room t)
      (either (be 2 s q) k (λ l. of-it left i k c o t l) (λ l. up-to-it left i k c o t l)))
      (λ t. let f : suc left - 1 ≡ left = omega arith in
      subst (RunMeans e s n b k) (ap₂ (λ (x y : ℕ). run_among s x y k n) (sym f) (sym (next-style b i)) ∙ among_later s q k n (suc left) (omega arith) room t)
      (walk left (suc i) k (omega (arith, c)) (λ j l. either (suc j) i (λ p. o j p) (λ p. let z : i ≡ j = omega arith in subst (λ (x : ℕ). lasts s k (style_at b x) ≡ false) z t)) h))

pub run_is : RunIs
run_is e s n b left q k good found w h =
    subst⁻¹ (RunMeans e s n b k) (next_is s q k n left h ∙ ap (λ (x : ℕ). run_among s left x k n) w.here) (walk e s n b good found left w.passed k w.counted w.over h)

pub plain_is : PlainIs
unfolding style_of default_style
plain_is e s n q k good none h = (
  next_is s q k n 0 h ∙ among_none s q k n 0 (omega arith),
  λ j l. rw (good, lt-ltb j n l, none),
)
