-- Counts, and boxes counted one by one.
use Prim.Native.Nat.{ℕ, zero, suc, ◌+◌, ◌-◌, ◌≤◌}
use mathlib.Core.Path.{◌≡◌, refl, sym, ap, ◌∙◌, subst⁻¹}
use mathlib.Core.Bool.{Bool, true, false}
use mathlib.Core.List.{List}
use native.Mathlib.Omega.{arith}
use lib.Dec.{eqb}
use lib.ListN.{length}
use Rattle.base.specs.Choice.{pick}
use Rattle.boxes.specs.declared.Step.{Step}
use Rattle.boxes.specs.declared.Step.TheVariants.{Box, Refused as Stopped, End}
use Rattle.boxes.specs.Boxes.{step_at, on_step, boxes_f, boxes_in}
use Rattle.boxes.proofs.Laws.{step-box, boxes-at, boxes-box, NoBox}
use Rattle.tx3g_contents.specs.Kinds.{hlit, blnk, hclr, krok, dlay, href, tbox, twrp}
use Rattle.tx3g_sample.specs.Sample.{text_end}
use Rattle.tx3g_stock.specs.declared.Counts.{Counts}
use Rattle.tx3g_stock.specs.Stock.{of_kind, kinds_in, counts_by}
use Rattle.tx3g_stock.specs.Terms.{together, Each, AtMost}

-- ---- counts

pub each-most : (n : ℕ) (c : Counts) → AtMost n c → Each n c
unfolding counts_by
each-most n c w = subst⁻¹ (Each n) w.is (w.most hlit, w.most blnk, w.most hclr, w.most krok, w.most dlay, w.most href, w.most tbox, w.most twrp)

pub counts_same : (f g : ℕ → ℕ) → ((k : ℕ) → f k ≡ g k) → counts_by f ≡ counts_by g
counts_same f g e = λ i. counts_by (λ k. e k i)

pub counts-together : (f g : ℕ → ℕ) → together (counts_by f) (counts_by g) ≡ counts_by (λ k. f k + g k)
unfolding counts_by
counts-together f g = refl

-- ---- boxes

one-most : (t : Bool) → pick t 1 0 ≤ 1
one-most true = omega arith
one-most false = omega arith

-- a box has 8 bytes or more
kinds-few : (k f : ℕ) (s : List ℕ) (at end : ℕ) → of_kind k (boxes_f f s at end) ≤ end - at
unfolding boxes_f of_kind
kinds-few k zero s at end = omega arith
kinds-few k (suc f) s at end = go (step_at s at end) refl (λ n. kinds-few k f s n end)
  where
    go : (t : Step) → step_at s at end ≡ t → ((n : ℕ) → of_kind k (boxes_f f s n end) ≤ end - n) → of_kind k (on_step t at (λ n. boxes_f f s n end)) ≤ end - at
    go (Box j b n) e rest = let w = step-box s at end j b n e in omega (arith, w.header, w.order, w.inside, one-most (eqb j k), rest n)
    go (Stopped r) e rest = omega arith
    go End e rest = omega arith

pub kinds-most : (k : ℕ) (s : List ℕ) → kinds_in k s ≤ length s
unfolding kinds_in boxes_in
kinds-most k s = omega (arith, kinds-few k (suc (length s)) s (text_end s) (length s))

-- ---- the loop over the boxes of a sample

-- the boxes before `at` are counted
pub record Counted (s : List ℕ) (before after : Counts) (at : ℕ) : Type 0 where
  pub few : AtMost 9223372036854775807 before
  pub by : ℕ → ℕ
  pub is : after ≡ counts_by by
  pub left : (k : ℕ) → by k + of_kind k (boxes_in s at (length s)) ≡ few.by k + kinds_in k s

module _ (s : List ℕ) (before : Counts) where
  pub counted_none : AtMost 9223372036854775807 before → (at : ℕ) → at ≡ text_end s → Counted s before before at
  unfolding kinds_in
  counted_none w at e = record { few = w; by = w.by; is = w.is; left = λ k. rw e }

  module _ (after : Counts) (at : ℕ) (w : Counted s before after at) where
    pub counted-fits : length s ≤ 9223372036854775807 → Each 18446744073709551614 after
    counted-fits l = each-most 18446744073709551614 after (record { by = w.by; is = w.is; most = λ k. omega (arith, w.left k, w.few.most k, kinds-most k s) })

    pub counted-more : (j b n : ℕ) (next : Counts) → step_at s at (length s) ≡ Box j b n → next ≡ together after (counts_by (λ k. pick (eqb j k) 1 0)) → Counted s before next n
    unfolding of_kind
    counted-more j b n next e q = record {
      few = w.few;
      by = λ k. w.by k + pick (eqb j k) 1 0;
      is = q ∙ ap (λ (c : Counts). together c (counts_by (λ k. pick (eqb j k) 1 0))) w.is ∙ counts-together w.by (λ k. pick (eqb j k) 1 0);
      left = λ k.
          let h = w.left k in
          let x : of_kind k (boxes_in s at (length s)) ≡ pick (eqb j k) 1 0 + of_kind k (boxes_in s n (length s)) = ap (of_kind k) (boxes-box s at (length s) j b n e) in
          omega (arith, h, x);
    }

    pub counted-all : (t : Step) → step_at s at (length s) ≡ t → NoBox t → after ≡ together before (counts_by (λ k. kinds_in k s))
    unfolding of_kind
    counted-all t e h =
        w.is
        ∙ counts_same w.by (λ k. w.few.by k + kinds_in k s) (λ k. let x = none k in omega (arith, w.left k, x))
        ∙ sym (ap (λ (c : Counts). together c (counts_by (λ k. kinds_in k s))) w.few.is ∙ counts-together w.few.by (λ k. kinds_in k s))
      where
        stops : (k : ℕ) (u : Step) → NoBox u → of_kind k (on_step u at (λ n. boxes_in s n (length s))) ≡ 0
        stops k (Box j b n) h = absurd h
        stops k (Stopped r) h = refl
        stops k End h = refl

        none : (k : ℕ) → of_kind k (boxes_in s at (length s)) ≡ 0
        none k = ap (of_kind k) (boxes-at s at (length s)) ∙ ap (λ (u : Step). of_kind k (on_step u at (λ n. boxes_in s n (length s)))) e ∙ stops k t h
