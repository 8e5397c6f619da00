-- Laws for the functions: the parts that are judged, and what the two loops over IDs show.
use Prim.Native.Nat.{ℕ, zero, suc, ◌+◌, ◌-◌, ◌%◌, ◌≤◌, ◌<◌}
use mathlib.Core.Path.{◌≡◌, refl, sym, ap, ◌∙◌}
use mathlib.Core.Bool.{Bool, true, false}
use mathlib.Core.List.{List}
use native.Mathlib.Omega.{arith}
use borrow.Author.Count.{below_more}
use borrow.Author.Tests.{eq-eqb, ne_eqb, eqb-true, eqb-false, ltb-false}
use lib.Dec.{eqb}
use lib.ListN.{length, take, drop, get_or, set, length-set}
use lib.Seq.{get_or-set_same, get_or-set_other}
use Rattle.base.proofs.Choice.{by-test, true-false}
use Rattle.base.proofs.First.{first-none, first_some}
use Rattle.verdict.specs.Verdict.{Fine}
use Rattle.verdict.specs.Judgement.{refuse}
use Rattle.records.specs.Records.{source_id, start_ms, end_ms, text_offset, settings_offset, payload_offset, texts_end}
use Rattle.records.proofs.Laws.{parts_are}
use Rattle.cues.specs.Caption.{caption, judge_content}
use Rattle.cues.specs.Judgement.{past_pool, start_before, caption_of, found, stood_earlier, twice_at, judge_ids}

pub in-pool : (recs pool : List ℕ) (i : ℕ) → past_pool recs pool i ≡ false → texts_end recs i ≤ length pool
unfolding past_pool
in-pool recs pool i h = ltb-false (length pool) (texts_end recs i) h

-- the start before a record that is not the first
pub before_at : (recs : List ℕ) (i x : ℕ) → (i ≡ 0 → ⊥) → x ≡ start_ms recs (i - 1) → x ≡ start_before recs i
unfolding start_before
before_at recs zero x h p = absurd (h refl)
before_at recs (suc i) x h p =
    let e : suc i - 1 ≡ i = omega arith in
    p ∙ ap (start_ms recs) e

-- the parts of the pool that are judged are the texts of the record's caption
pub content-is : (scale T i : ℕ) (recs pool : List ℕ) (a b e l before start end : ℕ)
    → a ≡ text_offset recs i → b ≡ settings_offset recs i → e ≡ payload_offset recs i → l ≡ texts_end recs i → before ≡ start_before recs i → start ≡ start_ms recs i → end ≡ end_ms recs i
    → judge_content scale T before (caption start end (take (b - a) (drop a pool)) (take (e - b) (drop b pool)) (take (l - e) (drop e pool))) i ≡ judge_content scale T (start_before recs i) (caption_of recs pool i) i
unfolding caption_of
content-is scale T i recs pool a b e l before start end p q r s t u v = let w = parts_are recs pool i a b e l p q r s in rw (w.0, w.1, w.2, t, u, v)

-- no record before j has the ID of record i
abbrev pub Fresh : List ℕ → ℕ → ℕ → Type 0
Fresh recs i j = (k : ℕ) → k < j → eqb (source_id recs k) (source_id recs i) ≡ false

-- no ID of a record before i stood earlier
abbrev pub Apart : List ℕ → ℕ → Type 0
Apart recs i = (k : ℕ) → k < i → stood_earlier recs k ≡ false

pub differ : (recs : List ℕ) (j i x y : ℕ) → x ≡ source_id recs j → y ≡ source_id recs i → (x ≡ y → ⊥) → eqb (source_id recs j) (source_id recs i) ≡ false
differ recs j i x y p q h = ne_eqb (source_id recs j) (source_id recs i) (λ e. h (p ∙ e ∙ sym q))

pub fresh-apart : (recs : List ℕ) (i : ℕ) → Fresh recs i i → stood_earlier recs i ≡ false
unfolding stood_earlier
fresh-apart recs i h = ap found (first-none (λ j. eqb (source_id recs j) (source_id recs i)) i h)

pub none-twice : (recs : List ℕ) (n i : ℕ) → n ≤ i → Apart recs i → Fine ≡ judge_ids recs n
unfolding judge_ids
none-twice recs n i l h = sym (ap twice_at (first-none (stood_earlier recs) n (λ k m. h k (omega arith))))

pub one-twice : (recs : List ℕ) (n i j x y : ℕ) → i < n → j < i → x ≡ source_id recs j → y ≡ source_id recs i → x ≡ y → Fresh recs i j → Apart recs i → refuse 12 i ≡ judge_ids recs n
unfolding judge_ids stood_earlier
one-twice recs n i j x y l m p q e f d =
    let same : eqb (source_id recs j) (source_id recs i) ≡ true = eq-eqb (source_id recs j) (source_id recs i) (sym p ∙ e ∙ q) in
    let stood : stood_earlier recs i ≡ true = ap found (first_some (λ k. eqb (source_id recs k) (source_id recs i)) i j m same f) in
    sym (ap twice_at (first_some (stood_earlier recs) n i l stood d))

-- a taken slot stays taken
stays : (l : List Bool) (i j : ℕ) → i < length l → get_or l j false ≡ true → get_or (set l i true) j false ≡ true
stays l i j h t =
    by-test (eqb j i) (λ e. rw (eqb-true j i e) (get_or-set_same l i true false h)) (λ e. get_or-set_other l i j true false (eqb-false j i e) ∙ t)

-- the slots of the IDs of the records before i are taken
pub record Slots (recs : List ℕ) (taken : List Bool) (i : ℕ) : Type 0 where
  pub whole : length taken ≡ 4096
  pub marked : (k : ℕ) → k < i → get_or taken (source_id recs k % 4096) false ≡ true

pub slots-more : (recs : List ℕ) (taken : List Bool) (i x : ℕ) → x ≡ source_id recs i → Slots recs taken i → Slots recs (set taken (x % 4096) true) (i + 1)
slots-more recs taken i x p s =
    let h : x % 4096 < length taken = omega arith in
    record {
      whole = length-set taken (x % 4096) true ∙ s.whole;
      marked = below_more _ i (λ k l. stays taken (x % 4096) (source_id recs k % 4096) h (s.marked k l)) (rw (← p) (get_or-set_same taken (x % 4096) true false h));
    }

-- an ID whose slot is free has not stood earlier
pub free-fresh : (recs : List ℕ) (taken : List Bool) (i x : ℕ) → x ≡ source_id recs i → Slots recs taken i → get_or taken (x % 4096) false ≡ false → Fresh recs i i
free-fresh recs taken i x p s f =
    λ k l. ne_eqb (source_id recs k) (source_id recs i)
    (λ e. true-false (get_or taken (x % 4096) false) (rw (p, ← e) (s.marked k l)) f)
