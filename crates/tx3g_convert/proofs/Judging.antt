-- The judgement of a sample by its payload in a buffer.
use Prim.Native.Nat.{ℕ, suc, min, ◌+◌, ◌-◌, ◌≤◌, ◌<◌}
use mathlib.Core.Path.{◌≡◌, refl, sym, ap, ap₂, ◌∙◌}
use mathlib.Core.Bool.{Bool, true, false, not}
use mathlib.Core.List.{List, [], ◌∷◌}
use native.Mathlib.Omega.{arith}
use borrow.Author.Tests.{lt-ltb, le-ltb, leb-false, ltb-false}
use lib.Dec.{leb, ltb}
use lib.ListN.{length, take, drop, get_or}
use Rattle.base.specs.Choice.{pick, any_of}
use Rattle.base.specs.Over.{over}
use Rattle.base.proofs.Choice.{either, by-test}
use Rattle.base.proofs.Tests.{one-of-first, one-of-second}
use Rattle.base.proofs.Over.{take-over}
use Rattle.verdict.specs.Verdict.{Verdict, Fine, Refused}
use Rattle.verdict.specs.Judgement.{refuse, ◌gives◌at◌, ◌then◌}
use Rattle.verdict.proofs.Judgement.{then-fine, both-fine, not-given, text-right}
use Rattle.text.specs.Rules.{identifier_text, payload_text}
use Rattle.text.specs.Beginnings.{identifier_begun, payload_begun}
use Rattle.text.proofs.Rules.{empty-line}
use Rattle.times.specs.Times.{back}
use Rattle.cues.specs.Caption.{caption, long_texts, judge_texts, bad_times, judge_content, judge_caption, SoundCaption}
use Rattle.cues.proofs.Sound.{caption-fine-iff}
use Rattle.cues.proofs.Capped.{content-capped}
use Rattle.tx3g_sample.specs.Sample.{judge_sample}
use Rattle.tx3g_payload.specs.Statements.{has_zero}
use Rattle.tx3g_payload_write.specs.Sample.{payload_in}
use Rattle.tx3g_payload_write.specs.Terms.{MadeIs}
use Rattle.tx3g_tidy.specs.Tidy.{tidy_in}
use Rattle.tx3g_tidy.proofs.Samples.{tidy-rule}
use Rattle.tx3g_convert.specs.declared.State.{State}
use Rattle.tx3g_convert.specs.Turn.{Turn, On}
use Rattle.tx3g_convert.specs.Convert.{has_text, judge_told}
use Rattle.tx3g_convert.specs.Terms.{told, Ruled, past_limits, Sized, behind_of, turn_by}

pub no_bytes : (p : List ℕ) → length p ≡ 0 → p ≡ []
no_bytes [] h = refl
no_bytes (x ∷ p) h = absurd (omega arith)

pub has-text : (p : List ℕ) → has_text p ≡ ltb 0 (length p)
has-text [] = refl
has-text (x ∷ p) = sym (lt-ltb 0 (suc (length p)) (omega arith))

-- n bytes, if any, are text
pub some-text : (p : List ℕ) (n : ℕ) → n ≡ length p → 0 < n → has_text p ≡ true
some-text p n e h = has-text p ∙ lt-ltb 0 (length p) (omega arith)

-- ---- by the payload in a buffer

pub over-text : (p old buf : List ℕ) (n : ℕ) → n ≡ length p → buf ≡ over p old → take (n - 0) (drop 0 buf) ≡ p
over-text p old buf n l w =
    let e : n - 0 ≡ n = omega arith in
    ap (λ (k : ℕ). take k buf) e ∙ ap (take n) w ∙ take-over p old n l

module _ (p old buf : List ℕ) (n : ℕ) (m : MadeIs p old buf n) where
  none_made : n ≡ 0 → p ≡ []
  none_made h = no_bytes p (omega (arith, (m.fits (omega arith)).0))

  pub some-made : (n ≡ 0 → ⊥) → has_text p ≡ true
  some-made h = has-text p ∙ lt-ltb 0 (length p) (either n 4095 (λ l. omega (arith, h, (m.fits l).0)) (λ l. omega (arith, m.past l)))

  pub made-length : length p ≤ 4095 → (n ≡ length p) × (n ≤ 4095)
  made-length l = either n 4095 (λ k. ((m.fits k).0, k)) (λ k. absurd (omega (arith, m.past k)))

  made-long : ltb 4095 n ≡ ltb 4095 (length p)
  made-long = either n 4095 (λ l. ap (ltb 4095) (m.fits l).0) (λ l. lt-ltb 4095 n l ∙ sym (lt-ltb 4095 (length p) (m.past l)))

  made-text : n ≤ 4095 → take (n - 0) (drop 0 buf) ≡ p
  made-text l = let w = m.fits l in over-text p old buf n w.0 w.1

pub within-length : (k n : ℕ) → past_limits k n ≡ false → n ≤ 4095
within-length k n h = ltb-false 4095 n (one-of-second (leb 1024 k) (ltb 4095 n) h)

-- a caption whose only text keeps its rule is judged by its times
text-fine : (scale T a b i : ℕ) (p : List ℕ) → payload_text p ≡ true → judge_content scale T 0 (caption a b [] [] p) i ≡ bad_times scale T a b gives 10 at i
unfolding judge_content judge_texts
text-fine scale T a b i p h =
    let none = text-right identifier_text identifier_begun i [] empty-line in
    let texts = then-fine _ _ none ∙ then-fine _ _ none ∙ text-right payload_text payload_begun i p h in
    then-fine _ _ texts ∙ rw (le-ltb a 0 (omega arith)) (alone (bad_times scale T a b))
  where
    alone : (t : Bool) → t gives 10 at i then Fine ≡ t gives 10 at i
    alone true = refl
    alone false = refl

-- ---- the judgement of a cue by its length

-- within the limits, the content decides
judged-content : (scale k b i d n : ℕ) (p : List ℕ) → ltb 4095 n ≡ ltb 4095 (length p) → past_limits k n ≡ false
    → judge_content scale 359999999 0 (caption (min (back scale b) 360000000) (min (back scale (b + d)) 360000000) [] [] p) i ≡ judge_told true scale k b i (told d p)
unfolding judge_caption long_texts
judged-content scale k b i d n p long h =
    content-capped scale (back scale b) (back scale (b + d)) 0 i [] [] p
    ∙ sym (rw (one-of-first (leb 1024 k) (ltb 4095 n) h, ← long, one-of-second (leb 1024 k) (ltb 4095 n) h))

module _ (scale k b i d n : ℕ) (p : List ℕ) (z : Sized k n p) where
  pub cue-past : past_limits k n ≡ true → refuse 9 i ≡ judge_told true scale k b i (told d p)
  unfolding judge_caption long_texts
  cue-past h =
      by-test (leb 1024 k)
      (λ e. rw e)
      (λ e. let l : ltb 4095 (length p) ≡ true = sym z.long ∙ ap (λ (x : Bool). any_of x (ltb 4095 n)) (sym e) ∙ h in rw (e, l))

  module _ (h : past_limits k n ≡ false) (start end : ℕ) (from : start ≡ min (back scale b) 360000000) (to : end ≡ min (back scale (b + d)) 360000000) (t : Bool) (q : t ≡ bad_times scale 359999999 start end) where
    by-times : t gives 10 at i ≡ judge_told true scale k b i (told d p)
    by-times =
        ap (λ (x : Bool). x gives 10 at i) (q ∙ ap₂ (bad_times scale 359999999) from to)
        ∙ sym (text-fine scale 359999999 (min (back scale b) 360000000) (min (back scale (b + d)) 360000000) i p (z.right h))
        ∙ judged-content scale k b i d n p z.long h

    pub times-bad : t ≡ true → refuse 10 i ≡ judge_told true scale k b i (told d p)
    times-bad e = ap (λ (x : Bool). x gives 10 at i) (sym e) ∙ by-times

    pub times-right : t ≡ false → Fine ≡ judge_told true scale k b i (told d p)
    times-right e = ap (λ (x : Bool). x gives 10 at i) (sym e) ∙ by-times

module _ (p old buf : List ℕ) (n : ℕ) (m : MadeIs p old buf n) where
  pub judged-made : (scale k b i d : ℕ) → past_limits k n ≡ false
      → judge_content scale 359999999 0 (caption (min (back scale b) 360000000) (min (back scale (b + d)) 360000000) [] [] (take (n - 0) (drop 0 buf))) i ≡ judge_told true scale k b i (told d p)
  judged-made scale k b i d h =
      ap (λ (x : List ℕ). judge_content scale 359999999 0 (caption (min (back scale b) 360000000) (min (back scale (b + d)) 360000000) [] [] x) i) (made-text p old buf n m (within-length k n h))
      ∙ judged-content scale k b i d n p (made-long p old buf n m) h

  -- a payload without a zero byte keeps its rule
  pub made-sized : (k : ℕ) → Ruled p → (past_limits k n ≡ false → has_zero (take (n - 0) (drop 0 buf)) ≡ false) → Sized k n p
  made-sized k ruled none = record {
    long = made-long p old buf n m;
    right = λ h. ruled ∙ ap (λ (x : List ℕ). not (has_zero x)) (sym (made-text p old buf n m (within-length k n h))) ∙ ap not (none h);
  }

-- a cue without fault is a sound caption, and not the 1,025th
pub fine-cue : (scale k b i d : ℕ) (p : List ℕ) → judge_told true scale k b i (told d p) ≡ Fine
    → (k < 1024) × SoundCaption scale 359999999 0 (caption (back scale b) (back scale (b + d)) [] [] p)
fine-cue scale k b i d p e =
    let c = caption (back scale b) (back scale (b + d)) [] [] p in
    let w = both-fine (leb 1024 k gives 9 at i) (judge_caption scale 359999999 0 c i) e in
    (leb-false 1024 k (not-given (leb 1024 k) 9 i w.0), (caption-fine-iff scale 359999999 0 i c).0 w.1)

-- ---- the state behind a sample

-- what is judged of a sample, and the state behind it
abbrev pub turn_of : ℕ → State → ℕ → ℕ → List ℕ → Turn
turn_of scale st i d p = turn_by (judge_told (has_text p) scale st.cues st.tick i (told d p)) (behind_of st d (length p))

pub turn-none : (scale i d : ℕ) (st : State) (p old buf : List ℕ) (n : ℕ) → MadeIs p old buf n → n ≡ 0 → (s : State) → s ≡ behind_of st d 0 → On s ≡ turn_of scale st i d p
turn-none scale i d st p old buf n m h s e = ap On e ∙ sym (ap (turn_of scale st i d) (none_made p old buf n m h))

-- a cue by its verdict; n is its length if that is short enough
module _ (scale i d : ℕ) (st : State) (p : List ℕ) (n : ℕ) (l : length p ≤ 4095 → n ≡ length p) (v : Verdict) (j : v ≡ judge_told true scale st.cues st.tick i (told d p)) where
  fine-length : v ≡ Fine → length p ≤ 4095
  fine-length f = (fine-cue scale st.cues st.tick i d p (sym j ∙ f)).1.payload_most

  pub turn-short : v ≡ Fine → n ≤ 4095
  turn-short f = let k = fine-length f in omega (arith, l k)

  same_turn : (w : Verdict) → (w ≡ Fine → n ≡ length p) → turn_by w (behind_of st d n) ≡ turn_by w (behind_of st d (length p))
  same_turn Fine e = ap (λ (x : ℕ). On (behind_of st d x)) (e refl)
  same_turn (Refused r) e = refl

  pub turn-text : has_text p ≡ true → (t : Turn) → t ≡ turn_by v (behind_of st d n) → t ≡ turn_of scale st i d p
  turn-text h t e = e ∙ same_turn v (λ f. l (fine-length f)) ∙ rw (h, ← j)

-- ---- a payload that is known

pub known_so : (t : Bool) (m n : ℕ) → n ≡ pick t m 0 → 0 < n → (t ≡ true) × (n ≡ m)
known_so true m n e h = (refl, e)
known_so false m n e h = absurd (omega arith)

pub known-sized : (e s : List ℕ) (k n : ℕ) → ((j : ℕ) → get_or s j 0 < 256) → judge_sample e s ≡ Fine → (tidy_in s ≡ true) × (n ≡ length (payload_in e s)) → Sized k n (payload_in e s)
known-sized e s k n b f h = record { long = ap (ltb 4095) h.1; right = λ _. tidy-rule e s b f h.0 }
