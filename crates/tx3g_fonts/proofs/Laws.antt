-- Laws of specs/Fonts.antt: fonts follow each other, a found ID stays found, what slots tell, and a content that goes past its body.
use Prim.Native.Nat.{ℕ, zero, suc, ◌+◌, ◌-◌, ◌*◌, ◌%◌, ◌≤◌, ◌<◌}
use mathlib.Core.Path.{◌≡◌, refl, sym, ap, ◌∙◌}
use mathlib.Core.Logic.{◌⊎◌, inl, inr, ⊎_elim}
use mathlib.Core.List.{List}
use mathlib.Core.Bool.{Bool, true, false}
use native.Mathlib.Omega.{arith}
use native.Mathlib.Nat.{add-zero, zero-add, add-suc}
use native.Mathlib.Numerals.{add-one}
use lib.ListN.{length, get_or, set, replicate, length-set, get_or-replicate}
use lib.Seq.{get_or-set_same, get_or-set_other}
use lib.Dec.{ltb, eqb}
use borrow.Author.Tests.{eq-eqb, ne_eqb, eqb-true, eqb-false, lt-ltb}
use Rattle.base.specs.Choice.{any_of}
use Rattle.base.proofs.Choice.{by-test, true-false}
use Rattle.verdict.specs.Verdict.{Fine}
use Rattle.verdict.specs.Judgement.{◌gives◌at◌, ◌then◌, each, refuse}
use Rattle.verdict.proofs.Judgement.{both-fine}
use Rattle.fields.specs.BigEndian.{be}
use Rattle.bodies.specs.Bodies.{filled}
use Rattle.bodies.proofs.Filled.{filled-fine}
use Rattle.tx3g_fonts.specs.Fonts.{after_font, font_at, font_id, font_among, has_font, font_slots, Slotted, fresh_font, judge_fonts}

-- an element after a store: what was stored, or what was there
stored : {A : Type 0} (l : List A) (i j : ℕ) (x y d : A) → i < length l → get_or (set l i x) j d ≡ y → (x ≡ y) ⊎ (get_or l j d ≡ y)
stored l i j x y d h e =
    by-test (eqb j i)
    (λ q. inl (sym (get_or-set_same l i x d h) ∙ (rw (eqb-true j i q) at e)))
    (λ q. inr (sym (get_or-set_other l i j x d (eqb-false j i q)) ∙ e))

module _ (s : List ℕ) (b : ℕ) where
  -- the first font, and the next
  pub font-zero : b + 2 ≡ font_at s b 0
  unfolding font_at
  font-zero = refl

  pub font-more : (k p q : ℕ) → p ≡ font_at s b k → q ≡ after_font s p → q ≡ font_at s b (k + 1)
  unfolding font_at
  font-more k p q e h = rw (add-one, font_at, ← e) h

  on : (k d : ℕ) → font_at s b k + d * 3 ≤ font_at s b (k + d)
  unfolding font_at after_font
  on k zero = rw (add-zero k) (omega arith)
  on k (suc d) = rw (add-suc, font_at) (omega (arith, on k d))

  pub fonts-up : (k m : ℕ) → k < m → font_at s b k + 3 ≤ font_at s b m
  fonts-up k m h = let e : m ≡ k + (m - k) = omega arith in rw e (omega (arith, on k (m - k)))

  -- a font that is counted has its ID and its length before the table ends
  pub font-room : (k m n p : ℕ) → k < m → p ≡ font_at s b k → font_at s b m ≤ n → p + 3 ≤ n
  font-room k m n p h e l = omega (arith, fonts-up k m h)

  -- a table begins before it ends
  pub fonts-from : (m : ℕ) → b + 2 ≤ font_at s b m
  fonts-from m = omega (arith, on 0 m, font-zero, ap (font_at s b) (zero-add m))

  -- the search: an ID that is not font k's, and one that is
  pub among-zero : (id : ℕ) → font_among s b 0 id ≡ false
  unfolding font_among
  among-zero id = refl

  pub among-more : (k id p : ℕ) → p ≡ font_at s b k → font_among s b k id ≡ false → (be 2 s p ≡ id → ⊥) → font_among s b (k + 1) id ≡ false
  unfolding font_among font_id
  among-more k id p e h n = rw (add-one, font_among, h, ← e, ne_eqb (be 2 s p) id n)

  stays : (k d id : ℕ) → font_among s b k id ≡ true → font_among s b (k + d) id ≡ true
  unfolding font_among
  stays k zero id h = rw add-zero h
  stays k (suc d) id h = rw (add-suc, font_among, stays k d id h)

  second : (t : Bool) → any_of t true ≡ true
  second true = refl
  second false = refl

  pub among-found : (k m id p : ℕ) → k < m → p ≡ font_at s b k → be 2 s p ≡ id → font_among s b m id ≡ true
  unfolding font_among font_id
  among-found k m id p l e q =
      let w : font_among s b (suc k) id ≡ true = rw (font_among, ← e, eq-eqb (be 2 s p) id q) (second (font_among s b k id)) in
      let r : m ≡ suc k + (m - suc k) = omega arith in
      rw r (stays (suc k) (m - suc k) id w)

  -- the slots: none entered, one more, and how many
  pub slots-zero : (slots : List ℕ) → slots ≡ font_slots s b 0 slots
  unfolding font_slots
  slots-zero slots = refl

  pub slots-more : (k p id : ℕ) (slots l : List ℕ) → p ≡ font_at s b k → id ≡ be 2 s p → l ≡ font_slots s b k slots → set l (id % 256) id ≡ font_slots s b (k + 1) slots
  unfolding font_slots font_id
  slots-more k p id slots l e q h = rw (add-one, font_slots, ← e, ← q, ← h)

  pub slots-size : (k : ℕ) (slots : List ℕ) → length (font_slots s b k slots) ≡ length slots
  unfolding font_slots
  slots-size zero slots = refl
  slots-size (suc k) slots = length-set (font_slots s b k slots) (font_id s b k % 256) (font_id s b k) ∙ slots-size k slots

  -- slots that begin as 65536, which is no ID: an ID that stands in its slot was entered
  entered : (k id : ℕ) → id < 65536 → get_or (font_slots s b k (replicate 256 65536)) (id % 256) 0 ≡ id → font_among s b k id ≡ true
  unfolding font_slots font_among
  entered zero id l h = absurd (omega (arith, get_or-replicate {A = ℕ} 256 (id % 256) 65536 0 (omega arith)))
  entered (suc k) id l h =
      let w = stored (font_slots s b k (replicate 256 65536)) (font_id s b k % 256) (id % 256) (font_id s b k) id 0 (omega (arith, slots-size k (replicate 256 65536))) h in
      ⊎_elim (λ e. rw (eq-eqb (font_id s b k) id e) (second (font_among s b k id))) (λ e. rw (entered k id l e)) w

  pub slotted : Slotted s b (font_slots s b (be 2 s b) (replicate 256 65536))
  unfolding has_font
  slotted = record { size = slots-size (be 2 s b) (replicate 256 65536); found = entered (be 2 s b) }

  -- a font that goes past the body: bytes are missing
  pub cut : (place n k m : ℕ) → k < m → n < font_at s b k + 3 → filled place (font_at s b m) n ≡ refuse 1 place
  unfolding filled
  cut place n k m l h = let w = fonts-up k m l in simp (lt-ltb n (font_at s b m) (omega arith))

  pub cut-after : (place n k m : ℕ) → k < m → n < font_at s b (k + 1) → filled place (font_at s b m) n ≡ refuse 1 place
  unfolding filled
  cut-after place n k m l h =
      let e : m ≡ (k + 1) + (m - (k + 1)) = omega arith in
      let w : font_at s b (k + 1) ≤ font_at s b m = rw e (omega (arith, on (k + 1) (m - (k + 1)))) in
      simp (lt-ltb n (font_at s b m) (omega arith))

  -- a table without fault ends where its body ends
  pub fonts-fine : (place n : ℕ) → judge_fonts s place b n ≡ Fine → font_at s b (be 2 s b) ≡ n
  unfolding judge_fonts
  fonts-fine place n h =
      filled-fine place (font_at s b (be 2 s b)) n
      (both-fine (filled place (font_at s b (be 2 s b)) n) (ltb 256 (be 2 s b) gives 9 at place then each (fresh_font s place b) (be 2 s b)) h).0

  -- a body that ends before the count does
  pub cut_short : (place n m : ℕ) → n < b + 2 → refuse 1 place ≡ filled place (font_at s b m) n
  unfolding filled
  cut_short place n m h = let w = fonts-from m in simp (lt-ltb n (font_at s b m) (omega arith))

  -- the judgement of font k, by the look-up of its ID
  pub fresh-new : (place k p id : ℕ) → p ≡ font_at s b k → id ≡ be 2 s p → font_among s b k id ≡ false → fresh_font s place b k ≡ Fine
  unfolding fresh_font font_id
  fresh-new place k p id e q h = rw (← e, ← q, h)

  pub fresh-old : (place k p id : ℕ) → p ≡ font_at s b k → id ≡ be 2 s p → font_among s b k id ≡ true → fresh_font s place b k ≡ refuse 8 place
  unfolding fresh_font font_id
  fresh-old place k p id e q h = rw (← e, ← q, h)

  -- 256 slots; an ID whose slot is free is not among the first k fonts
  pub record Taken (k : ℕ) (taken : List Bool) : Type 0 where
    pub whole : length taken ≡ 256
    pub free : (id : ℕ) → get_or taken (id % 256) false ≡ false → font_among s b k id ≡ false

  pub taken_more : (k p id : ℕ) (taken : List Bool) → p ≡ font_at s b k → id ≡ be 2 s p → Taken k taken → Taken (k + 1) (set taken (id % 256) true)
  taken_more k p id taken e q t =
      let h : id % 256 < length taken = omega (arith, t.whole) in
      let same = get_or-set_same taken (id % 256) true false h in
      record {
        whole = length-set taken (id % 256) true ∙ t.whole;
        free = λ x f.
            among-more k x p e
            (⊎_elim (true-false true refl) (t.free x) (stored taken (id % 256) (x % 256) true false false h f))
            (λ w. true-false true refl (sym same ∙ (rw (← w, ← q) at f)));
      }
