-- What is written of a sample, and the outputs sample by sample.
use Prim.Native.Nat.{ℕ, suc, min, ◌+◌, ◌-◌, ◌≤◌, ◌<◌}
use mathlib.Core.Path.{◌≡◌, refl, sym, ap, ap₂, ◌∙◌, subst⁻¹}
use mathlib.Core.Bool.{Bool, true, false}
use mathlib.Core.List.{List, [], ◌∷◌}
use native.Mathlib.Omega.{arith}
use native.Mathlib.Numerals.{add-one}
use lib.Dec.{ltb}
use lib.ListN.{length, take, drop}
use Rattle.base.specs.Choice.{pick, keep}
use Rattle.base.specs.Over.{over}
use Rattle.base.proofs.Over.{over-nil}
use Rattle.verdict.specs.Verdict.{Fine}
use Rattle.times.specs.Times.{back}
use Rattle.times.proofs.Laws.{back-mono}
use Rattle.timeline.specs.Cues.{Cue}
use Rattle.records_write.specs.Records.{record_bytes, record_of, texts_of, pool_to, records_to, records_of, pool_of}
use Rattle.records_write.proofs.Laws.{length-records, pool-most, record-put, texts-put}
use Rattle.table.specs.Table.{row_count, duration_of, bytes_of}
use Rattle.tx3g_payload_write.specs.Sample.{payload_in}
use Rattle.tx3g_payload_write.specs.Terms.{MadeIs}
use Rattle.tx3g_convert.specs.declared.State.{State}
use Rattle.tx3g_convert.specs.Convert.{told_of, has_text, counting, cue_of, stock_cues, judge_told, judge_tolds}
use Rattle.tx3g_convert.specs.Terms.{told, behind_of, Fitting, records_with, pool_with}
use Rattle.tx3g_convert.proofs.Judging.{no_bytes, has-text, some-text, over-text, made-length, known_so, fine-cue}
use Rattle.tx3g_convert.proofs.States.{Stands, there, cue-at, pool-more, turn-fine, turn-cue, turn-here, turn_on}

-- the record of a cue whose end is within 100 hours
pub record_is : (scale at k b d start end : ℕ) (p : List ℕ) → 0 < scale → back scale (b + d) ≤ 359999999 → start ≡ min (back scale b) 360000000 → end ≡ min (back scale (b + d)) 360000000
    → record_bytes k start end at 0 0 (length p) ≡ record_of scale at (cue_of k b (told d p))
unfolding record_of cue_of
record_is scale at k b d start end p h l x y =
    let u : start ≡ back scale b = omega (arith, back-mono scale b (b + d) h (omega arith)) in
    let v : end ≡ back scale (b + d) = omega arith in
    rw (u, v)

-- ---- by the payload in the buffer

-- what is answered and written of a sample with payload x
abbrev Wrote : ℕ → ℕ → State → List ℕ → State → List ℕ → List ℕ → List ℕ → List ℕ → Type 0
Wrote scale d st x after records pool records₁ pool₁ = (after ≡ behind_of st d (length x)) × (records₁ ≡ records_with (has_text x) scale st d x records) × (pool₁ ≡ pool_with (has_text x) st x pool)

pub short-payload : (p : List ℕ) → (has_text p ≡ true → length p ≤ 4095) → length p ≤ 4095
short-payload [] h = omega arith
short-payload (x ∷ p) h = h refl

module _ (scale d : ℕ) (st : State) (p old buf : List ℕ) (n : ℕ) (l : n ≡ length p) (w : buf ≡ over p old) where
  pub none-wrote : n ≡ 0 → (after : State) (records pool : List ℕ) → after ≡ behind_of st d 0 → Wrote scale d st p after records pool records pool
  none-wrote h after records pool e = subst⁻¹ (λ (x : List ℕ). Wrote scale d st x after records pool records pool) (no_bytes p (sym l ∙ h)) (e, refl, refl)

  text-is : take (n - 0) (drop 0 buf) ≡ p
  text-is = over-text p old buf n l w

  module _ (h : n ≡ 0 → ⊥) (records pool : List ℕ) (fit : has_text p ≡ true → Fitting scale st d p records pool) where
    has : has_text p ≡ true
    has = some-text p n l (omega (arith, h))

    pub some-short : n ≤ 4095
    some-short = omega (arith, l, (fit has).short)

    pub some_fits : Fitting scale st d (take (n - 0) (drop 0 buf)) records pool
    some_fits = subst⁻¹ (λ (x : List ℕ). Fitting scale st d x records pool) text-is (fit has)

    pub some-wrote : (after : State) (records₁ pool₁ : List ℕ) → after ≡ behind_of st d n
        → records₁ ≡ records_with true scale st d (take (n - 0) (drop 0 buf)) records → pool₁ ≡ pool_with true st (take (n - 0) (drop 0 buf)) pool → Wrote scale d st p after records pool records₁ pool₁
    some-wrote after records₁ pool₁ e f g = (
      e ∙ ap (behind_of st d) l,
      f ∙ ap (λ (x : List ℕ). records_with true scale st d x records) text-is ∙ ap (λ (b : Bool). records_with b scale st d p records) (sym has),
      g ∙ ap (λ (x : List ℕ). pool_with true st x pool) text-is ∙ ap (λ (b : Bool). pool_with b st p pool) (sym has),
    )

-- ---- the payload in the buffer, by a test whether it is put at once

module _ (t : Bool) (p old buf : List ℕ) (n : ℕ) (l : n ≡ pick t (length p) 0) (w : buf ≡ over (pick t p []) old) where
  pub put-at-once : 0 < n → (n ≡ length p) × (buf ≡ over p old)
  put-at-once h = let k = known_so t (length p) n l h in (k.1, w ∙ ap (λ (x : Bool). over (pick x p []) old) k.0)

  none-put : (x : Bool) → pick x (length p) 0 ≤ 0 → pick x p [] ≡ []
  none-put true h = no_bytes p (omega arith)
  none-put false h = refl

  pub nothing_put : n ≤ 0 → buf ≡ old
  nothing_put h = w ∙ ap (λ (x : List ℕ). over x old) (none-put t (omega arith)) ∙ sym (over-nil old)

  pub put_then : n ≤ 0 → length p ≤ 4095 → (made : List ℕ) (r : ℕ) → MadeIs p buf made r → (r ≡ length p) × (made ≡ over p old)
  put_then h short made r m =
      let k = made-length p buf made r m short in
      (k.0, (m.fits k.1).1 ∙ ap (over p) (nothing_put h))

-- ---- sample by sample

record-more : (t : Bool) (scale d : ℕ) (st : State) (p : List ℕ) (cs rest : List Cue) (old records records₁ : List ℕ)
    → drop st.cues cs ≡ keep t (cue_of st.cues st.tick (told d p)) rest → st.size ≡ length (pool_to cs st.cues)
    → records ≡ over (records_to scale cs st.cues) old → records₁ ≡ records_with t scale st d p records → records₁ ≡ over (records_to scale cs (counting t st.cues)) old
record-more true scale d st p cs rest old records records₁ c z e f =
    record-put cs st.cues st.size (cue_of st.cues st.tick (told d p)) old records records₁ (cue-at cs st.cues _ rest c) z scale e f
    ∙ ap (λ (k : ℕ). over (records_to scale cs k) old) (add-one st.cues)
record-more false scale d st p cs rest old records records₁ c z e f = f ∙ e

text-more : (t : Bool) (d : ℕ) (st : State) (p : List ℕ) (cs rest : List Cue) (old pool pool₁ : List ℕ)
    → drop st.cues cs ≡ keep t (cue_of st.cues st.tick (told d p)) rest → st.size ≡ length (pool_to cs st.cues)
    → pool ≡ over (pool_to cs st.cues) old → pool₁ ≡ pool_with t st p pool → pool₁ ≡ over (pool_to cs (counting t st.cues)) old
unfolding cue_of texts_of
text-more true d st p cs rest old pool pool₁ c z e f =
    texts-put cs st.cues st.size (cue_of st.cues st.tick (told d p)) old pool pool₁ (cue-at cs st.cues _ rest c) z e f
    ∙ ap (λ (k : ℕ). over (pool_to cs k) old) (add-one st.cues)
text-more false d st p cs rest old pool pool₁ c z e f = f ∙ e

-- the outputs hold the cues that are counted
pub record Written (scale : ℕ) (cs : List Cue) (k : ℕ) (old-records old-pool records pool : List ℕ) : Type 0 where
  pub records-are : records ≡ over (records_to scale cs k) old-records
  pub pool-is : pool ≡ over (pool_to cs k) old-pool

pub none_written : (scale : ℕ) (cs : List Cue) (records pool : List ℕ) → Written scale cs 0 records pool records pool
unfolding records_to pool_to
none_written scale cs records pool = record { records-are = over-nil records; pool-is = over-nil pool }

pub all-written : (scale : ℕ) (cs : List Cue) (k : ℕ) (old-records old-pool records pool : List ℕ) → k ≡ length cs → Written scale cs k old-records old-pool records pool
    → (records ≡ over (records_of scale cs) old-records) × (pool ≡ over (pool_of cs) old-pool)
unfolding records_of pool_of
all-written scale cs k old-records old-pool records pool e w = (
  w.records-are ∙ ap (λ (n : ℕ). over (records_to scale cs n) old-records) e,
  w.pool-is ∙ ap (λ (n : ℕ). over (pool_to cs n) old-pool) e,
)

module _ (scale : ℕ) (e table samples : List ℕ) (i : ℕ) (h : i < row_count table) (st : State) (w : Stands scale e table samples i st) (fine : judge_tolds scale 0 0 0 (told_of e table samples) ≡ Fine) where
  -- the cues, and the payload of sample i
  abbrev cues : List Cue
  cues = stock_cues e table samples

  abbrev payload : List ℕ
  payload = payload_in e (bytes_of table samples i)

  fitting : (records pool : List ℕ) → length (records_of scale cues) ≤ length records → length (pool_of cues) ≤ length pool → has_text payload ≡ true → Fitting scale st (duration_of table i) payload records pool
  unfolding records_of cue_of texts_of
  fitting records pool a b t =
      let x = fine-cue scale st.cues st.tick i (duration_of table i) payload (ap (λ (y : Bool). judge_told y scale st.cues st.tick i (told (duration_of table i) payload)) (sym t) ∙ turn-fine scale e table samples i h st w fine) in
      let c = turn-here scale e table samples i h st w t in
      let k = there cues st.cues _ _ c in
      record {
        short = x.1.payload_most;
        early = x.1.ends;
        records_fit = omega (arith, k, length-records scale cues (length cues));
        pool_fits = omega (arith, w.sized, pool-more cues st.cues _ _ c, pool-most cues (suc st.cues) k);
      }

  -- the sample by its bytes and its duration, as it is written
  module _ (s : List ℕ) (d : ℕ) (bytes_are : s ≡ bytes_of table samples i) (lasts : d ≡ duration_of table i) where
    pub sample-fits : (records pool : List ℕ) → length (records_of scale cues) ≤ length records → length (pool_of cues) ≤ length pool → has_text (payload_in e s) ≡ true → Fitting scale st d (payload_in e s) records pool
    sample-fits records pool a b t = rw (bytes_are, lasts) (fitting records pool a b (sym (ap (λ (x : List ℕ). has_text (payload_in e x)) bytes_are) ∙ t))

    pub sample-on : d < 4294967296 → (after : State) → after ≡ behind_of st d (length (payload_in e s)) → Stands scale e table samples (i + 1) after
    sample-on short after q =
        let f = turn-fine scale e table samples i h st w fine in
        let r : after ≡ behind_of st (duration_of table i) (length payload) = q ∙ ap₂ (λ (x : List ℕ) (n : ℕ). behind_of st n (length (payload_in e x))) bytes_are lasts in
        subst⁻¹ (Stands scale e table samples (i + 1)) r (turn_on scale e table samples i h st w (omega arith) f)

    pub sample-written : (old-records old-pool records pool records₁ pool₁ : List ℕ) → Written scale cues st.cues old-records old-pool records pool
        → (after : State) → Wrote scale d st (payload_in e s) after records pool records₁ pool₁ → Written scale cues after.cues old-records old-pool records₁ pool₁
    sample-written old-records old-pool records pool records₁ pool₁ x after y =
        let n : counting (has_text payload) st.cues ≡ after.cues =
        ap (λ (b : Bool). counting b st.cues) (has-text payload) ∙ ap (λ (z : List ℕ). counting (ltb 0 (length (payload_in e z))) st.cues) (sym bytes_are) ∙ sym (ap (λ (z : State). z.cues) y.0) in
        let r = y.1 ∙ ap₂ (λ (z : List ℕ) (m : ℕ). records_with (has_text (payload_in e z)) scale st m (payload_in e z) records) bytes_are lasts in
        let q = y.2 ∙ ap (λ (z : List ℕ). pool_with (has_text (payload_in e z)) st (payload_in e z) pool) bytes_are in
        let c = turn-cue scale e table samples i h st w in
        record {
          records-are =
              record-more (has_text payload) scale (duration_of table i) st payload cues _ old-records records records₁ c w.sized x.records-are r
              ∙ ap (λ (k : ℕ). over (records_to scale cues k) old-records) n;
          pool-is =
              text-more (has_text payload) (duration_of table i) st payload cues _ old-pool pool pool₁ c w.sized x.pool-is q
              ∙ ap (λ (k : ℕ). over (pool_to cues k) old-pool) n;
        }
