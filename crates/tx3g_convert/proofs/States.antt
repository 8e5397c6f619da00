-- Where the walk over the samples of a track stands: those behind row i decide what is left.
use Prim.Native.Nat.{ℕ, suc, ◌+◌, ◌*◌, ◌≤◌, ◌<◌}
use mathlib.Core.Path.{◌≡◌, refl, sym, ap, ap₂, ◌∙◌, subst, subst⁻¹}
use mathlib.Core.Bool.{Bool, true, false}
use mathlib.Core.List.{List, [], ◌∷◌}
use native.Mathlib.Omega.{arith}
use native.Mathlib.Numerals.{add-one}
use native.Mathlib.Nat.{add-zero, zero-add, add_assoc}
use lib.Dec.{ltb}
use lib.ListN.{length, drop, get_or, length-append, length-drop, drop_of_length-le}
use lib.Seq.{get_or-drop, drop-drop}
use Rattle.base.specs.Choice.{pick, keep}
use Rattle.base.proofs.Choice.{true-false}
use Rattle.verdict.specs.declared.Refusal.{Refusal}
use Rattle.verdict.specs.Verdict.{Verdict, Fine, Refused}
use Rattle.verdict.specs.Judgement.{◌then◌}
use Rattle.verdict.proofs.Judgement.{then-fine, then-refused, both-fine}
use Rattle.timeline.specs.Cues.{Cue}
use Rattle.timeline.specs.Unpacking.{no_cue}
use Rattle.timeline.proofs.Listing.{length-listed, listed-from}
use Rattle.records_write.specs.Records.{texts_of, pool_to, pool_of}
use Rattle.table.specs.Table.{row_count, duration_of, bytes_of}
use Rattle.tx3g_payload_write.specs.Sample.{payload_in}
use Rattle.tx3g_convert.specs.declared.State.{State}
use Rattle.tx3g_convert.specs.Turn.{Turn, On, Stopped}
use Rattle.tx3g_convert.specs.Convert.{Told, told_at, told_of, has_text, counting, cue_of, cues_from, ticks_of, stock_cues, judge_told, judge_tolds}
use Rattle.tx3g_convert.specs.Terms.{told, behind_of, Low, turn_by, Ended}
use Rattle.tx3g_convert.proofs.Judging.{has-text, fine-cue, turn_of}

-- the samples from row i on
abbrev pub left_at : List ℕ → List ℕ → List ℕ → ℕ → List Told
left_at e table samples i = drop i (told_of e table samples)

pub record Stands (scale : ℕ) (e table samples : List ℕ) (i : ℕ) (st : State) : Type 0 where
  pub few : st.cues ≤ 1024
  pub low : st.tick ≤ i * 4294967295
  pub small : st.size ≤ st.cues * 4095
  pub verdict : judge_tolds scale 0 0 0 (told_of e table samples) ≡ judge_tolds scale st.cues st.tick i (left_at e table samples i)
  pub ticks : ticks_of (told_of e table samples) ≡ st.tick + ticks_of (left_at e table samples i)
  pub cues : drop st.cues (stock_cues e table samples) ≡ cues_from st.cues st.tick (left_at e table samples i)
  pub counted : st.cues ≤ length (stock_cues e table samples)
  pub sized : st.size ≡ length (pool_to (stock_cues e table samples) st.cues)

-- ---- a list from an element on

module _ (cs : List Cue) (k : ℕ) (c : Cue) (rest : List Cue) (is : drop k cs ≡ c ∷ rest) where
  pub there : k < length cs
  there = omega (arith, ap length is, length-drop k cs)

  pub cue-at : get_or cs k no_cue ≡ c
  cue-at = ap (λ (j : ℕ). get_or cs j no_cue) (sym (add-zero k)) ∙ sym (get_or-drop k cs 0 no_cue) ∙ ap (λ (x : List Cue). get_or x 0 no_cue) is

  behind-it : drop (suc k) cs ≡ rest
  behind-it = ap (λ (j : ℕ). drop j cs) (sym (add-one k)) ∙ sym (drop-drop 1 k cs) ∙ ap (drop 1) is

  pub pool-more : length (pool_to cs (suc k)) ≡ length (pool_to cs k) + length (texts_of c.body)
  unfolding pool_to
  pool-more = length-append (pool_to cs k) _ ∙ ap (λ (x : Cue). length (pool_to cs k) + length (texts_of x.body)) cue-at

-- ---- one sample more

-- a cue more, where the test says so
kept : (t : Bool) (cs : List Cue) (k : ℕ) (c : Cue) (rest : List Cue) → k ≤ length cs → drop k cs ≡ keep t c rest
    → (drop (counting t k) cs ≡ rest) × (counting t k ≤ length cs) × (length (pool_to cs (counting t k)) ≡ length (pool_to cs k) + pick t (length (texts_of c.body)) 0)
kept true cs k c rest h e = (behind-it cs k c rest e, there cs k c rest e, pool-more cs k c rest e)
kept false cs k c rest h e = (e, h, omega arith)

-- a sample without fault keeps the limits
limited : (t : Bool) (scale k b i d size : ℕ) (p : List ℕ) → has_text p ≡ t → judge_told t scale k b i (told d p) ≡ Fine → k ≤ 1024 → size ≤ k * 4095
    → (counting t k ≤ 1024) × (size + length p ≤ counting t k * 4095) × (length p ≡ pick t (length p) 0)
limited true scale k b i d size p q f h l = let w = fine-cue scale k b i d p f in (w.0, omega (arith, w.1.payload_most), refl)
limited false scale k b i d size [] q f h l = (h, omega arith, refl)
limited false scale k b i d size (x ∷ p) q f h l = true-false true refl q

on-by : (v : Verdict) (s after : State) → turn_by v s ≡ On after → (v ≡ Fine) × (s ≡ after)
on-by Fine s after q = (refl, cc)
on-by (Refused r) s after q = let z : ◌≡◌ {A = ℕ} 0 1 = cc in absurd (omega arith)

off-by : (v : Verdict) (s : State) (r : Refusal) → turn_by v s ≡ Stopped r → v ≡ Refused r
off-by Fine s r q = let z : ◌≡◌ {A = ℕ} 0 1 = cc in absurd (omega arith)
off-by (Refused x) s r q = cc

module _ (scale : ℕ) (e table samples : List ℕ) (i : ℕ) (h : i < row_count table) where
  -- sample i
  abbrev payload : List ℕ
  payload = payload_in e (bytes_of table samples i)

  abbrev this : Told
  this = told (duration_of table i) payload

  left_is : left_at e table samples i ≡ this ∷ left_at e table samples (suc i)
  unfolding told_of told_at
  left_is = listed-from (told_at e table samples) (row_count table) i h

  module _ (st : State) (w : Stands scale e table samples i st) where
    abbrev judgement : Verdict
    judgement = judge_told (has_text payload) scale st.cues st.tick i this

    abbrev next : Bool → State
    next t = record { tick = st.tick + duration_of table i; cues = counting t st.cues; size = st.size + length payload }

    judged : judge_tolds scale 0 0 0 (told_of e table samples)
        ≡ judgement then judge_tolds scale (counting (has_text payload) st.cues) (st.tick + duration_of table i) (suc i) (left_at e table samples (suc i))
    unfolding judge_tolds
    judged = w.verdict ∙ ap (judge_tolds scale st.cues st.tick i) left_is

    -- in a track without fault the sample has none, and its cue is the next
    pub turn-fine : judge_tolds scale 0 0 0 (told_of e table samples) ≡ Fine → judgement ≡ Fine
    turn-fine f = (both-fine judgement _ (sym judged ∙ f)).0

    pub turn-cue : drop st.cues (stock_cues e table samples) ≡ keep (has_text payload) (cue_of st.cues st.tick this) (cues_from (counting (has_text payload) st.cues) (st.tick + duration_of table i) (left_at e table samples (suc i)))
    unfolding cues_from
    turn-cue = w.cues ∙ ap (cues_from st.cues st.tick) left_is

    pub turn-here : has_text payload ≡ true
        → drop st.cues (stock_cues e table samples) ≡ cue_of st.cues st.tick this ∷ cues_from (suc st.cues) (st.tick + duration_of table i) (left_at e table samples (suc i))
    turn-here t = turn-cue ∙ ap (λ (x : Bool). keep x (cue_of st.cues st.tick this) (cues_from (counting x st.cues) (st.tick + duration_of table i) (left_at e table samples (suc i)))) t

    turn-stops : (r : Refusal) → judgement ≡ Refused r → judge_tolds scale 0 0 0 (told_of e table samples) ≡ Refused r
    turn-stops r f = judged ∙ then-refused _ _ r f

    pub turn_on : duration_of table i < 4294967296 → judgement ≡ Fine → Stands scale e table samples (i + 1) (behind_of st (duration_of table i) (length payload))
    unfolding ticks_of cues_from cue_of texts_of
    turn_on short f =
        let x = kept (has_text payload) (stock_cues e table samples) st.cues (cue_of st.cues st.tick this) _ w.counted turn-cue in
        let y = limited (has_text payload) scale st.cues st.tick i (duration_of table i) st.size payload refl f w.few w.small in
        let on : Stands scale e table samples (suc i) (next (has_text payload)) = record {
          few = y.0;
          low = omega (arith, w.low, short);
          small = y.1;
          verdict = judged ∙ then-fine _ _ f;
          ticks = w.ticks ∙ ap (λ (l : List Told). st.tick + ticks_of l) left_is ∙ sym (add_assoc st.tick (duration_of table i) (ticks_of (left_at e table samples (suc i))));
          cues = x.0;
          counted = x.1;
          sized = omega (arith, w.sized, x.2, y.2);
        } in
        subst⁻¹ (λ (j : ℕ). Stands scale e table samples j (next (ltb 0 (length payload)))) (add-one i)
        (subst (λ (t : Bool). Stands scale e table samples (suc i) (next t)) (has-text payload) on)

    pub turn_low : (d : ℕ) → d ≡ duration_of table i → d < 4294967296 → i < 65536 → Low st d
    turn_low d q short few = record { ticks = omega (arith, w.low); few = w.few; small = w.small }

    -- the sample by its bytes and its duration, as it is taken
    module _ (s : List ℕ) (d : ℕ) (bytes_are : s ≡ bytes_of table samples i) (lasts : d ≡ duration_of table i) (t : Turn) (taken : t ≡ turn_of scale st i d (payload_in e s)) where
      turned : t ≡ turn_by judgement (behind_of st (duration_of table i) (length payload))
      turned = taken ∙ ap₂ (λ (x : List ℕ) (n : ℕ). turn_of scale st i n (payload_in e x)) bytes_are lasts

      pub taken-on : d < 4294967296 → (after : State) → t ≡ On after → Stands scale e table samples (i + 1) after
      taken-on short after q = let f = on-by judgement _ after (sym turned ∙ q) in subst (Stands scale e table samples (i + 1)) f.1 (turn_on (omega arith) f.0)

      pub taken-off : (r : Refusal) → t ≡ Stopped r → judge_tolds scale 0 0 0 (told_of e table samples) ≡ Refused r
      taken-off r q = turn-stops r (off-by judgement _ r (sym turned ∙ q))

-- ---- the first sample, and the last

module _ (scale : ℕ) (e table samples : List ℕ) where
  pub first-stands : Stands scale e table samples 0 (record { tick = 0; cues = 0; size = 0 })
  unfolding stock_cues pool_to
  first-stands = record {
    few = omega arith;
    low = omega arith;
    small = omega arith;
    verdict = refl;
    ticks = sym (zero-add (ticks_of (told_of e table samples)));
    cues = refl;
    counted = omega arith;
    sized = refl;
  }

  module _ (i : ℕ) (st : State) (w : Stands scale e table samples i st) (h : row_count table ≤ i) where
    none_left : left_at e table samples i ≡ []
    unfolding told_of
    none_left = drop_of_length-le (told_of e table samples) {i = i} (omega (arith, length-listed (told_at e table samples) (row_count table)))

    all-counted : st.cues ≡ length (stock_cues e table samples)
    unfolding cues_from
    all-counted =
        let none : drop st.cues (stock_cues e table samples) ≡ [] = w.cues ∙ ap (cues_from st.cues st.tick) none_left in
        omega (arith, ap length none, length-drop st.cues (stock_cues e table samples), w.counted)

    pub last-stands : i ≤ 65536 → Ended scale e table samples st
    unfolding judge_tolds ticks_of pool_of
    last-stands few = record {
      fine = w.verdict ∙ ap (judge_tolds scale st.cues st.tick i) none_left;
      total = omega (arith, w.ticks, ap ticks_of none_left);
      counted = all-counted;
      sized = w.sized ∙ ap (λ (k : ℕ). length (pool_to (stock_cues e table samples) k)) all-counted;
      low = record { ticks = omega (arith, w.low); few = w.few; small = w.small };
    }
