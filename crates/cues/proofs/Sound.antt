-- The judgements find no fault exactly in sound captions and sound lists, and the cues of a sound list are proper.
use Prim.Native.Nat.{ℕ, zero, suc, ◌+◌, ◌-◌, ◌%◌, ◌<◌, ◌≤◌}
use mathlib.Core.Path.{◌≡◌, refl, sym, ap, ◌∙◌}
use mathlib.Core.Logic.{◌≢◌}
use mathlib.Core.Bool.{Bool, true, false, not}
use mathlib.Core.Option.{Option, none, some}
use mathlib.Core.List.{List}
use native.Mathlib.Omega.{arith}
use native.Mathlib.Nat.{le_refl}
use borrow.Author.Tests.{leb-false, lt-leb, ltb-false, le-ltb, eqb-false, ne_eqb, not-false}
use lib.Dec.{leb, ltb, eqb}
use lib.ListN.{length}
use Rattle.base.specs.Choice.{any_of}
use Rattle.base.proofs.Choice.{by-test, either}
use Rattle.base.specs.First.{or_else, first_from, first}
use Rattle.base.proofs.First.{first-none}
use Rattle.viable.specs.FirstBad.{judged_by}
use Rattle.text.specs.Rules.{identifier_text, payload_text}
use Rattle.text.specs.Beginnings.{identifier_begun, payload_begun}
use Rattle.times.specs.Times.{tick, timeline_allowed}
use Rattle.times.proofs.Laws.{timeline-limits, limits-timeline, tick-mono}
use Rattle.verdict.specs.Verdict.{Fine}
use Rattle.verdict.specs.Judgement.{◌gives◌at◌, text_at, ◌then◌, each}
use Rattle.verdict.proofs.Judgement.{then-fine, both-fine, not-given, text-fine, text-right, each-fine, each_all}
use Rattle.timeline.specs.Cues.{Cue, Proper, Named}
use Rattle.timeline.proofs.Listing.{length-listed, mem-listed, listed-pairs}
use Rattle.records.specs.Records.{count, source_id, start_ms, end_ms, identifier_length, settings_length, payload_length, reserved, texts_end}
use Rattle.records.proofs.Laws.{text-lengths}
use Rattle.cues.specs.Caption.{Caption, long_texts, judge_texts, bad_times, judge_content, judge_caption, SoundCaption, CaptionFineIff}
use Rattle.cues.specs.Judgement.{bad_value, past_pool, caption_of, start_before, judge_record, found, stood_earlier, twice_at, judge_ids, judge_list}
use Rattle.cues.specs.List.{body_of, cue_of, cues_of, SoundRecord, Sound, FineIff, SoundProper}

neither : (a b : Bool) → any_of a b ≡ false → (a ≡ false) × (b ≡ false)
neither true b e = let z : ◌≡◌ {A = ℕ} 0 1 = cc in absurd (omega arith)
neither false b e = (refl, e)

module _ (scale T before p : ℕ) (c : Caption) where
  caption-sound : judge_caption scale T before c p ≡ Fine → SoundCaption scale T before c
  unfolding judge_caption long_texts judge_content judge_texts bad_times
  caption-sound e =
      let i = length c.identifier in
      let s = length c.settings in
      let t = length c.payload in
      let a1 = both-fine (long_texts i s t gives 9 at p) _ e in
      let a2 = both-fine (judge_texts c.identifier c.settings c.payload p) _ a1.1 in
      let a3 = both-fine (bad_times scale T c.start c.end gives 10 at p) (ltb c.start before gives 11 at p) a2.1 in
      let long = neither (ltb 255 i) (any_of (ltb 255 s) (ltb 4095 t)) (not-given (long_texts i s t) 9 p a1.0) in
      let long2 = neither (ltb 255 s) (ltb 4095 t) long.1 in
      let text = both-fine (text_at p (judged_by identifier_text identifier_begun c.identifier)) _ a2.0 in
      let text2 = both-fine (text_at p (judged_by identifier_text identifier_begun c.settings)) _ text.1 in
      let time = neither (leb c.end c.start) (any_of (ltb T c.end) (leb (tick scale c.end) (tick scale c.start))) (not-given (bad_times scale T c.start c.end) 10 p a3.0) in
      let time2 = neither (ltb T c.end) (leb (tick scale c.end) (tick scale c.start)) time.1 in
      record {
        identifier_most = ltb-false 255 i long.0;
        settings_most = ltb-false 255 s long2.0;
        payload_most = ltb-false 4095 t long2.1;
        identifier_right = text-fine identifier_text identifier_begun p _ text.0;
        settings_right = text-fine identifier_text identifier_begun p _ text2.0;
        payload_right = text-fine payload_text payload_begun p _ text2.1;
        lasts = leb-false c.end c.start time.0;
        ends = ltb-false T c.end time2.0;
        ticks = leb-false (tick scale c.end) (tick scale c.start) time2.1;
        follows = ltb-false c.start before (not-given (ltb c.start before) 11 p a3.1);
      }

  sound-caption : SoundCaption scale T before c → judge_caption scale T before c p ≡ Fine
  unfolding judge_caption long_texts judge_content judge_texts bad_times
  sound-caption s =
      simp (
        le-ltb 255 (length c.identifier) s.identifier_most,
        le-ltb 255 (length c.settings) s.settings_most,
        le-ltb 4095 (length c.payload) s.payload_most,
        text-right identifier_text identifier_begun p c.identifier s.identifier_right,
        text-right identifier_text identifier_begun p c.settings s.settings_right,
        text-right payload_text payload_begun p c.payload s.payload_right,
        lt-leb c.end c.start s.lasts,
        le-ltb T c.end s.ends,
        lt-leb (tick scale c.end) (tick scale c.start) s.ticks,
        le-ltb c.start before s.follows,
      )

pub caption-fine-iff : CaptionFineIff
caption-fine-iff scale T before p c = (caption-sound scale T before p c, sound-caption scale T before p c)

-- the start before a record, and the record before it
not-falls : (recs : List ℕ) (i : ℕ) → start_before recs i ≤ start_ms recs i → (j : ℕ) → i ≡ suc j → start_ms recs j ≤ start_ms recs i
unfolding start_before
not-falls recs zero h j e = absurd (omega arith)
not-falls recs (suc i) h j e = let k : i ≡ j = omega arith in rw (← k) h

falls-not : (recs : List ℕ) (i : ℕ) → ((j : ℕ) → i ≡ suc j → start_ms recs j ≤ start_ms recs i) → start_before recs i ≤ start_ms recs i
unfolding start_before
falls-not recs zero h = omega arith
falls-not recs (suc i) h = h i refl

module _ (scale T : ℕ) (recs pool : List ℕ) (i : ℕ) where
  -- a record whose texts lie within the pool: 9 and what comes behind 1 judge its caption
  caption-at : texts_end recs i ≤ length pool → judge_caption scale T (start_before recs i) (caption_of recs pool i) i
      ≡ (long_texts (identifier_length recs i) (settings_length recs i) (payload_length recs i) gives 9 at i then judge_content scale T (start_before recs i) (caption_of recs pool i) i)
  unfolding judge_caption caption_of
  caption-at h = let l = text-lengths recs pool i h in rw (l.0, l.1, l.2)

  record-sound : judge_record scale T recs pool i ≡ Fine → SoundRecord scale T recs pool i
  unfolding judge_record bad_value past_pool caption_of
  record-sound e =
      let a1 = both-fine (bad_value recs i gives 8 at i) _ e in
      let a2 = both-fine (long_texts (identifier_length recs i) (settings_length recs i) (payload_length recs i) gives 9 at i) _ a1.1 in
      let a3 = both-fine (past_pool recs pool i gives 1 at i) _ a2.1 in
      let value = neither (leb 2147483648 (source_id recs i)) (ltb 0 (reserved recs i)) (not-given (bad_value recs i) 8 i a1.0) in
      let zero-most = ltb-false 0 (reserved recs i) value.1 in
      let inside = ltb-false (length pool) (texts_end recs i) (not-given (past_pool recs pool i) 1 i a3.0) in
      let l = text-lengths recs pool i inside in
      let s = caption-sound scale T (start_before recs i) i (caption_of recs pool i) (caption-at inside ∙ then-fine _ _ a2.0 ∙ a3.1) in
      record {
        id_below = leb-false 2147483648 (source_id recs i) value.0;
        zeros = omega arith;
        identifier_most = rw (← l.0) s.identifier_most;
        settings_most = rw (← l.1) s.settings_most;
        payload_most = rw (← l.2) s.payload_most;
        inside = inside;
        identifier_right = s.identifier_right;
        settings_right = s.settings_right;
        payload_right = s.payload_right;
        lasts = s.lasts;
        ends = s.ends;
        ticks = s.ticks;
        follows = not-falls recs i s.follows;
      }

  sound-record : SoundRecord scale T recs pool i → judge_record scale T recs pool i ≡ Fine
  unfolding judge_record bad_value past_pool caption_of
  sound-record s =
      let z : reserved recs i ≤ 0 = omega (arith, s.zeros) in
      let l = text-lengths recs pool i s.inside in
      let fine : judge_caption scale T (start_before recs i) (caption_of recs pool i) i ≡ Fine = sound-caption scale T (start_before recs i) i (caption_of recs pool i) (record {
        identifier_most = rw l.0 s.identifier_most;
        settings_most = rw l.1 s.settings_most;
        payload_most = rw l.2 s.payload_most;
        identifier_right = s.identifier_right;
        settings_right = s.settings_right;
        payload_right = s.payload_right;
        lasts = s.lasts;
        ends = s.ends;
        ticks = s.ticks;
        follows = falls-not recs i s.follows;
      }) in
      let both = both-fine (long_texts (identifier_length recs i) (settings_length recs i) (payload_length recs i) gives 9 at i) _ (sym (caption-at s.inside) ∙ fine) in
      simp (
        lt-leb 2147483648 (source_id recs i) s.id_below,
        le-ltb 0 (reserved recs i) z,
        both.0,
        le-ltb (length pool) (texts_end recs i) s.inside,
        both.1,
      )

-- a search that finds none
from_found : (P : ℕ → Bool) (c i : ℕ) → found (first_from P c i) ≡ false → (j : ℕ) → i ≤ j → j < i + c → P j ≡ false
unfolding first_from
from_found P zero i h j a b = absurd (omega arith)
from_found P (suc c) i h j a b =
    by-test (P i)
    (λ p. let z : ◌≡◌ {A = Bool} true false = ap (λ (x : Bool). found (or_else x i (λ _. first_from P c (suc i)))) (sym p) ∙ h in let n : ◌≡◌ {A = ℕ} 0 1 = cc in absurd (omega arith))
    (λ p. either (suc i) j
    (λ l. from_found P c (suc i) (ap (λ (x : Bool). found (or_else x i (λ _. first_from P c (suc i)))) (sym p) ∙ h) j l (omega arith))
    (λ l. let e : j ≡ i = omega arith in ap P e ∙ p))

none_found : (P : ℕ → Bool) (n : ℕ) → found (first P n) ≡ false → (j : ℕ) → j < n → P j ≡ false
unfolding first
none_found P n h j l = from_found P n 0 h j (omega arith) (omega arith)

not-twice : (o : Option ℕ) → twice_at o ≡ Fine → found o ≡ false
not-twice none e = refl
not-twice (some i) e = let z : ◌≡◌ {A = ℕ} 0 1 = cc in absurd (omega arith)

ids-distinct : (recs : List ℕ) (n : ℕ) → judge_ids recs n ≡ Fine → (j i : ℕ) → j < i → i < n → source_id recs j ≢ source_id recs i
unfolding judge_ids stood_earlier
ids-distinct recs n e j i a b =
    let s = none_found (stood_earlier recs) n (not-twice (first (stood_earlier recs) n) e) i b in
    eqb-false (source_id recs j) (source_id recs i) (none_found (λ k. eqb (source_id recs k) (source_id recs i)) i s j a)

distinct-ids : (recs : List ℕ) (n : ℕ) → ((j i : ℕ) → j < i → i < n → source_id recs j ≢ source_id recs i) → judge_ids recs n ≡ Fine
unfolding judge_ids stood_earlier
distinct-ids recs n h =
    ap twice_at (first-none (stood_earlier recs) n
    (λ i b. ap found (first-none (λ k. eqb (source_id recs k) (source_id recs i)) i (λ j a. ne_eqb (source_id recs j) (source_id recs i) (h j i a b)))))

module _ (scale T : ℕ) (recs pool : List ℕ) where
  -- no fault is found: the list is sound
  pub fine-sound : judge_list scale T recs pool ≡ Fine → Sound scale T recs pool
  unfolding judge_list
  fine-sound e =
      let a1 = both-fine (not (timeline_allowed scale T) gives 10 at 0) _ e in
      let a2 = both-fine (ltb 0 (length recs % 24) gives 1 at 0) _ a1.1 in
      let a3 = both-fine (ltb 1024 (count recs) gives 9 at 0) _ a2.1 in
      let a4 = both-fine (each (judge_record scale T recs pool) (count recs)) (judge_ids recs (count recs)) a3.1 in
      let w = ltb-false 0 (length recs % 24) (not-given (ltb 0 (length recs % 24)) 1 0 a2.0) in
      record {
        limits = timeline-limits scale T (not-false (timeline_allowed scale T) (not-given (not (timeline_allowed scale T)) 10 0 a1.0));
        whole = omega arith;
        few = ltb-false 1024 (count recs) (not-given (ltb 1024 (count recs)) 9 0 a3.0);
        records = λ i l. record-sound scale T recs pool i (each-fine (judge_record scale T recs pool) (count recs) i a4.0 l);
        distinct = ids-distinct recs (count recs) a4.1;
      }

  -- and the other way round
  pub sound-fine : Sound scale T recs pool → judge_list scale T recs pool ≡ Fine
  unfolding judge_list
  sound-fine s =
      let w : length recs % 24 ≤ 0 = omega (arith, s.whole) in
      simp (
        limits-timeline scale T s.limits,
        le-ltb 0 (length recs % 24) w,
        le-ltb 1024 (count recs) s.few,
        each_all (judge_record scale T recs pool) (count recs) (λ i l. sound-record scale T recs pool i (s.records i l)),
        distinct-ids recs (count recs) s.distinct,
      )

  -- starts never fall, over any distance
  pub starts : Sound scale T recs pool → (d i : ℕ) → i + d < count recs → start_ms recs i ≤ start_ms recs (i + d)
  starts s zero i l = let e : i + 0 ≡ i = omega arith in rw e (le_refl (start_ms recs i))
  starts s (suc d) i l =
      let e : i + suc d ≡ suc (i + d) = omega arith in
      let one = (s.records (i + suc d) l).follows (i + d) e in
      omega (arith, starts s d i (omega arith))

pub fine-iff : FineIff
fine-iff scale T recs pool = (fine-sound scale T recs pool, sound-fine scale T recs pool)

pub sound-proper : SoundProper
unfolding cues_of cue_of body_of
sound-proper scale T recs pool s = record {
  lasts = λ c m. let w = mem-listed (cue_of scale recs pool) (count recs) c m in
      omega (arith, ap (λ (x : Cue). x.start) w.2, ap (λ (x : Cue). x.end) w.2, (s.records w.0 w.1).ticks);
  ends = λ c m. let w = mem-listed (cue_of scale recs pool) (count recs) c m in
      omega (arith, ap (λ (x : Cue). x.end) w.2, tick-mono scale (end_ms recs w.0) T (s.records w.0 w.1).ends);
  ordered = listed-pairs (λ c d. c.start ≤ d.start) (cue_of scale recs pool) (count recs)
      (λ i j a b. tick-mono scale (start_ms recs i) (start_ms recs j) (before i j a b));
  distinct = listed-pairs (λ c d. d.body.id ≢ c.body.id) (cue_of scale recs pool) (count recs)
      (λ i j a b e. s.distinct i j a b (sym (same e)));
}
  where
    before : (i j : ℕ) → i < j → j < count recs → start_ms recs i ≤ start_ms recs j
    before i j a b = let e : j ≡ i + (j - i) = omega arith in rw e (starts scale T recs pool s (j - i) i (omega arith))

    same : {x y : ℕ} → ◌≡◌ {A = Option ℕ} (some x) (some y) → x ≡ y
    same q = cc

module _ (scale T : ℕ) (recs pool : List ℕ) where
  pub cues-named : Named (cues_of scale recs pool)
  unfolding cues_of cue_of body_of
  cues-named c m = let w = mem-listed (cue_of scale recs pool) (count recs) c m in (source_id recs w.0, ap (λ (x : Cue). x.body.id) w.2)

  pub length-cues : length (cues_of scale recs pool) ≡ count recs
  unfolding cues_of
  length-cues = length-listed (cue_of scale recs pool) (count recs)

  -- a list in which no fault is found stands for at most 1,024 cues, proper for the ticks of T
  pub fine-proper : judge_list scale T recs pool ≡ Fine → Proper (cues_of scale recs pool) (tick scale T)
  fine-proper e = sound-proper scale T recs pool (fine-sound scale T recs pool e)

  pub fine-few : judge_list scale T recs pool ≡ Fine → length (cues_of scale recs pool) ≤ 1024
  fine-few e = omega (arith, length-cues, (fine-sound scale T recs pool e).few)
