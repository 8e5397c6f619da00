-- The cues of samples in which no fault is found: each is sound, and packing finds no fault in their records.
use Prim.Native.Nat.{ℕ, zero, suc, ◌+◌, ◌<◌, ◌≤◌}
use mathlib.Core.Path.{◌≡◌, sym, ap, ◌∙◌, subst, subst⁻¹}
use mathlib.Core.Bool.{Bool, true, false}
use mathlib.Core.Option.{Option, some}
use mathlib.Core.List.{List, [], ◌∷◌}
use native.Mathlib.Omega.{arith}
use native.Mathlib.Nat.{not-suc-le-zero, le_of_lt}
use lib.ListN.{length, get_or}
use Rattle.base.proofs.Choice.{by-test, either}
use Rattle.text.specs.Rules.{identifier_text}
use Rattle.verdict.specs.Verdict.{Fine}
use Rattle.verdict.specs.Judgement.{◌then◌}
use Rattle.verdict.proofs.Judgement.{both-fine}
use Rattle.times.specs.Times.{tick, back, timeline_allowed}
use Rattle.times.proofs.Laws.{back-mono, timeline-limits}
use Rattle.timeline.specs.Cues.{Cue}
use Rattle.timeline.specs.Unpacking.{no_cue}
use Rattle.table.specs.Table.{row_count}
use Rattle.cues.specs.Judgement.{judge_list}
use Rattle.cues.specs.Caption.{caption, SoundCaption}
use Rattle.records_write.specs.Records.{id_of, records_of, pool_of}
use Rattle.unpack_laws.proofs.Reading.{Fits}
use Rattle.unpack_laws.proofs.Written.{tick-less, AllRight, written-fine}
use Rattle.tx3g_stock.specs.declared.Counts.{Counts}
use Rattle.tx3g_convert.specs.Converted.{Done}
use Rattle.tx3g_convert.specs.Convert.{Told, told_of, has_text, counting, cue_of, cues_from, ticks_of, stock_cues, stock_ms, judge_told, judge_tolds, convert_room}
use Rattle.tx3g_convert.proofs.Judging.{fine-cue}
use Rattle.tx3g_convert.proofs.Rooms.{DoneSo, done-so, scale-some}
use Rattle.tx3g_convert_laws.specs.Statements.{CuesAre, ConvertedFine}
use Rattle.tx3g_convert_laws.proofs.Samples.{cues-yes, cues-no, begin-suc, begin-most, ticks-all, each-is-a-sample}

-- ---- each cue by itself

-- a cue that is right at T 359,999,999, and not the 1,025th
pub record SoundCue (scale k : ℕ) (c : Cue) : Type 0 where
  pub few : k < 1024
  pub sound : SoundCaption scale 359999999 0 (caption (back scale c.start) (back scale c.end) [] [] c.body.payload)

tolds-sound : (scale : ℕ) (ts : List Told) (k b i : ℕ) → judge_tolds scale k b i ts ≡ Fine → (n : ℕ) → n < length (cues_from k b ts) → SoundCue scale (k + n) (get_or (cues_from k b ts) n no_cue)
unfolding judge_tolds cues_from cue_of
tolds-sound scale [] k b i f n h = absurd (not-suc-le-zero h)
tolds-sound scale (t ∷ ts) k b i f n h =
    by-test (has_text t.payload)
    (λ y. yes y (both-fine (judge_told true scale k b i t) _ (subst (λ (x : Bool). judge_told x scale k b i t then judge_tolds scale (counting x k) (b + t.duration) (suc i) ts ≡ Fine) y f)) n h (λ m g l. tolds-sound scale ts (suc k) (b + t.duration) (suc i) g m l))
    (λ y. no y (subst (λ (x : Bool). judge_told x scale k b i t then judge_tolds scale (counting x k) (b + t.duration) (suc i) ts ≡ Fine) y f) h (λ g l. tolds-sound scale ts k (b + t.duration) (suc i) g n l))
  where
    yes : has_text t.payload ≡ true → (judge_told true scale k b i t ≡ Fine) × (judge_tolds scale (suc k) (b + t.duration) (suc i) ts ≡ Fine) → (m : ℕ) → m < length (cues_from k b (t ∷ ts))
        → ((j : ℕ) → judge_tolds scale (suc k) (b + t.duration) (suc i) ts ≡ Fine → j < length (cues_from (suc k) (b + t.duration) ts) → SoundCue scale (suc k + j) (get_or (cues_from (suc k) (b + t.duration) ts) j no_cue))
        → SoundCue scale (k + m) (get_or (cues_from k b (t ∷ ts)) m no_cue)
    yes y g zero l rest =
        let w = fine-cue scale k b i t.duration t.payload g.0 in
        subst⁻¹ (λ (x : List Cue). SoundCue scale (k + 0) (get_or x 0 no_cue)) (cues-yes k b t ts y) (record { few = omega (arith, w.0); sound = w.1 })
    yes y g (suc m) l rest =
        let e : suc k + m ≡ k + suc m = omega arith in
        subst⁻¹ (λ (x : List Cue). SoundCue scale (k + suc m) (get_or x (suc m) no_cue)) (cues-yes k b t ts y)
        (subst (λ (x : ℕ). SoundCue scale x (get_or (cues_from (suc k) (b + t.duration) ts) m no_cue)) e (rest m g.1 (omega (arith, l, ap length (cues-yes k b t ts y)))))

    no : has_text t.payload ≡ false → judge_tolds scale k (b + t.duration) (suc i) ts ≡ Fine → n < length (cues_from k b (t ∷ ts))
        → (judge_tolds scale k (b + t.duration) (suc i) ts ≡ Fine → n < length (cues_from k (b + t.duration) ts) → SoundCue scale (k + n) (get_or (cues_from k (b + t.duration) ts) n no_cue))
        → SoundCue scale (k + n) (get_or (cues_from k b (t ∷ ts)) n no_cue)
    no y g l rest = subst⁻¹ (λ (x : List Cue). SoundCue scale (k + n) (get_or x n no_cue)) (cues-no k b t ts y) (rest g (omega (arith, l, ap length (cues-no k b t ts y))))

-- ---- all of them

same : (x y : ℕ) → ◌≡◌ {A = Option ℕ} (some x) (some y) → x ≡ y
same x y q = cc

module _ (scale : ℕ) (e table samples : List ℕ) (n r p T : ℕ) (counts : Counts) (done-it : convert_room scale e table samples ≡ Done n r p T counts) where
  -- the cues of the track
  abbrev cues : List Cue
  cues = stock_cues e table samples

  so : DoneSo scale e table samples n r p T counts
  so = done-so scale e table samples n r p T counts done-it

  are : CuesAre e table samples
  are = each-is-a-sample e table samples

  pub cue-sound : (k : ℕ) → k < length cues → SoundCue scale k (get_or cues k no_cue)
  unfolding stock_cues
  cue-sound k h = let z : 0 + k ≡ k = omega arith in subst (λ (x : ℕ). SoundCue scale x (get_or cues k no_cue)) z (tolds-sound scale (told_of e table samples) 0 0 0 so.fine k h)

  pub few : length cues ≤ 1024
  few = either (length cues) 1024 (λ h. h) (λ h. absurd (omega (arith, (cue-sound 1024 h).few)))

  pub fits : (k : ℕ) → k < length cues → Fits scale (get_or cues k no_cue)
  fits k h =
      let c = are.each k h in
      let w = cue-sound k h in
      let s = w.sound in
      record {
        named = (k, c.id);
        sound = record {
          id_below = λ m q. omega (arith, w.few, same k m (sym c.id ∙ q));
          identifier_most = omega (arith, ap length c.identifier);
          settings_most = omega (arith, ap length c.settings);
          payload_most = s.payload_most;
          identifier_right = ap identifier_text c.identifier ∙ s.identifier_right;
          settings_right = ap identifier_text c.settings ∙ s.settings_right;
          payload_right = s.payload_right;
        };
        start-most = omega (arith, s.lasts, s.ends);
        end-most = s.ends;
      }

  -- a cue ends by T
  ends : (k : ℕ) → k < length cues → back scale (get_or cues k no_cue).end ≤ T
  unfolding stock_ms
  ends k h =
      let c = are.each k h in
      let m = begin-most table (suc (are.sample_of k)) (row_count table) c.sample in
      let l : (get_or cues k no_cue).end ≤ ticks_of (told_of e table samples) = omega (arith, c.end, m, begin-suc table (are.sample_of k), ticks-all e table samples) in
      omega (arith, so.total, back-mono scale (get_or cues k no_cue).end (ticks_of (told_of e table samples)) (scale-some scale so.scaled) l)

  follows : (k : ℕ) → suc k < length cues → back scale (get_or cues k no_cue).start ≤ back scale (get_or cues (suc k) no_cue).start
  follows k h =
      let x = (are.each k (omega arith)).start in
      let y = (are.each (suc k) h).start in
      let m = begin-most table (are.sample_of k) (are.sample_of (suc k)) (le_of_lt (are.ordered k (suc k) (omega arith) h)) in
      back-mono scale (get_or cues k no_cue).start (get_or cues (suc k) no_cue).start (scale-some scale so.scaled) (omega (arith, x, y, m))

  all_right : (other : ℕ) → timeline_allowed other T ≡ true
      → ((k : ℕ) → k < length cues → tick other (back scale (get_or cues k no_cue).start) < tick other (back scale (get_or cues k no_cue).end)) → AllRight scale other T cues
  all_right other allowed ticks = record {
    limits = timeline-limits other T allowed;
    few = few;
    right = λ k h. record { fits = fits k h; lasts = (cue-sound k h).sound.lasts; ends = ends k h; ticks = ticks k h };
    follows = follows;
    distinct = λ j k l h q. omega (arith, q, ap id_of (are.each j (omega arith)).id, ap id_of (are.each k h).id);
  }

  fine-here : judge_list scale T (records_of scale cues) (pool_of cues) ≡ Fine
  fine-here = written-fine scale scale T cues (all_right scale so.allowed (λ k h. (cue-sound k h).sound.ticks))

  fine-there : (other : ℕ) → 1000 ≤ other → timeline_allowed other T ≡ true → judge_list other T (records_of scale cues) (pool_of cues) ≡ Fine
  fine-there other large allowed = written-fine scale other T cues (all_right other allowed (λ k h. tick-less other _ _ large (cue-sound k h).sound.lasts))

pub converted-fine : ConvertedFine
converted-fine scale e table samples n r p T c q = (fine-here scale e table samples n r p T c q, fine-there scale e table samples n r p T c q)
