-- The samples of a track against the records of a list: one turn after the other, by a window over the records.
use Prim.Native.Nat.{ℕ, zero, suc, ◌+◌, ◌-◌, ◌≤◌, ◌<◌}
use mathlib.Core.Path.{◌≡◌, refl, sym, ap, ◌∙◌}
use mathlib.Core.Bool.{Bool, true, false}
use mathlib.Core.List.{List, [], ◌∷◌}
use native.Mathlib.Omega.{arith}
use native.Mathlib.Nat.{le_refl}
use native.Mathlib.Numerals.{add-one}
use lib.Dec.{ltb}
use lib.ListN.{length, drop, get_or, length-drop, drop_of_length-le}
use lib.Seq.{get_or-drop}
use borrow.Author.Tests.{le-leb, lt-leb, lt-ltb, le-ltb, eq-eqb, ne_eqb}
use Rattle.base.specs.Choice.{pick, both, same_list}
use Rattle.base.proofs.Choice.{by-test, either}
use Rattle.verdict.specs.Judgement.{refuse}
use Rattle.times.specs.Times.{tick}
use Rattle.times.proofs.Laws.{tick-mono}
use Rattle.timeline.specs.Lists.{listed}
use Rattle.timeline.specs.Cues.{Body, Cue, same_id, same_body}
use Rattle.timeline.specs.Tracks.{Sample}
use Rattle.timeline.specs.Checking.{Stand as Standing, out, whole, part, standing, none_left, meets, matches, fits, Answer, accepted, wrong, short, onward, check_from, check}
use Rattle.timeline.proofs.Listing.{length-listed, listed_at, listed-from}
use Rattle.records.specs.Records.{count, source_id, start_ms, end_ms, identifier_of, settings_of, payload_of}
use Rattle.cues.specs.List.{body_of, cue_of, cues_of, Sound}
use Rattle.wvtt_cues.specs.declared.Parts.{Parts}
use Rattle.wvtt_cues.specs.Held.{Held, Cue as HeldCue}
use Rattle.boxes.specs.Boxes.{boxes_in}
use Rattle.wvtt_cues.specs.Cues.{text_of, held_by, sample_cues, next_cue}
use Rattle.wvtt_cues.specs.Walk.{held_from, Next}
use Rattle.wvtt_cues.proofs.Walk.{next-means}
use Rattle.verdict.specs.Verdict.{Fine}
use Rattle.table.specs.Table.{row_count, duration_of, size_of, offset_of, bytes_of}
use Rattle.track.specs.Track.{sample_of, track_of, judge_track}
use Rattle.table.proofs.Laws.{offset-suc, laid-inside}
use Rattle.track.proofs.Laws.{fine-readable}
use Rattle.conform.specs.declared.Stretch.{Stretch}
use Rattle.conform.specs.declared.Window.{Window}
use Rattle.conform.specs.Met.{Met, On, Differs}
use Rattle.conform.specs.Conformance.{answered}
use Rattle.conform.specs.Window.{Ended, Started, Later, Rises, Pooled, Reached, Around, on_met}

-- ---- records

module _ (scale : ℕ) (recs : List ℕ) where
  pub ended-more : (b i : ℕ) → Ended scale recs i b → tick scale (end_ms recs i) ≤ b → Ended scale recs (i + 1) b
  ended-more b i h g j l = either (suc j) i (λ m. h j m) (λ m. let e : j ≡ i = omega arith in rw e g)

  pub started-more : (e i : ℕ) → Started scale recs i e → tick scale (start_ms recs i) < e → Started scale recs (i + 1) e
  started-more e i h g j l = either (suc j) i (λ m. h j m) (λ m. let q : j ≡ i = omega arith in rw q g)

  pub later-here : (e i : ℕ) → Rises scale recs → e ≤ tick scale (start_ms recs i) → Later scale recs i e
  later-here e i r h j l m = let q = r i j l m in omega arith

  pub later-none : (e i : ℕ) → count recs ≤ i → Later scale recs i e
  later-none e i h j l m = absurd (omega arith)

  -- the window of a stretch serves those from its end on
  pub reached-on : (w : Window) (x : Stretch) → x.begin ≤ x.end → Around scale recs w x → Reached scale recs w x.end
  reached-on w x l a = record {
    first_most = a.first_most;
    last_most = a.last_most;
    ended = λ j m. let q = a.ended j m in omega arith;
    started = a.started;
  }

  pub started-by : (i b e : ℕ) → b ≤ e → Started scale recs i b → Started scale recs i e
  started-by i b e l h j m = let q = h j m in omega arith

  pub reached-start : Reached scale recs (record { first = 0; last = 0 }) 0
  reached-start = record {
    first_most = omega arith;
    last_most = omega arith;
    ended = λ j m. absurd (omega arith);
    started = λ j m. absurd (omega arith);
  }

  -- starts never fall
  starts : (T : ℕ) (pool : List ℕ) → Sound scale T recs pool → (d i : ℕ) → i + d < count recs → start_ms recs i ≤ start_ms recs (i + d)
  starts T pool s zero i l = let e : i + 0 ≡ i = omega arith in rw e (le_refl (start_ms recs i))
  starts T pool s (suc d) i l =
      let e : i + suc d ≡ suc (i + d) = omega arith in
      let one = (s.records (i + suc d) l).follows (i + d) e in
      omega (arith, starts T pool s d i (omega arith))

  pub sound-rises : (T : ℕ) (pool : List ℕ) → Sound scale T recs pool → Rises scale recs
  sound-rises T pool s i j l m =
      let e : j ≡ i + (j - i) = omega arith in
      tick-mono scale (start_ms recs i) (start_ms recs j) (rw e (starts T pool s (j - i) i (omega arith)))

  pub sound-pooled : (T : ℕ) (pool : List ℕ) → Sound scale T recs pool → Pooled recs pool
  sound-pooled T pool s i l = (s.records i l).inside

-- ---- the stand of a cue

out-ended : (c : Cue) (b e : ℕ) → c.end ≤ b → standing c b e ≡ out
unfolding standing
out-ended c b e h = by-test (ltb c.start e) (λ q. rw (q, le-leb c.end b h)) (λ q. rw q)

out-later : (c : Cue) (b e : ℕ) → e ≤ c.start → standing c b e ≡ out
unfolding standing
out-later c b e h = rw (le-ltb c.start e h)

module _ (scale : ℕ) (recs pool : List ℕ) (i b e : ℕ) where
  pub stands-out : tick scale (end_ms recs i) ≤ b → out ≡ standing (cue_of scale recs pool i) b e
  unfolding cue_of
  stands-out h = sym (out-ended (cue_of scale recs pool i) b e h)

  pub stands-late : tick scale (start_ms recs i) < e → b < tick scale (end_ms recs i) → b < tick scale (start_ms recs i) → part ≡ standing (cue_of scale recs pool i) b e
  unfolding cue_of standing
  stands-late s h k = rw (lt-ltb (tick scale (start_ms recs i)) e s, lt-leb (tick scale (end_ms recs i)) b h, lt-leb (tick scale (start_ms recs i)) b k)

  pub stands-short : tick scale (start_ms recs i) < e → b < tick scale (end_ms recs i) → tick scale (start_ms recs i) ≤ b → tick scale (end_ms recs i) < e → part ≡ standing (cue_of scale recs pool i) b e
  unfolding cue_of standing
  stands-short s h k m = rw (lt-ltb (tick scale (start_ms recs i)) e s, lt-leb (tick scale (end_ms recs i)) b h, le-leb (tick scale (start_ms recs i)) b k, lt-leb e (tick scale (end_ms recs i)) m)

  pub stands-whole : tick scale (start_ms recs i) < e → b < tick scale (end_ms recs i) → tick scale (start_ms recs i) ≤ b → e ≤ tick scale (end_ms recs i) → whole ≡ standing (cue_of scale recs pool i) b e
  unfolding cue_of standing
  stands-whole s h k m = rw (lt-ltb (tick scale (start_ms recs i)) e s, lt-leb (tick scale (end_ms recs i)) b h, le-leb (tick scale (start_ms recs i)) b k, le-leb e (tick scale (end_ms recs i)) m)

-- ---- what a record that runs through finds

-- the answer of `next_cue`
pub next_one : (s : List ℕ) (at : ℕ) (r : Held) (c : Parts) (n : ℕ) → r ≡ next_cue s (boxes_in s at (length s)) → r ≡ HeldCue c n → Next s at c n
next_one s at r c n e q = next-means s at (HeldCue c n) (sym q ∙ e)

pub left-some : (s : List ℕ) (at : ℕ) (c : Parts) (n : ℕ) → Next s at c n → false ≡ none_left (held_from s at)
left-some s at c n w = rw w.held

pub left-none : (s : List ℕ) (at : ℕ) → held_from s at ≡ [] → true ≡ none_left (held_from s at)
left-none s at e = rw e

module _ (s : List ℕ) (at : ℕ) (x : Body) (f : List Body → Bool) where
  pub met-none : held_from s at ≡ [] → false ≡ meets whole x (held_from s at) f
  met-none e = rw e

  pub met-same : (c : Parts) (n : ℕ) → Next s at c n → true ≡ same_body x (held_by s c) → f (held_from s n) ≡ meets whole x (held_from s at) f
  met-same c n w e = rw (w.held, ← e)

  pub met-other : (c : Parts) (n : ℕ) → Next s at c n → false ≡ same_body x (held_by s c) → false ≡ meets whole x (held_from s at) f
  met-other c n w e = rw (w.held, ← e)

-- ---- a record against a cue that is held

module _ (recs pool : List ℕ) (i : ℕ) (s : List ℕ) (c : Parts) where
  pub cue-unnamed : c.named ≡ false → false ≡ same_body (body_of recs pool i) (held_by s c)
  unfolding same_body same_id body_of held_by
  cue-unnamed e = rw e

  pub cue-other : (n : ℕ) → c.named ≡ true → n ≡ source_id recs i → (n ≡ c.id → ⊥) → false ≡ same_body (body_of recs pool i) (held_by s c)
  unfolding same_body same_id body_of held_by
  cue-other n e h q = rw (e, ← h, ne_eqb n c.id q)

  pub cue-texts : (n : ℕ) (x y z : Bool) → c.named ≡ true → n ≡ source_id recs i → n ≡ c.id
      → x ≡ same_list (identifier_of recs pool i) (text_of s c.identifier) → y ≡ same_list (settings_of recs pool i) (text_of s c.settings)
      → z ≡ same_list (payload_of recs pool i) (text_of s c.payload) → both x (both y z) ≡ same_body (body_of recs pool i) (held_by s c)
  unfolding same_body same_id body_of held_by
  cue-texts n x y z e h q a b d = rw (e, ← h, eq-eqb n c.id q, ← a, ← b, ← d)

-- ---- the records, one after the other

skip-ended : (b e : ℕ) (d : Cue) (k : ℕ) (cs : List Cue) (held : List Body) → ((j : ℕ) → j < k → j < length cs → (get_or cs j d).end ≤ b)
    → matches (drop k cs) b e held ≡ matches cs b e held
unfolding matches
skip-ended b e d zero cs held h = refl
skip-ended b e d (suc k) [] held h = refl
skip-ended b e d (suc k) (c ∷ cs) held h =
    skip-ended b e d k cs held (λ j l m. h (suc j) (omega arith) (omega arith))
    ∙ sym (ap (λ (z : Standing). meets z c.body held (λ r. matches cs b e r)) (out-ended c b e (h 0 (omega arith) (omega arith))))

none-started : (b e : ℕ) (d : Cue) (cs : List Cue) (held : List Body) → ((j : ℕ) → j < length cs → e ≤ (get_or cs j d).start) → matches cs b e held ≡ none_left held
unfolding matches
none-started b e d [] held h = refl
none-started b e d (c ∷ cs) held h =
    ap (λ (z : Standing). meets z c.body held (λ r. matches cs b e r)) (out-later c b e (h 0 (omega arith)))
    ∙ none-started b e d cs held (λ j l. h (suc j) (omega arith))

module _ (scale : ℕ) (recs pool : List ℕ) (x : Stretch) where
  -- the records from number i on match what is held
  unfoldable pub matches_from : ℕ → List Body → Bool
  matches_from i held = matches (drop i (cues_of scale recs pool)) x.begin x.end held

  cues-long : length (cues_of scale recs pool) ≡ count recs
  unfolding cues_of
  cues-long = length-listed (cue_of scale recs pool) (count recs)

  cue-at : (i : ℕ) → i < count recs → get_or (cues_of scale recs pool) i (cue_of scale recs pool 0) ≡ cue_of scale recs pool i
  unfolding cues_of
  cue-at i h = listed_at (cue_of scale recs pool) (count recs) i (cue_of scale recs pool 0) h

  -- those that have ended need not be looked at
  pub from_first : (i : ℕ) (held : List Body) → Ended scale recs i x.begin → matches_from i held ≡ matches (cues_of scale recs pool) x.begin x.end held
  unfolding matches_from cue_of
  from_first i held h =
      skip-ended x.begin x.end (cue_of scale recs pool 0) i (cues_of scale recs pool) held
      (λ j l m. let k : j < count recs = omega (arith, cues-long) in omega (arith, h j l, ap (λ (c : Cue). c.end) (cue-at j k)))

  -- one record
  pub from-turn : (i : ℕ) (held : List Body) → i < count recs
      → matches_from i held ≡ meets (standing (cue_of scale recs pool i) x.begin x.end) (body_of recs pool i) held (matches_from (i + 1))
  unfolding matches_from cues_of matches cue_of
  from-turn i held h =
      ap (λ (l : List Cue). matches l x.begin x.end held) (listed-from (cue_of scale recs pool) (count recs) i h)
      ∙ rw (add-one i)

  -- what it finds
  module _ (i : ℕ) (s : List ℕ) (at : ℕ) (m : Met) (h : i < count recs)
      (found : (f : List Body → Bool) → on_met s m f ≡ meets (standing (cue_of scale recs pool i) x.begin x.end) (body_of recs pool i) (held_from s at) f) where
    pub from_on : (n : ℕ) → m ≡ On n → matches_from (i + 1) (held_from s n) ≡ matches_from i (held_from s at)
    from_on n e = ap (λ (z : Met). on_met s z (matches_from (i + 1))) (sym e) ∙ found (matches_from (i + 1)) ∙ sym (from-turn i (held_from s at) h)

    pub from-differs : m ≡ Differs → false ≡ matches_from i (held_from s at)
    from-differs e = ap (λ (z : Met). on_met s z (matches_from (i + 1))) (sym e) ∙ found (matches_from (i + 1)) ∙ sym (from-turn i (held_from s at) h)

  -- those that start later need not be looked at
  pub from_last : (i last : ℕ) (held : List Body) → last ≤ i → Later scale recs last x.end → none_left held ≡ matches_from i held
  unfolding matches_from cue_of
  from_last i last held l h =
      sym (none-started x.begin x.end (cue_of scale recs pool 0) (drop i (cues_of scale recs pool)) held
      (λ j m. let k : i + j < count recs = omega (arith, cues-long, length-drop i (cues_of scale recs pool)) in
      omega (arith, h (i + j) (omega arith) k, ap (λ (c : Cue). c.start) (get_or-drop i (cues_of scale recs pool) j (cue_of scale recs pool 0) ∙ cue-at (i + j) k))))

pub from_start : (s : List ℕ) → held_from s 0 ≡ sample_cues s
unfolding held_from sample_cues
from_start s = refl

-- ---- the samples, one after the other

pub few-rows : (table samples : List ℕ) → judge_track table samples ≡ Fine → row_count table ≤ 65536
few-rows table samples e = (fine-readable table samples e).0.laid.count

-- the bytes of sample i end within the samples
pub row_inside : (table samples : List ℕ) (i : ℕ) → judge_track table samples ≡ Fine → i < row_count table → offset_of table i + size_of table i ≤ length samples
row_inside table samples i e h = omega (arith, laid-inside table samples (fine-readable table samples e).0.laid i h, offset-suc table i)

module _ (cues : List Cue) (T : ℕ) (table samples : List ℕ) where
  -- the answer from sample i on, which begins at b
  unfoldable pub answer_from : ℕ → ℕ → Answer
  answer_from b i = check_from cues T b i (drop i (track_of table samples))

  pub answer-start : answer_from 0 0 ≡ check cues T (track_of table samples)
  unfolding answer_from check
  answer-start = refl

  answer-turn : (b i : ℕ) → i < row_count table
      → answer_from b i ≡ onward (fits cues T b (sample_of table samples i)) i (λ _. answer_from (b + duration_of table i) (i + 1))
  unfolding answer_from check_from track_of
  answer-turn b i h =
      ap (λ (l : List Sample). check_from cues T b i l) (listed-from (sample_of table samples) (row_count table) i h)
      ∙ rw (add-one i)

  -- the sample ends past T
  pub answer-past : (b e i : ℕ) → i < row_count table → e ≡ b + duration_of table i → T < e → answer_from b i ≡ wrong i
  unfolding fits sample_of
  answer-past b e i h q l = answer-turn b i h ∙ rw (← q, lt-leb e T l)

  -- it holds the wrong cues
  pub answer-wrong : (b e i : ℕ) → i < row_count table → e ≡ b + duration_of table i → e ≤ T
      → false ≡ matches cues b e (sample_cues (bytes_of table samples i)) → answer_from b i ≡ wrong i
  unfolding fits sample_of
  answer-wrong b e i h q l m = answer-turn b i h ∙ rw (← q, le-leb e T l, ← m)

  -- it is as it should be
  pub answer-on : (b e i : ℕ) → i < row_count table → e ≡ b + duration_of table i → e ≤ T
      → true ≡ matches cues b e (sample_cues (bytes_of table samples i)) → answer_from b i ≡ answer_from e (i + 1)
  unfolding fits sample_of
  answer-on b e i h q l m = answer-turn b i h ∙ rw (← q, le-leb e T l, ← m)

  -- no sample is left
  pub answer-end : (b i : ℕ) → row_count table ≤ i → answer_from b i ≡ pick (ltb b T) (short i) accepted
  unfolding answer_from check_from track_of
  answer-end b i h =
      let l : length (listed (sample_of table samples) (row_count table)) ≤ i = omega (arith, length-listed (sample_of table samples) (row_count table)) in
      ap (λ (z : List Sample). check_from cues T b i z) (drop_of_length-le (listed (sample_of table samples) (row_count table)) l)

  -- the sum is below T, and it is not
  pub ends-short : (b i : ℕ) → i ≤ row_count table → row_count table ≤ i → b < T → answer_from b i ≡ check cues T (track_of table samples)
      → refuse 16 (row_count table) ≡ answered (check cues T (track_of table samples))
  ends-short b i h k l e =
      let q : i ≡ row_count table = omega arith in
      sym (ap answered (sym e ∙ answer-end b i k) ∙ rw (lt-ltb b T l, q))

  pub ends-well : (b i : ℕ) → row_count table ≤ i → T ≤ b → answer_from b i ≡ check cues T (track_of table samples) → Fine ≡ answered (check cues T (track_of table samples))
  ends-well b i k l e = sym (ap answered (sym e ∙ answer-end b i k) ∙ rw (le-ltb b T l))
