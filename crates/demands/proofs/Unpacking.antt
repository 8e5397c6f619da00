-- Proofs of the demands on unpacking.
use Rattle.std.proofs.Common.{Ok}
use Prim.Native.Nat.{ℕ, zero, suc, ◌+◌, ◌/◌, ◌<◌, ◌≤◌}
use mathlib.Core.Path.{◌≡◌, refl, sym, ap, ap₂, ◌∙◌, subst}
use mathlib.Core.List.{List, ◌++◌}
use mathlib.Core.Option.{some}
use native.Mathlib.Omega.{arith}
use lib.ListN.{length, take, drop, get_or, length-append}
use Rattle.base.proofs.Over.{take-over, drop-over}
use Rattle.verdict.specs.Verdict.{Fine}
use borrow.Author.Tests.{lt-ltb, le-ltb, lt-leb}
use Rattle.verdict.proofs.Judgement.{each_all}
use Rattle.times.specs.Times.{back}
use Rattle.times.proofs.Laws.{limits-timeline}
use Rattle.timeline.specs.Cues.{Body, Cue}
use Rattle.timeline.specs.Unpacking.{no_cue, ListOf, done}
use Rattle.timeline.proofs.Complete.{unpacks-iff}
use Rattle.records.specs.Records.{count, identifier_length, settings_length, payload_length}
use Rattle.records.proofs.Laws.{text-lengths}
use Rattle.cues.specs.Judgement.{judge_list}
use Rattle.cues.specs.List.{body_of, cue_of, cues_of}
use Rattle.cues.proofs.Sound.{fine-sound, length-cues}
use Rattle.track.specs.Track.{track_of}
use Rattle.track.proofs.Laws.{fine-readable, readable-fine}
use Rattle.track.proofs.Samples.{track-positive, positive-rows}
use Rattle.conform.specs.Conformance.{conformance}
use Rattle.conform.proofs.Blame.{passes}
use Rattle.records_write.specs.Records.{id_of, texts_of, pool_to, records_of, pool_of}
use Rattle.unpack.specs.Unpacked.{Unpacked, Done, Refused}
use Rattle.unpack.specs.Unpacking.{track_cues, track_ms, bad_times, judge_times, judge_end, done_with, unpack_room, roomed, unpack_of}
use Rattle.unpack.proofs.Laws.{list_done}
use Rattle.unpack_laws.proofs.Reading.{Fits, length-recs, count-recs, id-read, start-read, end_read, offset_read, identifier-read, settings-read, payload-read, identifier_is, settings_is, payload_is}
use Rattle.unpack_laws.proofs.Theorems.{scale-fine, success, listed-so, fits, given-at, unpacked-fine, check-accepts, comes_back, same-record, same_length}
use Rattle.demands.specs.Calls.{UnpackCall}
use Rattle.demands.specs.Unpacking.{SameCues, text_bytes, ComesBack, TrackList, UnpackingWrites, UnpackingIsDone, Tells, UnpackRoomTells, RefusedUnpackingKeeps, UnpackedIsFine, UnpackedPasses}
use Rattle.demands.proofs.Demands.{fine, track-is, track-readable, track-right}

-- ---- the texts of records stand one behind the other

pub dense : (scale : ℕ) (cs : List Cue) → length cs ≤ 1024 → ((i : ℕ) → i < length cs → Fits scale (get_or cs i no_cue)) → (k : ℕ) → k ≤ length cs
    → length (pool_to cs k) ≡ text_bytes (records_of scale cs) k
unfolding pool_to text_bytes texts_of
dense scale cs few f zero h = refl
dense scale cs few f (suc k) h =
    let y = (get_or cs k no_cue).body in
    omega (
      arith,
      dense scale cs few f k (omega arith),
      length-append (pool_to cs k) (y.identifier ++ (y.settings ++ y.payload)),
      length-append y.identifier (y.settings ++ y.payload),
      length-append y.settings y.payload,
      identifier-read scale cs few f k h,
      settings-read scale cs few f k h,
      payload-read scale cs few f k h,
    )

-- ---- what a call that is done has written

module _ (scale : ℕ) (table samples records pool records_after pool_after : List ℕ) (n p T : ℕ) (c : UnpackCall scale table samples records pool records_after pool_after (Done n p T)) where
  answer-is : unpack_of scale table samples (length records) (length pool) ≡ Done n p T
  answer-is = sym c.answers

  records-are : take n records_after ≡ records_of scale (track_cues table samples)
  records-are = ap (take n) c.records_hold ∙ take-over (records_of scale (track_cues table samples)) records n (success scale table samples (length records) (length pool) n p T answer-is).records

  pool-is : take p pool_after ≡ pool_of (track_cues table samples)
  pool-is = ap (take p) c.pool_holds ∙ take-over (pool_of (track_cues table samples)) pool p (success scale table samples (length records) (length pool) n p T answer-is).pool

  kept : (drop n records_after ≡ drop n records) × (drop p pool_after ≡ drop p pool)
  kept =
      let w = success scale table samples (length records) (length pool) n p T answer-is in (
        ap (drop n) c.records_hold ∙ drop-over (records_of scale (track_cues table samples)) records n w.records,
        ap (drop p) c.pool_holds ∙ drop-over (pool_of (track_cues table samples)) pool p w.pool,
      )

  -- the list of the track is the one that unpacking finds
  only-list : (others : List Cue) → ListOf others (track_of table samples) → others ≡ track_cues table samples
  only-list others l =
      let w = success scale table samples (length records) (length pool) n p T answer-is in
      same others (track_cues table samples) (sym ((unpacks-iff others (track_of table samples) (track-positive table samples w.fine)).1 l) ∙ w.list)
    where
      same : (x y : List Cue) → done x ≡ done y → x ≡ y
      same x y e = cc

  list_of : TrackList scale table samples (records_of scale (track_cues table samples)) (pool_of (track_cues table samples)) n p T
  unfolding pool_of
  list_of =
      let a = length records in
      let b = length pool in
      let cs = track_cues table samples in
      let w = success scale table samples a b n p T answer-is in
      let l = listed-so scale table samples a b n p T answer-is in
      let f = fits scale table samples a b n p T answer-is in
      let m = count-recs scale cs l.few f in
      record {
        readable = (fine-readable table samples w.fine).0;
        cues = cs;
        list = l;
        only = only-list;
        records_bytes = (sym w.records, omega (arith, w.records, length-recs scale cs l.few f));
        pool_bytes = (sym w.pool, w.pool ∙ dense scale cs l.few f (length cs) (omega arith) ∙ ap (text_bytes (records_of scale cs)) (sym m));
        many = m;
        offset = λ i h. offset_read scale cs l.few f i (omega (arith, h, m)) ∙ dense scale cs l.few f i (omega (arith, h, m));
        id = λ i h. let k : i < length cs = omega (arith, h, m) in let v = (f i k).named in v.1 ∙ ap some (sym (ap id_of v.1) ∙ sym (id-read scale cs l.few f i k));
        start = λ i h. start-read scale cs l.few f i (omega (arith, h, m));
        end = λ i h. end_read scale cs l.few f i (omega (arith, h, m));
        identifier = λ i h. identifier_is scale cs l.few f i (omega (arith, h, m));
        settings = λ i h. settings_is scale cs l.few f i (omega (arith, h, m));
        payload = λ i h. payload_is scale cs l.few f i (omega (arith, h, m));
        timeline = w.timeline;
      }

pub unpacking-writes : UnpackingWrites
unpacking-writes scale table samples records pool records_after pool_after n p T c = let k = kept scale table samples records pool records_after pool_after n p T c in (
  subst (λ (x : List ℕ). TrackList scale table samples x (take p pool_after) n p T) (sym (records-are scale table samples records pool records_after pool_after n p T c))
      (subst (λ (x : List ℕ). TrackList scale table samples (records_of scale (track_cues table samples)) x n p T) (sym (pool-is scale table samples records pool records_after pool_after n p T c))
      (list_of scale table samples records pool records_after pool_after n p T c)),
  k.0,
  k.1,
)

pub unpacking-is-done : UnpackingIsDone
unfolding unpack_of judge_end judge_times bad_times done_with track_ms
unpacking-is-done scale table samples records pool records_after pool_after answer cs c reads list limits times ra rb =
    let a = length records in
    let b = length pool in
    let u = (unpacks-iff cs (track_of table samples) (track-positive table samples reads)).1 list in
    let good : (i : ℕ) → i < length cs → judge_times scale cs i ≡ Fine = λ i l.
    let w = times i l in
    rw (le-ltb 359999999 (back scale (get_or cs i no_cue).start) (omega (arith, w.0, w.1)), le-ltb 359999999 (back scale (get_or cs i no_cue).end) w.1, lt-leb (back scale (get_or cs i no_cue).end) (back scale (get_or cs i no_cue).start) w.0) in
    c.answers
    ∙ ap (roomed a b) (sym (list_done scale table samples (scale-fine scale _ limits) reads cs (sym u)))
    ∙ (rw (each_all (judge_times scale cs) (length cs) good, limits-timeline scale _ limits, le-ltb a (length (records_of scale cs)) ra, le-ltb b (length (pool_of cs)) rb))

tells : (u : Unpacked) (a b : ℕ) (answer : Unpacked) → answer ≡ roomed a b u → Tells u a b answer
tells (Refused r) a b answer e = e
tells (Ok x) a b answer e = ((λ h k. e ∙ rw (le-ltb a x.records h, le-ltb b x.pool k)), (λ h. e ∙ rw (lt-ltb a x.records h)), λ h k. e ∙ rw (le-ltb a x.records h, lt-ltb b x.pool k))

pub unpack-room-tells : UnpackRoomTells
unfolding unpack_of
unpack-room-tells scale table samples records pool records_after pool_after answer c = tells (unpack_room scale table samples) (length records) (length pool) answer c.answers

pub refused-unpacking-keeps : RefusedUnpackingKeeps
refused-unpacking-keeps scale table samples records pool records_after pool_after r c = (c.records_hold, c.pool_holds)

pub unpacked-is-fine : UnpackedIsFine
unpacked-is-fine scale table samples records pool records_after pool_after n p T c =
    ap₂ (judge_list scale T) (records-are scale table samples records pool records_after pool_after n p T c) (pool-is scale table samples records pool records_after pool_after n p T c)
    ∙ unpacked-fine scale table samples (length records) (length pool) n p T (sym c.answers)

pub unpacked-passes : UnpackedPasses
unfolding conformance
unpacked-passes scale table samples records pool records_after pool_after n p T answer c small k =
    let e = sym c.answers in
    let a = length records in
    let b = length pool in
    let cs = track_cues table samples in
    k.answers ∙ passes scale T _ _ table samples
    (ap₂ (λ (x y : List ℕ). conformance scale T x y table samples) (records-are scale table samples records pool records_after pool_after n p T c) (pool-is scale table samples records pool records_after pool_after n p T c)
    ∙ (rw (unpacked-fine scale table samples a b n p T e, (success scale table samples a b n p T e).fine, check-accepts scale table samples a b n p T e small)))

-- ---- demand 2's way back

-- the pool of a list without fault has the bytes of its texts
module _ (scale T : ℕ) (records pool : List ℕ) (fine-so : judge_list scale T records pool ≡ Fine) (large : 1000 ≤ scale) where
  texts-length : (i : ℕ) → i < count records → length (texts_of (body_of records pool i)) ≡ identifier_length records i + (settings_length records i + payload_length records i)
  unfolding texts_of body_of
  texts-length i h =
      let l = text-lengths records pool i ((fine-sound scale T records pool fine-so).records i h).inside in
      rw (length-append, length-append, l.0, l.1, l.2)

  body_at : (i : ℕ) → i < count records → (get_or (cues_of scale records pool) i no_cue).body ≡ body_of records pool i
  unfolding cue_of
  body_at i h = ap (λ (x : Cue). x.body) (given-at scale T records pool fine-so large i h)

  pool-to : (k : ℕ) → k ≤ count records → length (pool_to (cues_of scale records pool) k) ≡ text_bytes records k
  unfolding pool_to text_bytes
  pool-to zero h = refl
  pool-to (suc k) h =
      omega (
        arith,
        length-append (pool_to (cues_of scale records pool) k) (texts_of (get_or (cues_of scale records pool) k no_cue).body),
        pool-to k (omega arith),
        ap (λ (x : Body). length (texts_of x)) (body_at k h),
        texts-length k h,
      )

  length-cues-is : length (cues_of scale records pool) ≡ count records
  length-cues-is = length-cues scale T records pool

  pub pool-length : length (pool_of (cues_of scale records pool)) ≡ text_bytes records (count records)
  unfolding pool_of
  pool-length = ap (λ (k : ℕ). length (pool_to (cues_of scale records pool) k)) length-cues-is ∙ pool-to (count records) (omega arith)

  same-cues : SameCues records pool (records_of scale (cues_of scale records pool)) (pool_of (cues_of scale records pool))
  unfolding count
  same-cues =
      let r = same-record scale T records pool fine-so large in
      record {
        many = ap (λ (k : ℕ). k / 24) (same_length scale T records pool fine-so large);
        id = λ i l. (r i l).id;
        start = λ i l. (r i l).start;
        end = λ i l. (r i l).end;
        identifier = λ i l. (r i l).identifier;
        settings = λ i l. (r i l).settings;
        payload = λ i l. (r i l).payload;
      }

pub comes-back-same : ComesBack
comes-back-same scale T records pool table samples table_after samples_after n t b q large others pond others_after pond_after answer c ra rb =
    let f = fine scale T records pool table samples table_after samples_after n t b q in
    let x = take t table_after in
    let y = take b samples_after in
    let cs = cues_of scale records pool in
    let m = text_bytes records (count records) in
    let pl = pool-length scale T records pool f large in
    let reads = readable-fine x y (track-readable scale T records pool table samples table_after samples_after n t b q)
    (positive-rows x y (track-right scale T records pool table samples table_after samples_after n t b q).positive) in
    let w = comes_back scale T records pool f large x y (length others) (length pond) reads (track-is scale T records pool table samples table_after samples_after n t b q) ra (omega (arith, pl, rb)) in
    let d : answer ≡ Done (length records) m T = c.answers ∙ w.0 ∙ ap (λ (k : ℕ). Done (length records) k T) pl in
    let e : UnpackCall scale x y others pond others_after pond_after (Done (length records) m T) = subst (UnpackCall scale x y others pond others_after pond_after) d c in
    let r : take (length records) others_after ≡ records_of scale cs = records-are scale x y others pond others_after pond_after (length records) m T e ∙ ap (records_of scale) w.1 in
    let p : take m pond_after ≡ pool_of cs = pool-is scale x y others pond others_after pond_after (length records) m T e ∙ ap pool_of w.1 in
    (d, subst (λ (z : List ℕ). SameCues records pool z (take m pond_after)) (sym r) (subst (SameCues records pool (records_of scale cs)) (sym p) (same-cues scale T records pool f large)))
