-- What unpacking answers: a list without fault; the check accepts it at a scale of 1,000 or less; at a scale of 1,000 or more a packed list comes back.
use Rattle.std.proofs.Common.{Ok}
use Prim.Native.Nat.{ℕ, zero, suc, ◌≤◌, ◌<◌}
use mathlib.Core.Path.{◌≡◌, refl, sym, ap, ap₂, ◌∙◌, subst}
use mathlib.Core.Logic.{◌≢◌}
use mathlib.Core.Bool.{Bool, true, false, not}
use mathlib.Core.Option.{some}
use mathlib.Core.List.{List, [], ◌∷◌, map}
use native.Mathlib.Omega.{arith}
use native.Mathlib.Nat.{not-suc-le-zero, le_of_suc-le-suc}
use lib.Dec.{leb, ltb}
use lib.ListN.{length, get_or, length-take}
use borrow.Author.Tests.{ltb-false, leb-false, le-ltb, lt-leb, not-false}
use Rattle.base.specs.Choice.{any_of}
use Rattle.base.proofs.Choice.{either, both_left}
use Rattle.verdict.specs.Verdict.{Verdict, Fine, Refused}
use Rattle.verdict.specs.Judgement.{◌gives◌at◌, each}
use Rattle.verdict.proofs.Judgement.{both-fine, not-given, each-fine, each_all}
use Rattle.times.specs.Times.{tick, back, scale_allowed, timeline_allowed, Limits}
use Rattle.times.proofs.Laws.{timeline-limits, limits-timeline, scale-limits, tick-back, back-tick, back-mono}
use Rattle.timeline.specs.Cues.{Cue, Pairs}
use Rattle.timeline.specs.Tracks.{total}
use Rattle.timeline.specs.Packing.{packed}
use Rattle.timeline.specs.Checking.{check, accepted}
use Rattle.timeline.specs.Unpacking.{Unpacked as Listing, stopped, done, unpack, no_cue, ListOf}
use Rattle.timeline.proofs.Indexed.{index-mem}
use Rattle.timeline.proofs.Listing.{listed_at}
use Rattle.timeline.proofs.Packed.{packed-right}
use Rattle.timeline.proofs.Joined.{unpack-right}
use Rattle.timeline.proofs.Complete.{round_trip}
use Rattle.timeline.proofs.Retimed.{retimed, unpacked-accepted}
use Rattle.wvtt.specs.Sound.{Sound as SoundBody}
use Rattle.track.specs.Track.{judge_track, track_of}
use Rattle.records.specs.Records.{count, source_id, start_ms, end_ms, text_offset, settings_offset, payload_offset, identifier_length, settings_length, payload_length, piece, identifier_of, settings_of, payload_of}
use Rattle.cues.specs.Judgement.{judge_list}
use Rattle.cues.specs.List.{body_of, cue_of, cues_of, Sound}
use Rattle.cues.proofs.Sound.{fine-sound, fine-proper, fine-few, cues-named, length-cues}
use Rattle.records_write.specs.Records.{id_of, records_of, pool_of}
use Rattle.unpack.specs.Unpacked.{Unpacked, Done, Refused as Stopped}
use Rattle.unpack.specs.Unpacking.{stops_at, list_in, track_cues, track_ms, bad_times, judge_times, judge_end, judge_unpack, answer_by, done_with, unpack_room, roomed, unpack_of}
use Rattle.track.proofs.Samples.{track-positive}
use Rattle.unpack.proofs.Laws.{list-sound, list_done, cues-done, room_fits, room-done}
use Rattle.unpack_laws.proofs.Written.{tick-less, AllRight, written-fine}
use Rattle.unpack_laws.proofs.Reading.{Fits, length-recs, id-read, start-read, end_read, identifier_is, settings_is, payload_is, cues-are}

-- ---- a success

answered : (v : Verdict) (u : Unpacked) (n p t : ℕ) → answer_by v u ≡ Done n p t → (v ≡ Fine) × (u ≡ Done n p t)
answered Fine u n p t e = (refl, e)
answered (Refused r) u n p t e = let z : ◌≡◌ {A = ℕ} 0 1 = cc in absurd (omega arith)

listed-all : (u : Listing) → stops_at u ≡ Fine → u ≡ done (list_in u)
listed-all (stopped n i) e = let z : ◌≡◌ {A = ℕ} 0 1 = cc in absurd (omega arith)
listed-all (done cs) e = refl

neither : (a b : Bool) → any_of a b ≡ false → (a ≡ false) × (b ≡ false)
neither true b e = let z : ◌≡◌ {A = ℕ} 0 1 = cc in absurd (omega arith)
neither false b e = (refl, e)

-- times that can be given back
pub record InTime (scale : ℕ) (c : Cue) : Type 0 where
  pub start-most : back scale c.start ≤ 359999999
  pub end-most : back scale c.end ≤ 359999999
  pub lasts : back scale c.start < back scale c.end

not-bad : (scale : ℕ) (c : Cue) → bad_times scale c.start c.end ≡ false → InTime scale c
unfolding bad_times
not-bad scale c e =
    let x = neither (ltb 359999999 (back scale c.start)) _ e in
    let y = neither (ltb 359999999 (back scale c.end)) (leb (back scale c.end) (back scale c.start)) x.1 in
    record { start-most = ltb-false 359999999 (back scale c.start) x.0; end-most = ltb-false 359999999 (back scale c.end) y.0; lasts = leb-false (back scale c.end) (back scale c.start) y.1 }

-- what a success says
pub record Success (scale : ℕ) (table samples : List ℕ) (n p t : ℕ) : Type 0 where
  pub scaled : (1 ≤ scale) × (scale ≤ 1000000)
  pub fine : judge_track table samples ≡ Fine
  pub list : unpack (track_of table samples) ≡ done (track_cues table samples)
  pub times : (i : ℕ) → i < length (track_cues table samples) → InTime scale (get_or (track_cues table samples) i no_cue)
  pub limits : Limits scale t
  pub records : n ≡ length (records_of scale (track_cues table samples))
  pub pool : p ≡ length (pool_of (track_cues table samples))
  pub timeline : t ≡ back scale (total (track_of table samples))

pub success : (scale : ℕ) (table samples : List ℕ) (a b n p t : ℕ) → unpack_of scale table samples a b ≡ Done n p t → Success scale table samples n p t
unfolding unpack_of unpack_room judge_unpack done_with judge_end judge_times track_cues track_ms
success scale table samples a b n p t e =
    let cs = track_cues table samples in
    let T = track_ms scale table samples in
    let w = answered (judge_unpack scale table samples) (done_with scale T cs) n p t (room-done a b (unpack_room scale table samples) n p t e) in
    let v1 = both-fine (not (scale_allowed scale) gives 10 at 0) _ w.0 in
    let v2 = both-fine (judge_track table samples) _ v1.1 in
    let v3 = both-fine (stops_at (unpack (track_of table samples))) _ v2.1 in
    let v4 = both-fine (each (judge_times scale cs) (length cs)) _ v3.1 in
    let q : T ≡ t = ap time w.1 in
    record {
      scaled = scale-limits scale (not-false (scale_allowed scale) (not-given (not (scale_allowed scale)) 10 0 v1.0));
      fine = v2.0;
      list = listed-all (unpack (track_of table samples)) v3.0;
      times = λ i l. not-bad scale (get_or cs i no_cue) (not-given (bad_times scale (get_or cs i no_cue).start (get_or cs i no_cue).end) 10 i (each-fine (judge_times scale cs) (length cs) i v4.0 l));
      limits = subst (Limits scale) q (timeline-limits scale T (not-false (timeline_allowed scale T) (not-given (not (timeline_allowed scale T)) 10 (length cs) v4.1)));
      records = sym (ap first w.1);
      pool = sym (ap second w.1);
      timeline = sym q;
    }
  where
    time : Unpacked → ℕ
    time (Ok w) = w.t
    time (Stopped r) = 0

    first : Unpacked → ℕ
    first (Ok w) = w.records
    first (Stopped r) = 0

    second : Unpacked → ℕ
    second (Ok w) = w.pool
    second (Stopped r) = 0

-- a relation of each cue to all later ones, by index
pairs-at : (R : Cue → Cue → Type 0) (d : Cue) (l : List Cue) → Pairs R l → (i j : ℕ) → i < j → j < length l → R (get_or l i d) (get_or l j d)
unfolding Pairs
pairs-at R d [] h i j a b = absurd (not-suc-le-zero b)
pairs-at R d (c ∷ l) h i zero a b = absurd (not-suc-le-zero a)
pairs-at R d (c ∷ l) h zero (suc j) a b = h.0 (get_or l j d) (index-mem l j d (le_of_suc-le-suc b))
pairs-at R d (c ∷ l) h (suc i) (suc j) a b = pairs-at R d l h.1 i j (le_of_suc-le-suc a) (le_of_suc-le-suc b)

module _ (scale : ℕ) (table samples : List ℕ) (a b n p t : ℕ) (done-so : unpack_of scale table samples a b ≡ Done n p t) where
  pub won : Success scale table samples n p t
  won = success scale table samples a b n p t done-so

  pub listed-so : ListOf (track_cues table samples) (track_of table samples)
  listed-so = unpack-right (track_of table samples) (track_cues table samples) (track-positive table samples won.fine) won.list

  pub fits : (i : ℕ) → i < length (track_cues table samples) → Fits scale (get_or (track_cues table samples) i no_cue)
  fits i h = record {
    named = listed-so.ids (get_or (track_cues table samples) i no_cue) (index-mem (track_cues table samples) i no_cue h);
    sound = list-sound table samples won.fine (track_cues table samples) won.list i h;
    start-most = (won.times i h).start-most;
    end-most = (won.times i h).end-most;
  }

  -- the cues of the records are the track's, their times taken to ms and back
  pub unpacked-cues : cues_of scale (records_of scale (track_cues table samples)) (pool_of (track_cues table samples)) ≡ map (retimed (tick scale)) (map (retimed (back scale)) (track_cues table samples))
  unpacked-cues = cues-are scale (track_cues table samples) listed-so.few fits

  -- at a scale of 1,000 or less the check accepts every unpacked list with the track it came from
  pub check-accepts : scale ≤ 1000 → check (cues_of scale (records_of scale (track_cues table samples)) (pool_of (track_cues table samples))) (tick scale t) (track_of table samples) ≡ accepted
  check-accepts h =
      ap₂ (λ (z : List Cue) (m : ℕ). check z (tick scale m) (track_of table samples)) unpacked-cues won.timeline
      ∙ unpacked-accepted (tick scale) (back scale) (λ m. tick-back scale m won.scaled.0 h) (track_of table samples) (track_cues table samples) (track-positive table samples won.fine) won.list

  ticks-so : (c : Cue) → InTime scale c → c.start < c.end → tick scale (back scale c.start) < tick scale (back scale c.end)
  ticks-so c w l =
      either scale 1000
      (λ h. omega (arith, tick-back scale c.start won.scaled.0 h, tick-back scale c.end won.scaled.0 h))
      (λ h. tick-less scale (back scale c.start) (back scale c.end) (omega arith) w.lasts)

  all_right : AllRight scale scale t (track_cues table samples)
  all_right =
      let cs = track_cues table samples in
      record {
        limits = won.limits;
        few = listed-so.few;
        right = λ i h.
            let c = get_or cs i no_cue in
            let m = index-mem cs i no_cue h in
            let w = won.times i h in
            record {
              fits = fits i h;
              lasts = w.lasts;
              ends = omega (arith, won.timeline, back-mono scale c.end (total (track_of table samples)) won.scaled.0 (listed-so.proper.ends c m));
              ticks = ticks-so c w (listed-so.proper.lasts c m);
            };
        follows = λ i h. back-mono scale (get_or cs i no_cue).start (get_or cs (suc i) no_cue).start won.scaled.0 (pairs-at (λ u v. u.start ≤ v.start) no_cue cs listed-so.proper.ordered i (suc i) (omega arith) h);
        distinct = apart;
      }
    where
      apart : (j i : ℕ) → j < i → i < length (track_cues table samples) → id_of (get_or (track_cues table samples) j no_cue).body.id ≢ id_of (get_or (track_cues table samples) i no_cue).body.id
      apart j i l h e =
          let k : j < length (track_cues table samples) = omega arith in
          let u = (fits j k).named in
          let v = (fits i h).named in
          let s : u.0 ≡ v.0 = sym (ap id_of u.1) ∙ e ∙ ap id_of v.1 in
          pairs-at (λ x y. y.body.id ≢ x.body.id) no_cue (track_cues table samples) listed-so.proper.distinct j i l h (v.1 ∙ ap some (sym s) ∙ sym u.1)

  -- whatever unpacking answers, packing finds no fault in
  pub unpacked-fine : judge_list scale t (records_of scale (track_cues table samples)) (pool_of (track_cues table samples)) ≡ Fine
  unpacked-fine = written-fine scale scale t (track_cues table samples) all_right

-- ---- a packed list comes back

-- records i of two lists have the same ID, times and texts
pub record SameRecord (recs pool recs2 pool2 : List ℕ) (i : ℕ) : Type 0 where
  pub id : source_id recs2 i ≡ source_id recs i
  pub start : start_ms recs2 i ≡ start_ms recs i
  pub end : end_ms recs2 i ≡ end_ms recs i
  pub identifier : identifier_of recs2 pool2 i ≡ identifier_of recs pool i
  pub settings : settings_of recs2 pool2 i ≡ settings_of recs pool i
  pub payload : payload_of recs2 pool2 i ≡ payload_of recs pool i

piece-most : (pool : List ℕ) (from n : ℕ) → length (piece pool from n) ≤ n
unfolding piece
piece-most pool from n = rw length-take (omega arith)

pub scale-fine : (scale T : ℕ) → Limits scale T → scale_allowed scale ≡ true
unfolding timeline_allowed
scale-fine scale T l = both_left (scale_allowed scale) _ (limits-timeline scale T l)

module _ (scale T : ℕ) (recs pool : List ℕ) (fine : judge_list scale T recs pool ≡ Fine) (large : 1000 ≤ scale) where
  sound : Sound scale T recs pool
  sound = fine-sound scale T recs pool fine

  pub given-at : (i : ℕ) → i < count recs → get_or (cues_of scale recs pool) i no_cue ≡ cue_of scale recs pool i
  unfolding cues_of
  given-at i h = listed_at (cue_of scale recs pool) (count recs) i no_cue h

  start-at : (i : ℕ) → i < count recs → back scale (get_or (cues_of scale recs pool) i no_cue).start ≡ start_ms recs i
  unfolding cue_of
  start-at i h = ap (λ (c : Cue). back scale c.start) (given-at i h) ∙ back-tick scale (start_ms recs i) large

  end-at : (i : ℕ) → i < count recs → back scale (get_or (cues_of scale recs pool) i no_cue).end ≡ end_ms recs i
  unfolding cue_of
  end-at i h = ap (λ (c : Cue). back scale c.end) (given-at i h) ∙ back-tick scale (end_ms recs i) large

  body-sound : (i : ℕ) → i < count recs → SoundBody (body_of recs pool i)
  unfolding body_of identifier_of settings_of payload_of
  body-sound i h =
      let s = sound.records i h in
      record {
        id_below = λ n e. let z : source_id recs i ≡ n = cc in omega (arith, z, s.id_below);
        identifier_most = omega (arith, piece-most pool (text_offset recs i) (identifier_length recs i), s.identifier_most);
        settings_most = omega (arith, piece-most pool (settings_offset recs i) (settings_length recs i), s.settings_most);
        payload_most = omega (arith, piece-most pool (payload_offset recs i) (payload_length recs i), s.payload_most);
        identifier_right = s.identifier_right;
        settings_right = s.settings_right;
        payload_right = s.payload_right;
      }

  given-fits : (i : ℕ) → i < length (cues_of scale recs pool) → Fits scale (get_or (cues_of scale recs pool) i no_cue)
  unfolding cue_of body_of
  given-fits i l =
      let h : i < count recs = omega (arith, l, length-cues scale T recs pool) in
      let s = sound.records i h in
      record {
        named = (source_id recs i, ap (λ (c : Cue). c.body.id) (given-at i h));
        sound = subst (λ (c : Cue). SoundBody c.body) (sym (given-at i h)) (body-sound i h);
        start-most = omega (arith, start-at i h, s.lasts, s.ends, sound.limits.time_most);
        end-most = omega (arith, end-at i h, s.ends, sound.limits.time_most);
      }

  few : length (cues_of scale recs pool) ≤ 1024
  few = fine-few scale T recs pool fine

  -- the records that unpacking makes of the list, one by one
  pub same-record : (i : ℕ) → i < count recs → SameRecord recs pool (records_of scale (cues_of scale recs pool)) (pool_of (cues_of scale recs pool)) i
  unfolding cue_of body_of
  same-record i h =
      let cs = cues_of scale recs pool in
      let l : i < length cs = omega (arith, h, length-cues scale T recs pool) in
      let g = given-at i h in
      record {
        id = id-read scale cs few given-fits i l ∙ ap (λ (c : Cue). id_of c.body.id) g;
        start = start-read scale cs few given-fits i l ∙ start-at i h;
        end = end_read scale cs few given-fits i l ∙ end-at i h;
        identifier = identifier_is scale cs few given-fits i l ∙ ap (λ (c : Cue). c.body.identifier) g;
        settings = settings_is scale cs few given-fits i l ∙ ap (λ (c : Cue). c.body.settings) g;
        payload = payload_is scale cs few given-fits i l ∙ ap (λ (c : Cue). c.body.payload) g;
      }

  pub same_length : length (records_of scale (cues_of scale recs pool)) ≡ length recs
  unfolding count
  same_length = omega (arith, length-recs scale (cues_of scale recs pool) few given-fits, length-cues scale T recs pool, sound.whole)

  good-times : (i : ℕ) → i < length (cues_of scale recs pool) → judge_times scale (cues_of scale recs pool) i ≡ Fine
  unfolding judge_times bad_times
  good-times i l =
      let h : i < count recs = omega (arith, l, length-cues scale T recs pool) in
      let s = sound.records i h in
      rw (start-at i h, end-at i h, le-ltb 359999999 (start_ms recs i) (omega (arith, s.lasts, s.ends, sound.limits.time_most)), le-ltb 359999999 (end_ms recs i) (omega (arith, s.ends, sound.limits.time_most)), lt-leb (end_ms recs i) (start_ms recs i) s.lasts)

  -- unpacking a track that holds the packed list answers that list and T
  pub comes_back : (table samples : List ℕ) (a b : ℕ) → judge_track table samples ≡ Fine → track_of table samples ≡ packed (cues_of scale recs pool) (tick scale T)
      → length recs ≤ a → length (pool_of (cues_of scale recs pool)) ≤ b
      → (unpack_of scale table samples a b ≡ Done (length recs) (length (pool_of (cues_of scale recs pool))) T) × (track_cues table samples ≡ cues_of scale recs pool)
  unfolding unpack_of judge_end done_with track_ms
  comes_back table samples a b f e ra rb =
      let cs = cues_of scale recs pool in
      let proper = fine-proper scale T recs pool fine in
      let list : unpack (track_of table samples) ≡ done cs = ap unpack e ∙ round_trip cs (tick scale T) proper (cues-named scale T recs pool) few in
      let ms : track_ms scale table samples ≡ T = ap (back scale) (ap total e ∙ (packed-right cs (tick scale T) proper).sums) ∙ back-tick scale T large in
      let ok = scale-fine scale T sound.limits in
      let k = same_length in
      let ended : judge_end scale T cs ≡ Fine = rw (each_all (judge_times scale cs) (length cs) good-times, limits-timeline scale T sound.limits) in
      let room : unpack_room scale table samples ≡ Done (length recs) (length (pool_of cs)) T =
      sym (list_done scale table samples ok f cs (sym list))
      ∙ ap (λ (t : ℕ). answer_by (judge_end scale t cs) (done_with scale t cs)) ms
      ∙ ap (λ (v : Verdict). answer_by v (done_with scale T cs)) ended
      ∙ ap (λ (n : ℕ). Done n (length (pool_of cs)) T) k in (
        ap (roomed a b) room ∙ room_fits a b (length recs) (length (pool_of cs)) T ra rb,
        sym (cues-done table samples cs (sym list)),
      )
