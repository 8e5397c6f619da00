-- Laws for unpacking: the rows are ready, the last judgements, and the answer stage by stage.
use Rattle.std.proofs.Common.{Ok}
use Prim.Native.Nat.{ℕ, zero, suc, ◌*◌, ◌≤◌, ◌<◌}
use mathlib.Core.Path.{◌≡◌, refl, sym, ap, ◌∙◌, subst}
use mathlib.Core.Bool.{Bool, true, false, not}
use mathlib.Core.List.{List, [], ◌∷◌, Memᴰ}
use native.Mathlib.Omega.{arith}
use native.Mathlib.Nat.{le_refl}
use lib.Dec.{leb, ltb}
use lib.ListN.{length, get_or}
use borrow.Author.Tests.{ltb-false, not-false, lt-ltb, le-ltb}
use Rattle.base.specs.Choice.{any_of}
use Rattle.base.proofs.Choice.{either}
use Rattle.verdict.specs.declared.Refusal.{Refusal}
use Rattle.verdict.specs.Verdict.{Verdict, Fine, Refused}
use Rattle.verdict.specs.Judgement.{fault, refuse, ◌gives◌at◌, each}
use Rattle.verdict.proofs.Judgement.{both-fine, not-given, each-fine}
use Rattle.times.specs.Times.{back, scale_allowed, timeline_allowed, Limits}
use Rattle.times.proofs.Laws.{scale-limits, timeline-limits}
use Rattle.timeline.specs.Cues.{Body, Cue}
use Rattle.timeline.specs.Tracks.{Sample, total}
use Rattle.timeline.specs.Unpacking.{no_cue, stopped, done, unpack}
use Rattle.timeline.proofs.Listing.{mem-listed}
use Rattle.timeline.proofs.Indexed.{index-mem}
use Rattle.timeline.proofs.Joined.{unpack-right}
use Rattle.wvtt.specs.Sound.{Sound, AllSound}
use Rattle.wvtt_cues.proofs.Sound.{sample-sound}
use Rattle.table.specs.Table.{row_count}
use Rattle.track.specs.Track.{sample_of, track_of, judge_track}
use Rattle.track.proofs.Laws.{fine-readable}
use Rattle.track.proofs.Samples.{track-positive}
use Rattle.rows.specs.declared.Row.{Row}
use Rattle.rows.specs.Table.{row_at, body_at, cue_at, known, Placed, Good}
use Rattle.rows.proofs.Laws.{length-known, known_at}
use Rattle.records_write.specs.Records.{records_to, pool_to, records_of, pool_of}
use Rattle.unpack_write.specs.Rows.{Ready, InTime, size_to}
use Rattle.records_write.proofs.Laws.{length-records}
use Rattle.unpack_write.proofs.Laws.{LengthsOf, lengths-of, length-pool}
use Rattle.unpack.specs.Unpacked.{Unpacked, Done, Refused as Stopped}
use Rattle.unpack.specs.Unpacking.{track_cues, track_ms, bad_times, judge_times, judge_end, judge_unpack, answer_by, done_with, unpack_room, roomed, unpack_of, out_of}
use Rattle.unpack.specs.Rows.{row_times, end_of, rows_room, Measurable, RowsReady, RowsOf, ReadAs}
use Rattle.gather.specs.Gathered.{Gathered, All, Fault}
use Rattle.gather.specs.Gathering.{unpacked_of, Complete}
use Rattle.unpack.proofs.Kept.{EachCue, EachBody, unpack-keeps}

-- ---- the cues of a track without fault are sound

all_sound : (ys : List Body) → AllSound ys → EachBody Sound ys
unfolding AllSound EachBody
all_sound [] h = tt
all_sound (y ∷ ys) h = (h.0, all_sound ys h.1)

cue-start : (samples : List ℕ) (r : Row) → (cue_at samples r).start ≡ r.start
unfolding cue_at
cue-start samples r = refl

cue-end : (samples : List ℕ) (r : Row) → (cue_at samples r).end ≡ r.end
unfolding cue_at
cue-end samples r = refl

-- a row whose cue is sound is ready to be written
row-ready : (samples : List ℕ) (r : Row) → Placed (length samples) r → Sound (cue_at samples r).body → LengthsOf (body_at samples true r) r
    → r.start < 281474976710656 → r.end < 281474976710656 → Ready (length samples) r
unfolding cue_at body_at
row-ready samples r p y w a b = record {
  short = record {
    identifier_order = p.identifier.order;
    identifier_most = omega (arith, w.identifier, y.identifier_most, p.identifier.order);
    settings_order = p.settings.order;
    settings_most = omega (arith, w.settings, y.settings_most, p.settings.order);
    payload_order = p.payload.order;
    payload_most = omega (arith, w.payload, y.payload_most, p.payload.order);
  };
  placed = p;
  id_below = y.id_below r.id refl;
  start_below = a;
  end_below = b;
}

module _ (table samples : List ℕ) (fine : judge_track table samples ≡ Fine) where
  track-sound : (s : Sample) → Memᴰ s (track_of table samples) → EachBody Sound s.held
  unfolding track_of sample_of
  track-sound s m =
      let w = mem-listed (sample_of table samples) (row_count table) s m in
      subst (λ (x : Sample). EachBody Sound x.held) (sym w.2) (all_sound _ (sample-sound _ ((fine-readable table samples fine).0.reads w.0 w.1)))

  pub list-sound : (cs : List Cue) → unpack (track_of table samples) ≡ done cs → EachCue Sound cs
  list-sound cs e = unpack-keeps Sound (track_of table samples) cs (track-positive table samples fine) track-sound e

  -- the rows of the list are ready to be written
  pub rows_ready : (tab : List ℕ) (n : ℕ) → Good (length samples) tab n → done (known samples tab n) ≡ unpack (track_of table samples)
      → total (track_of table samples) < 281474976710656 → (i : ℕ) → i < n → Ready (length samples) (row_at tab i)
  rows_ready tab n g e t i h =
      let cs = known samples tab n in
      let l : i < length cs = omega (arith, length-known samples tab n) in
      let here = known_at samples tab n i h in
      let list = unpack-right (track_of table samples) cs (track-positive table samples fine) (sym e) in
      let m = index-mem cs i no_cue l in
      let lasts = list.proper.lasts (get_or cs i no_cue) m in
      let ends = list.proper.ends (get_or cs i no_cue) m in
      let y = subst (λ (c : Cue). Sound c.body) here (list-sound cs (sym e) i l) in
      let w = lengths-of samples (row_at tab i) (g.placed i h) in
      let start = ap (λ (c : Cue). c.start) here ∙ cue-start samples (row_at tab i) in
      let end = ap (λ (c : Cue). c.end) here ∙ cue-end samples (row_at tab i) in
      row-ready samples (row_at tab i) (g.placed i h) y w (omega (arith, start, end, lasts, ends)) (omega (arith, end, ends))

-- ---- the last judgements

each_same : (f g : ℕ → Verdict) (n : ℕ) → ((i : ℕ) → i < n → f i ≡ g i) → each f n ≡ each g n
unfolding each
each_same f g zero h = refl
each_same f g (suc n) h = rw (each_same f g n (λ i l. h i (omega arith)), h n (omega arith))

module _ (samples tab : List ℕ) (n : ℕ) where
  pub times-same : (scale : ℕ) → each (row_times scale tab) n ≡ each (judge_times scale (known samples tab n)) n
  unfolding row_times judge_times cue_at
  times-same scale = each_same (row_times scale tab) (judge_times scale (known samples tab n)) n
      (λ i l. ap (λ (c : Cue). bad_times scale c.start c.end gives 10 at i) (sym (known_at samples tab n i l)))

  pub records-length : (scale : ℕ) → length (records_of scale (known samples tab n)) ≡ n * 24
  unfolding records_of
  records-length scale = length-records scale (known samples tab n) (length (known samples tab n)) ∙ ap (λ (k : ℕ). k * 24) (length-known samples tab n)

  pub records-whole : (scale : ℕ) → records_to scale (known samples tab n) n ≡ records_of scale (known samples tab n)
  unfolding records_of
  records-whole scale = ap (records_to scale (known samples tab n)) (sym (length-known samples tab n))

  pub pool-whole : pool_to (known samples tab n) n ≡ pool_of (known samples tab n)
  unfolding pool_of
  pool-whole = ap (pool_to (known samples tab n)) (sym (length-known samples tab n))

  module _ (p : (i : ℕ) → i < n → Placed (length samples) (row_at tab i)) where
    pub pool-length : length (pool_of (known samples tab n)) ≡ size_to tab n
    pool-length = ap length (sym pool-whole) ∙ length-pool samples tab n p n (le_refl n)

    -- said of the rows, and of the cues
    pub end_same : (scale T : ℕ) → end_of scale tab n T ≡ judge_end scale T (known samples tab n)
    unfolding end_of judge_end
    end_same scale T = rw (length-known samples tab n, times-same scale)

    pub room-same : (scale T : ℕ) → rows_room scale tab n T ≡ answer_by (judge_end scale T (known samples tab n)) (done_with scale T (known samples tab n))
    unfolding rows_room done_with
    room-same scale T = rw (end_same scale T, records-length scale, pool-length)

-- what it says where it finds no fault
pub record Ended (scale : ℕ) (tab : List ℕ) (n T : ℕ) : Type 0 where
  pub in-time : (i : ℕ) → i < n → InTime scale (row_at tab i)
  pub limits : Limits scale T

neither : (a b : Bool) → any_of a b ≡ false → (a ≡ false) × (b ≡ false)
neither true b e = let z : ◌≡◌ {A = ℕ} 0 1 = cc in absurd (omega arith)
neither false b e = (refl, e)

pub end-fine : (scale : ℕ) (tab : List ℕ) (n T : ℕ) → end_of scale tab n T ≡ Fine → Ended scale tab n T
unfolding end_of row_times bad_times
end-fine scale tab n T e =
    let a = both-fine (each (row_times scale tab) n) _ e in
    record {
      in-time = λ i l.
          let t = not-given (bad_times scale (row_at tab i).start (row_at tab i).end) 10 i (each-fine (row_times scale tab) n i a.0 l) in
          let x = neither (ltb 359999999 (back scale (row_at tab i).start)) _ t in
          let y = neither (ltb 359999999 (back scale (row_at tab i).end)) (leb (back scale (row_at tab i).end) (back scale (row_at tab i).start)) x.1 in
          (ltb-false 359999999 (back scale (row_at tab i).start) x.0, ltb-false 359999999 (back scale (row_at tab i).end) y.0);
      limits = timeline-limits scale T (not-false (timeline_allowed scale T) (not-given (not (timeline_allowed scale T)) 10 n a.1));
    }

-- answers that are the same have the same lengths
abbrev records_in : Unpacked → ℕ
records_in (Ok x) = x.records
records_in (Stopped r) = 0

abbrev pool_in : Unpacked → ℕ
pool_in (Ok x) = x.pool
pool_in (Stopped r) = 0

-- a room with lengths: nothing is at fault, and the lengths are those of the rows
pub room-fine : (scale : ℕ) (tab : List ℕ) (n T : ℕ) (u : Unpacked) (x y z : ℕ) → u ≡ rows_room scale tab n T → u ≡ Done x y z
    → Ended scale tab n T × (x ≡ n * 24) × (y ≡ size_to tab n)
unfolding rows_room
room-fine scale tab n T u x y z e q = go (end_of scale tab n T) refl
  where
    apart : (r : Refusal) → rows_room scale tab n T ≡ Stopped r → ◌≡◌ {A = ℕ} 0 1
    apart r k = cc

    same : rows_room scale tab n T ≡ Done (n * 24) (size_to tab n) T → (x ≡ n * 24) × (y ≡ size_to tab n)
    same k = let d = sym q ∙ e ∙ k in (ap records_in d, ap pool_in d)

    go : (v : Verdict) → end_of scale tab n T ≡ v → Ended scale tab n T × (x ≡ n * 24) × (y ≡ size_to tab n)
    go (Refused r) f = absurd (omega (arith, apart r (ap (λ (v : Verdict). answer_by v (Done (n * 24) (size_to tab n) T)) f)))
    go Fine f = let w = same (ap (λ (v : Verdict). answer_by v (Done (n * 24) (size_to tab n) T)) f) in (end-fine scale tab n T f, w.0, w.1)

-- a room with a refusal is the answer, and leaves an output as it is
pub room-refused : (a b : ℕ) (u w : Unpacked) (r : Refusal) → u ≡ w → u ≡ Stopped r → (u ≡ roomed a b w) × ((x d : List ℕ) → d ≡ out_of u x d)
room-refused a b u w r e q = (q ∙ ap (roomed a b) (sym q ∙ e), λ x d. ap (λ (z : Unpacked). out_of z x d) (sym q))

-- lengths that fit are the answer; and the other way round
pub room_fits : (a b n p t : ℕ) → n ≤ a → p ≤ b → roomed a b (Done n p t) ≡ Done n p t
room_fits a b n p t h k = rw (le-ltb a n h, le-ltb b p k)

pub room-done : (a b : ℕ) (u : Unpacked) (n p t : ℕ) → roomed a b u ≡ Done n p t → u ≡ Done n p t
room-done a b (Stopped r) n p t e = e
room-done a b (Ok w) n p t e =
    either w.records a
    (λ h. either w.pool b (λ k. sym (room_fits a b w.records w.pool w.t h k) ∙ e) (λ k. let q : roomed a b (Done w.records w.pool w.t) ≡ Stopped (fault 15 1) = rw (le-ltb a w.records h, lt-ltb b w.pool k) in absurd (apart _ q)))
    (λ h. let q : roomed a b (Done w.records w.pool w.t) ≡ Stopped (fault 15 0) = rw (lt-ltb a w.records h) in absurd (apart _ q))
  where
    apart : (r : Refusal) → roomed a b (Done w.records w.pool w.t) ≡ Stopped r → ⊥
    apart r q = let k : ◌≡◌ {A = ℕ} 0 1 = cc in omega arith

pub ready-measurable : (scale : ℕ) (samples tab : List ℕ) (n sum : ℕ) → RowsReady scale samples tab n sum → Measurable scale tab n sum
ready-measurable scale samples tab n sum w = record {
  scaled = w.scaled;
  most = w.most;
  rows = w.rows;
  below = λ i h. ((w.ready i h).start_below, (w.ready i h).end_below);
  short = λ i h. (w.ready i h).short;
  sum_below = w.sum_below;
}

-- ---- the answer, stage by stage

pub cues-done : (table samples : List ℕ) (cs : List Cue) → done cs ≡ unpack (track_of table samples) → cs ≡ track_cues table samples
unfolding track_cues
cues-done table samples cs e = rw (← e)

module _ (scale : ℕ) (table samples : List ℕ) where
  pub scale-refused : scale_allowed scale ≡ false → Stopped (fault 10 0) ≡ unpack_room scale table samples
  unfolding unpack_room judge_unpack
  scale-refused e = rw e

  module _ (ok : scale_allowed scale ≡ true) where
    pub track-refused : (r : Refusal) → judge_track table samples ≡ Refused r → Stopped r ≡ unpack_room scale table samples
    unfolding unpack_room judge_unpack
    track-refused r e = rw (ok, e)

    module _ (fine : judge_track table samples ≡ Fine) where
      pub list-stopped : (m i : ℕ) → stopped m i ≡ unpack (track_of table samples) → Stopped (fault m i) ≡ unpack_room scale table samples
      unfolding unpack_room judge_unpack
      list-stopped m i e = rw (ok, fine, ← e)

      pub list_done : (cs : List Cue) → done cs ≡ unpack (track_of table samples)
          → answer_by (judge_end scale (track_ms scale table samples) cs) (done_with scale (track_ms scale table samples) cs) ≡ unpack_room scale table samples
      unfolding unpack_room judge_unpack track_cues
      list_done cs e = rw (ok, fine, ← e)

      -- the rows that were gathered are those of the track's cues
      pub rows_are : (tab : List ℕ) (n sum : ℕ) → n * 9 ≤ length tab → n ≤ 1024 → Good (length samples) tab n → sum ≡ total (track_of table samples)
          → sum < 281474976710656 → done (known samples tab n) ≡ unpack (track_of table samples) → RowsOf scale table samples tab n sum
      unfolding track_ms
      rows_are tab n sum rows most good sums below e =
          let is = cues-done table samples (known samples tab n) e in
          record {
            rows_ready = record {
              scaled = (scale-limits scale ok).0;
              most = most;
              rows = rows;
              ready = rows_ready table samples fine tab n good e (omega (arith, sums, below));
              sum_below = below;
            };
            cues = is;
            room = ap (λ (t : ℕ). answer_by (judge_end scale (back scale t) (track_cues table samples)) (done_with scale (back scale t) (track_cues table samples))) sums
                ∙ ap (λ (cs : List Cue). answer_by (judge_end scale (back scale (total (track_of table samples))) cs) (done_with scale (back scale (total (track_of table samples))) cs)) (sym is)
                ∙ list_done (known samples tab n) e;
          }

-- what was gathered is what unpacking reads
pub read-done : (scale : ℕ) (table samples : List ℕ) → scale_allowed scale ≡ true → judge_track table samples ≡ Fine → (tab : List ℕ) (g : Gathered) → 9216 ≤ length tab
    → unpacked_of samples tab g ≡ unpack (track_of table samples) → Complete table samples tab g → ReadAs scale table samples tab g
read-done scale table samples ok fine tab (All n t) l e w = rows_are scale table samples ok fine tab n t (omega (arith, w.0, l)) w.0 w.1 w.2 w.3 e
read-done scale table samples ok fine tab (Fault r) l e w = ap Stopped w ∙ list-stopped scale table samples ok fine r.number r.place e

module _ (scale : ℕ) (table samples tab : List ℕ) (n sum : ℕ) (w : RowsOf scale table samples tab n sum) where
  -- the room for the rows is that of the track, and so is the answer
  pub rows-room : rows_room scale tab n (back scale sum) ≡ unpack_room scale table samples
  rows-room =
      room-same samples tab n (λ i h. (w.rows_ready.ready i h).placed) scale (back scale sum)
      ∙ ap (λ (cs : List Cue). answer_by (judge_end scale (back scale sum) cs) (done_with scale (back scale sum) cs)) w.cues
      ∙ w.room

  pub rows-answer : (a b : ℕ) → roomed a b (rows_room scale tab n (back scale sum)) ≡ unpack_of scale table samples a b
  unfolding unpack_of
  rows-answer a b = ap (roomed a b) rows-room

-- ---- the loop over the rows' times

module _ (scale : ℕ) (tab : List ℕ) (i : ℕ) (r : Row) (b : Bool) (e : r ≡ row_at tab i) (q : b ≡ bad_times scale r.start r.end) where
  row-times : row_times scale tab i ≡ b gives 10 at i
  unfolding row_times
  row-times = ap (λ (x : Row). bad_times scale x.start x.end gives 10 at i) (sym e) ∙ ap (λ (x : Bool). x gives 10 at i) (sym q)

  pub times-bad : b ≡ true → row_times scale tab i ≡ refuse 10 i
  times-bad h = row-times ∙ rw h

  pub times-good : b ≡ false → row_times scale tab i ≡ Fine
  times-good h = row-times ∙ rw h
