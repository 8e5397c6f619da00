-- Proofs of the demands from the laws of the crates below.
use Rattle.std.proofs.Common.{Ok}
use Prim.Native.Nat.{ℕ}
use mathlib.Core.Path.{◌≡◌, refl, sym, ap, ap₂, ◌∙◌, subst}
use mathlib.Core.List.{List}
use mathlib.Core.Logic.{◌↔◌}
use native.Mathlib.Omega.{arith}
use borrow.Author.Tests.{lt-ltb, le-ltb}
use lib.ListN.{length, take, drop}
use Rattle.base.proofs.Over.{take-over, drop-over}
use Rattle.verdict.specs.declared.Refusal.{Refusal}
use Rattle.verdict.specs.Verdict.{Verdict, Fine, Refused as Refuses}
use Rattle.verdict.specs.Judgement.{fault}
use Rattle.verdict.proofs.Judgement.{both-fine}
use Rattle.times.specs.Times.{tick}
use Rattle.timeline.specs.Tracks.{Right}
use Rattle.timeline.specs.Packing.{packed}
use Rattle.timeline.specs.Checking.{accepted, wrong, short}
use Rattle.timeline.proofs.Answers.{good-not-bad, not-bad-good}
use Rattle.timeline.proofs.Packed.{honest-right}
use Rattle.timeline.proofs.Fewest.{fewest}
use Rattle.cues.specs.Judgement.{judge_list}
use Rattle.cues.specs.List.{cues_of}
use Rattle.cues.proofs.Sound.{fine-proper}
use Rattle.table.specs.Table.{row_count}
use Rattle.track.specs.Track.{track_of, judge_track, Readable}
use Rattle.track.proofs.Laws.{fine-readable, readable-fine}
use Rattle.track.proofs.Samples.{length-track, rows-positive, positive-rows}
use Rattle.pack.specs.Packed.{Packed, Done, Refused}
use Rattle.pack.specs.Packing.{packed_track, table_bytes, samples_bytes, pack_room, roomed, packed_of}
use Rattle.pack.proofs.Answers.{packs, done-means}
use Rattle.pack.proofs.Track.{packed-is-right, samples-most, reads-back, packed-readable}
use Rattle.conform.specs.Checked.{Checked, Passed, BadList, BadTrack}
use Rattle.conform.specs.Conformance.{conformance, of_track, verdict_of}
use Rattle.conform.proofs.Blame.{verdict-is, passes, track-at-fault, list-at-fault}
use Rattle.conform.proofs.Exactly.{answers-exactly}
use Rattle.demands.specs.Calls.{PackCall, CheckCall}
use Rattle.demands.specs.Packing.{Written, PackingWrites, RefusedPackingKeeps, PackingIsDone, Tells, PackRoomTells}
use Rattle.demands.specs.Checking.{Conforms, AcceptsExactly, BlamesExactly, DiffersExactly, EndsEarlyExactly, HonestPasses, OwnPasses, FewestSamples}

-- ---- demand 2: packing

-- what a call that is done has written
module _ (scale T : ℕ) (records pool table samples table_after samples_after : List ℕ) (n t b : ℕ) (c : PackCall scale T records pool table samples table_after samples_after (Done n t b)) where
  pub fine : judge_list scale T records pool ≡ Fine
  fine = (done-means scale T records pool (length table) (length samples) n t b (sym c.answers)).fine

  pub table_is : take t table_after ≡ table_bytes (packed_track scale T records pool)
  table_is =
      ap (take t) c.table_holds
      ∙ take-over (table_bytes (packed_track scale T records pool)) table t (done-means scale T records pool (length table) (length samples) n t b (sym c.answers)).table_is

  pub samples_are : take b samples_after ≡ samples_bytes (packed_track scale T records pool)
  samples_are =
      ap (take b) c.samples_hold
      ∙ take-over (samples_bytes (packed_track scale T records pool)) samples b (done-means scale T records pool (length table) (length samples) n t b (sym c.answers)).bytes_are

  pub track-is : track_of (take t table_after) (take b samples_after) ≡ packed (cues_of scale records pool) (tick scale T)
  track-is = ap₂ track_of table_is samples_are ∙ reads-back scale T records pool fine

  pub track-readable : Readable (take t table_after) (take b samples_after)
  track-readable =
      subst (λ (x : List ℕ). Readable x (take b samples_after)) (sym table_is)
      (subst (Readable (table_bytes (packed_track scale T records pool))) (sym samples_are) (packed-readable scale T records pool fine))

  pub track-right : Right (cues_of scale records pool) (tick scale T) (track_of (take t table_after) (take b samples_after))
  unfolding packed_track
  track-right = subst (Right (cues_of scale records pool) (tick scale T)) (sym track-is) (packed-is-right scale T records pool fine)

  pub samples-counted : n ≡ length (packed_track scale T records pool)
  samples-counted = (done-means scale T records pool (length table) (length samples) n t b (sym c.answers)).samples_are

  pub rows_are : n ≡ row_count (take t table_after)
  unfolding packed_track
  rows_are = omega (arith, samples-counted, ap length track-is, length-track (take t table_after) (take b samples_after))

  written : Written scale T records pool (take t table_after) (take b samples_after) n t b
  unfolding packed_track
  written =
      let w = done-means scale T records pool (length table) (length samples) n t b (sym c.answers) in
      record {
        fine = fine;
        table_is = table_is;
        samples_are = samples_are;
        table_size = ap length table_is ∙ sym w.table_is;
        samples_size = ap length samples_are ∙ sym w.bytes_are;
        readable = track-readable;
        read = track-is;
        right = track-right;
        counted = rows_are;
        few = omega (arith, samples-counted, samples-most scale T records pool fine);
      }

  kept : (drop t table_after ≡ drop t table) × (drop b samples_after ≡ drop b samples)
  kept =
      let w = done-means scale T records pool (length table) (length samples) n t b (sym c.answers) in (
        ap (drop t) c.table_holds ∙ drop-over (table_bytes (packed_track scale T records pool)) table t w.table_is,
        ap (drop b) c.samples_hold ∙ drop-over (samples_bytes (packed_track scale T records pool)) samples b w.bytes_are,
      )

pub packing-writes : PackingWrites
packing-writes scale T records pool table samples table_after samples_after n t b c =
    let k = kept scale T records pool table samples table_after samples_after n t b c in
    (written scale T records pool table samples table_after samples_after n t b c, k.0, k.1)

pub refused-packing-keeps : RefusedPackingKeeps
refused-packing-keeps scale T records pool table samples table_after samples_after r c = (c.table_holds, c.samples_hold)

pub packing-is-done : PackingIsDone
unfolding packed_track
packing-is-done scale T records pool table samples table_after samples_after answer c fine h k = c.answers ∙ packs scale T records pool (length table) (length samples) fine h k

tells : (p : Packed) (a c : ℕ) (answer : Packed) → answer ≡ roomed a c p → Tells p a c answer
tells (Refused r) a c answer e = e
tells (Ok x) a c answer e = ((λ h k. e ∙ rw (le-ltb a x.table h, le-ltb c x.bytes k)), (λ h. e ∙ rw (lt-ltb a x.table h)), λ h k. e ∙ rw (le-ltb a x.table h, lt-ltb c x.bytes k))

pub pack-room-tells : PackRoomTells
unfolding packed_of
pack-room-tells scale T records pool table samples table_after samples_after answer c = tells (pack_room scale T records pool) (length table) (length samples) answer c.answers

-- ---- demand 3: the check

right-conforms : (scale T : ℕ) (records pool table samples : List ℕ) → Readable table samples → Right (cues_of scale records pool) (tick scale T) (track_of table samples)
    → Conforms scale T records pool table samples
right-conforms scale T records pool table samples r w =
    record { readable = r; positive = positive-rows table samples w.positive; sums = w.sums; holds = w.holds }

conforms-right : (scale T : ℕ) (records pool table samples : List ℕ) → Conforms scale T records pool table samples → Right (cues_of scale records pool) (tick scale T) (track_of table samples)
conforms-right scale T records pool table samples w = record { positive = rows-positive table samples w.positive; sums = w.sums; holds = w.holds }

-- what is accepted was read
accepted-reads : (scale T : ℕ) (records pool table samples : List ℕ) → conformance scale T records pool table samples ≡ Fine → judge_track table samples ≡ Fine
unfolding conformance
accepted-reads scale T records pool table samples e = (both-fine (judge_track table samples) _ (both-fine (judge_list scale T records pool) _ e).1).0

accepted-list : (scale T : ℕ) (records pool table samples : List ℕ) → conformance scale T records pool table samples ≡ Fine → judge_list scale T records pool ≡ Fine
unfolding conformance
accepted-list scale T records pool table samples e = (both-fine (judge_list scale T records pool) _ e).0

module _ (scale T : ℕ) (records pool table samples : List ℕ) (answer : Checked) (c : CheckCall scale T records pool table samples answer) where
  verdict-of : (x : Checked) → answer ≡ x → conformance scale T records pool table samples ≡ verdict_of x
  verdict-of x e = sym (verdict-is scale T records pool table samples) ∙ ap verdict_of (sym c.answers ∙ e)

pub accepts-exactly : AcceptsExactly
accepts-exactly scale T records pool table samples answer c = (
  (λ e. let q = verdict-of scale T records pool table samples answer c Passed e in
      let fine = accepted-list scale T records pool table samples q in
      let reads = accepted-reads scale T records pool table samples q in
      (fine, right-conforms scale T records pool table samples (fine-readable table samples reads).0 ((answers-exactly scale T records pool table samples fine reads accepted tt).0 q))),
  λ w. let v = w.1 in
      c.answers ∙ passes scale T records pool table samples
      ((answers-exactly scale T records pool table samples w.0 (readable-fine table samples v.readable v.positive) accepted tt).1 (conforms-right scale T records pool table samples v)),
)

-- a fault of the track beside a list without fault
track-refused : (scale T : ℕ) (records pool table samples : List ℕ) (r : Refusal) → judge_list scale T records pool ≡ Fine → judge_track table samples ≡ Refuses r
    → conformance scale T records pool table samples ≡ Refuses r
unfolding conformance
track-refused scale T records pool table samples r f g = rw (f, g)

pub blames-exactly : BlamesExactly
blames-exactly scale T records pool table samples answer c r =
    let w = go (judge_list scale T records pool) refl in (w.0, w.1, λ f g. track-is-blamed f ∙ ap of_track (track-refused scale T records pool table samples r f g))
  where
    list-is : (q : Refusal) → judge_list scale T records pool ≡ Refuses q → answer ≡ BadList q
    list-is q f = c.answers ∙ list-at-fault scale T records pool table samples q f

    track-is-blamed : judge_list scale T records pool ≡ Fine → answer ≡ of_track (conformance scale T records pool table samples)
    track-is-blamed f = c.answers ∙ track-at-fault scale T records pool table samples f

    no-list : (v : Verdict) → answer ≡ of_track v → answer ≡ BadList r → ◌≡◌ {A = ℕ} 0 1
    no-list Fine e q = cc
    no-list (Refuses x) e q = cc

    go : (v : Verdict) → judge_list scale T records pool ≡ v → ((answer ≡ BadList r) ↔ (judge_list scale T records pool ≡ Refuses r)) × (answer ≡ BadTrack r → judge_list scale T records pool ≡ Fine)
    go Fine f = (((λ e. absurd (omega (arith, no-list (conformance scale T records pool table samples) (track-is-blamed f) e))), list-is r), λ e. f)
    go (Refuses q) f = (
      ((λ e. let z = list-is q f in let w : q ≡ r = cc in f ∙ ap Refuses w), list-is r),
      λ e. let z = list-is q f in let k : ◌≡◌ {A = ℕ} 0 1 = cc in absurd (omega arith),
    )

pub differs-exactly : DiffersExactly
differs-exactly scale T records pool table samples answer c fine reads i l =
    let m = answers-exactly scale T records pool table samples fine reads (wrong i) l in
    let n = length-track table samples in (
      (λ e. let w = m.0 (verdict-of scale T records pool table samples answer c (BadTrack (fault 16 i)) e) in (w.1, λ j k. good-not-bad _ _ _ j (w.2 j k))),
      λ w. c.answers ∙ track-at-fault scale T records pool table samples fine
          ∙ ap of_track (m.1 (omega arith, w.0, λ j k. not-bad-good (cues_of scale records pool) (tick scale T) (track_of table samples) j (w.1 j k))),
    )

pub ends-early-exactly : EndsEarlyExactly
ends-early-exactly scale T records pool table samples answer c fine reads =
    let m = answers-exactly scale T records pool table samples fine reads (short (row_count table)) refl in
    let n = length-track table samples in (
      (λ e. let w = m.0 (verdict-of scale T records pool table samples answer c (BadTrack (fault 16 (row_count table))) e) in ((λ j l. w.1 j (omega arith)), w.2)),
      λ w. c.answers ∙ track-at-fault scale T records pool table samples fine ∙ ap of_track (m.1 (sym n, (λ j l. w.0 j (omega arith)), w.1)),
    )

pub honest-passes : HonestPasses
honest-passes scale T records pool table samples answer c fine r h =
    (accepts-exactly scale T records pool table samples answer c).1
    (fine, right-conforms scale T records pool table samples r (honest-right (cues_of scale records pool) (tick scale T) (track_of table samples) (fine-proper scale T records pool fine) h))

pub own-passes : OwnPasses
own-passes scale T records pool table samples table_after samples_after n t b answer p c =
    (accepts-exactly scale T records pool (take t table_after) (take b samples_after) answer c).1 (
      fine scale T records pool table samples table_after samples_after n t b p,
      right-conforms scale T records pool (take t table_after) (take b samples_after)
          (track-readable scale T records pool table samples table_after samples_after n t b p) (track-right scale T records pool table samples table_after samples_after n t b p),
    )

pub fewest-samples : FewestSamples
unfolding packed_track
fewest-samples scale T records pool table samples table_after samples_after n t b p others bytes c =
    let f = fine scale T records pool table samples table_after samples_after n t b p in
    let w = ((accepts-exactly scale T records pool others bytes Passed c).0 refl).1 in
    omega (
      arith,
      samples-counted scale T records pool table samples table_after samples_after n t b p,
      length-track others bytes,
      fewest (cues_of scale records pool) (tick scale T) (track_of others bytes) (fine-proper scale T records pool f) (conforms-right scale T records pool others bytes w),
    )
