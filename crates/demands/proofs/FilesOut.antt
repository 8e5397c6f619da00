-- Proofs of what is said of writing a file.
use Prim.Native.Nat.{ℕ, ◌≤◌}
use mathlib.Core.Path.{◌≡◌, refl, sym, ap, ap₂, ◌∙◌, subst, subst⁻¹}
use mathlib.Core.Bool.{Bool, true, false}
use mathlib.Core.List.{List}
use native.Mathlib.Omega.{arith}
use borrow.Author.Tests.{lt-ltb, le-ltb, ltb-true}
use lib.Dec.{ltb}
use lib.ListN.{length, take, drop}
use Rattle.base.specs.Choice.{pick}
use Rattle.base.proofs.Over.{take-over, drop-over}
use Rattle.viable.specs.Judged.{Judged, Right, Bad}
use Rattle.viable.specs.FirstBad.{judged_by}
use Rattle.text.specs.Rules.{webvtt, configuration_text}
use Rattle.text.specs.Beginnings.{configuration_begun}
use Rattle.verdict.specs.Verdict.{Verdict, Fine, Refused}
use Rattle.verdict.specs.Judgement.{fault, text_at}
use Rattle.times.specs.Times.{tick}
use Rattle.records.specs.Records.{count}
use Rattle.cues.specs.Judgement.{judge_list}
use Rattle.cues.specs.List.{SoundRecord, cues_of}
use Rattle.cues.proofs.Sound.{fine-sound, sound-fine}
use Rattle.records_write.specs.Records.{pool_of}
use Rattle.vtt_read.specs.FileRead.{FileRead, Done as ReadDone}
use Rattle.vtt_read.specs.Reading.{file_records, file_pool, read_room}
use Rattle.vtt_laws.proofs.Read.{ReadSo, read-so}
use Rattle.vtt_write.specs.FileWritten.{FileWritten, Done, NoRoom}
use Rattle.vtt_write.specs.Writing.{file_bytes, by_both, write_room, lent, written_of}
use Rattle.vtt_write.proofs.Answers.{room-fine, lent-done}
use Rattle.vtt_round_trip.specs.Statements.{SameButIds}
use Rattle.vtt_round_trip.proofs.Records.{records-come-back, room-comes-back}
use Rattle.vtt_round_trip.proofs.Again.{lists-come-back}
use Rattle.vtt_round_trip.proofs.Needed.{empty-line-lost, arrow-lost, first-line-lost, payload-lost, settings-begin-lost, settings-end-lost}
use Rattle.demands.specs.Calls.{ReadCall, WriteCall}
use Rattle.demands.specs.Unpacking.{text_bytes}
use Rattle.demands.specs.Files.{Tells}
use Rattle.demands.specs.FilesOut.{WriteFileWrites, WrittenFileComesBack, ReadFileComesBack, PremisesNeeded, TellsOut, WriteRoomTells, Blames, WritingBlames, PackedListsAreWritten}
use Rattle.demands.proofs.Offsets.{offsets_are}
use Rattle.demands.proofs.Unpacking.{pool-length}
use Rattle.demands.proofs.Files.{records-are, pool-is, read-room-tells}

-- ---- what a call that is done has written

module _ (configuration records pool file after : List ℕ) (n : ℕ) (c : WriteCall configuration records pool file after (Done n)) where
  done : (write_room configuration records pool ≡ Done n) × (n ≤ length file)
  unfolding written_of
  done = lent-done (length file) (write_room configuration records pool) n (sym c.answers)

  long : n ≡ length (file_bytes configuration records pool)
  long = sym (room-fine configuration records pool n done.0).2

  file-is : take n after ≡ file_bytes configuration records pool
  file-is = ap (take n) c.file_holds ∙ take-over (file_bytes configuration records pool) file n long

pub write-file-writes : WriteFileWrites
write-file-writes configuration records pool file after n c = (
  file-is configuration records pool file after n c,
  ap (drop n) c.file_holds ∙ drop-over (file_bytes configuration records pool) file n (long configuration records pool file after n c),
  (done configuration records pool file after n c).1,
)

-- ---- reading it again

pub written-file-comes-back : WrittenFileComesBack
written-file-comes-back configuration records pool file after n c h others pond others_after pond_after answer d a b =
    let w = (done configuration records pool file after n c).0 in
    let f = file_bytes configuration records pool in
    let m = text_bytes records (count records) in
    let fine = (room-fine configuration records pool n w).1 in
    let l : length (pool_of (cues_of 1000 records pool)) ≡ m = pool-length 1000 359999999 records pool fine (omega arith) in
    let e : ReadCall f others pond others_after pond_after answer = subst (λ (x : List ℕ). ReadCall x others pond others_after pond_after answer) (file-is configuration records pool file after n c) d in
    let r : read_room f ≡ ReadDone (count records) (length records) m = room-comes-back configuration records pool n w h ∙ ap (ReadDone (count records) (length records)) l in
    let t : Tells (ReadDone (count records) (length records) m) (length others) (length pond) answer = subst (λ (x : FileRead). Tells x (length others) (length pond) answer) r (read-room-tells f others pond others_after pond_after answer e) in
    let q = t.0 a b in
    let g : ReadCall f others pond others_after pond_after (ReadDone (count records) (length records) m) = subst (ReadCall f others pond others_after pond_after) q e in
    let s = (records-come-back configuration records pool n w h).0 in (
      q,
      subst⁻¹ (λ (x : List ℕ). SameButIds records pool x (take m pond_after)) (records-are f others pond others_after pond_after (count records) (length records) m g)
          (subst⁻¹ (SameButIds records pool (file_records f)) (pool-is f others pond others_after pond_after (count records) (length records) m g) s),
    )

pub premises-needed : PremisesNeeded
premises-needed = record {
  no_empty_line = empty-line-lost;
  no_arrow = arrow-lost;
  first_line = first-line-lost;
  payload = payload-lost;
  settings_begin = settings-begin-lost;
  settings_end = settings-end-lost;
}

-- ---- what is answered

tells-out : (v w : Verdict) (n m : ℕ) (answer : FileWritten) → answer ≡ lent m (by_both v w n) → TellsOut (by_both v w n) m answer
tells-out (Refused r) w n m answer e = e
tells-out Fine (Refused r) n m answer e = e
tells-out Fine Fine n m answer e = ((λ h. e ∙ rw (le-ltb m n h)), λ h. e ∙ rw (lt-ltb m n h))

pub write-room-tells : WriteRoomTells
unfolding written_of write_room
write-room-tells configuration records pool file after answer c =
    tells-out (text_at 0 (judged_by configuration_text configuration_begun configuration)) (judge_list 1000 359999999 records pool) (length (file_bytes configuration records pool)) (length file) answer c.answers

-- ---- a file that is read, written and read again

module _ (first records pool records_after pool_after : List ℕ) (n r p : ℕ) (c : ReadCall first records pool records_after pool_after (ReadDone n r p)) where
  read : ReadSo first (length records) (length pool) n r p
  read = read-so first (length records) (length pool) n r p (sym c.answers)

  list-is : take r records_after ≡ file_records first
  list-is = records-are first records pool records_after pool_after n r p c

  texts-are : take p pool_after ≡ file_pool first
  texts-are = pool-is first records pool records_after pool_after n r p c

  again : List ℕ
  again = file_bytes webvtt (file_records first) (file_pool first)

  again-is : file_bytes webvtt (take r records_after) (take p pool_after) ≡ again
  unfolding again
  again-is = ap₂ (file_bytes webvtt) list-is texts-are

  -- the room that writing needs
  room-is : write_room webvtt (take r records_after) (take p pool_after) ≡ Done (length again)
  unfolding again
  room-is =
      let b = lists-come-back first read.fine in
      ap₂ (write_room webvtt) list-is texts-are ∙ b.1 ∙ ap Done (sym (room-fine webvtt (file_records first) (file_pool first) b.0 b.1).2)

  -- the room that reading it needs
  back_is : read_room again ≡ ReadDone n r p
  unfolding again read_room
  back_is =
      let b = lists-come-back first read.fine in
      rw (b.2, b.3, ← read.cues, ← read.records, ← read.pool)

  read_again : (x others pond others_after pond_after : List ℕ) (said : FileRead) → x ≡ again → ReadCall x others pond others_after pond_after said → r ≤ length others → p ≤ length pond
      → (said ≡ ReadDone n r p) × (take r others_after ≡ take r records_after) × (take p pond_after ≡ take p pool_after)
  unfolding again
  read_again x others pond others_after pond_after said e g a b =
      let i : ReadCall again others pond others_after pond_after said = subst (λ (y : List ℕ). ReadCall y others pond others_after pond_after said) e g in
      let t : Tells (ReadDone n r p) (length others) (length pond) said = subst (λ (u : FileRead). Tells u (length others) (length pond) said) back_is (read-room-tells again others pond others_after pond_after said i) in
      let d = t.0 a b in
      let j : ReadCall again others pond others_after pond_after (ReadDone n r p) = subst (ReadCall again others pond others_after pond_after) d i in
      let w = lists-come-back first read.fine in
      (d, records-are again others pond others_after pond_after n r p j ∙ w.4 ∙ sym list-is, pool-is again others pond others_after pond_after n r p j ∙ w.5 ∙ sym texts-are)

pub read-file-comes-back : ReadFileComesBack
read-file-comes-back first records pool records_after pool_after n r p c file after answer w h =
    let list = take r records_after in
    let texts = take p pool_after in
    let f = file_bytes webvtt list texts in
    let e = again-is first records pool records_after pool_after n r p c in
    let k : write_room webvtt list texts ≡ Done (length f) = room-is first records pool records_after pool_after n r p c ∙ ap (λ (x : List ℕ). Done (length x)) (sym e) in
    let t : TellsOut (Done (length f)) (length file) answer = subst (λ (x : FileWritten). TellsOut x (length file) answer) k (write-room-tells webvtt list texts file after answer w) in
    let d = t.0 h in
    let q : WriteCall webvtt list texts file after (Done (length f)) = subst (WriteCall webvtt list texts file after) d w in
    let z = file-is webvtt list texts file after (length f) q ∙ e in
    (d, λ others pond others_after pond_after said g a b. read_again first records pool records_after pool_after n r p c (take (length f) after) others pond others_after pond_after said z g a b)

-- ---- who is at fault

module _ (configuration records pool file after : List ℕ) where
  blames : (j : Judged) (w : Verdict) → judged_by configuration_text configuration_begun configuration ≡ j → judge_list 1000 359999999 records pool ≡ w
      → (answer : FileWritten) → answer ≡ lent (length file) (by_both (text_at 0 j) w (length (file_bytes configuration records pool)))
      → WriteCall configuration records pool file after answer → Blames configuration records pool file after answer
  blames (Bad q) w g k answer e c = subst⁻¹ (Blames configuration records pool file after) e ((subst (λ (x : FileWritten). WriteCall configuration records pool file after x) e c).file_holds, (q, refl, ((offsets_are.configuration configuration).1 q).0 g))
  blames Right (Refused r) g k answer e c = subst⁻¹ (Blames configuration records pool file after) e ((subst (λ (x : FileWritten). WriteCall configuration records pool file after x) e c).file_holds, (offsets_are.configuration configuration).0.0 g, k)
  blames Right Fine g k answer e c = chosen (ltb (length file) (length (file_bytes configuration records pool))) refl e
    where
      chosen : (t : Bool) → ltb (length file) (length (file_bytes configuration records pool)) ≡ t → answer ≡ pick t (NoRoom (fault 15 0)) (Done (length (file_bytes configuration records pool))) → Blames configuration records pool file after answer
      chosen true p q =
          subst⁻¹ (Blames configuration records pool file after) q
          ((subst (λ (x : FileWritten). WriteCall configuration records pool file after x) q c).file_holds, (offsets_are.configuration configuration).0.0 g, k, refl, ltb-true (length file) (length (file_bytes configuration records pool)) p)
      chosen false p q = subst⁻¹ (Blames configuration records pool file after) q ((offsets_are.configuration configuration).0.0 g, k)

pub writing-blames : WritingBlames
unfolding written_of write_room
writing-blames configuration records pool file after answer c =
    blames configuration records pool file after (judged_by configuration_text configuration_begun configuration) (judge_list 1000 359999999 records pool) refl refl answer c.answers c

-- ---- what packs can be written

record-written : (scale T : ℕ) (records pool : List ℕ) (i : ℕ) → T ≤ 359999999 → SoundRecord scale T records pool i → SoundRecord 1000 359999999 records pool i
unfolding tick
record-written scale T records pool i t s = record {
  id_below = s.id_below;
  zeros = s.zeros;
  identifier_most = s.identifier_most;
  settings_most = s.settings_most;
  payload_most = s.payload_most;
  inside = s.inside;
  identifier_right = s.identifier_right;
  settings_right = s.settings_right;
  payload_right = s.payload_right;
  lasts = s.lasts;
  ends = omega (arith, s.ends);
  ticks = omega (arith, s.lasts);
  follows = s.follows;
}

pub packed-lists-are-written : PackedListsAreWritten
unfolding tick
packed-lists-are-written scale T records pool f =
    let s = fine-sound scale T records pool f in
    sound-fine 1000 359999999 records pool (record {
      limits = record { some_scale = omega arith; scale_most = omega arith; some_time = omega arith; time_most = omega arith; some_tick = omega arith; tick_most = omega arith };
      whole = s.whole;
      few = s.few;
      records = λ i h. record-written scale T records pool i s.limits.time_most (s.records i h);
      distinct = s.distinct;
    })
