-- Proofs of what is said of reading a file.
use Rattle.std.proofs.Common.{Ok}
use Prim.Native.Nat.{ℕ, ◌<◌, ◌≤◌}
use mathlib.Core.Path.{◌≡◌, sym, ap, ap₂, ◌∙◌, subst}
use mathlib.Core.Logic.{◌≢◌}
use mathlib.Core.Bool.{Bool, true, false}
use mathlib.Core.List.{List, []}
use native.Mathlib.Omega.{arith}
use borrow.Author.Tests.{lt-ltb, le-ltb}
use lib.Dec.{ltb}
use lib.ListN.{length, take, drop, get_or}
use Rattle.base.specs.Choice.{pick}
use Rattle.base.proofs.Over.{take-over, drop-over}
use Rattle.verdict.specs.declared.Refusal.{Refusal}
use Rattle.verdict.specs.Verdict.{Verdict, Fine, Refused as Faulty}
use Rattle.verdict.specs.Judgement.{fault}
use Rattle.times.specs.Times.{tick}
use Rattle.timeline.specs.Packing.{packed}
use Rattle.cues.specs.Judgement.{judge_list}
use Rattle.cues.specs.List.{cues_of}
use Rattle.cues.proofs.Sound.{sound-fine}
use Rattle.pack.specs.Packing.{table_bytes, samples_bytes}
use Rattle.records_write.specs.Records.{pool_of}
use Rattle.unpack_laws.proofs.Reading.{offset_read}
use Rattle.vtt_lines.specs.Lines.{lines_of}
use Rattle.vtt_timing.proofs.Grammar.{timing-means}
use Rattle.vtt_read.specs.FileRead.{FileRead, Done, Refused}
use Rattle.vtt_read.specs.Reading.{unmarked, judge_file, file_cues, numbered_from, file_records, file_pool, answer_by, read_room, roomed, read_of}
use Rattle.vtt_laws.specs.Arrows.{arrow_lines}
use Rattle.vtt_laws.proofs.Sound.{Sounds, file-sound}
use Rattle.vtt_laws.proofs.Records.{length_from, counted-few, counted-fits, id-at, start-at, end-at, identifier-at, settings-at, payload-at, records-many, records-length, records-sound}
use Rattle.vtt_laws.proofs.Read.{ReadSo, read-so}
use Rattle.vtt_laws.proofs.Lines.{arrows-many, cue-line}
use Rattle.vtt_laws.proofs.Refused.{refused-line}
use Rattle.demands.specs.Calls.{PackCall, ReadCall}
use Rattle.demands.specs.Unpacking.{text_bytes}
use Rattle.demands.specs.Files.{CueOfLine, FileList, ReadFileWrites, ReadFileIsFine, ReadFileIsPacked, Tells, ReadRoomTells, RefusedReadingKeeps, RefusedFileLine}
use Rattle.demands.proofs.Demands.{packing-is-done, own-passes}
use Rattle.demands.proofs.Unpacking.{dense}

-- ---- what a call that is done has written

module _ (file records pool records_after pool_after : List ℕ) (n r p : ℕ) (c : ReadCall file records pool records_after pool_after (Done n r p)) where
  so : ReadSo file (length records) (length pool) n r p
  so = read-so file (length records) (length pool) n r p (sym c.answers)

  pub records-are : take r records_after ≡ file_records file
  records-are = ap (take r) c.records_hold ∙ take-over (file_records file) records r so.records

  pub pool-is : take p pool_after ≡ file_pool file
  pool-is = ap (take p) c.pool_holds ∙ take-over (file_pool file) pool p so.pool

  sound : Sounds 0 (file_cues file)
  sound = (file-sound file so.fine).0

  few : length (file_cues file) ≤ 1024
  few = (file-sound file so.fine).1

  there : (i : ℕ) → i < n → i < length (file_cues file)
  there i h = omega (arith, so.cues)

  cue-of : (i : ℕ) → i < n → CueOfLine file (file_records file) (file_pool file) i (get_or (arrow_lines (lines_of (unmarked file))) i 0)
  unfolding file_records file_pool
  cue-of i h =
      let x = file_cues file in
      let k = there i h in
      let w = cue-line file so.fine i k in
      record {
        later = w.later;
        timing = w.timing;
        line = (timing-means (get_or (lines_of (unmarked file)) (get_or (arrow_lines (lines_of (unmarked file))) i 0) []) w.timing).0 w.line;
        start = start-at x sound few i k ∙ w.start;
        end = end-at x sound few i k ∙ w.end;
        settings = settings-at x sound few i k ∙ w.settings;
        identifier = identifier-at x sound few i k ∙ w.identifier;
        payload = payload-at x sound few i k ∙ w.payload;
      }

  list_of : FileList file (file_records file) (file_pool file) n r p
  unfolding file_records file_pool pool_of
  list_of =
      let cs = numbered_from 0 (file_cues file) in
      let m = length_from 0 (file_cues file) in
      let x = so.cues in
      let d = dense 1000 cs (counted-few (file_cues file) sound few) (counted-fits (file_cues file) sound few) in
      record {
        few = omega (arith, few);
        records_bytes = (sym so.records, omega (arith, so.records ∙ records-length (file_cues file) sound few));
        pool_bytes = (sym so.pool, so.pool ∙ d (length cs) (omega arith) ∙ ap (text_bytes (file_records file)) (m ∙ sym x));
        many = records-many (file_cues file) sound few ∙ sym x;
        offset = λ i h. offset_read 1000 cs (counted-few (file_cues file) sound few) (counted-fits (file_cues file) sound few) i (omega (arith, x, m, h)) ∙ d i (omega (arith, x, m, h));
        id = λ i h. id-at (file_cues file) sound few i (there i h);
        arrows = arrows-many file so.fine ∙ sym x;
        cue = cue-of;
      }

  fine : judge_list 1000 359999999 (take r records_after) (take p pool_after) ≡ Fine
  unfolding file_records file_pool
  fine = ap₂ (judge_list 1000 359999999) records-are pool-is ∙ sound-fine 1000 359999999 (file_records file) (file_pool file) (records-sound (file_cues file) sound few)

pub read-file-writes : ReadFileWrites
read-file-writes file records pool records_after pool_after n r p c =
    let w = so file records pool records_after pool_after n r p c in (
      subst (λ (x : List ℕ). FileList file x (take p pool_after) n r p) (sym (records-are file records pool records_after pool_after n r p c))
          (subst (λ (x : List ℕ). FileList file (file_records file) x n r p) (sym (pool-is file records pool records_after pool_after n r p c)) (list_of file records pool records_after pool_after n r p c)),
      ap (drop r) c.records_hold ∙ drop-over (file_records file) records r w.records,
      ap (drop p) c.pool_holds ∙ drop-over (file_pool file) pool p w.pool,
    )

pub read-file-is-fine : ReadFileIsFine
read-file-is-fine = fine

pub read-file-is-packed : ReadFileIsPacked
read-file-is-packed file records pool records_after pool_after n r p c table samples table_after samples_after answer k h l =
    let list = take r records_after in
    let texts = take p pool_after in
    let track = packed (cues_of 1000 list texts) (tick 1000 359999999) in
    let t = length (table_bytes track) in
    let s = length (samples_bytes track) in
    let d = packing-is-done 1000 359999999 list texts table samples table_after samples_after answer k (fine file records pool records_after pool_after n r p c) h l in
    (d, λ said check. own-passes 1000 359999999 list texts table samples table_after samples_after (length track) t s said (subst (PackCall 1000 359999999 list texts table samples table_after samples_after) d k) check)

-- ---- what is answered

tells : (u : FileRead) (a b : ℕ) (answer : FileRead) → answer ≡ roomed a b u → Tells u a b answer
tells (Refused w) a b answer e = e
tells (Ok x) a b answer e = ((λ h k. e ∙ rw (le-ltb a x.records h, le-ltb b x.pool k)), (λ h. e ∙ rw (lt-ltb a x.records h)), λ h k. e ∙ rw (le-ltb a x.records h, lt-ltb b x.pool k))

pub read-room-tells : ReadRoomTells
unfolding read_of
read-room-tells file records pool records_after pool_after answer c = tells (read_room file) (length records) (length pool) answer c.answers

pub refused-reading-keeps : RefusedReadingKeeps
refused-reading-keeps file records pool records_after pool_after w c = (c.records_hold, c.pool_holds)

-- a refusal for another reason than room is the file's
file-at-fault : (v : Verdict) (a b n r p : ℕ) (w : Refusal) → Refused w ≡ roomed a b (answer_by v (Done n r p)) → w.number ≢ 15 → v ≡ Faulty w
unfolding fault
file-at-fault (Faulty x) a b n r p w e h = let q : w ≡ x = cc in ap Faulty (sym q)
file-at-fault Fine a b n r p w e h = absurd (h (chosen (ltb a r) (ltb b p) e))
  where
    chosen : (x y : Bool) → Refused w ≡ pick x (Refused (fault 15 0)) (pick y (Refused (fault 15 1)) (Done n r p)) → w.number ≡ 15
    chosen true y q = let z : w ≡ fault 15 0 = cc in ap (λ (x : Refusal). x.number) z
    chosen false true q = let z : w ≡ fault 15 1 = cc in ap (λ (x : Refusal). x.number) z
    chosen false false q = let z : ◌≡◌ {A = ℕ} 0 1 = cc in absurd (omega arith)

pub refused-file-line : RefusedFileLine
unfolding read_of read_room
refused-file-line file records pool records_after pool_after w c h =
    refused-line file w (file-at-fault (judge_file file) (length records) (length pool) (length (file_cues file)) (length (file_records file)) (length (file_pool file)) w c.answers h)
