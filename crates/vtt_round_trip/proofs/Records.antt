-- The captions of a list without fault, and the records and the pool that are read of the file.
use Prim.Native.Nat.{ℕ, zero, suc, ◌+◌, ◌<◌, ◌≤◌}
use mathlib.Core.Path.{◌≡◌, refl, sym, ap, ap₂, ◌∙◌, subst⁻¹}
use mathlib.Core.Bool.{true}
use mathlib.Core.List.{List, ◌∷◌, ◌++◌}
use native.Mathlib.Omega.{arith}
use lib.ListN.{length, drop, get_or, drop_of_length-le}
use Rattle.text.specs.Rules.{configuration_text}
use Rattle.text.specs.Beginnings.{configuration_begun}
use Rattle.timeline.specs.Cues.{Cue}
use Rattle.timeline.specs.Unpacking.{no_cue}
use Rattle.timeline.proofs.Listing.{length-listed, listed_at, listed-from}
use Rattle.verdict.specs.Verdict.{Verdict, Fine, Refused}
use Rattle.verdict.proofs.Judgement.{text-fine}
use Rattle.records.specs.Records.{count, start_ms}
use Rattle.records.proofs.Laws.{text-lengths}
use Rattle.cues.specs.Caption.{Caption, SoundCaption}
use Rattle.cues.specs.Judgement.{caption_of, start_before, judge_list}
use Rattle.cues.specs.List.{body_of, cue_of, cues_of, Sound, captions_of}
use Rattle.cues.proofs.Sound.{fine-iff, length-cues}
use Rattle.records_write.specs.Records.{texts_of, pool_to, records_of, pool_of}
use Rattle.vtt_read.specs.Reading.{cue_with, numbered_from, file_cues, file_records, file_pool, read_room}
use Rattle.vtt_read.proofs.Lists.{length_from, cue-at}
use Rattle.vtt_write.specs.FileWritten.{Done}
use Rattle.vtt_write.specs.Writing.{file_bytes, by_both, write_room}
use Rattle.vtt_laws.proofs.Sound.{Sounds}
use Rattle.vtt_laws.proofs.Records.{nothing, id-at, start-at, end-at, identifier-at, settings-at, payload-at, records-many, records-length}
use Rattle.vtt_round_trip.specs.Statements.{CuesComeBack, SameButIds, RecordsComeBack, RoomComesBack}
use Rattle.vtt_round_trip.proofs.Writable.{sounds-writable}
use Rattle.vtt_round_trip.proofs.File.{file-reads}

-- ---- the captions of a list without fault

module _ (records pool : List ℕ) (sound : Sound 1000 359999999 records pool) where
  not-before : (i : ℕ) → i < count records → start_before records i ≤ start_ms records i
  unfolding start_before
  not-before zero h = omega arith
  not-before (suc i) h = (sound.records (suc i) h).follows i refl

  caption-sound : (i : ℕ) → i < count records → SoundCaption 1000 359999999 (start_before records i) (caption_of records pool i)
  unfolding caption_of
  caption-sound i h =
      let s = sound.records i h in
      let l = text-lengths records pool i s.inside in
      record {
        identifier_most = omega (arith, l.0, s.identifier_most);
        settings_most = omega (arith, l.1, s.settings_most);
        payload_most = omega (arith, l.2, s.payload_most);
        identifier_right = s.identifier_right;
        settings_right = s.settings_right;
        payload_right = s.payload_right;
        lasts = s.lasts;
        ends = s.ends;
        ticks = s.ticks;
        follows = not-before i h;
      }

  long : length (captions_of records pool) ≡ count records
  unfolding captions_of
  long = length-listed (caption_of records pool) (count records)

  few : length (captions_of records pool) ≤ 1024
  few = omega (arith, long, sound.few)

  left : (i : ℕ) → i < count records → drop i (captions_of records pool) ≡ caption_of records pool i ∷ drop (suc i) (captions_of records pool)
  unfolding captions_of
  left i h = listed-from (caption_of records pool) (count records) i h

  -- those from i on
  sounds-from : (n i : ℕ) → i + n ≡ count records → Sounds (start_before records i) (drop i (captions_of records pool))
  unfolding caption_of start_before
  sounds-from zero i e =
      let h : length (captions_of records pool) ≤ i = omega (arith, long) in
      subst⁻¹ (Sounds (start_before records i)) (drop_of_length-le (captions_of records pool) h) tt
  sounds-from (suc n) i e =
      subst⁻¹ (Sounds (start_before records i)) (left i (omega arith)) (caption-sound i (omega arith), sounds-from n (suc i) (omega arith))

  sounds : Sounds 0 (captions_of records pool)
  unfolding start_before
  sounds = sounds-from (count records) 0 (omega arith)

-- ---- the cues come back

-- what was written has no fault
by_both-done : (v w : Verdict) (m n : ℕ) → by_both v w m ≡ Done n → (v ≡ Fine) × (w ≡ Fine)
by_both-done Fine Fine m n e = (refl, refl)
by_both-done Fine (Refused r) m n e = let z : ◌≡◌ {A = ℕ} 0 1 = cc in absurd (omega arith)
by_both-done (Refused r) w m n e = let z : ◌≡◌ {A = ℕ} 0 1 = cc in absurd (omega arith)

pub written-right : (configuration records pool : List ℕ) (n : ℕ) → write_room configuration records pool ≡ Done n
    → (configuration_text configuration ≡ true) × Sound 1000 359999999 records pool
unfolding write_room
written-right configuration records pool n e =
    let w = by_both-done _ (judge_list 1000 359999999 records pool) _ n e in
    (text-fine configuration_text configuration_begun 0 configuration w.0, (fine-iff 1000 359999999 records pool).0 w.1)

pub cues-come-back : CuesComeBack
unfolding file_bytes
cues-come-back configuration records pool n e p =
    let w = written-right configuration records pool n e in
    let s = sounds records pool w.1 in
    file-reads configuration (captions_of records pool) w.0 p.header (sounds-writable 0 (captions_of records pool) s p.plain) s (few records pool w.1)

-- ---- records and pool come back

module _ (records pool : List ℕ) (sound : Sound 1000 359999999 records pool) where
  abbrev cs : List Caption
  cs = captions_of records pool

  all : Sounds 0 cs
  all = sounds records pool sound

  most : length cs ≤ 1024
  most = few records pool sound

  caption-at : (i : ℕ) → i < count records → get_or cs i nothing ≡ caption_of records pool i
  unfolding captions_of
  caption-at i h = listed_at (caption_of records pool) (count records) i nothing h

  there : (i : ℕ) → i < count records → i < length cs
  there i h = omega (arith, long records pool sound)

  same-cues : SameButIds records pool (records_of 1000 (numbered_from 0 cs)) (pool_of (numbered_from 0 cs))
  unfolding caption_of
  same-cues = record {
    many = records-many cs all most ∙ long records pool sound;
    id = λ i h. id-at cs all most i (there i h);
    start = λ i h. start-at cs all most i (there i h) ∙ ap (λ (c : Caption). c.start) (caption-at i h);
    end = λ i h. end-at cs all most i (there i h) ∙ ap (λ (c : Caption). c.end) (caption-at i h);
    identifier = λ i h. identifier-at cs all most i (there i h) ∙ ap (λ (c : Caption). c.identifier) (caption-at i h);
    settings = λ i h. settings-at cs all most i (there i h) ∙ ap (λ (c : Caption). c.settings) (caption-at i h);
    payload = λ i h. payload-at cs all most i (there i h) ∙ ap (λ (c : Caption). c.payload) (caption-at i h);
  }

  same_length : length (records_of 1000 (numbered_from 0 cs)) ≡ length records
  unfolding count
  same_length = omega (arith, records-length cs all most, long records pool sound, sound.whole)

  -- the texts of a cue by itself and with its new ID
  same-texts : (i : ℕ) → i < count records → texts_of (get_or (numbered_from 0 cs) i no_cue).body ≡ texts_of (get_or (cues_of 1000 records pool) i no_cue).body
  unfolding texts_of cue_with caption_of cues_of cue_of body_of
  same-texts i h =
      ap (λ (x : Cue). texts_of x.body) (cue-at i cs (drop (suc i) cs) (caption_of records pool i) (left records pool sound i h))
      ∙ ap (λ (x : Cue). texts_of x.body) (sym (listed_at (cue_of 1000 records pool) (count records) i no_cue h))

  same-pool-to : (k : ℕ) → k ≤ count records → pool_to (numbered_from 0 cs) k ≡ pool_to (cues_of 1000 records pool) k
  unfolding pool_to
  same-pool-to zero h = refl
  same-pool-to (suc k) h = ap₂ (λ (a b : List ℕ). a ++ b) (same-pool-to k (omega arith)) (same-texts k h)

  same-pool : pool_of (numbered_from 0 cs) ≡ pool_of (cues_of 1000 records pool)
  unfolding pool_of
  same-pool =
      ap (pool_to (numbered_from 0 cs)) (length_from 0 cs ∙ long records pool sound)
      ∙ same-pool-to (count records) (omega arith)
      ∙ ap (pool_to (cues_of 1000 records pool)) (sym (length-cues 1000 359999999 records pool))

pub records-come-back : RecordsComeBack
unfolding file_records file_pool
records-come-back configuration records pool n e p =
    let sound = (written-right configuration records pool n e).1 in
    let q : numbered_from 0 (file_cues (file_bytes configuration records pool)) ≡ numbered_from 0 (captions_of records pool) =
    ap (numbered_from 0) (cues-come-back configuration records pool n e p).1 in (
      subst⁻¹ (λ (x : List Cue). SameButIds records pool (records_of 1000 x) (pool_of x)) q (same-cues records pool sound),
      ap (λ (x : List Cue). length (records_of 1000 x)) q ∙ same_length records pool sound,
      ap pool_of q ∙ same-pool records pool sound,
    )

pub room-comes-back : RoomComesBack
unfolding read_room
room-comes-back configuration records pool n e p =
    let sound = (written-right configuration records pool n e).1 in
    let c = cues-come-back configuration records pool n e p in
    let r = records-come-back configuration records pool n e p in
    rw (c.0, r.1, r.2, c.1, long records pool sound)
