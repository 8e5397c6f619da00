-- Demand 2's way back, what unpacking answers, and document 01's line on accepting an unpacked list.
use Rattle.std.specs.Prelude.{Ok}
use Rattle.std.specs.Prelude.{ℕ, zero, suc, ◌+◌, ◌*◌, ◌≤◌, ◌<◌, ◌≡◌, List, length, take, drop, get_or}
use Rattle.std.proofs.Math.Option.{some}
use Rattle.verdict.specs.declared.Refusal.{Refusal}
use Rattle.verdict.specs.Verdict.{Fine}
use Rattle.verdict.specs.Judgement.{fault}
use Rattle.times.specs.Times.{back, Limits}
use Rattle.timeline.specs.Cues.{Cue}
use Rattle.timeline.specs.Tracks.{total}
use Rattle.timeline.specs.Unpacking.{no_cue, ListOf}
use Rattle.records.specs.Records.{count, source_id, start_ms, end_ms, text_offset, identifier_length, settings_length, payload_length, identifier_of, settings_of, payload_of}
use Rattle.cues.specs.Judgement.{judge_list}
use Rattle.track.specs.Track.{track_of, judge_track, Readable}
use Rattle.pack.specs.Packed.{Done as PackDone}
use Rattle.conform.specs.Checked.{Checked, Passed}
use Rattle.records_write.specs.Records.{records_of, pool_of}
use Rattle.unpack.specs.Unpacked.{Unpacked, Done, Refused}
use Rattle.unpack.specs.Unpacking.{unpack_room}
use Rattle.demands.specs.Calls.{PackCall, CheckCall, UnpackCall}

-- two lists have the same cues in the same order: source IDs, milliseconds, identifiers, settings, payloads
pub record SameCues (records pool others pond : List ℕ) : Type 0 where
  pub many : count others ≡ count records
  pub id : (i : ℕ) → i < count records → source_id others i ≡ source_id records i
  pub start : (i : ℕ) → i < count records → start_ms others i ≡ start_ms records i
  pub end : (i : ℕ) → i < count records → end_ms others i ≡ end_ms records i
  pub identifier : (i : ℕ) → i < count records → identifier_of others pond i ≡ identifier_of records pool i
  pub settings : (i : ℕ) → i < count records → settings_of others pond i ≡ settings_of records pool i
  pub payload : (i : ℕ) → i < count records → payload_of others pond i ≡ payload_of records pool i

-- the bytes of the texts of the first n records
unfoldable pub text_bytes : List ℕ → ℕ → ℕ
text_bytes records zero = 0
text_bytes records (suc n) = text_bytes records n + (identifier_length records n + (settings_length records n + payload_length records n))

-- unpacking what packing wrote at 1,000 ticks a second or more, with enough room, gives the same cues back, and T
abbrev pub ComesBack : Type 0
ComesBack =
    (scale T : ℕ) (records pool table samples table_after samples_after : List ℕ) (n t b : ℕ)
    → PackCall scale T records pool table samples table_after samples_after (PackDone n t b) → 1000 ≤ scale
    → (others pond others_after pond_after : List ℕ) (answer : Unpacked)
    → UnpackCall scale (take t table_after) (take b samples_after) others pond others_after pond_after answer
    → length records ≤ length others → text_bytes records (count records) ≤ length pond
    → (answer ≡ Done (length records) (text_bytes records (count records)) T)
    × SameCues records pool (take (length records) others_after) (take (text_bytes records (count records)) pond_after)

-- n bytes of records and p of pool are the list of a track, times in ms: the cues in order of first appearance, proper, with IDs, at most 1,024, the one list for which the
-- track is right; the records stand one behind the other, and so do their texts
pub record TrackList (scale : ℕ) (table samples records pool : List ℕ) (n p T : ℕ) : Type 0 where
  pub readable : Readable table samples
  pub cues : List Cue
  pub list : ListOf cues (track_of table samples)
  pub only : (others : List Cue) → ListOf others (track_of table samples) → others ≡ cues
  pub records_bytes : (length records ≡ n) × (n ≡ 24 * length cues)
  pub pool_bytes : (length pool ≡ p) × (p ≡ text_bytes records (count records))
  pub many : count records ≡ length cues
  pub offset : (i : ℕ) → i < count records → text_offset records i ≡ text_bytes records i
  pub id : (i : ℕ) → i < count records → (get_or cues i no_cue).body.id ≡ some (source_id records i)
  pub start : (i : ℕ) → i < count records → start_ms records i ≡ back scale (get_or cues i no_cue).start
  pub end : (i : ℕ) → i < count records → end_ms records i ≡ back scale (get_or cues i no_cue).end
  pub identifier : (i : ℕ) → i < count records → identifier_of records pool i ≡ (get_or cues i no_cue).body.identifier
  pub settings : (i : ℕ) → i < count records → settings_of records pool i ≡ (get_or cues i no_cue).body.settings
  pub payload : (i : ℕ) → i < count records → payload_of records pool i ≡ (get_or cues i no_cue).body.payload
  pub timeline : T ≡ back scale (total (track_of table samples))

-- a call that is done has written the list of the track, and kept the bytes past it
abbrev pub UnpackingWrites : Type 0
UnpackingWrites =
    (scale : ℕ) (table samples records pool records_after pool_after : List ℕ) (n p T : ℕ)
    → UnpackCall scale table samples records pool records_after pool_after (Done n p T)
    → TrackList scale table samples (take n records_after) (take p pool_after) n p T × (drop n records_after ≡ drop n records) × (drop p pool_after ≡ drop p pool)

-- a track that reads and is right for some list is unpacked wherever its times in ms are allowed and there is room for the result
abbrev pub UnpackingIsDone : Type 0
UnpackingIsDone =
    (scale : ℕ) (table samples records pool records_after pool_after : List ℕ) (answer : Unpacked) (cues : List Cue)
    → UnpackCall scale table samples records pool records_after pool_after answer → judge_track table samples ≡ Fine → ListOf cues (track_of table samples)
    → let T = back scale (total (track_of table samples)) in
    Limits scale T
    → ((i : ℕ) → i < length cues → (back scale (get_or cues i no_cue).start < back scale (get_or cues i no_cue).end) × (back scale (get_or cues i no_cue).end ≤ 359999999))
    → length (records_of scale cues) ≤ length records → length (pool_of cues) ≤ length pool
    → answer ≡ Done (length (records_of scale cues)) (length (pool_of cues)) T

-- what the room says of an answer where a and b bytes are lent: lengths that fit are the answer, others are 15; a refusal is the answer
abbrev pub Tells : Unpacked → ℕ → ℕ → Unpacked → Type 0
Tells (Ok x) a b answer = (x.records ≤ a → x.pool ≤ b → answer ≡ Done x.records x.pool x.t) × (a < x.records → answer ≡ Refused (fault 15 0)) × (x.records ≤ a → b < x.pool → answer ≡ Refused (fault 15 1))
Tells (Refused r) a b answer = answer ≡ Refused r

abbrev pub UnpackRoomTells : Type 0
UnpackRoomTells =
    (scale : ℕ) (table samples records pool records_after pool_after : List ℕ) (answer : Unpacked) → UnpackCall scale table samples records pool records_after pool_after answer
    → Tells (unpack_room scale table samples) (length records) (length pool) answer

-- a call that is refused has written nothing
abbrev pub RefusedUnpackingKeeps : Type 0
RefusedUnpackingKeeps =
    (scale : ℕ) (table samples records pool records_after pool_after : List ℕ) (r : Refusal)
    → UnpackCall scale table samples records pool records_after pool_after (Refused r) → (records_after ≡ records) × (pool_after ≡ pool)

-- whatever unpacking writes, packing finds no fault in
abbrev pub UnpackedIsFine : Type 0
UnpackedIsFine =
    (scale : ℕ) (table samples records pool records_after pool_after : List ℕ) (n p T : ℕ)
    → UnpackCall scale table samples records pool records_after pool_after (Done n p T) → judge_list scale T (take n records_after) (take p pool_after) ≡ Fine

-- at a scale of 1,000 or less the check accepts every unpacked list with the track it came from
abbrev pub UnpackedPasses : Type 0
UnpackedPasses =
    (scale : ℕ) (table samples records pool records_after pool_after : List ℕ) (n p T : ℕ) (answer : Checked)
    → UnpackCall scale table samples records pool records_after pool_after (Done n p T) → scale ≤ 1000
    → CheckCall scale T (take n records_after) (take p pool_after) table samples answer → answer ≡ Passed
