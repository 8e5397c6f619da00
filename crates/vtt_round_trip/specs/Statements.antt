-- What is written is read again, under K5's premises. Document 02, K5.
use Rattle.std.specs.Prelude.{ℕ, ◌<◌, ◌≡◌, List, [], ◌∷◌, ◌++◌, length}
use Rattle.utf8.specs.Strings.{CR, LF}
use Rattle.utf8.specs.Forbidden.{arrow}
use Rattle.text.specs.Rules.{webvtt}
use Rattle.verdict.specs.Verdict.{Fine}
use Rattle.records.specs.Records.{count, source_id, start_ms, end_ms, identifier_of, settings_of, payload_of}
use Rattle.cues.specs.Caption.{Caption}
use Rattle.cues.specs.List.{cues_of, captions_of}
use Rattle.records_write.specs.Records.{record_bytes, pool_of}
use Rattle.vtt_read.specs.FileRead.{Done as ReadDone}
use Rattle.vtt_read.specs.Reading.{judge_file, file_cues, file_records, file_pool, read_room}
use Rattle.vtt_write.specs.FileWritten.{Done}
use Rattle.vtt_write.specs.Writing.{file_bytes, write_room}
use Rattle.vtt_round_trip.specs.Premises.{NoEmptyLine, NoArrow, FirstLineTaken, Header, NoCR, SettingsBegin, SettingsEnd, Plain, Each, Premises}

-- ---- the cues

-- reading the written file finds no fault and gives the same cues in the same order: times and texts
abbrev pub ComeBack : List ℕ → List ℕ → List ℕ → Type 0
ComeBack configuration records pool =
    (judge_file (file_bytes configuration records pool) ≡ Fine) × (file_cues (file_bytes configuration records pool) ≡ captions_of records pool)

abbrev pub CuesComeBack : Type 0
CuesComeBack =
    (configuration records pool : List ℕ) (n : ℕ) → write_room configuration records pool ≡ Done n → Premises configuration (captions_of records pool)
    → ComeBack configuration records pool

-- ---- records and pool

-- two lists have the same times and texts in the same order; the IDs of the second are counted from 0
pub record SameButIds (records pool others pond : List ℕ) : Type 0 where
  pub many : count others ≡ count records
  pub id : (i : ℕ) → i < count records → source_id others i ≡ i
  pub start : (i : ℕ) → i < count records → start_ms others i ≡ start_ms records i
  pub end : (i : ℕ) → i < count records → end_ms others i ≡ end_ms records i
  pub identifier : (i : ℕ) → i < count records → identifier_of others pond i ≡ identifier_of records pool i
  pub settings : (i : ℕ) → i < count records → settings_of others pond i ≡ settings_of records pool i
  pub payload : (i : ℕ) → i < count records → payload_of others pond i ≡ payload_of records pool i

-- the records that are read have as many bytes as those that were written, and the pool is their texts one behind the other
abbrev pub RecordsComeBack : Type 0
RecordsComeBack =
    (configuration records pool : List ℕ) (n : ℕ) → write_room configuration records pool ≡ Done n → Premises configuration (captions_of records pool)
    → let file = file_bytes configuration records pool in
    SameButIds records pool (file_records file) (file_pool file) × (length (file_records file) ≡ length records) × (file_pool file ≡ pool_of (cues_of 1000 records pool))

-- reading answers how many cues there are and these lengths, as the room that it needs
abbrev pub RoomComesBack : Type 0
RoomComesBack =
    (configuration records pool : List ℕ) (n : ℕ) → write_room configuration records pool ≡ Done n → Premises configuration (captions_of records pool)
    → read_room (file_bytes configuration records pool) ≡ ReadDone (count records) (length records) (length (pool_of (cues_of 1000 records pool)))

-- ---- a file that is read, written and read again

-- the cues of a file, whatever else it holds, keep the premises behind `WEBVTT` alone
abbrev pub ReadIsPlain : Type 0
ReadIsPlain = (file : List ℕ) → Premises webvtt (file_cues file)

-- writing their list behind `WEBVTT` finds no fault, and reading the written file finds none and gives the very same cues, records and pool
abbrev pub ListsComeBack : Type 0
ListsComeBack =
    (file : List ℕ) → judge_file file ≡ Fine
    → let records = file_records file in
    let pool = file_pool file in
    let again = file_bytes webvtt records pool in
    (n : ℕ) × (write_room webvtt records pool ≡ Done n) × (judge_file again ≡ Fine) × (file_cues again ≡ file_cues file) × (file_records again ≡ records) × (file_pool again ≡ pool)

-- ---- no premise can be left out: each has a list that is written and lost, though the other five hold

-- the list is written, and reading the file finds a fault or other cues
pub record Lost (configuration records pool : List ℕ) : Type 0 where
  pub size : ℕ
  pub written : write_room configuration records pool ≡ Done size
  pub lost : ¬ ComeBack configuration records pool

-- a configuration by itself, with no cues: it keeps every premise but one
abbrev pub HeaderLost : (List ℕ → Type 0) → (List ℕ → Type 0) → List ℕ → Type 0
HeaderLost P Q configuration = P configuration × Q configuration × Each Plain (captions_of [] []) × Lost configuration [] []

-- a cue from 0 to 1,000 ms without identifier behind `WEBVTT` alone: it keeps every premise but one
abbrev pub CueLost : (Caption → Type 0) → (Caption → Type 0) → List ℕ → List ℕ → Type 0
CueLost P Q settings payload =
    let records = record_bytes 0 0 1000 0 0 (length settings) (length payload) in
    let pool = settings ++ payload in
    Header webvtt × Each P (captions_of records pool) × Each Q (captions_of records pool) × Lost webvtt records pool

-- an empty line: `WEBVTT`, LF, LF, `x`
abbrev pub EmptyLineLost : Type 0
EmptyLineLost = HeaderLost NoArrow FirstLineTaken (webvtt ++ LF ∷ LF ∷ 0x78 ∷ [])

-- `WEBVTT -->`
abbrev pub ArrowLost : Type 0
ArrowLost = HeaderLost NoEmptyLine FirstLineTaken (webvtt ++ 0x20 ∷ arrow)

-- a first line that K1 does not take: `WEBVTTx`
abbrev pub FirstLineLost : Type 0
FirstLineLost = HeaderLost NoEmptyLine NoArrow (webvtt ++ 0x78 ∷ [])

-- a payload with CR: `a`, CR, `b`
abbrev pub PayloadLost : Type 0
PayloadLost = CueLost SettingsBegin SettingsEnd [] (0x61 ∷ CR ∷ 0x62 ∷ [])

-- settings that begin with a space: ` a`
abbrev pub SettingsBeginLost : Type 0
SettingsBeginLost = CueLost NoCR SettingsEnd (0x20 ∷ 0x61 ∷ []) []

-- settings that end with one: `a `
abbrev pub SettingsEndLost : Type 0
SettingsEndLost = CueLost NoCR SettingsBegin (0x61 ∷ 0x20 ∷ []) []
