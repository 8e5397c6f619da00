-- Document 02, K5: writing a WebVTT file. What a call has written is read again, under K5's premises and not without one of them; what is answered, and who is at fault.
use Rattle.std.specs.Prelude.{ℕ, ◌<◌, ◌≤◌, ◌≡◌, List, length, take, drop}
use Rattle.viable.specs.FirstBad.{FirstBad, Passes}
use Rattle.text.specs.Rules.{webvtt, configuration_text}
use Rattle.verdict.specs.Verdict.{Fine, Refused}
use Rattle.verdict.specs.Judgement.{fault, bad_text}
use Rattle.records.specs.Records.{count}
use Rattle.cues.specs.Judgement.{judge_list}
use Rattle.cues.specs.List.{captions_of}
use Rattle.vtt_read.specs.FileRead.{FileRead, Done as ReadDone}
use Rattle.vtt_write.specs.FileWritten.{FileWritten, Done, BadConfiguration, BadList, NoRoom}
use Rattle.vtt_write.specs.Writing.{file_bytes, write_room}
use Rattle.vtt_round_trip.specs.Premises.{Premises}
use Rattle.vtt_round_trip.specs.Statements.{SameButIds, EmptyLineLost, ArrowLost, FirstLineLost, PayloadLost, SettingsBeginLost, SettingsEndLost}
use Rattle.demands.specs.Calls.{ReadCall, WriteCall}
use Rattle.demands.specs.Unpacking.{text_bytes}

-- ---- what is written

-- a call that is done has written the file, n bytes, and kept the bytes past it
abbrev pub WriteFileWrites : Type 0
WriteFileWrites =
    (configuration records pool file after : List ℕ) (n : ℕ) → WriteCall configuration records pool file after (Done n)
    → (take n after ≡ file_bytes configuration records pool) × (drop n after ≡ drop n file) × (n ≤ length file)

-- reading what a call has written, with enough room, gives the same times and texts in the same order, IDs counted from 0
abbrev pub WrittenFileComesBack : Type 0
WrittenFileComesBack =
    (configuration records pool file after : List ℕ) (n : ℕ) → WriteCall configuration records pool file after (Done n) → Premises configuration (captions_of records pool)
    → (others pond others_after pond_after : List ℕ) (answer : FileRead) → ReadCall (take n after) others pond others_after pond_after answer
    → length records ≤ length others → text_bytes records (count records) ≤ length pond
    → (answer ≡ ReadDone (count records) (length records) (text_bytes records (count records)))
    × SameButIds records pool (take (length records) others_after) (take (text_bytes records (count records)) pond_after)

-- a file that is read, written behind the header `WEBVTT` and read again, with enough room, gives the same records and pool byte for byte
abbrev pub ReadFileComesBack : Type 0
ReadFileComesBack =
    (first records pool records_after pool_after : List ℕ) (n r p : ℕ) → ReadCall first records pool records_after pool_after (ReadDone n r p)
    → (file after : List ℕ) (answer : FileWritten) → WriteCall webvtt (take r records_after) (take p pool_after) file after answer
    → let m = length (file_bytes webvtt (take r records_after) (take p pool_after)) in
    m ≤ length file
    → (answer ≡ Done m)
    × ((others pond others_after pond_after : List ℕ) (said : FileRead) → ReadCall (take m after) others pond others_after pond_after said → r ≤ length others → p ≤ length pond
    → (said ≡ ReadDone n r p) × (take r others_after ≡ take r records_after) × (take p pond_after ≡ take p pool_after))

-- each premise is needed: a list that keeps the other five is written, and does not come back
pub record PremisesNeeded : Type 0 where
  pub no_empty_line : EmptyLineLost
  pub no_arrow : ArrowLost
  pub first_line : FirstLineLost
  pub payload : PayloadLost
  pub settings_begin : SettingsBeginLost
  pub settings_end : SettingsEndLost

-- ---- what is answered

-- what the room says of an answer where m bytes are lent: a length that fits is the answer, another is 15; a refusal is the answer
abbrev pub TellsOut : FileWritten → ℕ → FileWritten → Type 0
TellsOut (Done n) m answer = (n ≤ m → answer ≡ Done n) × (m < n → answer ≡ NoRoom (fault 15 0))
TellsOut (BadConfiguration r) m answer = answer ≡ BadConfiguration r
TellsOut (BadList r) m answer = answer ≡ BadList r
TellsOut (NoRoom r) m answer = ⊥

abbrev pub WriteRoomTells : Type 0
WriteRoomTells =
    (configuration records pool file after : List ℕ) (answer : FileWritten) → WriteCall configuration records pool file after answer
    → TellsOut (write_room configuration records pool) (length file) answer

-- who is at fault: the configuration, by its first bad byte; the list, beside a configuration that keeps its rule, with the fault that packing finds; the output, for want of room
abbrev pub Blames : List ℕ → List ℕ → List ℕ → List ℕ → List ℕ → FileWritten → Type 0
Blames configuration records pool file after (Done n) = Passes configuration_text configuration × (judge_list 1000 359999999 records pool ≡ Fine)
Blames configuration records pool file after (BadConfiguration r) =
    (after ≡ file) × ((q : ℕ) × (r ≡ bad_text 0 q) × FirstBad (Passes configuration_text) configuration q)
Blames configuration records pool file after (BadList r) = (after ≡ file) × Passes configuration_text configuration × (judge_list 1000 359999999 records pool ≡ Refused r)
Blames configuration records pool file after (NoRoom r) =
    (after ≡ file) × Passes configuration_text configuration × (judge_list 1000 359999999 records pool ≡ Fine) × (r ≡ fault 15 0) × (length file < length (file_bytes configuration records pool))

-- and a call that is refused has written nothing
abbrev pub WritingBlames : Type 0
WritingBlames =
    (configuration records pool file after : List ℕ) (answer : FileWritten) → WriteCall configuration records pool file after answer
    → Blames configuration records pool file after answer

-- a list that packs, at whatever scale and on whatever timeline, is never at fault
abbrev pub PackedListsAreWritten : Type 0
PackedListsAreWritten =
    (scale T : ℕ) (records pool : List ℕ) → judge_list scale T records pool ≡ Fine → judge_list 1000 359999999 records pool ≡ Fine
