-- Document 02, K1: reading a WebVTT file. What a call has written can be packed and checked, its cues are lines of the file, and a refusal names a line.
use Rattle.std.specs.Prelude.{Ok}
use Rattle.std.specs.Prelude.{ℕ, suc, ◌*◌, ◌-◌, ◌≤◌, ◌<◌, max, ◌≡◌, ◌≢◌, length, take, drop, get_or}
use mathlib.Core.List.{List, [], ◌∷◌, Memᴰ}
use Rattle.verdict.specs.declared.Refusal.{Refusal}
use Rattle.verdict.specs.Verdict.{Fine}
use Rattle.verdict.specs.Judgement.{fault}
use Rattle.times.specs.Times.{tick}
use Rattle.timeline.specs.Packing.{packed}
use Rattle.records.specs.Records.{count, source_id, start_ms, end_ms, text_offset, identifier_of, settings_of, payload_of}
use Rattle.cues.specs.Judgement.{judge_list}
use Rattle.cues.specs.List.{cues_of}
use Rattle.pack.specs.Packed.{Packed, Done as PackDone}
use Rattle.pack.specs.Packing.{table_bytes, samples_bytes}
use Rattle.conform.specs.Checked.{Checked, Passed}
use Rattle.vtt_lines.specs.Lines.{lines_of, joined, filled}
use Rattle.vtt_timing.specs.Timing.{Timing}
use Rattle.vtt_timing.specs.Grammar.{TimingLine}
use Rattle.vtt_read.specs.FileRead.{FileRead, Done, Refused}
use Rattle.vtt_read.specs.Reading.{unmarked, read_room}
use Rattle.vtt_laws.specs.Arrows.{arrow_lines}
use Rattle.demands.specs.Calls.{PackCall, CheckCall, ReadCall}
use Rattle.demands.specs.Unpacking.{text_bytes}

-- ---- what is written

-- record i is the cue whose timing line is line t, the first being 0: its identifier is the line before, empty where it has none; its payload the lines behind, up to an
-- empty one, joined by one LF
pub record CueOfLine (file records pool : List ℕ) (i t : ℕ) : Type 0 where
  pub later : 0 < t
  pub timing : Timing
  pub line : TimingLine (get_or (lines_of (unmarked file)) t []) timing
  pub start : start_ms records i ≡ timing.start
  pub end : end_ms records i ≡ timing.end
  pub settings : settings_of records pool i ≡ timing.settings
  pub identifier : identifier_of records pool i ≡ get_or (lines_of (unmarked file)) (t - 1) []
  pub payload : payload_of records pool i ≡ joined (filled (drop (suc t) (lines_of (unmarked file))))

-- r bytes of records and p of pool are the list of a file's n cues: IDs are counted from 0; the timing lines are the lines that hold `-->`, in order; the records stand one
-- behind the other, and so do their texts
pub record FileList (file records pool : List ℕ) (n r p : ℕ) : Type 0 where
  pub few : n ≤ 1024
  pub records_bytes : (length records ≡ r) × (r ≡ 24 * n)
  pub pool_bytes : (length pool ≡ p) × (p ≡ text_bytes records n)
  pub many : count records ≡ n
  pub offset : (i : ℕ) → i < n → text_offset records i ≡ text_bytes records i
  pub id : (i : ℕ) → i < n → source_id records i ≡ i
  pub arrows : length (arrow_lines (lines_of (unmarked file))) ≡ n
  pub cue : (i : ℕ) → i < n → CueOfLine file records pool i (get_or (arrow_lines (lines_of (unmarked file))) i 0)

-- a call that is done has written the list of the file, and kept the bytes past it
abbrev pub ReadFileWrites : Type 0
ReadFileWrites =
    (file records pool records_after pool_after : List ℕ) (n r p : ℕ) → ReadCall file records pool records_after pool_after (Done n r p)
    → FileList file (take r records_after) (take p pool_after) n r p × (drop r records_after ≡ drop r records) × (drop p pool_after ≡ drop p pool)

-- packing finds no fault in it
abbrev pub ReadFileIsFine : Type 0
ReadFileIsFine =
    (file records pool records_after pool_after : List ℕ) (n r p : ℕ)
    → ReadCall file records pool records_after pool_after (Done n r p) → judge_list 1000 359999999 (take r records_after) (take p pool_after) ≡ Fine

-- where there is room it is packed, and the check accepts the track
abbrev pub ReadFileIsPacked : Type 0
ReadFileIsPacked =
    (file records pool records_after pool_after : List ℕ) (n r p : ℕ) → ReadCall file records pool records_after pool_after (Done n r p)
    → (table samples table_after samples_after : List ℕ) (answer : Packed)
    → PackCall 1000 359999999 (take r records_after) (take p pool_after) table samples table_after samples_after answer
    → let track = packed (cues_of 1000 (take r records_after) (take p pool_after)) (tick 1000 359999999) in
    let t = length (table_bytes track) in
    let s = length (samples_bytes track) in
    t ≤ length table → s ≤ length samples
    → (answer ≡ PackDone (length track) t s)
    × ((said : Checked) → CheckCall 1000 359999999 (take r records_after) (take p pool_after) (take t table_after) (take s samples_after) said → said ≡ Passed)

-- ---- what is answered

-- what the room says of an answer where a and b bytes are lent: lengths that fit are the answer, others are 15; a refusal is the answer
abbrev pub Tells : FileRead → ℕ → ℕ → FileRead → Type 0
Tells (Ok x) a b answer = (x.records ≤ a → x.pool ≤ b → answer ≡ Done x.cues x.records x.pool) × (a < x.records → answer ≡ Refused (fault 15 0)) × (x.records ≤ a → b < x.pool → answer ≡ Refused (fault 15 1))
Tells (Refused w) a b answer = answer ≡ Refused w

abbrev pub ReadRoomTells : Type 0
ReadRoomTells =
    (file records pool records_after pool_after : List ℕ) (answer : FileRead) → ReadCall file records pool records_after pool_after answer
    → Tells (read_room file) (length records) (length pool) answer

-- a call that is refused has written nothing
abbrev pub RefusedReadingKeeps : Type 0
RefusedReadingKeeps =
    (file records pool records_after pool_after : List ℕ) (w : Refusal)
    → ReadCall file records pool records_after pool_after (Refused w) → (records_after ≡ records) × (pool_after ≡ pool)

-- it is refused for want of room, or at one of the file's lines, line 1 where it has none, by one of K1's other numbers
abbrev pub RefusedFileLine : Type 0
RefusedFileLine =
    (file records pool records_after pool_after : List ℕ) (w : Refusal) → ReadCall file records pool records_after pool_after (Refused w) → w.number ≢ 15
    → (1 ≤ w.place) × (w.place ≤ max 1 (length (lines_of (unmarked file)))) × Memᴰ w.number (6 ∷ 9 ∷ 10 ∷ 11 ∷ 18 ∷ 19 ∷ [])
