-- What is promised of a conversion. Proved in proofs/. Document 02, K9.
use Rattle.std.specs.Prelude.{ℕ, zero, suc, ◌+◌, ◌<◌, ◌≤◌, ◌≡◌, ◌≢◌, ◌↔◌, true, false, not, List, [], ltb, length, get_or}
use Rattle.std.proofs.Math.Option.{some}
use Rattle.viable.specs.FirstBad.{bytes}
use Rattle.text.specs.Rules.{payload_text}
use Rattle.verdict.specs.declared.Refusal.{Refusal}
use Rattle.verdict.specs.Verdict.{Fine}
use Rattle.times.specs.Times.{timeline_allowed}
use Rattle.timeline.specs.Unpacking.{no_cue}
use Rattle.code_points.specs.CodePoints.{encodings}
use Rattle.table.specs.Table.{row_count, duration_of, bytes_of}
use Rattle.cues.specs.Judgement.{judge_list}
use Rattle.records_write.specs.Records.{records_of, pool_of}
use Rattle.tx3g_contents.specs.Kinds.{blnk}
use Rattle.tx3g_sample.specs.Sample.{characters_in, judge_sample}
use Rattle.tx3g_read.specs.Sample.{retired_blinking}
use Rattle.tx3g_payload.specs.Left.{only_breaks, text_left}
use Rattle.tx3g_payload.specs.Statements.{untagged, unescaped, has_zero}
use Rattle.tx3g_payload_write.specs.Sample.{characters_at, payload_in}
use Rattle.tx3g_stock.specs.declared.Counts.{Counts}
use Rattle.tx3g_stock.specs.Stock.{kinds_in, judge_stock}
use Rattle.tx3g_convert.specs.Converted.{Done, BadTrack}
use Rattle.tx3g_convert.specs.Convert.{stock_cues, convert_room}

-- packing finds no fault in what is converted, at the scale of the conversion, and at every scale of 1,000 or more at which T is allowed
abbrev pub ConvertedFine : Type 0
ConvertedFine =
    (scale : ℕ) (e table samples : List ℕ) (n r p T : ℕ) (c : Counts) → convert_room scale e table samples ≡ Done n r p T c
    → (judge_list scale T (records_of scale (stock_cues e table samples)) (pool_of (stock_cues e table samples)) ≡ Fine)
    × ((other : ℕ) → 1000 ≤ other → timeline_allowed other T ≡ true → judge_list other T (records_of scale (stock_cues e table samples)) (pool_of (stock_cues e table samples)) ≡ Fine)

-- ---- each cue is a sample's

-- where sample i begins: the sum of the durations before it
unfoldable pub begin_of : List ℕ → ℕ → ℕ
begin_of table zero = 0
begin_of table (suc i) = begin_of table i + duration_of table i

-- cue k is sample i's: over its own time, with ID k, its payload and no other text
pub record CueIs (e table samples : List ℕ) (k i : ℕ) : Type 0 where
  pub sample : i < row_count table
  pub left : payload_in e (bytes_of table samples i) ≢ []
  pub start : (get_or (stock_cues e table samples) k no_cue).start ≡ begin_of table i
  pub end : (get_or (stock_cues e table samples) k no_cue).end ≡ begin_of table i + duration_of table i
  pub id : (get_or (stock_cues e table samples) k no_cue).body.id ≡ some k
  pub identifier : (get_or (stock_cues e table samples) k no_cue).body.identifier ≡ []
  pub settings : (get_or (stock_cues e table samples) k no_cue).body.settings ≡ []
  pub payload : (get_or (stock_cues e table samples) k no_cue).body.payload ≡ payload_in e (bytes_of table samples i)

-- the cues are those of the samples with text left, each one's, in order
pub record CuesAre (e table samples : List ℕ) : Type 0 where
  pub sample_of : ℕ → ℕ
  pub each : (k : ℕ) → k < length (stock_cues e table samples) → CueIs e table samples k (sample_of k)
  pub ordered : (j k : ℕ) → j < k → k < length (stock_cues e table samples) → sample_of j < sample_of k
  pub all : (i : ℕ) → i < row_count table → payload_in e (bytes_of table samples i) ≢ [] → (k : ℕ) × (k < length (stock_cues e table samples)) × (sample_of k ≡ i)

abbrev pub EachIsASample : Type 0
EachIsASample = (e table samples : List ℕ) → CuesAre e table samples

-- ---- a payload and the text that it came from

-- of a sample without fault: its characters are as many as counted; tags taken away and escapes undone, its payload is the text that is left;
-- it is empty exactly where the text is CR and LF only; and a zero character is all that can break its rule
pub record PayloadIs (e s : List ℕ) : Type 0 where
  pub counted : length (characters_at s) ≡ characters_in s
  pub comes_back : unescaped 0 (untagged false (payload_in e s)) ≡ encodings (text_left (characters_at s))
  pub empty : (payload_in e s ≡ []) ↔ (only_breaks (characters_at s) ≡ true)
  pub ruled : payload_text (payload_in e s) ≡ not (has_zero (characters_at s))

abbrev pub SampleRule : Type 0
SampleRule = (e s : List ℕ) → bytes s ≡ true → judge_sample e s ≡ Fine → PayloadIs e s

-- a track that is read without fault is refused by 6 for a zero character in the sample that is the place, and for nothing else
abbrev pub OnlyZeros : Type 0
OnlyZeros =
    (scale : ℕ) (e table samples : List ℕ) (r : Refusal) → bytes samples ≡ true → judge_stock e table samples ≡ Fine
    → convert_room scale e table samples ≡ BadTrack r → r.number ≡ 6
    → (r.place < row_count table) × (has_zero (characters_at (bytes_of table samples r.place)) ≡ true)

-- and one that is converted has none
abbrev pub NoZeros : Type 0
NoZeros =
    (scale : ℕ) (e table samples : List ℕ) (n r p T : ℕ) (c : Counts) → bytes samples ≡ true → convert_room scale e table samples ≡ Done n r p T c
    → (i : ℕ) → i < row_count table → has_zero (characters_at (bytes_of table samples i)) ≡ false

-- ---- what is counted

-- a sample without fault is told to have retired blinking exactly if a `blnk` of it is counted
abbrev pub BlinkingCounted : Type 0
BlinkingCounted = (s : List ℕ) → retired_blinking s ≡ ltb 0 (kinds_in blnk s)
