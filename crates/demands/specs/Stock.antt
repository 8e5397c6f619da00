-- Document 02, K9: the old 3GPP stock. What a conversion has written can be packed, its cues are the samples with text left, each over its own time, and their text is the
-- samples' text; and a table without its samples of duration 0 shows the same at every tick.
use Rattle.std.specs.Prelude.{Ok}
use Rattle.std.specs.Prelude.{ℕ, ◌+◌, ◌*◌, ◌≤◌, ◌<◌, ◌≡◌, ◌↔◌, true, false, List, [], length, take, drop, get_or}
use Rattle.verdict.specs.declared.Refusal.{Refusal}
use Rattle.verdict.specs.Verdict.{Verdict, Fine}
use Rattle.verdict.specs.Judgement.{fault}
use Rattle.times.specs.Times.{back, timeline_allowed}
use Rattle.timeline.specs.Cues.{Body}
use Rattle.timeline.specs.Tracks.{total, held_at}
use Rattle.code_points.specs.CodePoints.{encodings}
use Rattle.records.specs.Records.{count, source_id, start_ms, end_ms, text_offset, identifier_of, settings_of, payload_of}
use Rattle.cues.specs.Judgement.{judge_list}
use Rattle.table.specs.Table.{row_count, duration_of, bytes_of, judge_row_by, judge_rows}
use Rattle.table.specs.Parts.{parts_of}
use Rattle.table_lasting.specs.Dropped.{Dropped, Done as Kept, Refused as NotDropped}
use Rattle.table_lasting.specs.Lasting.{track_by}
use Rattle.table_lasting.specs.Dropping.{drop_room}
use Rattle.tx3g_payload.specs.Left.{only_breaks, text_left}
use Rattle.tx3g_payload.specs.Statements.{untagged, unescaped}
use Rattle.tx3g_payload_write.specs.Sample.{characters_at, payload_in}
use Rattle.tx3g_stock.specs.declared.Counts.{Counts}
use Rattle.tx3g_stock.specs.Stock.{counts_of}
use Rattle.tx3g_convert.specs.Converted.{Converted, Done, BadEntry, BadTrack, NoRoom}
use Rattle.tx3g_convert.specs.Convert.{convert_room}
use Rattle.tx3g_convert_laws.specs.Statements.{begin_of}
use Rattle.demands.specs.Calls.{ConvertCall, DropCall}
use Rattle.demands.specs.Unpacking.{text_bytes}

-- ---- what is converted

-- record k is the cue of sample i: over the sample's own time, with its payload; tags taken away and escapes undone, that is the text of the sample that is left
pub record CueOfSample (scale : ℕ) (entry table samples records pool : List ℕ) (k i : ℕ) : Type 0 where
  pub sample : i < row_count table
  pub id : source_id records k ≡ k
  pub start : start_ms records k ≡ back scale (begin_of table i)
  pub end : end_ms records k ≡ back scale (begin_of table i + duration_of table i)
  pub identifier : identifier_of records pool k ≡ []
  pub settings : settings_of records pool k ≡ []
  pub payload : payload_of records pool k ≡ payload_in entry (bytes_of table samples i)
  pub text : unescaped 0 (untagged false (payload_of records pool k)) ≡ encodings (text_left (characters_at (bytes_of table samples i)))

-- r bytes of records and p of pool are the n cues of a track: those of the samples whose text is not CR and LF only, in order; the records stand one behind the other, and
-- so do their texts
pub record StockList (scale : ℕ) (entry table samples records pool : List ℕ) (n r p T : ℕ) : Type 0 where
  pub few : n ≤ 1024
  pub records_bytes : (length records ≡ r) × (r ≡ 24 * n)
  pub pool_bytes : (length pool ≡ p) × (p ≡ text_bytes records n)
  pub many : count records ≡ n
  pub offset : (k : ℕ) → k < n → text_offset records k ≡ text_bytes records k
  pub sample_of : ℕ → ℕ
  pub cue : (k : ℕ) → k < n → CueOfSample scale entry table samples records pool k (sample_of k)
  pub ordered : (j k : ℕ) → j < k → k < n → sample_of j < sample_of k
  pub all : (i : ℕ) → i < row_count table → only_breaks (characters_at (bytes_of table samples i)) ≡ false → (k : ℕ) × (k < n) × (sample_of k ≡ i)
  pub timeline : T ≡ back scale (begin_of table (row_count table))

-- a call that is done has written the cues of the track, kept the bytes past them, and counted the boxes that it dropped
abbrev pub ConvertWrites : Type 0
ConvertWrites =
    (scale : ℕ) (entry table samples records pool records_after pool_after : List ℕ) (n r p T : ℕ) (c : Counts)
    → ConvertCall scale entry table samples records pool records_after pool_after (Done n r p T c)
    → StockList scale entry table samples (take r records_after) (take p pool_after) n r p T
    × (drop r records_after ≡ drop r records) × (drop p pool_after ≡ drop p pool) × (c ≡ counts_of table samples)

-- whatever is converted, packing finds no fault in: at the scale of the conversion, and at every scale of 1,000 or more at which T is allowed
abbrev pub ConvertedIsFine : Type 0
ConvertedIsFine =
    (scale : ℕ) (entry table samples records pool records_after pool_after : List ℕ) (n r p T : ℕ) (c : Counts)
    → ConvertCall scale entry table samples records pool records_after pool_after (Done n r p T c)
    → (judge_list scale T (take r records_after) (take p pool_after) ≡ Fine)
    × ((other : ℕ) → 1000 ≤ other → timeline_allowed other T ≡ true → judge_list other T (take r records_after) (take p pool_after) ≡ Fine)

-- what the room says of an answer where a and b bytes are lent
abbrev pub ConvertTells : Converted → ℕ → ℕ → Converted → Type 0
ConvertTells (Ok x) a b answer =
    (x.records ≤ a → x.pool ≤ b → answer ≡ Done x.cues x.records x.pool x.t x.dropped) × (a < x.records → answer ≡ NoRoom (fault 15 0)) × (x.records ≤ a → b < x.pool → answer ≡ NoRoom (fault 15 1))
ConvertTells (BadEntry q) a b answer = answer ≡ BadEntry q
ConvertTells (BadTrack q) a b answer = answer ≡ BadTrack q
ConvertTells (NoRoom q) a b answer = answer ≡ NoRoom q

abbrev pub ConvertRoomTells : Type 0
ConvertRoomTells =
    (scale : ℕ) (entry table samples records pool records_after pool_after : List ℕ) (answer : Converted)
    → ConvertCall scale entry table samples records pool records_after pool_after answer
    → ConvertTells (convert_room scale entry table samples) (length records) (length pool) answer

-- a call that is refused has written nothing, whoever is at fault
abbrev pub Unwritten : List ℕ → List ℕ → List ℕ → List ℕ → Converted → Type 0
Unwritten records pool records_after pool_after (Ok x) = Unit {0}
Unwritten records pool records_after pool_after (BadEntry q) = (records_after ≡ records) × (pool_after ≡ pool)
Unwritten records pool records_after pool_after (BadTrack q) = (records_after ≡ records) × (pool_after ≡ pool)
Unwritten records pool records_after pool_after (NoRoom q) = (records_after ≡ records) × (pool_after ≡ pool)

abbrev pub RefusedConvertKeeps : Type 0
RefusedConvertKeeps =
    (scale : ℕ) (entry table samples records pool records_after pool_after : List ℕ) (answer : Converted)
    → ConvertCall scale entry table samples records pool records_after pool_after answer → Unwritten records pool records_after pool_after answer

-- ---- what is dropped

-- a call that is done changes nothing at any tick, whatever is read from a sample's bytes, and leaves no sample of duration 0; who reads the samples finds no fault in what
-- is written exactly if he finds none in the samples that last
pub record NothingChanges (table samples rows content : List ℕ) : Type 0 where
  pub same_time : (read : List ℕ → List Body) → total (track_by read (parts_of rows content)) ≡ total (track_by read (parts_of table samples))
  pub same_held : (read : List ℕ → List Body) (t : ℕ) → held_at (track_by read (parts_of rows content)) t ≡ held_at (track_by read (parts_of table samples)) t
  pub lasting : (i : ℕ) → i < row_count rows → 0 < duration_of rows i
  pub reads : (read : List ℕ → Verdict)
      → (judge_rows (judge_row_by read rows content) rows content ≡ Fine) ↔ ((i : ℕ) → i < row_count table → 0 < duration_of table i → read (bytes_of table samples i) ≡ Fine)

-- the table's bytes are below 256, as those of a slice are
abbrev pub DropChangesNothing : Type 0
DropChangesNothing =
    (table samples rows content rows_after content_after : List ℕ) (n t b : ℕ) → ((i : ℕ) → get_or table i 0 < 256)
    → DropCall table samples rows content rows_after content_after (Kept n t b)
    → NothingChanges table samples (take t rows_after) (take b content_after)
    × (row_count (take t rows_after) ≡ n) × (drop t rows_after ≡ drop t rows) × (drop b content_after ≡ drop b content)

abbrev pub DropTells : Dropped → ℕ → ℕ → Dropped → Type 0
DropTells (Ok z) x y answer =
    (z.table ≤ x → z.bytes ≤ y → answer ≡ Kept z.samples z.table z.bytes) × (x < z.table → answer ≡ NotDropped (fault 15 0)) × (z.table ≤ x → y < z.bytes → answer ≡ NotDropped (fault 15 1))
DropTells (NotDropped r) x y answer = answer ≡ NotDropped r

abbrev pub DropRoomTells : Type 0
DropRoomTells =
    (table samples rows content rows_after content_after : List ℕ) (answer : Dropped) → DropCall table samples rows content rows_after content_after answer
    → DropTells (drop_room table samples) (length rows) (length content) answer

abbrev pub RefusedDropKeeps : Type 0
RefusedDropKeeps =
    (table samples rows content rows_after content_after : List ℕ) (r : Refusal)
    → DropCall table samples rows content rows_after content_after (NotDropped r) → (rows_after ≡ rows) × (content_after ≡ content)
