-- Terms of the contracts of private functions: where reading stands, and what is written so far.
use Rattle.std.specs.Prelude.{Ok}
use Rattle.std.specs.Prelude.{ℕ, ◌+◌, ◌*◌, ◌≤◌, ◌<◌, ◌≡◌, Bool, List, ◌∷◌, length, drop}
use Rattle.base.specs.Choice.{pick}
use Rattle.base.specs.Over.{over}
use Rattle.timeline.specs.Cues.{Cue}
use Rattle.verdict.specs.Verdict.{Verdict, Fine, Refused}
use Rattle.cues.specs.Caption.{Caption, caption, judge_content}
use Rattle.rows.specs.declared.Row.{Row}
use Rattle.rows.specs.Table.{row_at}
use Rattle.records_write.specs.Records.{pool_to, records_to, records_of, pool_of}
use Rattle.vtt_lines.specs.Lines.{joined, Block}
use Rattle.vtt_blocks.specs.declared.Place.{Place}
use Rattle.vtt_blocks.specs.Found.{text_in, blocks_at, filled_at}
use Rattle.vtt_read.specs.declared.State.{State}
use Rattle.vtt_read.specs.Turn.{Turn, On, Stopped}
use Rattle.vtt_read.specs.FileRead.{FileRead, Refused as NotRead}
use Rattle.vtt_read.specs.Reading.{judge_blocks, cues_in, judge_file, file_cues, numbered_from}

-- the cues of a file with their IDs
abbrev pub list_of : List ℕ → List Cue
list_of s = numbered_from 0 (file_cues s)

-- the blocks from the state's line on
abbrev pub left_of : List ℕ → State → List Block
left_of s st = blocks_at s st.at st.line

-- the state at another place
abbrev pub moved_to : State → ℕ → ℕ → State
moved_to st at line = record { at = at; line = line; count = st.count; before = st.before; size = st.size }

-- the blocks that are left decide the answer, and give the cues behind those that are counted
pub record Stands (s : List ℕ) (st : State) : Type 0 where
  pub inside : st.at ≤ length s
  pub numbered : st.line ≤ st.at + 1
  pub few : st.count ≤ 1024
  pub small : st.size ≤ st.count * 4605
  pub verdict : judge_file s ≡ judge_blocks st.count st.before (left_of s st)
  pub cues : cues_in (left_of s st) ≡ drop st.count (file_cues s)
  pub counted : st.count ≤ length (file_cues s)
  pub sized : st.size ≡ length (pool_to (list_of s) st.count)

-- the content of a cue whose block begins at a place, as it is judged: its texts are parts of the file, its payload lines are joined
abbrev pub content_at : List ℕ → ℕ → ℕ → Place → Verdict
content_at s before place c =
    judge_content 1000 359999999 before
    (caption c.start c.end (text_in s place c.identifier) (text_in s c.from c.to) (joined (filled_at s c.payload))) c.line

-- the row of a cue whose block begins at a place: its times, and where its texts stand; 1 in the place of an ID where the payload stands so up to `end`
abbrev pub row_of : ℕ → Place → ℕ → Bool → Row
row_of place c end plain =
    record {
      id = pick plain 1 0;
      start = c.start;
      end = c.end;
      identifier = record { from = place; end = c.identifier };
      settings = record { from = c.from; end = c.to };
      payload = record { from = c.payload; end = end };
    }

-- a row of cue k of the file
pub record RowAt (s : List ℕ) (r : Row) (k : ℕ) : Type 0 where
  pub says : Caption
  pub rest : List Caption
  pub is : drop k (file_cues s) ≡ says ∷ rest
  pub start_is : r.start ≡ says.start
  pub end_is : r.end ≡ says.end
  pub identifier_is : text_in s r.identifier.from r.identifier.end ≡ says.identifier
  pub settings_is : text_in s r.settings.from r.settings.end ≡ says.settings
  pub payload_is : joined (filled_at s r.payload.from) ≡ says.payload
  pub identifier_within : (r.identifier.from ≤ r.identifier.end) × (r.identifier.end ≤ length s)
  pub settings_within : (r.settings.from ≤ r.settings.end) × (r.settings.end ≤ length s)
  pub payload_within : r.payload.from ≤ length s
  pub plain_is : r.id ≡ 1 → (text_in s r.payload.from r.payload.end ≡ says.payload) × (r.payload.from ≤ r.payload.end) × (r.payload.end ≤ length s)
  pub few : k < 1024
  pub low : length (pool_to (list_of s) k) ≤ k * 4605
  pub short : (length says.identifier ≤ 255) × (length says.settings ≤ 255) × (length says.payload ≤ 4095)
  pub early : (says.start ≤ 359999999) × (says.end ≤ 359999999)

-- the rows of the first n cues
pub record Rows (s : List ℕ) (n : ℕ) (tab : List ℕ) : Type 0 where
  pub long : length tab ≡ 9216
  pub rows : (i : ℕ) → i < n → RowAt s (row_at tab i) i

-- the state behind a line or a block, with the rows of its cues; or the refusal of the file
abbrev pub TurnIs : List ℕ → ℕ → List ℕ → Turn → Type 0
TurnIs s at tab (On st) = Stands s st × (at < st.at) × Rows s st.count tab
TurnIs s at tab (Stopped r) = judge_file s ≡ Refused r

-- the state behind the header, no cue counted yet
abbrev pub BeginIs : List ℕ → Turn → Type 0
BeginIs s (On st) = Stands s st × (st.count ≡ 0)
BeginIs s (Stopped r) = judge_file s ≡ Refused r

-- the state at the end
abbrev pub EndIs : List ℕ → List ℕ → Turn → Type 0
EndIs s tab (On st) = Stands s st × (length s ≤ st.at) × Rows s st.count tab
EndIs s tab (Stopped r) = judge_file s ≡ Refused r

-- a row for each cue that is answered
abbrev pub RowsOf : List ℕ → List ℕ → FileRead → Type 0
RowsOf s tab (Ok x) = Rows s x.cues tab
RowsOf s tab (NotRead r) = Unit {0}

-- the file has no fault, and there is room for its records and pool
pub record Ready (s records pool : List ℕ) : Type 0 where
  pub fine : judge_file s ≡ Fine
  pub records_fit : length (records_of 1000 (list_of s)) ≤ length records
  pub pool_fits : length (pool_of (list_of s)) ≤ length pool

-- what was written over the first k cues is written over one more
abbrev pub RecordsOn : List ℕ → ℕ → List ℕ → List ℕ → Type 0
RecordsOn s k d after = (old : List ℕ) → d ≡ over (records_to 1000 (list_of s) k) old → after ≡ over (records_to 1000 (list_of s) (k + 1)) old

abbrev pub PoolOn : List ℕ → ℕ → List ℕ → List ℕ → Type 0
PoolOn s k d after = (old : List ℕ) → d ≡ over (pool_to (list_of s) k) old → after ≡ over (pool_to (list_of s) (k + 1)) old
