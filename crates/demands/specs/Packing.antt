-- Demand 2 for packing: what is written is exactly the track that document 01 defines, each time rounded once from its full value; and nothing else is touched.
use Rattle.std.specs.Prelude.{Ok}
use Rattle.std.specs.Prelude.{ℕ, ◌+◌, ◌*◌, ◌≤◌, ◌<◌, ◌≡◌, List, length, take, drop}
use Rattle.verdict.specs.declared.Refusal.{Refusal}
use Rattle.verdict.specs.Verdict.{Fine}
use Rattle.verdict.specs.Judgement.{fault}
use Rattle.times.specs.Times.{tick}
use Rattle.timeline.specs.Tracks.{Right}
use Rattle.timeline.specs.Packing.{packed}
use Rattle.records.specs.Records.{count}
use Rattle.cues.specs.Judgement.{judge_list}
use Rattle.cues.specs.List.{cues_of}
use Rattle.table.specs.Table.{row_count}
use Rattle.track.specs.Track.{track_of, Readable}
use Rattle.pack.specs.Packed.{Packed, Done, Refused}
use Rattle.pack.specs.Packing.{table_bytes, samples_bytes, pack_room}
use Rattle.demands.specs.Calls.{PackCall}

-- what was written for n samples: `table` and `samples` are the first t and b bytes of the outputs
pub record Written (scale T : ℕ) (records pool table samples : List ℕ) (n t b : ℕ) : Type 0 where
  -- the list has no fault
  pub fine : judge_list scale T records pool ≡ Fine
  -- the bytes of the packed track: a table record for each stretch between neighbouring cuts, and its cues as they are written
  pub table_is : table ≡ table_bytes (packed (cues_of scale records pool) (tick scale T))
  pub samples_are : samples ≡ samples_bytes (packed (cues_of scale records pool) (tick scale T))
  -- that many bytes, which can be read
  pub table_size : length table ≡ t
  pub samples_size : length samples ≡ b
  pub readable : Readable table samples
  -- each sample reads back as the cues of its stretch, with its duration
  pub read : track_of table samples ≡ packed (cues_of scale records pool) (tick scale T)
  -- the durations sum to T's tick, and at every tick the sample there holds the cues that run
  pub right : Right (cues_of scale records pool) (tick scale T) (track_of table samples)
  -- n is the number of samples, at most 2 for each cue and 1
  pub counted : n ≡ row_count table
  pub few : n ≤ 2 * count records + 1

-- a call that is done has written the packed track, and kept the bytes past it
abbrev pub PackingWrites : Type 0
PackingWrites =
    (scale T : ℕ) (records pool table samples table_after samples_after : List ℕ) (n t b : ℕ)
    → PackCall scale T records pool table samples table_after samples_after (Done n t b)
    → Written scale T records pool (take t table_after) (take b samples_after) n t b × (drop t table_after ≡ drop t table) × (drop b samples_after ≡ drop b samples)

-- a call that is refused has written nothing
abbrev pub RefusedPackingKeeps : Type 0
RefusedPackingKeeps =
    (scale T : ℕ) (records pool table samples table_after samples_after : List ℕ) (r : Refusal)
    → PackCall scale T records pool table samples table_after samples_after (Refused r) → (table_after ≡ table) × (samples_after ≡ samples)

-- a list without fault is packed wherever there is room for the result
abbrev pub PackingIsDone : Type 0
PackingIsDone =
    (scale T : ℕ) (records pool table samples table_after samples_after : List ℕ) (answer : Packed)
    → PackCall scale T records pool table samples table_after samples_after answer → judge_list scale T records pool ≡ Fine
    → let track = packed (cues_of scale records pool) (tick scale T) in
    length (table_bytes track) ≤ length table → length (samples_bytes track) ≤ length samples
    → answer ≡ Done (length track) (length (table_bytes track)) (length (samples_bytes track))

-- what the room says of an answer where a and c bytes are lent: lengths that fit are the answer, others are 15; a refusal is the answer
abbrev pub Tells : Packed → ℕ → ℕ → Packed → Type 0
Tells (Ok x) a c answer = (x.table ≤ a → x.bytes ≤ c → answer ≡ Done x.samples x.table x.bytes) × (a < x.table → answer ≡ Refused (fault 15 0)) × (x.table ≤ a → c < x.bytes → answer ≡ Refused (fault 15 1))
Tells (Refused r) a c answer = answer ≡ Refused r

abbrev pub PackRoomTells : Type 0
PackRoomTells =
    (scale T : ℕ) (records pool table samples table_after samples_after : List ℕ) (answer : Packed)
    → PackCall scale T records pool table samples table_after samples_after answer → Tells (pack_room scale T records pool) (length table) (length samples) answer
