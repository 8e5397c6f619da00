-- Dropping the samples of duration 0 from a table, with their bytes. Nothing is read of a sample.
use Rattle.std.specs.Prelude.{Ok}
use Rattle.std.specs.Prelude.{ℕ, List, ltb, length}
use Rattle.base.specs.Choice.{pick}
use Rattle.base.specs.Over.{over}
use Rattle.verdict.specs.Verdict.{Verdict, Fine, Refused as Faulty}
use Rattle.verdict.specs.Judgement.{fault}
use Rattle.table.specs.Table.{judge_size, judge_rows}
use Rattle.table.specs.Parts.{Part, table_of, content_of}
use Rattle.table_lasting.specs.Dropped.{Dropped, Done, Refused}
use Rattle.table_lasting.specs.Lasting.{lasting_of}

-- whole table records (1), count (9), each sample's size (4) and place (1), bytes left over (2)
unfoldable pub judge_drop : List ℕ → List ℕ → Verdict
judge_drop table samples = judge_rows (judge_size table samples) table samples

-- how many samples, and the bytes of both
unfoldable pub sizes_of : List Part → Dropped
sizes_of ps = Done (length ps) (length (table_of ps)) (length (content_of ps))

abbrev pub unless_faulty : Verdict → Dropped → Dropped
unless_faulty Fine d = d
unless_faulty (Faulty r) d = Refused r

-- the room that dropping needs, which is its answer where there is enough
unfoldable pub drop_room : List ℕ → List ℕ → Dropped
unfolding judge_drop sizes_of
drop_room table samples = unless_faulty (judge_drop table samples) (sizes_of (lasting_of table samples))

-- 15: the table does not fit (place 0), the samples do not (place 1)
abbrev pub roomed : ℕ → ℕ → Dropped → Dropped
roomed table_room samples_room (Ok x) = pick (ltb table_room x.table) (Refused (fault 15 0)) (pick (ltb samples_room x.bytes) (Refused (fault 15 1)) (Done x.samples x.table x.bytes))
roomed table_room samples_room (Refused r) = Refused r

-- the answer, by the room that there is
unfoldable pub drop_of : List ℕ → List ℕ → ℕ → ℕ → Dropped
unfolding drop_room
drop_of table samples table_room samples_room = roomed table_room samples_room (drop_room table samples)

-- an output: the bytes over its front on success, else as it was
abbrev pub out_of : Dropped → List ℕ → List ℕ → List ℕ
out_of (Ok x) new old = over new old
out_of (Refused r) new old = old
