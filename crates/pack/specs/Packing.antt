-- Packing: the track of a list of records, its bytes, and the whole answer. Document 01, 'Tracks and packing' and 'Order'.
use Rattle.std.specs.Prelude.{Ok}
use Rattle.std.specs.Prelude.{ℕ, List, [], ◌∷◌, ◌++◌, ltb, length}
use Rattle.base.specs.Choice.{pick}
use Rattle.base.specs.Over.{over}
use Rattle.verdict.specs.Verdict.{Verdict, Fine, Refused as Faulty}
use Rattle.verdict.specs.Judgement.{fault}
use Rattle.fields.specs.BigEndian.{bytes}
use Rattle.times.specs.Times.{tick}
use Rattle.timeline.specs.Tracks.{Sample}
use Rattle.timeline.specs.Packing.{packed}
use Rattle.wvtt_write.specs.Written.{sample_bytes}
use Rattle.cues.specs.Judgement.{judge_list}
use Rattle.cues.specs.List.{cues_of}
use Rattle.pack.specs.Packed.{Packed, Done, Refused}

-- the packed track of the records' cues
unfoldable pub packed_track : ℕ → ℕ → List ℕ → List ℕ → List Sample
packed_track scale T recs pool = packed (cues_of scale recs pool) (tick scale T)

-- the table record of a sample: duration 4, sample size 4
unfoldable pub row_bytes : Sample → List ℕ
row_bytes s = bytes 4 s.duration ++ bytes 4 (length (sample_bytes s.held))

-- the table: the records of the samples, one after the other
unfoldable pub table_bytes : List Sample → List ℕ
unfolding row_bytes
table_bytes [] = []
table_bytes (s ∷ ss) = row_bytes s ++ table_bytes ss

-- the samples back to back
unfoldable pub samples_bytes : List Sample → List ℕ
samples_bytes [] = []
samples_bytes (s ∷ ss) = sample_bytes s.held ++ samples_bytes ss

-- how many samples, and the bytes of both
unfoldable pub sizes_of : List Sample → Packed
unfolding table_bytes samples_bytes
sizes_of track = Done (length track) (length (table_bytes track)) (length (samples_bytes track))

abbrev pub unless_faulty : Verdict → Packed → Packed
unless_faulty Fine p = p
unless_faulty (Faulty r) p = Refused r

-- the room that packing needs, which is its answer where there is enough: the list's fault; else done
unfoldable pub pack_room : ℕ → ℕ → List ℕ → List ℕ → Packed
unfolding packed_track sizes_of
pack_room scale T recs pool = unless_faulty (judge_list scale T recs pool) (sizes_of (packed_track scale T recs pool))

-- 15: the table does not fit (place 0), the samples do not (place 1)
abbrev pub roomed : ℕ → ℕ → Packed → Packed
roomed table_room samples_room (Ok x) = pick (ltb table_room x.table) (Refused (fault 15 0)) (pick (ltb samples_room x.bytes) (Refused (fault 15 1)) (Done x.samples x.table x.bytes))
roomed table_room samples_room (Refused r) = Refused r

-- the answer: the list's fault; else 15; else done
unfoldable pub packed_of : ℕ → ℕ → List ℕ → List ℕ → ℕ → ℕ → Packed
unfolding pack_room
packed_of scale T recs pool table_room samples_room = roomed table_room samples_room (pack_room scale T recs pool)

-- what an output d holds afterwards: the result p over its front, or else what it held
abbrev pub after : Packed → List ℕ → List ℕ → List ℕ
after (Ok x) p d = over p d
after (Refused r) p d = d
