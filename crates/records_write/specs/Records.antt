-- Cue records and their pool, as they are written. Document 01, 'Cue records'.
use Rattle.std.specs.Prelude.{ℕ, zero, suc, List, [], ◌++◌, length, get_or}
use Rattle.std.proofs.Math.Option.{Option, none, some}
use Rattle.fields.specs.BigEndian.{bytes}
use Rattle.times.specs.Times.{back}
use Rattle.timeline.specs.Cues.{Body, Cue}
use Rattle.timeline.specs.Unpacking.{no_cue}

-- a record of 24 bytes
unfoldable pub record_bytes : ℕ → ℕ → ℕ → ℕ → ℕ → ℕ → ℕ → List ℕ
record_bytes id start end offset identifier settings payload =
    (bytes 4 id ++ (bytes 4 start ++ (bytes 4 end ++ bytes 4 offset)))
    ++ (bytes 2 identifier ++ (bytes 2 settings ++ (bytes 2 payload ++ bytes 2 0)))

-- every cue of the list has an ID
abbrev pub id_of : Option ℕ → ℕ
id_of none = 0
id_of (some n) = n

-- the record of a cue whose texts stand at an offset
unfoldable pub record_of : ℕ → ℕ → Cue → List ℕ
unfolding record_bytes
record_of scale offset c =
    record_bytes (id_of c.body.id) (back scale c.start) (back scale c.end) offset
    (length c.body.identifier) (length c.body.settings) (length c.body.payload)

-- the three texts of a cue
unfoldable pub texts_of : Body → List ℕ
texts_of y = y.identifier ++ (y.settings ++ y.payload)

-- the pool of the first k cues
unfoldable pub pool_to : List Cue → ℕ → List ℕ
unfolding texts_of
pool_to cs zero = []
pool_to cs (suc k) = pool_to cs k ++ texts_of (get_or cs k no_cue).body

-- their records; the offset is the pool's length so far
unfoldable pub records_to : ℕ → List Cue → ℕ → List ℕ
unfolding record_of pool_to
records_to scale cs zero = []
records_to scale cs (suc k) = records_to scale cs k ++ record_of scale (length (pool_to cs k)) (get_or cs k no_cue)

unfoldable pub pool_of : List Cue → List ℕ
unfolding pool_to
pool_of cs = pool_to cs (length cs)

unfoldable pub records_of : ℕ → List Cue → List ℕ
unfolding records_to
records_of scale cs = records_to scale cs (length cs)
