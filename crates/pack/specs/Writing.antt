-- Terms of the contracts of private functions: what is written for a begin.
use Rattle.std.specs.Prelude.{Ok}
use Rattle.std.specs.Prelude.{ℕ, ◌≤◌, ◌<◌, List, length}
use Rattle.timeline.specs.Lists.{listed}
use Rattle.timeline.specs.Cues.{Body, running_at}
use Rattle.records.specs.Records.{texts_end}
use Rattle.cues.specs.List.{cue_of}
use Rattle.pack.specs.Packed.{Packed, Refused}

-- the cues of the first k records that run at tick b
unfoldable pub shown : ℕ → List ℕ → List ℕ → ℕ → ℕ → List Body
shown scale recs pool b k = running_at (listed (cue_of scale recs pool) k) b

-- the texts of n records stand in the pool
abbrev pub Inside : List ℕ → List ℕ → ℕ → Type 0
Inside recs pool n = (i : ℕ) → i < n → texts_end recs i ≤ length pool

-- how many samples were packed; 0 where packing refused
abbrev pub count_of : Packed → ℕ
count_of (Ok x) = x.samples
count_of (Refused r) = 0
