-- Terms of the contracts of functions that only unpacking calls: what the answers say of the cues that are known.
use Rattle.std.specs.Prelude.{ℕ, ◌≤◌, ◌<◌, ◌≡◌, List, length}
use Rattle.timeline.specs.Tracks.{total}
use Rattle.timeline.specs.Unpacking.{Unpacked, stopped, done}
use Rattle.timeline.specs.Joining.{Taking, refused, going}
use Rattle.track.specs.Track.{track_of}
use Rattle.rows.specs.Table.{known, Good}
use Rattle.verdict.specs.Judgement.{fault}
use Rattle.gather.specs.Took.{Took, Goes, Stops}
use Rattle.gather.specs.Gathered.{Gathered, All, Fault}

-- what an answer says of the cues
abbrev pub taking_of : List ℕ → List ℕ → Took → Taking
taking_of samples tab (Goes n k) = going (known samples tab n) k
taking_of samples tab (Stops m) = refused m

abbrev pub Settled : ℕ → List ℕ → Took → Type 0
Settled l tab (Goes n k) = (n ≤ 1024) × Good l tab n
Settled l tab (Stops m) = Unit {0}

abbrev pub unpacked_of : List ℕ → List ℕ → Gathered → Unpacked
unpacked_of samples tab (All n t) = done (known samples tab n)
unpacked_of samples tab (Fault r) = stopped r.number r.place

abbrev pub Complete : List ℕ → List ℕ → List ℕ → Gathered → Type 0
Complete table samples tab (All n t) = (n ≤ 1024) × Good (length samples) tab n × (t ≡ total (track_of table samples)) × (t < 281474976710656)
Complete table samples tab (Fault r) = r ≡ fault r.number r.place
