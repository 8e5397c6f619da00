-- Samples that last: their duration is not 0.
use Rattle.std.specs.Prelude.{ℕ, List, [], ◌∷◌, not, eqb}
use Rattle.base.specs.Choice.{keep}
use Rattle.timeline.specs.Cues.{Body}
use Rattle.timeline.specs.Tracks.{Sample}
use Rattle.table.specs.Parts.{Part, parts_of}

unfoldable pub lasting : List Sample → List Sample
lasting [] = []
lasting (s ∷ ss) = keep (not (eqb s.duration 0)) s (lasting ss)

unfoldable pub lasting_parts : List Part → List Part
lasting_parts [] = []
lasting_parts (p ∷ ps) = keep (not (eqb p.duration 0)) p (lasting_parts ps)

-- those of a table
unfoldable pub lasting_of : List ℕ → List ℕ → List Part
lasting_of table samples = lasting_parts (parts_of table samples)

-- the track, by what is read from a sample's bytes
unfoldable pub track_by : (List ℕ → List Body) → List Part → List Sample
track_by read [] = []
track_by read (p ∷ ps) = record { duration = p.duration; held = read p.content } ∷ track_by read ps
