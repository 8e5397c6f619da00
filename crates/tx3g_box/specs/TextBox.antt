-- The text box in force. Document 01, '3GPP text': handed out as the eight bytes where they stand, in the sample or else in the entry; no bytes when refused.
use Rattle.std.specs.Prelude.{ℕ, ◌+◌, List, [], length, take, drop}
use Rattle.boxes.specs.Boxes.{boxes_in}
use Rattle.bodies.specs.Body.{Body, At, Refused as Stopped, Nowhere as NoBody}
use Rattle.bodies.specs.Bodies.{body_of}
use Rattle.tx3g_contents.specs.Kinds.{tbox}
use Rattle.tx3g_sample.specs.Reading.{Reading, Good, BadEntry as EntryRefused, BadSample as SampleRefused}
use Rattle.tx3g_sample.specs.Sample.{text_end, read_sample}
use Rattle.tx3g_box.specs.Spot.{Spot, Sample, Entry, BadEntry, BadSample}

-- where the body of the `tbox` begins
unfoldable pub boxes_of : List ℕ → Body
boxes_of s = body_of tbox (boxes_in s (text_end s) (length s))

-- by that place; a refused header is passed up, which a sample without fault has not
abbrev pub spot_in : Body → Spot
spot_in (At b) = Sample b
spot_in (Stopped r) = BadSample r
spot_in NoBody = Entry

abbrev pub spot_by : List ℕ → Reading → Spot
spot_by s (Good n) = spot_in (boxes_of s)
spot_by s (EntryRefused r) = BadEntry r
spot_by s (SampleRefused r) = BadSample r

-- where the text box in force stands; or why there is none, and whose fault it is
unfoldable pub spot_of : List ℕ → List ℕ → Spot
unfolding boxes_of
spot_of e s = spot_by s (read_sample e s)

-- the bytes there, in entry e and sample s; no bytes when refused
abbrev pub bytes_at : List ℕ → List ℕ → Spot → List ℕ
bytes_at e s (Sample b) = take 8 (drop b s)
bytes_at e s Entry = take 8 (drop 26 e)
bytes_at e s (BadEntry r) = []
bytes_at e s (BadSample r) = []

-- the pointer to them, by those of the entry and of the sample
abbrev pub stands_at : {A : Type 0} → A × ℕ → A × ℕ → Spot → A × ℕ
stands_at e s (Sample b) = (s.0, b + s.1)
stands_at e s Entry = (e.0, 26 + e.1)
stands_at e s (BadEntry r) = s
stands_at e s (BadSample r) = s
