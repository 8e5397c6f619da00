-- The payload of a `tx3g` sample. Document 02, K9.
use Rattle.std.specs.Prelude.{ℕ, List}
use Rattle.std.proofs.Math.Option.{Option, none}
use Rattle.base.specs.First.{first}
use Rattle.fields.specs.BigEndian.{be}
use Rattle.boxes.specs.Boxes.{part}
use Rattle.bodies.specs.Body.{Body, At, Refused as Stopped, Nowhere}
use Rattle.tx3g_sample.specs.Sample.{text_end}
use Rattle.tx3g_style.specs.Style.{holds, style_or, default_style, styles_of}
use Rattle.tx3g_payload.specs.Points.{points_of}
use Rattle.tx3g_payload.specs.Payload.{payload_of}

-- the characters of its text
unfoldable pub characters_at : List ℕ → List ℕ
characters_at s = points_of (part s 2 (text_end s))

-- the style range in which character k is, by where the body of the `styl` begins; a refused header is not in a sample without fault
abbrev pub range_in : List ℕ → ℕ → Body → Option ℕ
range_in s k Nowhere = none
range_in s k (Stopped r) = none
range_in s k (At b) = first (holds s b k) (be 2 s b)

unfoldable pub range_at : List ℕ → ℕ → Option ℕ
range_at s k = range_in s k (styles_of s)

-- the face flags of a range; in none, those of the default style
abbrev pub face_in : List ℕ → List ℕ → Body → Option ℕ → ℕ
face_in e s Nowhere m = (default_style e).face
face_in e s (Stopped r) m = (default_style e).face
face_in e s (At b) m = (style_or e s b m).face

unfoldable pub face_of : List ℕ → List ℕ → Option ℕ → ℕ
face_of e s m = face_in e s (styles_of s) m

-- the payload of a sample s beside its entry e
unfoldable pub payload_in : List ℕ → List ℕ → List ℕ
unfolding characters_at range_at face_of
payload_in e s = payload_of (range_at s) (face_of e s) (characters_at s)
