-- At most one style holds a character. Proved in proofs/Only.antt.
use Rattle.std.specs.Prelude.{ℕ, ◌<◌, ◌≡◌, List, true}
use Rattle.fields.specs.BigEndian.{be}
use Rattle.bodies.specs.Body.{At}
use Rattle.tx3g_sample.specs.Reading.{Good}
use Rattle.tx3g_sample.specs.Sample.{read_sample}
use Rattle.tx3g_style.specs.Style.{holds, styles_of}

-- two styles of a sample without fault that hold the same character are one
abbrev pub OnlyOne : Type 0
OnlyOne = (e s : List ℕ) (n b k i j : ℕ) → read_sample e s ≡ Good n → styles_of s ≡ At b → i < be 2 s b → j < be 2 s b → holds s b k i ≡ true → holds s b k j ≡ true → i ≡ j
