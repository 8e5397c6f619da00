-- What a cue of a sample without fault is, and what packing may write: within the limits, its texts by their rules.
use Rattle.std.specs.Prelude.{ℕ, ◌≤◌, ◌<◌, ◌≡◌, List, [], ◌∷◌, true, length}
use Rattle.std.proofs.Math.Option.{some}
use Rattle.text.specs.Rules.{identifier_text, payload_text}
use Rattle.timeline.specs.Cues.{Body}

pub record Sound (y : Body) : Type 0 where
  pub id_below : (n : ℕ) → y.id ≡ some n → n < 2147483648
  pub identifier_most : length y.identifier ≤ 255
  pub settings_most : length y.settings ≤ 255
  pub payload_most : length y.payload ≤ 4095
  pub identifier_right : identifier_text y.identifier ≡ true
  pub settings_right : identifier_text y.settings ≡ true
  pub payload_right : payload_text y.payload ≡ true

unfoldable pub AllSound : List Body → Type 0
AllSound [] = Unit {0}
AllSound (y ∷ ys) = Sound y × AllSound ys
