-- `fields::put32` meets its contract: the bytes of the number are those of the definition.
use Prim.Native.Nat.{ℕ, ◌/◌, ◌%◌}
use mathlib.Core.List.{◌∷◌, []}
use mathlib.Core.Path.{◌≡◌, refl, ◌∙◌}
use native.Mathlib.Omega.{arith}
use Rattle.fields.specs.BigEndian.{bytes}
use Rattle.fields.proofs.BigEndian.{put-bytes}
use Rattle.fields.proofs.put32.Goals as goal

-- the bytes by one division each, and by one after the other
four : (v : ℕ) → v / 16777216 % 256 ∷ (v / 65536 % 256 ∷ (v / 256 % 256 ∷ (v % 256 ∷ []))) ≡ bytes 4 v
unfolding bytes
four v =
    let a : v / 65536 ≡ v / 256 / 256 = omega arith in
    let b : v / 16777216 ≡ v / 256 / 256 / 256 = omega arith in
    rw (a, b) refl

pub returns : goal.returns
returns c = put-bytes c.args.d.now _ c.args.at 4 _ c.args.v (c.copy_from_slice.ensures.after ∙ c.to_be_bytes.ensures ∙ four c.args.v) (omega arith)
