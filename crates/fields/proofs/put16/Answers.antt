-- `fields::put16` meets its contract: the lower bytes of the number are those of the definition.
use Prim.Native.Nat.{ℕ, ◌/◌, ◌%◌}
use mathlib.Core.List.{◌∷◌, []}
use mathlib.Core.Path.{◌≡◌, refl, ◌∙◌}
use native.Mathlib.Omega.{arith}
use Rattle.fields.specs.BigEndian.{bytes}
use Rattle.fields.proofs.BigEndian.{put-bytes}
use Rattle.fields.proofs.put16.Goals as goal

two : (v : ℕ) → v / 256 % 256 ∷ (v % 256 ∷ []) ≡ bytes 2 v
unfolding bytes
two v = refl

pub returns : goal.returns
returns c = put-bytes c.args.d.now _ c.args.at 2 _ c.args.v (c.copy_from_slice.ensures.after ∙ rw c.to_be_bytes.ensures (two c.args.v)) (omega arith)
