use Prim.Native.Nat.{◌+◌}
use mathlib.Core.Path.{refl, ◌∙◌}
use Rattle.ascii.proofs.Blocks.{all-part}
use Rattle.ascii.proofs.is_unmarked8.Goals as goal

pub returns : goal.returns
returns c = c.is_unmarked.ensures ∙ all-part _ _ c.args.i 8 (c.args.i + 8) refl c.requires
