-- `input::grow` meets its contract.
use Prim.Native.Nat.{◌-◌}
use mathlib.Core.Path.{◌≡◌}
use Rattle.input.specs.Line.{top}
use Rattle.input.specs.Reading.{grown}
use Rattle.input.proofs.Laws.{digit-from}
use Rattle.input.proofs.grow.Goals as goal

pub overflow_sub-b : goal.overflow_sub-b
overflow_sub-b c = digit-from c.args.b c.requires

pub returns : goal.returns
unfolding grown top
returns c =
    let v : c.from.result ≡ c.args.v = c.from.ensures in
    let d : c.from-2.result ≡ c.args.b - 48 = c.from-2.ensures in
    rw (← v, ← d) c.min.ensures
