-- The invariant: none of the bytes of the first k eights is escaped.
use Prim.Native.Nat.{◌+◌, ◌*◌}
use mathlib.Core.Path.{◌≡◌}
use Rattle.boxes.specs.Boxes.{part}
use Rattle.tx3g_tidy.specs.Escapes.{extras}
use Rattle.tx3g_tidy.proofs.pass_plain.Given as goal

abbrev pub invariant-loop-k : goal.invariant-loop-k
invariant-loop-k l = extras (part l.text l.from (l.from + l.k * 8)) ≡ 0
