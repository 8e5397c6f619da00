-- `tx3g_fonts::judge_walk` meets its contract. The invariant: where font k stands, and that this is within the body.
use Rattle.tx3g_fonts.specs.Fonts.{font_at}
use mathlib.Core.Path.{◌≡◌}
use Prim.Native.Nat.{◌≤◌}
use Rattle.tx3g_fonts.proofs.judge_walk.Given as goal

abbrev pub invariant-loop-k : goal.invariant-loop-k
invariant-loop-k l = (l.at ≡ font_at l.s l.body l._k) × (l.at ≤ l.next)
