-- `tx3g_fonts::enter_fonts` meets its contract. The invariant: where font k stands, and the fonts before it are entered.
use Rattle.tx3g_fonts.specs.Fonts.{font_at, font_slots}
use mathlib.Core.Path.{◌≡◌}
use Rattle.tx3g_fonts.proofs.enter_fonts.Given as goal

abbrev pub invariant-loop-k : goal.invariant-loop-k
invariant-loop-k l = (l.at ≡ font_at l.s l.body l._k) × (l.slots ≡ font_slots l.s l.body l._k l.initial.slots)
