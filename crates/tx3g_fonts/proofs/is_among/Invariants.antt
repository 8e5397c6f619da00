-- `tx3g_fonts::is_among` meets its contract. The invariant: where font k stands, and none before it has the ID.
use Rattle.tx3g_fonts.specs.Fonts.{font_at, font_among}
use mathlib.Core.Bool.{false}
use mathlib.Core.Path.{◌≡◌}
use Rattle.tx3g_fonts.proofs.is_among.Given as goal

abbrev pub invariant-loop-k : goal.invariant-loop-k
invariant-loop-k l = (l.at ≡ font_at l.s l.body l._k) × (font_among l.s l.body l._k l.id ≡ false)
