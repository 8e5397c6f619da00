-- `tx3g_style::search_styles` meets its contract. The invariant: no style before the i-th holds the character.
use Rattle.tx3g_style.proofs.Laws.{NoneBefore}
use Rattle.tx3g_style.proofs.search_styles.Given as goal

abbrev pub invariant-loop-i : goal.invariant-loop-i
invariant-loop-i l = NoneBefore l.s l.body l.k l.i
