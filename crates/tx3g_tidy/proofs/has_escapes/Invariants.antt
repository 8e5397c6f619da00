-- The invariant: x is 0 exactly if none of the bytes before b is escaped.
use Rattle.tx3g_tidy.proofs.Escapes.{PlainFirst}
use Rattle.tx3g_tidy.proofs.has_escapes.Given as goal

abbrev pub invariant-loop-b : goal.invariant-loop-b
invariant-loop-b l = PlainFirst l.text l.b-index l.x
