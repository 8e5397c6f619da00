use Prim.Native.Nat.{◌<◌}
use mathlib.Core.Path.{◌≡◌, sym, ◌∙◌}
use native.Mathlib.Omega.{arith}
use lib.ListN.{length}
use Rattle.std.proofs.lemmas.Bool.Decides.{nat_tests}
use Rattle.text.proofs.Ends.{no_line, first_line}
use Rattle.text.proofs.begins_line.Goals as goal

pub returns-then-not-is_empty : goal.returns-then-not-is_empty
returns-then-not-is_empty c = let h : 0 < length c.args.s.now = grind (arith, nat_tests) in c.is_line_end.ensures ∙ sym (first_line _ h)

pub returns-else-not-is_empty : goal.returns-else-not-is_empty
returns-else-not-is_empty c = let h : length c.args.s.now ≡ 0 = grind (arith, nat_tests) in rw c.if-not-is_empty.false (sym (no_line _ h).0)
