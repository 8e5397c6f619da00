use Prim.Native.Nat.{◌+◌}
use mathlib.Core.Path.{◌∙◌}
use lib.ListN.{get_or}
use borrow.Author.Tests.{ne_eqb}
use Rattle.vtt_lines.proofs.Arrows.{no-greater, no-dash, first-dash}
use Rattle.vtt_lines.proofs.is_arrow.Goals as goal

pub returns-else-s-i-eq62 : goal.returns-else-s-i-eq62
returns-else-s-i-eq62 c = ne_eqb (get_or c.args.s.now (c.args.i + 2) 0) 62 c.if-s-i-eq62.false ∙ no-greater _ _ c.requires c.if-s-i-eq62.false

pub returns-else-s-i-eq45 : goal.returns-else-s-i-eq45
returns-else-s-i-eq45 c = ne_eqb (get_or c.args.s.now (c.args.i + 1) 0) 45 c.if-s-i-eq45.false ∙ no-dash _ _ c.requires c.if-s-i-eq45.false

pub returns-then-s-i-eq45 : goal.returns-then-s-i-eq45
returns-then-s-i-eq45 c = first-dash _ _ c.requires c.if-s-i-eq62.true c.if-s-i-eq45.true
