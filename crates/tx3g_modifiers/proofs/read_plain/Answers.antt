-- `tx3g_modifiers::read_plain` meets its contract.
use Rattle.tx3g_modifiers.specs.Modifiers.{plain_of}
use Rattle.tx3g_contents.specs.Kinds.{hlit, hclr}
use borrow.Author.Tests.{ne_eqb}
use native.Mathlib.Omega.{arith}
use Rattle.tx3g_modifiers.proofs.read_plain.Goals as goal

pub returns-in-1751935348 : goal.returns-in-1751935348
unfolding plain_of
returns-in-1751935348 c = rw (c.in-1751935348.is, c.get16.ensures.0, c.get16-in-1751935348.ensures.0)

pub returns-in-1751346290 : goal.returns-in-1751346290
unfolding plain_of
returns-in-1751346290 c = rw (c.in-1751346290.is, c.get8.ensures.0, c.get8-in-1751346290.ensures.0, c.get8-in-1751346290-2.ensures.0, c.get8-in-1751346290-3.ensures.0)

pub returns-in_default : goal.returns-in_default
unfolding plain_of
returns-in_default c = rw (ne_eqb c.args.kind hlit (λ e. omega arith), ne_eqb c.args.kind hclr (λ e. omega arith), c.get32.ensures.0)
