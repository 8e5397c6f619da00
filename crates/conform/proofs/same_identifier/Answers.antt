use Rattle.records.proofs.Laws.{in-records}
use Rattle.records.proofs.Laws.{in_order}
use Rattle.records.specs.Records.{identifier_of}
use mathlib.Core.Path.{◌∙◌}
use native.Mathlib.Omega.{arith}
use Rattle.conform.proofs.same_identifier.Goals as goal

pub text_offset-from-requires : goal.text_offset-from-requires
text_offset-from-requires c = in-records _ _ c.requires.0

pub identifier_length-n-requires : goal.identifier_length-n-requires
identifier_length-n-requires c = in-records _ _ c.requires.0

pub same_text-requires : goal.same_text-requires
same_text-requires c = (omega (arith, in_order c.args.records.now c.args.i, c.identifier_length-n.ensures.0, c.text_offset-from.ensures.0), c.requires.2)

pub returns : goal.returns
unfolding identifier_of
returns c = c.same_text.ensures ∙ (rw (c.text_offset-from.ensures.0, c.identifier_length-n.ensures.0))
