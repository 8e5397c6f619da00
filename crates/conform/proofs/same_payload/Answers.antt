use Rattle.records.proofs.Laws.{in-records}
use Rattle.records.proofs.Laws.{in_order}
use Rattle.records.specs.Records.{payload_of}
use mathlib.Core.Path.{◌∙◌}
use native.Mathlib.Omega.{arith}
use Rattle.conform.proofs.same_payload.Goals as goal

pub payload_offset-from-requires : goal.payload_offset-from-requires
payload_offset-from-requires c = in-records _ _ c.requires.0

pub payload_length-n-requires : goal.payload_length-n-requires
payload_length-n-requires c = in-records _ _ c.requires.0

pub same_text-requires : goal.same_text-requires
same_text-requires c = (omega (arith, in_order c.args.records.now c.args.i, c.payload_length-n.ensures.0, c.payload_offset-from.ensures.0), c.requires.2)

pub returns : goal.returns
unfolding payload_of
returns c = c.same_text.ensures ∙ (rw (c.payload_offset-from.ensures.0, c.payload_length-n.ensures.0))
