use Rattle.records.proofs.Laws.{in-records}
use Rattle.records.proofs.Laws.{in_order}
use Rattle.records.specs.Records.{settings_of}
use mathlib.Core.Path.{◌∙◌}
use native.Mathlib.Omega.{arith}
use Rattle.conform.proofs.same_settings.Goals as goal

pub settings_offset-from-requires : goal.settings_offset-from-requires
settings_offset-from-requires c = in-records _ _ c.requires.0

pub settings_length-n-requires : goal.settings_length-n-requires
settings_length-n-requires c = in-records _ _ c.requires.0

pub same_text-requires : goal.same_text-requires
same_text-requires c = (omega (arith, in_order c.args.records.now c.args.i, c.settings_length-n.ensures.0, c.settings_offset-from.ensures.0), c.requires.2)

pub returns : goal.returns
unfolding settings_of
returns c = c.same_text.ensures ∙ (rw (c.settings_offset-from.ensures.0, c.settings_length-n.ensures.0))
