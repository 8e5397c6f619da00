use mathlib.Core.Path.{◌∙◌, ap}
use native.Mathlib.Omega.{arith}
use native.Mathlib.Numerals.{add-one}
use lib.Seq.{take_all}
use Rattle.tx3g_payload.specs.Statements.{has_zero}
use Rattle.tx3g_convert.proofs.Zeros.{none_yet, zero-next, not-twice}
use Rattle.tx3g_convert.proofs.has_zero.Goals as goal

pub loop-b-init : goal.loop-b-init
loop-b-init c = none_yet

pub loop-b-preserved : goal.loop-b-preserved
loop-b-preserved c = rw add-one (zero-next _ _ c.loop-b.x c.zero_mark_of-x.result (omega arith) c.zero_mark_of-x.ensures c.loop-b.invariant)

pub returns : goal.returns
returns c = not-twice _ _ c.loop-b.invariant ∙ ap has_zero (take_all _ _ (omega arith))
