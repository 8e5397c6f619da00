use mathlib.Core.Path.{◌≡◌, sym}
use lib.ListN.{length}
use borrow.Author.Tests.{le-leb}
use Rattle.settings.specs.Grammar.{named}
use Rattle.timestamps.specs.Timestamps.{front}
use Rattle.ascii.proofs.Blocks.{or-none}
use Rattle.settings_values.proofs.Laws.{run-reaches}
use native.Mathlib.Omega.{arith}
use Rattle.settings_values.proofs.is_name.Goals as goal

pub loop-b-init : goal.loop-b-init
loop-b-init c = (omega arith, sym (le-leb 0 (length (front named c.args.s.now)) (omega arith)))

pub loop-b-preserved : goal.loop-b-preserved
loop-b-preserved c = (omega (arith, c.loop-b-test.true), rw (or-none, c.space_of-x.ensures, c.loop-b.invariant.1) (run-reaches named c.args.s.now c.loop-b.b-index c.loop-b-test.true))

pub returns : goal.returns
returns c = let e : c.loop-b.b-index ≡ length c.args.s.now = omega (arith, c.loop-b.invariant.0, c.loop-b-test.false) in rw (← e) c.loop-b.invariant.1
