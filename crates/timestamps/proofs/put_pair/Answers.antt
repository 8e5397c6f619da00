-- Three stores are the three bytes.
use mathlib.Core.List.{[], ◌∷◌, ◌++◌}
use native.Mathlib.Omega.{arith}
use lib.ListN.{length-set}
use native.Mathlib.Numerals.{towards_suc}
use Rattle.base.proofs.Over.{sets-wrote}
use Rattle.timestamps.specs.Timestamps.{two}
use Rattle.timestamps.proofs.put_pair.Goals as goal

pub returns : goal.returns
unfolding two
returns c = rw (← sets-wrote c.args.out.now c.args.at (two c.args.n ++ c.args.mark ∷ []) (omega arith)) (simp towards_suc)

pub bounds-out-at-2 : goal.bounds-out-at-2
bounds-out-at-2 c = simp length-set (omega arith)

pub bounds-out-at-3 : goal.bounds-out-at-3
bounds-out-at-3 c = simp length-set (omega arith)
