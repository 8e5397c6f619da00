-- The first time, ` --> `, the second.
use mathlib.Core.Path.{◌∙◌}
use native.Mathlib.Omega.{arith}
use lib.ListN.{length-set}
use Rattle.vtt_write.proofs.Laws.{times-written}
use Rattle.vtt_write.proofs.put_times.Goals as goal

pub bounds-out-at-2 : goal.bounds-out-at-2
bounds-out-at-2 c = simp length-set (omega (arith, c.put_timestamp.auto.out))

pub bounds-out-at-3 : goal.bounds-out-at-3
bounds-out-at-3 c = simp length-set (omega (arith, c.put_timestamp.auto.out))

pub bounds-out-at-4 : goal.bounds-out-at-4
bounds-out-at-4 c = simp length-set (omega (arith, c.put_timestamp.auto.out))

pub bounds-out-at-5 : goal.bounds-out-at-5
bounds-out-at-5 c = simp length-set (omega (arith, c.put_timestamp.auto.out))

pub put_timestamp-requires-2 : goal.put_timestamp-requires-2
put_timestamp-requires-2 c = simp length-set (omega arith)

pub shape_of-out : goal.shape_of-out
shape_of-out c = c.put_timestamp-2.auto.out ∙ simp length-set c.put_timestamp.auto.out

pub returns : goal.returns
returns c = times-written _ _ _ _ _ _ (omega arith) c.put_timestamp.ensures c.put_timestamp-2.ensures
