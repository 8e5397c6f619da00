-- `hh:`, `mm:`, `ss.` and `mmm`, each behind the one before.
use native.Mathlib.Omega.{arith}
use Rattle.timestamps.proofs.Written.{time-wrote}
use Rattle.timestamps.proofs.put_timestamp.Goals as goal

pub returns : goal.returns
returns c = time-wrote _ _ _ _ _ _ _ (omega arith) c.put_pair.ensures c.put_pair-2.ensures c.put_pair-3.ensures c.put_thousand.ensures
