use native.Mathlib.Omega.{arith}
use Rattle.utf8.proofs.Classes.{in-next}
use Rattle.utf8.proofs.ByteTables.next.Goals as goal

pub returns : goal.returns
returns c = let r = in-next _ c.args.state c.args.class c.args.self.now.words_right (omega arith) (omega arith) in (r.1, rw r.1 r.2)
