-- The letter of the tag, and > behind it.
use native.Mathlib.Omega.{arith}
use Rattle.profile_tags.proofs.Starts.{short-is}
use Rattle.profile_tags.proofs.is_short.Goals as goal

pub returns-then-s-at : goal.returns-then-s-at
returns-then-s-at c =
    let a = c.args in
    short-is a.s.now a.at _ _ c.number_of-i.ensures (omega arith) (omega arith) c.if-s-at.true
