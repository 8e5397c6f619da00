-- By the byte at hand, and by that behind the <.
use native.Mathlib.Omega.{arith}
use mathlib.Core.Logic.{inl}
use Rattle.profile_judge.proofs.Laws.{marked-less, mark-last-is, mark-time-is}
use Rattle.profile_judge.proofs.is_mark.Goals as goal

pub returns-then-at-s : goal.returns-then-at-s
returns-then-at-s c = mark-last-is c.args.s.now c.args.at (omega arith) (omega (arith, c.type_inv.s c.args.at)) c.requires.1

pub returns-then-s-at-ne47 : goal.returns-then-s-at-ne47
returns-then-s-at-ne47 c = mark-time-is c.args.s.now c.args.at (omega arith) (omega (arith, c.type_inv.s c.args.at)) c.requires.1 c.if-s-at-eq38.false c.if-s-at-ne47.true

pub returns-else-s-at-ne47 : goal.returns-else-s-at-ne47
returns-else-s-at-ne47 c = rw c.if-s-at-ne47.false (λ h. marked-less c.args.s.now c.args.at h (omega (arith, c.type_inv.s c.args.at)) c.requires.1 c.if-s-at-eq38.false, λ h. inl c.if-s-at-ne47.false)
