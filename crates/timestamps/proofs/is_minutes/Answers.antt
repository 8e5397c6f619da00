-- Minutes, seconds and milliseconds are tested one by one.
use mathlib.Core.Path.{sym, ◌∙◌}
use native.Mathlib.Omega.{arith}
use Rattle.base.proofs.Tests.{both-no}
use Rattle.timestamps.proofs.Laws.{minutes-at}
use Rattle.timestamps.proofs.is_minutes.Goals as goal

pub returns-then-not-is_pair : goal.returns-then-not-is_pair
returns-then-not-is_pair c = rw (minutes-at c.args.s.now c.args.at (omega arith), sym c.is_pair.ensures ∙ c.if-not-is_pair.true)

pub returns-then-not-is_pair-2 : goal.returns-then-not-is_pair-2
returns-then-not-is_pair-2 c = rw (minutes-at c.args.s.now c.args.at (omega arith), sym c.is_pair-2.ensures ∙ c.if-not-is_pair-2.true, both-no)

pub returns : goal.returns
returns c = rw (minutes-at c.args.s.now c.args.at (omega arith), sym c.is_pair.ensures ∙ c.if-not-is_pair.false, sym c.is_pair-2.ensures ∙ c.if-not-is_pair-2.false) c.is_thousand.ensures
