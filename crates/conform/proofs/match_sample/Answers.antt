use Rattle.conform.proofs.Laws.{from_on, from-differs, matches_from, from_first, from_last, from_start}
use mathlib.Core.Path.{◌∙◌, ap}
use native.Mathlib.Omega.{arith}
use Rattle.conform.proofs.match_sample.Goals as goal

pub loop-i-init : goal.loop-i-init
loop-i-init c = (c.requires.1.first_most, ap (matches_from _ _ _ _ _) (from_start _) ∙ from_first _ _ _ _ _ _ c.requires.1.ended)

pub match_record-met-requires : goal.match_record-met-requires
match_record-met-requires c = (omega (arith, c.requires.1.last_most), c.requires.0 _ (omega (arith, c.requires.1.last_most)), c.requires.1.started _ (omega arith))

pub returns-in_default : goal.returns-in_default
returns-in_default c = from-differs _ _ _ _ _ _ _ _ (omega (arith, c.requires.1.last_most)) c.match_record-met.ensures c.in_default.is ∙ c.loop-i.invariant.1

pub loop-i-preserved : goal.loop-i-preserved
loop-i-preserved c = (omega (arith, c.requires.1.last_most), from_on _ _ _ _ _ _ _ _ (omega (arith, c.requires.1.last_most)) c.match_record-met.ensures _ c.in-Some.is ∙ c.loop-i.invariant.1)

pub returns : goal.returns
returns c = c.none_left.ensures ∙ from_last _ _ _ _ _ _ _ (omega arith) c.requires.1.later ∙ c.loop-i.invariant.1
