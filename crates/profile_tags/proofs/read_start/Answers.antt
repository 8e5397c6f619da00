-- A letter and > ; else the name, then what stands behind it.
use mathlib.Core.Path.{subst⁻¹}
use Rattle.base.proofs.Results.{passed_on}
use Rattle.profile.specs.Spot.{Past, Bad}
use Rattle.profile_tags.specs.Terms.{StartIs}
use Rattle.profile_tags.proofs.Starts.{start-head, start-short}
use Rattle.profile_tags.proofs.read_start.Goals as goal

pub returns-then-is_short : goal.returns-then-is_short
returns-then-is_short c = start-short _ _ _ (rw c.if-is_short.true at c.is_short.ensures) _ c.requires.1 c.likely_tag-x.ensures

pub returns-in_err-next : goal.returns-in_err-next
returns-in_err-next c = subst⁻¹ (StartIs c.args.s.now c.args.at c.args.ruby) (passed_on _ _ c.from_residual.ensures) c.in_err-next.ensures

pub read_head-requires : goal.read_head-requires
read_head-requires c = c.in_ok-next.ensures.bounds.1

pub returns-in_err-read_head : goal.returns-in_err-read_head
returns-in_err-read_head c =
    subst⁻¹ (StartIs c.args.s.now c.args.at c.args.ruby) (passed_on _ _ c.from_residual-in_err-read_head.ensures)
    (start-head _ _ _ _ _ (Bad _) c.in_ok-next.ensures c.in_err-read_head.ensures)

pub returns : goal.returns
returns c = start-head _ _ _ _ _ (Past _) c.in_ok-next.ensures c.in_ok-read_head.ensures
