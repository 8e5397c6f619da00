-- `wvtt_entry_write::entry_size` meets its contract: a text above the limit makes an entry above it.
use Rattle.base.proofs.Results.{passed_on}
use Rattle.wvtt_entry_write.proofs.Laws.{limit-over, limit-under, size-over, label-over, size-labelled, size-bare}
use Rattle.wvtt_entry_write.specs.Terms.{sized}
use native.Mathlib.Omega.{arith}
use mathlib.Core.Path.{ap, sym, ◌∙◌}
use Rattle.wvtt_entry_write.proofs.entry_size.Goals as goal

pub returns-in_err-n : goal.returns-in_err-n
returns-in_err-n c = let w = limit-over _ _ (sym c.limit_size.ensures ∙ c.in_err-n.was) in
    passed_on _ _ c.from_residual.ensures ∙ w.1 ∙ size-over _ _ w.0

pub returns-in_err-m : goal.returns-in_err-m
returns-in_err-m c = let w = limit-over _ _ (sym c.limit_size-then-labelled.ensures ∙ c.in_err-m.was) in
    passed_on _ _ c.from_residual-in_err-m.ensures ∙ w.1 ∙ label-over _ _ _ c.if-labelled.true w.0

pub returns-in_ok-m : goal.returns-in_ok-m
returns-in_ok-m c = let a = c.args in
    let n = limit-under _ _ (sym c.limit_size.ensures ∙ c.in_ok-n.was) in
    let m = limit-under _ _ (sym c.limit_size-then-labelled.ensures ∙ c.in_ok-m.was) in
    c.limit_size-then-labelled-2.ensures ∙ ap sized (omega (arith, n.0, m.0, size-labelled a.configuration.now a.labelled a.label.now c.if-labelled.true))

pub returns-else-labelled : goal.returns-else-labelled
returns-else-labelled c = let a = c.args in
    let n = limit-under _ _ (sym c.limit_size.ensures ∙ c.in_ok-n.was) in
    c.limit_size-else-labelled.ensures ∙ ap sized (omega (arith, n.0, size-bare a.configuration.now a.labelled a.label.now c.if-labelled.false))
