-- The cue's tests in their order, then its row.
use mathlib.Core.Path.{refl, sym, ap, ◌∙◌, subst⁻¹}
use native.Mathlib.Omega.{arith}
use lib.ListN.{length}
use Rattle.base.proofs.Results.{passed_on}
use Rattle.verdict.specs.Verdict.{Refused}
use Rattle.rows.specs.declared.Row.{Row}
use Rattle.vtt_read.specs.Steps.{TurnIs, RowAt}
use Rattle.vtt_read.proofs.States.{long-limits, many-stops, long-stops, content-stops, content-fine, cue-on, row_on}
use Rattle.vtt_read.proofs.Rows.{rows_more}
use Rattle.vtt_read.proofs.judge_cue.Goals as goal

pub returns-then-state-ge1024 : goal.returns-then-state-ge1024
returns-then-state-ge1024 c = many-stops _ _ c.requires.0 _ c.requires.1 c.if-state-ge1024.true ∙ ap Refused (sym c.fault_at.ensures)

pub returns-then-long_texts : goal.returns-then-long_texts
returns-then-long_texts c =
    let p = c.requires in
    let g = c.scan-g.ensures.1 in
    long-stops _ _ p.0 _ p.1 c.if-state-ge1024.false _ (g.sized ∙ ap length p.1.payload_is) (sym c.long_texts.ensures ∙ c.if-long_texts.true) ∙ ap Refused (sym c.fault_at-then-long_texts.ensures)

pub judge_found-requires : goal.judge_found-requires
judge_found-requires c = let p = c.requires in (p.1, c.scan-g.ensures.1, (long-limits _ _ _ (sym c.long_texts.ensures ∙ c.if-long_texts.false)).2, p.2)

pub returns-in_err-judge_found : goal.returns-in_err-judge_found
returns-in_err-judge_found c =
    let p = c.requires in
    let n = c.scan-g.ensures.1.sized ∙ ap length p.1.payload_is in
    let short = sym c.long_texts.ensures ∙ c.if-long_texts.false in
    subst⁻¹ (TurnIs c.args.s.now c.args.state.at c.args.tab.now) (passed_on _ _ c.from_residual.ensures)
    (content-stops _ _ p.0 _ p.1 c.if-state-ge1024.false _ n short _ p.1.payload_is _ c.judge_found.ensures _ c.in_err-judge_found.was)

pub put_row-requires : goal.put_row-requires
put_row-requires c = omega (arith, c.requires.3.long, c.if-state-ge1024.false)

pub overflow_sub-result : goal.overflow_sub-result
overflow_sub-result c = c.requires.1.identifier_from

pub overflow_add-result-2 : goal.overflow_add-result-2
overflow_add-result-2 c = let l = long-limits _ _ _ (sym c.long_texts.ensures ∙ c.if-long_texts.false) in record { fits = omega (arith, c.requires.0.few, c.requires.0.small, l.0) }

pub overflow_sub-result-2 : goal.overflow_sub-result-2
overflow_sub-result-2 c = c.requires.1.ordered

pub overflow_add-result-3 : goal.overflow_add-result-3
overflow_add-result-3 c = let l = long-limits _ _ _ (sym c.long_texts.ensures ∙ c.if-long_texts.false) in record { fits = omega (arith, c.requires.0.few, c.requires.0.small, l.0, l.1) }

pub overflow_add-result-4 : goal.overflow_add-result-4
overflow_add-result-4 c = let l = long-limits _ _ _ (sym c.long_texts.ensures ∙ c.if-long_texts.false) in record { fits = omega (arith, c.requires.0.few, c.requires.0.small, l.0, l.1, l.2) }

pub returns : goal.returns
returns c =
    let p = c.requires in
    let g = c.scan-g.ensures in
    let few = c.if-state-ge1024.false in
    let n = g.1.sized ∙ ap length p.1.payload_is in
    let short = sym c.long_texts.ensures ∙ c.if-long_texts.false in
    let fine = content-fine _ _ p.0 _ p.1 few _ n short _ p.1.payload_is _ c.judge_found.ensures c.in_ok-judge_found.was in
    let on = cue-on _ _ p.0 _ p.1 few _ n short fine _ _ _ g.0 refl in
    let row = subst⁻¹ (λ (x : Row). RowAt c.args.s.now x c.args.state.count) c.row_of.ensures (row_on _ _ p.0 _ p.1 few _ n short fine _ _ g.1) in
    (on.0, on.1, rows_more _ _ _ _ _ p.3 row c.put_row.ensures)
