-- `tx3g_sample::read_sample` meets its contract: the entry's fault, or the reading beside it.
use Rattle.base.proofs.Results.{passed_on}
use Rattle.tx3g_sample.specs.declared.Fault.TheVariants.{Entry as OfEntry, Sample as OfSample}
use Rattle.tx3g_sample.specs.Sample.{read_sample}
use Rattle.tx3g_sample.proofs.Errors.{err_by, mapped, still-ok, entry-refused, sample-read}
use mathlib.Core.Path.{sym, ap, ◌∙◌}
use Rattle.tx3g_sample.proofs.read_sample.Goals as goal

pub returns-in_err-map_err : goal.returns-in_err-map_err
unfolding read_sample
returns-in_err-map_err c =
    let h = mapped OfEntry _ _ (λ e d p. p) c.map_err.ensures.cases in
    passed_on _ _ c.from_residual.ensures ∙ sym (rw (← c.judge_entry.ensures) (entry-refused _ _ _ _ (sym h ∙ c.in_err-map_err.was)))

pub read_beside-requires : goal.read_beside-requires
read_beside-requires c = sym c.judge_entry.ensures ∙ still-ok OfEntry _ _ (sym (mapped OfEntry _ _ (λ e d p. p) c.map_err.ensures.cases) ∙ c.in_ok-map_err.was)

pub returns : goal.returns
unfolding read_sample
returns c =
    let h = mapped OfSample _ _ (λ e d p. p) c.map_err-2.ensures.cases in
    let q = still-ok OfEntry _ _ (sym (mapped OfEntry _ _ (λ e d p. p) c.map_err.ensures.cases) ∙ c.in_ok-map_err.was) in
    h ∙ ap (err_by OfSample) c.read_beside.ensures ∙ sample-read _ _ ∙ sym (rw (← c.judge_entry.ensures, q))
