-- `tx3g_box::find_box` meets its contract.
use Rattle.base.proofs.Results.{passed_on}
use Rattle.tx3g_sample.specs.declared.Fault.TheVariants.{Sample as OfSample}
use Rattle.tx3g_sample.proofs.Errors.{err_by, mapped}
use Rattle.tx3g_sample.proofs.Laws.{read-long}
use Rattle.tx3g_box.proofs.Laws.{unread, spot-by}
use Rattle.tx3g_box.specs.TextBox.{boxes_of, spot_of}
use mathlib.Core.Path.{◌≡◌, sym, ap, ◌∙◌}
use Rattle.tx3g_box.proofs.find_box.Goals as goal

pub returns-in_err-read_sample : goal.returns-in_err-read_sample
unfolding spot_of
returns-in_err-read_sample c = passed_on _ _ c.from_residual.ensures ∙ sym (unread _ _ _ (sym c.read_sample.ensures ∙ c.in_err-read_sample.was))

pub text_end-requires : goal.text_end-requires
text_end-requires c = read-long _ _ _ (sym c.read_sample.ensures ∙ c.in_ok-read_sample.was)

pub returns : goal.returns
unfolding spot_of boxes_of
returns c =
    let boxes : c.find_body.result ≡ boxes_of c.args.s.now = rw (← c.text_end.ensures.0) c.find_body.ensures in
    mapped OfSample _ _ (λ e d p. p) c.map_err.ensures.cases ∙ ap (err_by OfSample) (boxes) ∙ spot-by _ ∙ sym (rw (← c.read_sample.ensures, c.in_ok-read_sample.was))
