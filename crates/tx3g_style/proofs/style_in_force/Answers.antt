-- `tx3g_style::style_in_force` meets its contract.
use Rattle.base.proofs.Results.{passed_on}
use Rattle.std.specs.Prelude.{Ok}
use Rattle.tx3g_sample.specs.declared.Fault.TheVariants.{Sample as OfSample}
use Rattle.tx3g_sample.proofs.Errors.{err_by, mapped, still-ok}
use Rattle.tx3g_sample.proofs.Laws.{read-long}
use Rattle.tx3g_style.proofs.Laws.{styles-lie, default-lies, styles-refused}
use Rattle.tx3g_style.specs.Style.{styles_of, default_style}
use mathlib.Core.Path.{◌≡◌, ap, sym, ◌∙◌}
use native.Mathlib.Omega.{arith}
use Rattle.tx3g_style.proofs.style_in_force.Goals as goal

pub text_end-requires : goal.text_end-requires
text_end-requires c = read-long _ _ _ c.requires

pub returns-in_err-styles : goal.returns-in_err-styles
unfolding styles_of
returns-in_err-styles c =
    let where-styles : c.find_body.result ≡ styles_of c.args.s.now = rw (← c.text_end.ensures.0) c.find_body.ensures in
    let h : c.map_err.result ≡ err_by OfSample (styles_of c.args.s.now) = mapped OfSample _ _ (λ e d p. p) c.map_err.ensures.cases ∙ ap (err_by OfSample) (where-styles) in
    passed_on _ _ c.from_residual.ensures ∙ sym (styles-refused _ _ _ _ _ (sym h ∙ c.in_err-styles.was))

pub search_styles-requires : goal.search_styles-requires
unfolding styles_of
search_styles-requires c =
    let where-styles : c.find_body.result ≡ styles_of c.args.s.now = rw (← c.text_end.ensures.0) c.find_body.ensures in
    let h : c.map_err.result ≡ err_by OfSample (styles_of c.args.s.now) = mapped OfSample _ _ (λ e d p. p) c.map_err.ensures.cases ∙ ap (err_by OfSample) (where-styles) in
    (default-lies _ _ _ c.requires, styles-lie _ _ _ _ c.requires (still-ok OfSample _ _ (sym h ∙ c.in_ok-styles.was ∙ ap Ok c.in-Some.is)))

pub read_style-requires : goal.read_style-requires
read_style-requires c = let w = default-lies _ _ _ c.requires in omega arith

pub returns-in-Some : goal.returns-in-Some
unfolding styles_of
returns-in-Some c =
    let where-styles : c.find_body.result ≡ styles_of c.args.s.now = rw (← c.text_end.ensures.0) c.find_body.ensures in
    let h : c.map_err.result ≡ err_by OfSample (styles_of c.args.s.now) = mapped OfSample _ _ (λ e d p. p) c.map_err.ensures.cases ∙ ap (err_by OfSample) (where-styles) in
    rw (still-ok OfSample _ _ (sym h ∙ c.in_ok-styles.was ∙ ap Ok c.in-Some.is), c.search_styles.ensures)

pub returns-in-None : goal.returns-in-None
unfolding default_style styles_of
returns-in-None c =
    let where-styles : c.find_body.result ≡ styles_of c.args.s.now = rw (← c.text_end.ensures.0) c.find_body.ensures in
    let h : c.map_err.result ≡ err_by OfSample (styles_of c.args.s.now) = mapped OfSample _ _ (λ e d p. p) c.map_err.ensures.cases ∙ ap (err_by OfSample) (where-styles) in
    rw (still-ok OfSample _ _ (sym h ∙ c.in_ok-styles.was ∙ ap Ok c.in-None.is), c.read_style.ensures)
