use mathlib.Core.Path.{◌≡◌, sym, ◌∙◌}
use native.Mathlib.Omega.{arith}
use Rattle.bodies.specs.Body.{At}
use Rattle.tx3g_contents.proofs.Laws.{styles-past}
use Rattle.tx3g_sample.proofs.Laws.{read-long}
use Rattle.tx3g_style.specs.Style.{styles_of}
use Rattle.tx3g_style.proofs.Laws.{styles-lie}
use Rattle.tx3g_read.proofs.Laws.{kept, none-kept}
use Rattle.tx3g_read.proofs.find_styles.Goals as goal

pub text_end-requires : goal.text_end-requires
text_end-requires c = read-long _ _ _ c.requires

pub get16-requires : goal.get16-requires
unfolding styles_of
get16-requires c =
    let at-body : c.find_body.result ≡ At c.in-Some.body = kept _ _ (rw (← c.ok.ensures.value, ← c.unwrap_or.ensures) c.in-Some.is) in
    let where-styles : c.find_body.result ≡ styles_of c.args.s.now = rw (← c.text_end.ensures.0) c.find_body.ensures in
    let w = styles-lie _ _ _ _ c.requires (sym where-styles ∙ at-body) in omega (arith, w, styles-past c.args.s.now c.in-Some.body)

pub overflow_add-result : goal.overflow_add-result
unfolding styles_of
overflow_add-result c =
    let at-body : c.find_body.result ≡ At c.in-Some.body = kept _ _ (rw (← c.ok.ensures.value, ← c.unwrap_or.ensures) c.in-Some.is) in
    let where-styles : c.find_body.result ≡ styles_of c.args.s.now = rw (← c.text_end.ensures.0) c.find_body.ensures in
    let w = styles-lie _ _ _ _ c.requires (sym where-styles ∙ at-body) in omega (arith, w, styles-past c.args.s.now c.in-Some.body)

pub returns-in-Some : goal.returns-in-Some
unfolding styles_of
returns-in-Some c =
    let at-body : c.find_body.result ≡ At c.in-Some.body = kept _ _ (rw (← c.ok.ensures.value, ← c.unwrap_or.ensures) c.in-Some.is) in
    let where-styles : c.find_body.result ≡ styles_of c.args.s.now = rw (← c.text_end.ensures.0) c.find_body.ensures in
    rw (← where-styles, at-body, c.get16.ensures.0)

pub returns-in-None : goal.returns-in-None
unfolding styles_of
returns-in-None c =
    let where-styles : c.find_body.result ≡ styles_of c.args.s.now = rw (← c.text_end.ensures.0) c.find_body.ensures in
    rw (← where-styles) (none-kept _ _ (rw (← c.ok.ensures.value, ← c.unwrap_or.ensures) c.in-None.is))
