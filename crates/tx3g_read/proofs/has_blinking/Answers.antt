-- `tx3g_read::has_blinking` meets its contract.
use mathlib.Core.Path.{◌≡◌, ap, ◌∙◌}
use Rattle.tx3g_read.specs.Sample.{retired_blinking}
use Rattle.tx3g_read.proofs.Blinking.{found, found-is}
use Rattle.tx3g_read.proofs.Laws.{kept-found}
use Rattle.tx3g_read.proofs.has_blinking.Goals as goal

pub returns : goal.returns
unfolding retired_blinking
returns c =
    let tells : found c.find_body.result ≡ retired_blinking c.args.s.now = rw (← c.text_end.ensures.0) (ap found c.find_body.ensures ∙ found-is _ _) in
    c.is_some.ensures ∙ rw (c.unwrap_or.ensures, c.ok.ensures.value) (kept-found c.find_body.result) ∙ tells
