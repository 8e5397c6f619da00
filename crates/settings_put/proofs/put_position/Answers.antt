-- `settings_put::put_position` meets its contract: nothing, or the name, the percentage and the alignment.
use mathlib.Core.Path.{refl}
use native.Mathlib.Omega.{arith}
use Rattle.settings.specs.Form.{word_of, joined}
use Rattle.settings.specs.Grammar.{position}
use Rattle.settings.specs.declared.Position.TheVariants.{Percent}
use Rattle.settings_put.proofs.Laws.{put_three}
use Rattle.settings_put.proofs.put_position.Goals as goal

pub returns-in_default : goal.returns-in_default
unfolding joined
returns-in_default c = rw c.in_default.is (refl, omega arith)

pub returns : goal.returns
unfolding word_of
returns c = let w = c.put_word-place.ensures in
    let p = c.put_percent-edge.ensures in
    let e = c.put_position_edge.ensures in
    rw c.in-Percent.is (put_three (position (Percent c.in-Percent.p) c.args.align) _ _ (omega arith) _ _ _ _ _ _ _ _ _ refl w.0 w.1 p.0 p.1 e.0 e.1 (omega (arith, w.2, p.2, c.put_word-place.auto.out)) (omega (arith, w.2)), omega (arith, w.2, p.2, e.2))
