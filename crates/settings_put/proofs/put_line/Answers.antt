-- `settings_put::put_line` meets its contract: nothing, or the name, the place and the alignment.
use mathlib.Core.Path.{refl}
use native.Mathlib.Omega.{arith}
use Rattle.settings.specs.Form.{word_of, joined}
use Rattle.settings.specs.Grammar.{line}
use Rattle.settings_put.proofs.Laws.{not-auto, put_three}
use Rattle.settings_put.proofs.put_line.Goals as goal

pub returns-in-Auto : goal.returns-in-Auto
unfolding joined
returns-in-Auto c = rw c.in-Auto.is (refl, omega arith)

pub returns : goal.returns
unfolding word_of
returns c = let a = c.args in
    let w = c.put_word-place.ensures in
    let p = c.put_line_place-edge.ensures in
    let e = c.put_line_edge.ensures in
    rw (not-auto a.line a.align c.in_default.not-Auto) (put_three (line a.line a.align) _ _ (omega arith) _ _ _ _ _ _ _ _ _ refl w.0 w.1 p.0 p.1 e.0 e.1 (omega (arith, w.2, p.2, c.put_word-place.auto.out)) (omega (arith, w.2)), omega (arith, w.2, p.2, e.2))
