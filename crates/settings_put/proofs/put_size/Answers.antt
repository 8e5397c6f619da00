-- `settings_put::put_size` meets its contract: nothing for 100 %, or the name and the percentage.
use mathlib.Core.Path.{refl}
use native.Mathlib.Omega.{arith}
use borrow.Author.Tests.{ne_eqb}
use Rattle.settings.specs.Form.{word_of, joined}
use Rattle.settings.specs.Grammar.{size}
use Rattle.settings_put.proofs.Laws.{put_two}
use Rattle.settings_put.proofs.put_size.Goals as goal

pub returns-then-size-eq10000 : goal.returns-then-size-eq10000
unfolding joined
returns-then-size-eq10000 c = rw c.if-size-eq10000.true (refl, omega arith)

pub returns : goal.returns
unfolding word_of
returns c = let w = c.put_word-place.ensures in
    let p = c.put_percent.ensures in
    rw (ne_eqb _ _ c.if-size-eq10000.false) (put_two (size c.args.size) _ _ (omega arith) _ _ _ _ _ _ refl w.0 w.1 p.0 p.1 (omega (arith, w.2)), omega (arith, w.2, p.2))
