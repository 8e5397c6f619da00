-- `settings_put::put_vertical` meets its contract, value by value.
use mathlib.Core.Path.{refl}
use native.Mathlib.Omega.{arith}
use Rattle.settings.specs.Form.{word_of, joined}
use Rattle.settings.specs.Grammar.{vertical}
use Rattle.settings.specs.declared.Vertical.TheVariants.{Rl, Lr}
use Rattle.settings_put.proofs.Laws.{put_one}
use Rattle.settings_put.proofs.put_vertical.Goals as goal

pub returns-in-None : goal.returns-in-None
unfolding joined
returns-in-None c = rw c.in-None.is (refl, omega arith)

pub returns-in-Rl : goal.returns-in-Rl
unfolding word_of
returns-in-Rl c = let e = c.put_word.ensures in rw c.in-Rl.is (put_one (vertical Rl) _ _ (omega arith) _ _ _ refl e.0 e.1, omega (arith, e.2))

pub returns-in-Lr : goal.returns-in-Lr
unfolding word_of
returns-in-Lr c = let e = c.put_word-in-Lr.ensures in rw c.in-Lr.is (put_one (vertical Lr) _ _ (omega arith) _ _ _ refl e.0 e.1, omega (arith, e.2))
