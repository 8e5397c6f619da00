-- `settings_put::put_align` meets its contract, value by value.
use mathlib.Core.Path.{refl}
use native.Mathlib.Omega.{arith}
use Rattle.settings.specs.Form.{word_of, joined}
use Rattle.settings.specs.Grammar.{align}
use Rattle.settings.specs.declared.Align.TheVariants.{Start, End, Left, Right}
use Rattle.settings_put.proofs.Laws.{put_one}
use Rattle.settings_put.proofs.put_align.Goals as goal

pub returns-in-Start : goal.returns-in-Start
unfolding word_of
returns-in-Start c = let e = c.put_word.ensures in rw c.in-Start.is (put_one (align Start) _ _ (omega arith) _ _ _ refl e.0 e.1, omega (arith, e.2))

pub returns-in-Center : goal.returns-in-Center
unfolding joined
returns-in-Center c = rw c.in-Center.is (refl, omega arith)

pub returns-in-End : goal.returns-in-End
unfolding word_of
returns-in-End c = let e = c.put_word-in-End.ensures in rw c.in-End.is (put_one (align End) _ _ (omega arith) _ _ _ refl e.0 e.1, omega (arith, e.2))

pub returns-in-Left : goal.returns-in-Left
unfolding word_of
returns-in-Left c = let e = c.put_word-in-Left.ensures in rw c.in-Left.is (put_one (align Left) _ _ (omega arith) _ _ _ refl e.0 e.1, omega (arith, e.2))

pub returns-in-Right : goal.returns-in-Right
unfolding word_of
returns-in-Right c = let e = c.put_word-in-Right.ensures in rw c.in-Right.is (put_one (align Right) _ _ (omega arith) _ _ _ refl e.0 e.1, omega (arith, e.2))
