-- The byte at hand, then the word that it begins.
use mathlib.Core.Path.{refl}
use native.Mathlib.Omega.{arith}
use Rattle.profile.specs.Machine.{step, find, escapes_l}
use Rattle.profile.specs.Readings.{Anywhere}
use Rattle.profile.proofs.Readings.{r-end}
use Rattle.profile.proofs.Readings.{byte_step}
use Rattle.profile_words.proofs.Laws.{ampl-dead}
use Rattle.profile_words.proofs.read_escape_l.Goals as goal

pub returns-then-s-at : goal.returns-then-s-at
returns-then-s-at c = r-end Anywhere _ _ _ _ c.if-s-at.true (λ x. refl)

pub returns-in-116 : goal.returns-in-116
unfolding step find escapes_l
returns-in-116 c = byte_step Anywhere _ _ _ 116 _ _ _ (omega arith) c.in-116.is (λ x. refl) c.read_word.ensures

pub returns-in-114 : goal.returns-in-114
unfolding step find escapes_l
returns-in-114 c = byte_step Anywhere _ _ _ 114 _ _ _ (omega arith) c.in-114.is (λ x. refl) c.read_word-in-114.ensures

pub returns-in_default : goal.returns-in_default
returns-in_default c = ampl-dead _ _ (omega arith) c.in_default.in_default-own.rest.0.1 c.in_default.in_default-own.rest.1
