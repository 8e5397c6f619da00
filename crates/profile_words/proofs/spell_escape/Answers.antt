-- The byte at hand, then the word that it begins.
use mathlib.Core.Path.{refl}
use native.Mathlib.Omega.{arith}
use Rattle.profile.specs.Machine.{step, find, escapes}
use Rattle.profile.specs.Readings.{Anywhere}
use Rattle.profile.proofs.Readings.{r-end}
use Rattle.profile.proofs.Readings.{byte_step}
use Rattle.profile_words.proofs.Laws.{amp-dead}
use Rattle.profile_words.proofs.spell_escape.Goals as goal

pub returns-then-s-at : goal.returns-then-s-at
returns-then-s-at c = r-end Anywhere _ _ _ _ c.if-s-at.true (λ x. refl)

pub returns-in-97 : goal.returns-in-97
unfolding step find escapes
returns-in-97 c = byte_step Anywhere _ _ _ 97 _ _ _ (omega arith) c.in-97.is (λ x. refl) c.read_word.ensures

pub returns-in-103 : goal.returns-in-103
unfolding step find escapes
returns-in-103 c = byte_step Anywhere _ _ _ 103 _ _ _ (omega arith) c.in-103.is (λ x. refl) c.read_word-in-103.ensures

pub returns-in-108 : goal.returns-in-108
unfolding step find escapes
returns-in-108 c = byte_step Anywhere _ _ _ 108 _ _ _ (omega arith) c.in-108.is (λ x. refl) c.read_escape_l.ensures

pub returns-in-110 : goal.returns-in-110
unfolding step find escapes
returns-in-110 c = byte_step Anywhere _ _ _ 110 _ _ _ (omega arith) c.in-110.is (λ x. refl) c.read_word-in-110.ensures

pub returns-in-114 : goal.returns-in-114
unfolding step find escapes
returns-in-114 c = byte_step Anywhere _ _ _ 114 _ _ _ (omega arith) c.in-114.is (λ x. refl) c.read_word-in-114.ensures

pub returns-in_default : goal.returns-in_default
returns-in_default c = let n = c.in_default.in_default-own.rest in amp-dead _ _ (omega arith) n.0.0.0.0.1 n.0.0.0.1 n.0.0.1 n.0.1 n.1
