-- The tag at hand, then its word.
use Rattle.profile.specs.declared.Tag.TheVariants.{Bold, Italic, Underline, Classed, Voice, Lang, Ruby, Rt}
use Rattle.profile.specs.Grammar.{name}
use Rattle.profile_tags.proofs.Names.{close-word}
use Rattle.profile_tags.proofs.spell_close.Goals as goal

pub returns-in-Bold : goal.returns-in-Bold
unfolding name
returns-in-Bold c = close-word _ _ _ _ Bold c.in-Bold.is c.read_word.ensures

pub returns-in-Italic : goal.returns-in-Italic
unfolding name
returns-in-Italic c = close-word _ _ _ _ Italic c.in-Italic.is c.read_word-in-Italic.ensures

pub returns-in-Underline : goal.returns-in-Underline
unfolding name
returns-in-Underline c = close-word _ _ _ _ Underline c.in-Underline.is c.read_word-in-Underline.ensures

pub returns-in-Classed : goal.returns-in-Classed
unfolding name
returns-in-Classed c = close-word _ _ _ _ Classed c.in-Classed.is c.read_word-in-Classed.ensures

pub returns-in-Voice : goal.returns-in-Voice
unfolding name
returns-in-Voice c = close-word _ _ _ _ Voice c.in-Voice.is c.read_word-in-Voice.ensures

pub returns-in-Lang : goal.returns-in-Lang
unfolding name
returns-in-Lang c = close-word _ _ _ _ Lang c.in-Lang.is c.read_word-in-Lang.ensures

pub returns-in-Ruby : goal.returns-in-Ruby
unfolding name
returns-in-Ruby c = close-word _ _ _ _ Ruby c.in-Ruby.is c.read_word-in-Ruby.ensures

pub returns-in-Rt : goal.returns-in-Rt
unfolding name
returns-in-Rt c = close-word _ _ _ _ Rt c.in-Rt.is c.read_word-in-Rt.ensures
