-- The byte at hand, then the word that it begins.
use mathlib.Core.Path.{subst⁻¹}
use mathlib.Core.List.{[], ◌∷◌}
use Rattle.base.proofs.Results.{passed_on}
use Rattle.profile.specs.Spot.{Past, Bad}
use Rattle.profile.specs.declared.Tag.TheVariants.{Bold, Italic, Underline, Classed, Voice, Lang}
use Rattle.profile.specs.Machine.{find, tags}
use Rattle.profile_tags.specs.Named.{Named}
use Rattle.profile_tags.specs.Terms.{NamedIs, lesses}
use Rattle.profile_tags.proofs.Names.{tag_word, tag-letter, tag-ruby, tag-dead, no-tag}
use Rattle.profile_tags.proofs.read_tag.Goals as goal

pub returns-in-98 : goal.returns-in-98
unfolding find tags
returns-in-98 c = tag-letter _ _ c.requires.0 c.requires.1 _ Bold (rw c.in-98.is)

pub returns-in-105 : goal.returns-in-105
unfolding find tags
returns-in-105 c = tag-letter _ _ c.requires.0 c.requires.1 _ Italic (rw c.in-105.is)

pub returns-in-117 : goal.returns-in-117
unfolding find tags
returns-in-117 c = tag-letter _ _ c.requires.0 c.requires.1 _ Underline (rw c.in-117.is)

pub returns-in-99 : goal.returns-in-99
unfolding find tags
returns-in-99 c = tag-letter _ _ c.requires.0 c.requires.1 _ Classed (rw c.in-99.is)

pub returns-in-118 : goal.returns-in-118
unfolding find tags
returns-in-118 c = tag-letter _ _ c.requires.0 c.requires.1 _ Voice (rw c.in-118.is)

pub returns-in_err-read_word-in-108 : goal.returns-in_err-read_word-in-108
unfolding find tags
returns-in_err-read_word-in-108 c =
    subst⁻¹ (λ (r : Named). NamedIs c.args.s.now c.args.at c.args.ruby r lesses) (passed_on _ _ c.from_residual.ensures)
    (tag_word _ _ c.requires.0 c.requires.1 _ (Bad _) Lang (97 ∷ 110 ∷ 103 ∷ []) (rw c.in-108.is) c.in_err-read_word-in-108.ensures)

pub returns-in_ok-read_word-in-108 : goal.returns-in_ok-read_word-in-108
unfolding find tags
returns-in_ok-read_word-in-108 c = tag_word _ _ c.requires.0 c.requires.1 _ (Past _) Lang (97 ∷ 110 ∷ 103 ∷ []) (rw c.in-108.is) c.in_ok-read_word-in-108.ensures

pub returns-in-114 : goal.returns-in-114
unfolding find tags
returns-in-114 c = tag-ruby _ _ c.requires.0 c.requires.1 _ c.read_ruby.result (rw c.in-114.is) c.read_ruby.ensures

pub returns-in_default : goal.returns-in_default
returns-in_default c =
    let n = c.in_default.in_default-own.rest in
    tag-dead _ _ c.requires.0 c.requires.1 _ (no-tag _ n.0.0.0.0.0.0.1 n.0.0.0.0.0.1 n.0.0.0.0.1 n.0.0.0.1 n.0.0.1 n.0.1 n.1)
