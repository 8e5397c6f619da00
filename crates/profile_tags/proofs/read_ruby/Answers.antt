-- The byte at hand, then the word that it begins.
use mathlib.Core.Path.{refl, subst⁻¹}
use mathlib.Core.List.{[], ◌∷◌}
use native.Mathlib.Omega.{arith}
use Rattle.base.proofs.Results.{passed_on}
use Rattle.profile.specs.Spot.{Past, Bad}
use Rattle.profile.specs.declared.Tag.TheVariants.{Ruby, Rt}
use Rattle.profile.specs.Machine.{find, tags_r}
use Rattle.profile.specs.Readings.{Anywhere, goes_on}
use Rattle.profile.proofs.Readings.{r-end, r-here}
use Rattle.profile_tags.specs.Named.{Named}
use Rattle.profile_tags.specs.Terms.{Here, NamedIs, LtRs}
use Rattle.profile_tags.proofs.Names.{ruby-word, ruby-dead, ruby-u, ruby-none}
use Rattle.profile_tags.proofs.read_ruby.Goals as goal

pub returns-then-s-at : goal.returns-then-s-at
returns-then-s-at c = r-end (Here c.args.ruby) _ _ _ _ c.if-s-at.true (λ x. refl)

pub returns-then-ruby : goal.returns-then-ruby
unfolding find tags_r
returns-then-ruby c = ruby-word _ _ (omega arith) _ (Past _) Rt [] (rw (c.if-ruby.true, c.in-116.is)) (r-here Anywhere _ _ goes_on (omega arith))

pub returns-in_err-read_word-in-117 : goal.returns-in_err-read_word-in-117
returns-in_err-read_word-in-117 c =
    subst⁻¹ (λ (r : Named). NamedIs c.args.s.now c.args.at c.args.ruby r LtRs) (passed_on _ _ c.from_residual.ensures)
    (ruby-word _ _ (omega arith) _ (Bad _) Ruby (98 ∷ 121 ∷ []) (ruby-u _ _ c.in-117.is) c.in_err-read_word-in-117.ensures)

pub returns-in_ok-read_word-in-117 : goal.returns-in_ok-read_word-in-117
returns-in_ok-read_word-in-117 c = ruby-word _ _ (omega arith) _ (Past _) Ruby (98 ∷ 121 ∷ []) (ruby-u _ _ c.in-117.is) c.in_ok-read_word-in-117.ensures

pub returns-else-ruby : goal.returns-else-ruby
unfolding find tags_r
returns-else-ruby c = ruby-dead _ _ (omega arith) _ (rw (c.if-ruby.false, c.in-116.is))

pub returns-in_default : goal.returns-in_default
returns-in_default c = ruby-dead _ _ (omega arith) _ (ruby-none _ _ c.in_default.in_default-own.rest.0.1 c.in_default.in_default-own.rest.1)
