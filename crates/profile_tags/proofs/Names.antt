-- Laws of the readers of tags' names.
use Prim.Native.Nat.{ℕ, ◌+◌, ◌<◌}
use mathlib.Core.Path.{◌≡◌}
use mathlib.Core.Bool.{Bool, true, false}
use mathlib.Core.Option.{Option, none, some}
use mathlib.Core.List.{List, [], ◌∷◌, ◌++◌}
use native.Mathlib.Omega.{arith}
use lib.ListN.{length, get_or}
use borrow.Author.Tests.{ne_eqb, lt-ltb, lt-leb}
use Rattle.profile.specs.declared.Tag.{Tag}
use Rattle.profile.specs.declared.Tag.TheVariants.{Ruby}
use Rattle.profile.specs.Spot.{Spot, Past, Bad}
use Rattle.profile.specs.Grammar.{name}
use Rattle.profile.specs.Machine.{State, Mode, at, Text, Lit, LtR, Name, lit, find, tags, tags_r, on_found, step}
use Rattle.profile.specs.Readings.{Reads, Anywhere, Around, goes_on, texted}
use Rattle.profile.proofs.Readings.{r-dead, r-here, r-step, r-bad, r-map}
use Rattle.profile_words.proofs.Laws.{worded}
use Rattle.profile_tags.specs.Named.{Named, Found, Wrong}
use Rattle.profile_tags.specs.Terms.{Here, lesses, LtRs, names, named_of, NamedIs, closes}

named-is : (s : List ℕ) (p : ℕ) (ruby : Bool) (r : Spot) (x : Tag) (a : (b : Bool) → Here b → State) → Reads (Here ruby) s p r (a ruby) (names ruby x) → NamedIs s p ruby (named_of r x) a
named-is s p ruby (Past n) x a k = k
named-is s p ruby (Bad q) x a k = r-bad (Here ruby) s p q (a ruby) (names ruby x) (a ruby) k

-- the byte at p, then the word w, are the name of x
name-word : (s : List ℕ) (p : ℕ) (h : p < length s) (ruby : Bool) (r : Spot) (x : Tag) (w : List ℕ) (a : (b : Bool) → Here b → State)
    → ((y : Here ruby) → step (a ruby y) (get_or s p 0) ≡ some (at (lit w (Name x)) y.0 y.1)) → Reads Anywhere s (p + 1) r (worded w) goes_on → NamedIs s p ruby (named_of r x) a
name-word s p h ruby r x w a f k = named-is s p ruby r x a
    (r-step (Here ruby) s p r (a ruby) (λ y. at (lit w (Name x)) y.0 y.1) (names ruby x) h f (r-map Anywhere (Here ruby) (λ y. (Name x, y.0, y.1)) s (p + 1) r (worded w) goes_on k))

-- ---- behind <

less-step : (b : ℕ) (ruby : Bool) (y : Here ruby) (m : Option Mode) → 57 < b → find b tags ≡ m → step (lesses ruby y) b ≡ on_found m y.0 y.1
unfolding step
less-step b ruby y m l e = rw (ne_eqb b 47 (λ q. omega arith), lt-leb b 57 l, lt-ltb (length y.0) 16 y.2, e)

pub no-tag : (b : ℕ) → (b ≡ 98 → ⊥) → (b ≡ 105 → ⊥) → (b ≡ 117 → ⊥) → (b ≡ 99 → ⊥) → (b ≡ 118 → ⊥) → (b ≡ 108 → ⊥) → (b ≡ 114 → ⊥) → find b tags ≡ none
unfolding find tags
no-tag b t u v w x y z = simp (ne_eqb _ _ t, ne_eqb _ _ u, ne_eqb _ _ v, ne_eqb _ _ w, ne_eqb _ _ x, ne_eqb _ _ y, ne_eqb _ _ z)

module _ (s : List ℕ) (p : ℕ) (h : p < length s) (l : 57 < get_or s p 0) (ruby : Bool) where
  pub tag_word : (r : Spot) (x : Tag) (w : List ℕ) → find (get_or s p 0) tags ≡ some (lit w (Name x)) → Reads Anywhere s (p + 1) r (worded w) goes_on → NamedIs s p ruby (named_of r x) lesses
  tag_word r x w e = name-word s p h ruby r x w lesses (λ y. less-step (get_or s p 0) ruby y (some (lit w (Name x))) l e)

  pub tag-letter : (x : Tag) → find (get_or s p 0) tags ≡ some (Name x) → NamedIs s p ruby (named_of (Past (p + 1)) x) lesses
  tag-letter x e = tag_word (Past (p + 1)) x [] e (r-here Anywhere s (p + 1) goes_on (omega arith))

  pub tag-ruby : (r : Named) → find (get_or s p 0) tags ≡ some LtR → NamedIs s (p + 1) ruby r LtRs → NamedIs s p ruby r lesses
  tag-ruby (Found n x) e k = r-step (Here ruby) s p (Past n) (lesses ruby) (LtRs ruby) (names ruby x) h (λ y. less-step (get_or s p 0) ruby y (some LtR) l e) k
  tag-ruby (Wrong q) e k = r-bad (Here ruby) s p q (lesses ruby) (LtRs ruby) (lesses ruby)
      (r-step (Here ruby) s p (Bad q) (lesses ruby) (LtRs ruby) (LtRs ruby) h (λ y. less-step (get_or s p 0) ruby y (some LtR) l e) k)

  pub tag-dead : find (get_or s p 0) tags ≡ none → NamedIs s p ruby (Wrong p) lesses
  tag-dead e = r-dead (Here ruby) s p (lesses ruby) (lesses ruby) h (λ y. less-step (get_or s p 0) ruby y none l e)

-- ---- behind <r

ruby-step : (b : ℕ) (ruby : Bool) (y : Here ruby) (m : Option Mode) → find b (tags_r ruby) ≡ m → step (LtRs ruby y) b ≡ on_found m y.0 y.1
unfolding step
ruby-step b ruby y m e = rw (y.3, e)

pub ruby-u : (b : ℕ) (ruby : Bool) → b ≡ 117 → find b (tags_r ruby) ≡ some (Lit 98 (121 ∷ []) (Name Ruby))
unfolding find tags_r
ruby-u b true e = rw e
ruby-u b false e = rw e

pub ruby-none : (b : ℕ) (ruby : Bool) → (b ≡ 117 → ⊥) → (b ≡ 116 → ⊥) → find b (tags_r ruby) ≡ none
unfolding find tags_r
ruby-none b true u t = simp (ne_eqb _ _ u, ne_eqb _ _ t)
ruby-none b false u t = simp (ne_eqb _ _ u)

module _ (s : List ℕ) (p : ℕ) (h : p < length s) (ruby : Bool) where
  pub ruby-word : (r : Spot) (x : Tag) (w : List ℕ) → find (get_or s p 0) (tags_r ruby) ≡ some (lit w (Name x)) → Reads Anywhere s (p + 1) r (worded w) goes_on → NamedIs s p ruby (named_of r x) LtRs
  ruby-word r x w e = name-word s p h ruby r x w LtRs (λ y. ruby-step (get_or s p 0) ruby y (some (lit w (Name x))) e)

  pub ruby-dead : find (get_or s p 0) (tags_r ruby) ≡ none → NamedIs s p ruby (Wrong p) LtRs
  ruby-dead e = r-dead (Here ruby) s p (LtRs ruby) (LtRs ruby) h (λ y. ruby-step (get_or s p 0) ruby y none e)

-- ---- behind </

pub close-word : (s : List ℕ) (p : ℕ) (r : Spot) (x y : Tag) → x ≡ y → Reads Anywhere s p r (worded (name y ++ (62 ∷ []))) goes_on → Reads Around s p r (closes x) texted
close-word s p r x y e k = rw e (r-map Anywhere Around (λ e. (Text, e.0, e.1)) s p r (worded (name y ++ (62 ∷ []))) goes_on k)
