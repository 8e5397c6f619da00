-- Laws of the readers of a start tag behind its name.
use Prim.Native.Nat.{ℕ, ◌+◌, ◌≤◌, ◌<◌}
use mathlib.Core.Path.{◌≡◌, refl, sym, ◌∙◌}
use mathlib.Core.Bool.{Bool, true, false}
use mathlib.Core.Logic.{◌⊎◌, ⊎_elim}
use mathlib.Core.Option.{none, some}
use mathlib.Core.List.{List}
use lib.Dec.{eqb, ltb}
use lib.ListN.{length, get_or}
use lib.Seq.{drop-cons}
use borrow.Author.Tests.{ne_eqb, lt-ltb}
use Rattle.base.specs.Choice.{pick}
use Rattle.profile.specs.Machine.{Kind, And, Less, More, Point, Blank, Break, Other, Beyond}
use Rattle.profile.specs.declared.Tag.{Tag}
use Rattle.profile.specs.Spot.{Spot, Past, Bad}
use Rattle.profile.specs.Grammar.{noted, class_byte}
use Rattle.profile.specs.Machine.{State, at, Name, Class, Noting, kind, on_head, on_dot, on_note, step, judge_from}
use Rattle.profile.specs.Readings.{Reads, from, Anywhere, Around, goes_on, opened}
use Rattle.profile.proofs.Readings.{from_end, r-dead, r-step, r-then, r-map, byte_step, on-byte, on-dead}
use Rattle.profile.proofs.ByteKinds.{other_kind, class-is}
use Rattle.profile_words.proofs.Laws.{amps}
use Rattle.profile_tags.specs.Terms.{Head, naming, dotting, classing, noting, ended}

pub blank-kind : (b : ℕ) → (b ≡ 9) ⊎ (b ≡ 32) → kind b ≡ Blank
unfolding kind
blank-kind b = ⊎_elim (λ e. rw e) (λ e. rw e)

pub break-kind : (b : ℕ) → (b ≡ 10) ⊎ (b ≡ 13) → kind b ≡ Break
unfolding kind
break-kind b = ⊎_elim (λ e. rw e) (λ e. rw e)

-- a refusal says nothing of a state behind it
-- ---- a class

class-on : (x : Tag) (n : Bool) (k : Kind) (st : List Tag) (low : ℕ) → on_head x true n k st low ≡ pick (other_kind k) (some (at (Class x) st low)) (on_head x false n k st low)
class-on x n And st low = refl
class-on x n Less st low = refl
class-on x true More st low = refl
class-on x false More st low = refl
class-on x n Point st low = refl
class-on x true Blank st low = refl
class-on x false Blank st low = refl
class-on x n Break st low = refl
class-on x n Other st low = refl
class-on x n Beyond st low = refl

dot-on : (x : Tag) (k : Kind) (st : List Tag) (low : ℕ) → on_dot x k st low ≡ pick (other_kind k) (some (at (Class x) st low)) none
dot-on x And st low = refl
dot-on x Less st low = refl
dot-on x More st low = refl
dot-on x Point st low = refl
dot-on x Blank st low = refl
dot-on x Break st low = refl
dot-on x Other st low = refl
dot-on x Beyond st low = refl

-- the states behind a name and in a class differ only at a class's byte
from-class : (s : List ℕ) (i : ℕ) (x : Head) → i < length s → class_byte (get_or s i 0) ≡ false → from s i (classing x) ≡ from s i (naming x)
unfolding from judge_from step
from-class s i x h e = rw (drop-cons s i 0 h, class-on x.0 (noted x.0) (kind (get_or s i 0)) x.1 x.2, sym (class-is (get_or s i 0)), e)

module _ (s : List ℕ) (p i : ℕ) (k : Reads Head s p (Past i) classing classing) where
  pub class-turn : i < length s → class_byte (get_or s i 0) ≡ true → Reads Head s p (Past (i + 1)) classing classing
  unfolding step
  class-turn h e = on-byte Head s p i classing classing classing k h (λ x. class-on x.0 (noted x.0) (kind (get_or s i 0)) x.1 x.2 ∙ rw (sym (class-is (get_or s i 0)), e))

  pub class-off : i < length s → class_byte (get_or s i 0) ≡ false → Reads Head s p (Past i) classing naming
  class-off h e = record { bounds = k.bounds; leads = λ x. k.leads x ∙ from-class s i x h e }

  pub class-end : length s ≤ i → Reads Head s p (Past i) classing naming
  class-end h = record { bounds = k.bounds; leads = λ x. k.leads x ∙ (from_end s i (classing x) h refl ∙ sym (from_end s i (naming x) h refl)) }

module _ (s : List ℕ) (p : ℕ) (h : p < length s) where
  pub dot-dead : class_byte (get_or s p 0) ≡ false → Reads Head s p (Bad p) dotting naming
  unfolding step
  dot-dead e = r-dead Head s p dotting naming h (λ x. dot-on x.0 (kind (get_or s p 0)) x.1 x.2 ∙ rw (sym (class-is (get_or s p 0)), e))

  pub dot-class : (r : Spot) → class_byte (get_or s p 0) ≡ true → Reads Head s (p + 1) r classing naming → Reads Head s p r dotting naming
  unfolding step
  dot-class r e = r-step Head s p r dotting classing naming h (λ x. dot-on x.0 (kind (get_or s p 0)) x.1 x.2 ∙ rw (sym (class-is (get_or s p 0)), e))

-- ---- an annotation

-- a byte that is not blank
note-on : (b : ℕ) (said : Bool) (x : Tag) (st : List Tag) (low : ℕ) → b < 256 → (b ≡ 9 → ⊥) → (b ≡ 32 → ⊥) → (b ≡ 38 → ⊥) → (b ≡ 62 → ⊥) → (b ≡ 10 → ⊥) → (b ≡ 13 → ⊥)
    → on_note x said (kind b) st low ≡ some (at (Noting x true) st low)
unfolding kind
note-on b said x st low h t u v w y z =
    simp (ne_eqb _ _ t, ne_eqb _ _ u, ne_eqb _ _ v, ne_eqb _ _ w, ne_eqb _ _ y, ne_eqb _ _ z, lt-ltb b 256 h) (go (eqb b 60) (eqb b 46))
  where
    go : (l m : Bool) → on_note x said (pick l Less (pick m Point Other)) st low ≡ some (at (Noting x true) st low)
    go true m = refl
    go false true = refl
    go false false = refl

-- up to i, with something but blanks (said) or not
module _ (s : List ℕ) (p i : ℕ) (said : Bool) (h : i < length s) (k : Reads Head s p (Past i) (noting false) (noting said)) where
  pub note_blank : (get_or s i 0 ≡ 9) ⊎ (get_or s i 0 ≡ 32) → Reads Head s p (Past (i + 1)) (noting false) (noting said)
  unfolding step
  note_blank e = on-byte Head s p i (noting false) (noting said) (noting said) k h (λ x. rw (blank-kind (get_or s i 0) e))

  pub note_more : get_or s i 0 < 256 → (get_or s i 0 ≡ 9 → ⊥) → (get_or s i 0 ≡ 32 → ⊥) → (get_or s i 0 ≡ 38 → ⊥) → (get_or s i 0 ≡ 62 → ⊥) → (get_or s i 0 ≡ 10 → ⊥) → (get_or s i 0 ≡ 13 → ⊥)
      → Reads Head s p (Past (i + 1)) (noting false) (noting true)
  unfolding step
  note_more l t u v w y z = on-byte Head s p i (noting false) (noting said) (noting true) k h (λ x. note-on (get_or s i 0) said x.0 x.1 x.2 l t u v w y z)

  pub note_escape : (r : Spot) → get_or s i 0 ≡ 38 → Reads Anywhere s (i + 1) r amps goes_on → Reads Head s p r (noting false) (noting true)
  unfolding step kind
  note_escape r e z =
      let f : Head → Anywhere = λ x. (Noting x.0 true, x.1, x.2) in
      r-then Head s p i r (noting false) (noting said) (noting true) k
      (byte_step Head s i r 38 (noting said) (λ x. amps (f x)) (noting true) h e (λ x. refl) (r-map Anywhere Head f s (i + 1) r amps goes_on z))

  pub note_end : get_or s i 0 ≡ 62 → said ≡ true → Reads Head s p (Past (i + 1)) (noting false) ended
  unfolding step kind
  note_end e q = on-byte Head s p i (noting false) (noting said) ended k h (λ x. rw (e, q))

  pub note-early : get_or s i 0 ≡ 62 → said ≡ false → Reads Head s p (Bad i) (noting false) ended
  unfolding step kind
  note-early e q = on-dead Head s p i (noting false) (noting said) ended k h (λ x. rw (e, q))

  pub note-break : (get_or s i 0 ≡ 10) ⊎ (get_or s i 0 ≡ 13) → Reads Head s p (Bad i) (noting false) ended
  unfolding step
  note-break e = on-dead Head s p i (noting false) (noting said) ended k h (λ x. rw (break-kind (get_or s i 0) e))

-- ---- behind the name and each class

abbrev pub named : Tag → Around → State
named x e = at (Name x) e.0 e.1

head-none : (b : ℕ) (x : Tag) (n : Bool) (st : List Tag) (low : ℕ) → (b ≡ 46 → ⊥) → (b ≡ 62 → ⊥) → (b ≡ 9 → ⊥) → (b ≡ 32 → ⊥) → on_head x false n (kind b) st low ≡ none
unfolding kind
head-none b x n st low t u v w = simp (ne_eqb _ _ t, ne_eqb _ _ u, ne_eqb _ _ v, ne_eqb _ _ w) (go (eqb b 38) (eqb b 60) (eqb b 10) (eqb b 13) (ltb b 256))
  where
    go : (a l y z f : Bool) → on_head x false n (pick a And (pick l Less (pick y Break (pick z Break (pick f Other Beyond))))) st low ≡ none
    go true l y z f = refl
    go false true y z f = refl
    go false false true z f = refl
    go false false false true f = refl
    go false false false false true = refl
    go false false false false false = refl

module _ (s : List ℕ) (p i : ℕ) (x : Tag) (h : i < length s) (k : Reads Around s p (Past i) (named x) (named x)) where
  pub head-class : (r : Spot) → get_or s i 0 ≡ 46 → Reads Head s (i + 1) r dotting naming → Reads Around s p r (named x) (named x)
  unfolding step kind
  head-class r e z =
      let f : Around → Head = λ y. (x, y.0, y.1) in
      r-then Around s p i r (named x) (named x) (named x) k
      (byte_step Around s i r 46 (named x) (λ y. dotting (f y)) (named x) h e (λ y. refl) (r-map Head Around f s (i + 1) r dotting naming z))

  pub head-note : (r : Spot) → (get_or s i 0 ≡ 9) ⊎ (get_or s i 0 ≡ 32) → noted x ≡ true → Reads Head s (i + 1) r (noting false) ended → Reads Around s p r (named x) (opened x)
  unfolding step
  head-note r e n z =
      let f : Around → Head = λ y. (x, y.0, y.1) in
      r-then Around s p i r (named x) (named x) (opened x) k
      (r-step Around s i r (named x) (λ y. noting false (f y)) (opened x) h (λ y. rw (blank-kind (get_or s i 0) e, n)) (r-map Head Around f s (i + 1) r (noting false) ended z))

  pub head-end : get_or s i 0 ≡ 62 → noted x ≡ false → Reads Around s p (Past (i + 1)) (named x) (opened x)
  unfolding step kind
  head-end e n = on-byte Around s p i (named x) (named x) (opened x) k h (λ y. rw (e, n))

  pub head-early : get_or s i 0 ≡ 62 → noted x ≡ true → Reads Around s p (Bad i) (named x) (opened x)
  unfolding step kind
  head-early e n = on-dead Around s p i (named x) (named x) (opened x) k h (λ y. rw (e, n))

  pub head-blank : (get_or s i 0 ≡ 9) ⊎ (get_or s i 0 ≡ 32) → noted x ≡ false → Reads Around s p (Bad i) (named x) (opened x)
  unfolding step
  head-blank e n = on-dead Around s p i (named x) (named x) (opened x) k h (λ y. rw (blank-kind (get_or s i 0) e, n))

  pub head_dead : (get_or s i 0 ≡ 46 → ⊥) → (get_or s i 0 ≡ 62 → ⊥) → (get_or s i 0 ≡ 9 → ⊥) → (get_or s i 0 ≡ 32 → ⊥) → Reads Around s p (Bad i) (named x) (opened x)
  unfolding step
  head_dead t u v w = on-dead Around s p i (named x) (named x) (opened x) k h (λ y. head-none (get_or s i 0) x (noted x) y.0 y.1 t u v w)
