-- Laws of the readers of whole tags.
use Prim.Native.Nat.{ℕ, ◌+◌, ◌≤◌, ◌<◌}
use mathlib.Core.Path.{◌≡◌, sym, ap, subst}
use mathlib.Core.Bool.{Bool, true, false}
use mathlib.Core.Option.{some}
use mathlib.Core.List.{List, [], ◌∷◌, ◌++◌}
use native.Mathlib.Omega.{arith}
use native.Mathlib.Nat.{add-zero}
use lib.Dec.{eqb}
use lib.ListN.{length, get_or}
use borrow.Author.Tests.{eqb-true}
use Rattle.base.proofs.Choice.{by-test}
use Rattle.profile.specs.declared.Tag.{Tag}
use Rattle.profile.specs.declared.Tag.TheVariants.{Bold, Italic, Underline, Classed, Voice, Lang, Ruby, Rt}
use Rattle.profile.specs.Spot.{Spot, Past, Bad}
use Rattle.profile.specs.Grammar.{name, noted}
use Rattle.profile.specs.Machine.{at, Text, Name, lit, find, tags}
use Rattle.profile.specs.Readings.{Reads, Anywhere, Around, goes_on, texted, opened}
use Rattle.profile.proofs.Readings.{r-here, r-then, r-bad, r-map}
use Rattle.profile_words.proofs.Laws.{worded, stands_read}
use Rattle.profile_tags.specs.Named.{Found}
use Rattle.profile_tags.specs.Terms.{Here, lesses, names, named_of, NamedIs, StartIs, number, ShortIs, closes}
use Rattle.profile_tags.proofs.Names.{tag-letter}
use Rattle.profile_tags.proofs.Heads.{head-end}

-- ---- a start tag

module _ (s : List ℕ) (p : ℕ) (ruby : Bool) where
  pub start-head : (n : ℕ) (x : Tag) (r : Spot) → NamedIs s p ruby (Found n x) lesses → Reads Around s n r (λ e. at (Name x) e.0 e.1) (opened x) → StartIs s p ruby (named_of r x)
  start-head n x (Past m) k l =
      r-then (Here ruby) s p n (Past m) (lesses ruby) (names ruby x) (λ h. at Text (x ∷ h.0) h.1) k
      (r-map Around (Here ruby) (λ h. (h.0, h.1)) s n (Past m) (λ e. at (Name x) e.0 e.1) (opened x) l)
  start-head n x (Bad q) k l =
      r-then (Here ruby) s p n (Bad q) (lesses ruby) (names ruby x) (lesses ruby) k
      (r-bad (Here ruby) s n q (names ruby x) (λ h. at Text (x ∷ h.0) h.1) (lesses ruby) (r-map Around (Here ruby) (λ h. (h.0, h.1)) s n (Bad q) (λ e. at (Name x) e.0 e.1) (opened x) l))

-- ---- a name of one letter, and >

abbrev pub letters : List ℕ
letters = 98 ∷ 105 ∷ 117 ∷ 99 ∷ 118 ∷ []

letter-name : (x : Tag) (b : ℕ) → number x < 5 → b ≡ get_or letters (number x) 0 → name x ≡ b ∷ []
unfolding name
letter-name Bold b h e = rw e
letter-name Italic b h e = rw e
letter-name Underline b h e = rw e
letter-name Classed b h e = rw e
letter-name Voice b h e = rw e
letter-name Lang b h e = absurd (omega arith)
letter-name Ruby b h e = absurd (omega arith)
letter-name Rt b h e = absurd (omega arith)

pub short-is : (s : List ℕ) (p : ℕ) (x : Tag) (i : ℕ) → i ≡ number x → p + 2 ≤ length s → i < 5 → get_or s p 0 ≡ get_or letters i 0 → ShortIs s p x (eqb (get_or s (p + 1) 0) 62)
short-is s p x i z h n e =
    by-test (eqb (get_or s (p + 1) 0) 62)
    (λ t. rw t (h, letter-name x (get_or s p 0) (rw z at n) (rw z at e), eqb-true (get_or s (p + 1) 0) 62 t)) (λ t. rw t tt)

letter-found : (x : Tag) (b : ℕ) → name x ≡ b ∷ [] → find b tags ≡ some (Name x)
unfolding name find tags
letter-found Bold b e = rw (sym (ap (λ (l : List ℕ). get_or l 0 0) e))
letter-found Italic b e = rw (sym (ap (λ (l : List ℕ). get_or l 0 0) e))
letter-found Underline b e = rw (sym (ap (λ (l : List ℕ). get_or l 0 0) e))
letter-found Classed b e = rw (sym (ap (λ (l : List ℕ). get_or l 0 0) e))
letter-found Voice b e = rw (sym (ap (λ (l : List ℕ). get_or l 0 0) e))
letter-found Lang b e = let n : ◌≡◌ {A = ℕ} 4 1 = ap (λ (l : List ℕ). length l) e in absurd (omega arith)
letter-found Ruby b e = let n : ◌≡◌ {A = ℕ} 4 1 = ap (λ (l : List ℕ). length l) e in absurd (omega arith)
letter-found Rt b e = let n : ◌≡◌ {A = ℕ} 2 1 = ap (λ (l : List ℕ). length l) e in absurd (omega arith)

module _ (s : List ℕ) (p : ℕ) (x : Tag) (k : ShortIs s p x true) where
  pub start-short : (ruby : Bool) → 57 < get_or s p 0 → noted x ≡ false → StartIs s p ruby (Found (p + 2) x)
  start-short ruby l n =
      let two : p + 2 ≡ p + 1 + 1 = omega arith in
      rw two
      (start-head s p ruby (p + 1) x (Past (p + 1 + 1)) (tag-letter s p (omega (arith, k.0)) l ruby x (letter-found x (get_or s p 0) k.1))
      (head-end s (p + 1) (p + 1) x (omega (arith, k.0)) (r-here Around s (p + 1) (λ e. at (Name x) e.0 e.1) (omega (arith, k.0))) k.2 n))

  pub close-short : Reads Around s p (Past (p + 2)) (closes x) texted
  close-short =
      subst (λ (w : List ℕ). Reads Around s p (Past (p + 2)) (λ e. at (lit (w ++ (62 ∷ [])) Text) e.0 e.1) texted) (sym k.1)
      (r-map Anywhere Around (λ e. (Text, e.0, e.1)) s p (Past (p + 2)) (worded (get_or s p 0 ∷ 62 ∷ [])) goes_on
      (stands_read s p 0 (get_or s p 0 ∷ 62 ∷ []) (worded (get_or s p 0 ∷ 62 ∷ [])) (omega (arith, k.0))
      (rw (add-zero p) (r-here Anywhere s p (worded (get_or s p 0 ∷ 62 ∷ [])) (omega (arith, k.0)))) (ap (λ (n : ℕ). get_or s n 0) (add-zero p), (k.2, tt))))
