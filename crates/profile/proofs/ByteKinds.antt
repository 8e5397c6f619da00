-- The judge's kinds of bytes, and the grammar's.
use Prim.Native.Nat.{ℕ}
use mathlib.Core.Path.{◌≡◌, refl, sym, subst, ◌∙◌}
use mathlib.Core.Bool.{Bool, true, false}
use lib.Dec.{eqb, ltb}
use borrow.Author.Tests.{eqb-true}
use Rattle.base.specs.Choice.{pick, both}
use Rattle.base.proofs.Choice.{by-test, true-false}
use Rattle.profile.specs.Machine.{Kind, And, Less, More, Point, Blank, Break, Other, Beyond}
use Rattle.profile.specs.Grammar.{one_of, besides, plain_byte, class_byte, blank, note_byte}
use Rattle.profile.specs.Machine.{kind}

pub never : {A : Type 0} → false ≡ true → A
never e = true-false false e refl

-- a number is one of the eight bytes with a kind of their own, or none of them
record Another (b : ℕ) : Type 0 where
  pub and : eqb b 0x26 ≡ false
  pub less : eqb b 0x3C ≡ false
  pub more : eqb b 0x3E ≡ false
  pub point : eqb b 0x2E ≡ false
  pub space : eqb b 0x20 ≡ false
  pub tab : eqb b 0x09 ≡ false
  pub lf : eqb b 0x0A ≡ false
  pub cr : eqb b 0x0D ≡ false

by_kind : (P : ℕ → Type 0) → P 0x26 → P 0x3C → P 0x3E → P 0x2E → P 0x20 → P 0x09 → P 0x0A → P 0x0D → ((b : ℕ) → Another b → P b) → (b : ℕ) → P b
by_kind P p₁ p₂ p₃ p₄ p₅ p₆ p₇ p₈ q b =
    is 0x26 p₁ (λ e₁. is 0x3C p₂ (λ e₂. is 0x3E p₃ (λ e₃. is 0x2E p₄ (λ e₄. is 0x20 p₅ (λ e₅. is 0x09 p₆ (λ e₆. is 0x0A p₇ (λ e₇. is 0x0D p₈ (λ e₈.
    q b (record { and = e₁; less = e₂; more = e₃; point = e₄; space = e₅; tab = e₆; lf = e₇; cr = e₈ })))))))))
  where
    is : (c : ℕ) → P c → (eqb b c ≡ false → P b) → P b
    is c p f = by-test (eqb b c) (λ e. subst P (sym (eqb-true b c e)) p) f

abbrev pub plain_kind : Kind → Bool
plain_kind And = false
plain_kind Less = false
plain_kind More = true
plain_kind Point = true
plain_kind Blank = true
plain_kind Break = true
plain_kind Other = true
plain_kind Beyond = false

abbrev pub note_kind : Kind → Bool
note_kind And = false
note_kind Less = true
note_kind More = false
note_kind Point = true
note_kind Blank = false
note_kind Break = false
note_kind Other = true
note_kind Beyond = false

abbrev pub other_kind : Kind → Bool
other_kind And = false
other_kind Less = false
other_kind More = false
other_kind Point = false
other_kind Blank = false
other_kind Break = false
other_kind Other = true
other_kind Beyond = false

abbrev pub blank_kind : Kind → Bool
blank_kind And = false
blank_kind Less = false
blank_kind More = false
blank_kind Point = false
blank_kind Blank = true
blank_kind Break = false
blank_kind Other = false
blank_kind Beyond = false

-- another byte, and no byte
by_size : (P : Bool → Type 0) → P true → P false → (b : ℕ) → P (ltb b 256)
by_size P p q b = by-test (ltb b 256) (λ e. rw e p) (λ e. rw e q)

pub plain_is : (b : ℕ) → plain_byte b ≡ plain_kind (kind b)
unfolding besides one_of kind
plain_is = by_kind (λ b. plain_byte b ≡ plain_kind (kind b)) refl refl refl refl refl refl refl refl
    (λ b a. rw (a.and, a.less, a.more, a.point, a.space, a.tab, a.lf, a.cr) (by_size (λ t. both t true ≡ plain_kind (pick t Other Beyond)) refl refl b))

pub class-is : (b : ℕ) → class_byte b ≡ other_kind (kind b)
unfolding besides one_of kind
class-is = by_kind (λ b. class_byte b ≡ other_kind (kind b)) refl refl refl refl refl refl refl refl
    (λ b a. rw (a.and, a.less, a.more, a.point, a.space, a.tab, a.lf, a.cr) (by_size (λ t. both t true ≡ other_kind (pick t Other Beyond)) refl refl b))

pub note-is : (b : ℕ) → note_byte b ≡ note_kind (kind b)
unfolding besides one_of kind
note-is = by_kind (λ b. note_byte b ≡ note_kind (kind b)) refl refl refl refl refl refl refl refl
    (λ b a. rw (a.and, a.less, a.more, a.point, a.space, a.tab, a.lf, a.cr) (by_size (λ t. both t true ≡ note_kind (pick t Other Beyond)) refl refl b))

pub blank-is : (b : ℕ) → blank b ≡ blank_kind (kind b)
unfolding one_of kind
blank-is = by_kind (λ b. blank b ≡ blank_kind (kind b)) refl refl refl refl refl refl refl refl
    (λ b a. rw (a.and, a.less, a.more, a.point, a.space, a.tab, a.lf, a.cr) (by_size (λ t. false ≡ blank_kind (pick t Other Beyond)) refl refl b))

-- the byte that a kind names
abbrev Code : Kind → ℕ → Type 0
Code And b = b ≡ 0x26
Code Less b = b ≡ 0x3C
Code More b = b ≡ 0x3E
Code Point b = b ≡ 0x2E
Code Blank b = Unit {0}
Code Break b = Unit {0}
Code Other b = Unit {0}
Code Beyond b = Unit {0}

pub code : (b : ℕ) (k : Kind) → kind b ≡ k → Code k b
unfolding kind
code b k e = subst (λ (j : Kind). Code j b) e (by_kind (λ c. Code (kind c) c) refl refl refl refl tt tt tt tt
    (λ c a. rw (a.and, a.less, a.more, a.point, a.space, a.tab, a.lf, a.cr) (by_size (λ t. Code (pick t Other Beyond) c) tt tt c)) b)

-- a kind that passes one of the tests above
pub other-kind : (b : ℕ) → class_byte b ≡ true → kind b ≡ Other
other-kind b h = go (kind b) (sym (class-is b) ∙ h)
  where
    go : (k : Kind) → other_kind k ≡ true → k ≡ Other
    go And e = never e
    go Less e = never e
    go More e = never e
    go Point e = never e
    go Blank e = never e
    go Break e = never e
    go Other e = refl
    go Beyond e = never e

pub blank-kind : (b : ℕ) → blank b ≡ true → kind b ≡ Blank
blank-kind b h = go (kind b) (sym (blank-is b) ∙ h)
  where
    go : (k : Kind) → blank_kind k ≡ true → k ≡ Blank
    go And e = never e
    go Less e = never e
    go More e = never e
    go Point e = never e
    go Blank e = refl
    go Break e = never e
    go Other e = never e
    go Beyond e = never e

pub blank-bytes : (b : ℕ) → blank b ≡ true → ltb b 256 ≡ true
unfolding one_of
blank-bytes = by_kind (λ b. blank b ≡ true → ltb b 256 ≡ true) (λ e. refl) (λ e. refl) (λ e. refl) (λ e. refl) (λ e. refl) (λ e. refl) (λ e. refl) (λ e. refl)
    (λ b a e. never (rw (a.space, a.tab) at e))
