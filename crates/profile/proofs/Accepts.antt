-- Every text of the grammar is read to its end.
use Prim.Native.Nat.{ℕ, suc, ◌+◌, ◌-◌, ◌*◌, ◌≤◌, ◌<◌}
use mathlib.Core.Path.{◌≡◌, refl, sym, ap, ◌∙◌, subst}
use mathlib.Core.Bool.{Bool, true, false}
use mathlib.Core.Option.{Option, none, some}
use mathlib.Core.List.{List, [], ◌∷◌, ◌++◌, append_assoc}
use native.Mathlib.Omega.{arith}
use lib.ListN.{length}
use borrow.Author.Tests.{lt-ltb, le-leb, ne_eqb}
use Rattle.profile.specs.Machine.{Kind, And, Less, More, Point, Blank, Break, Other, Beyond}
use Rattle.profile.specs.declared.Tag.{Tag}
use Rattle.profile.specs.declared.Tag.TheVariants.{Bold, Italic, Underline, Classed, Voice, Lang, Ruby, Rt}
use Rattle.profile.specs.Grammar.{name, noted, allowed, plain_byte, Escape, amp, lt, gt, nbsp, lrm, rlm, Chars, no_char, a_char, Classes, no_class, a_class, Note, note_end, note_blank, note_more, note_escape, Annotation, without, with, Content, empty, plain, escaped, stamp, span}
use Rattle.profile.specs.Machine.{Place, clock, kind, Mode, Text, Amp, Lt, Name, Dot, Class, Noting, State, at, in_ruby, find, on_found, escapes, escapes_l, tags, tags_r, most, timed_on, timing, on_text, on_note, step, final}
use Rattle.timestamps.specs.Timestamps.{time_text}
use Rattle.profile.proofs.ByteKinds.{never, plain_kind, note_kind, plain_is, note-is, other-kind, blank-kind}
use Rattle.profile.proofs.Clock.{Timed, timed-end, timed-on, timed-most, written-timed}
use Rattle.profile.proofs.Times.{Above, next, next-append, above_apart}

abbrev pub on_type : Option State → (State → Type 0) → Type 0
on_type none P = ⊥
on_type (some s) P = P s

-- the machine reads w from s and may end there
unfoldable pub Acc : List ℕ → State → Type 0
Acc [] s = final s ≡ true
Acc (b ∷ w) s = on_type (step s b) (λ t. Acc w t)

module _ (w : List ℕ) (st : List Tag) (low : ℕ) where
  plain-acc : (k : Kind) → plain_kind k ≡ true → Acc w (at Text st low) → on_type (on_text k st low) (λ t. Acc w t)
  plain-acc And h a = never h
  plain-acc Less h a = never h
  plain-acc More h a = a
  plain-acc Point h a = a
  plain-acc Blank h a = a
  plain-acc Break h a = a
  plain-acc Other h a = a
  plain-acc Beyond h a = never h

  text-acc : (b : ℕ) → plain_byte b ≡ true → Acc w (at Text st low) → Acc (b ∷ w) (at Text st low)
  unfolding Acc step
  text-acc b h a = plain-acc (kind b) (sym (plain_is b) ∙ h) a

  less-acc : Acc w (at Lt st low) → Acc (60 ∷ w) (at Text st low)
  unfolding Acc step kind
  less-acc a = a

  and-acc : Acc w (at (Amp Text) st low) → Acc (38 ∷ w) (at Text st low)
  unfolding Acc step kind
  and-acc a = a

  pub escape-acc : (k : Mode) {e : List ℕ} → Escape e → Acc w (at k st low) → Acc (e ++ w) (at (Amp k) st low)
  unfolding Acc step find escapes escapes_l
  escape-acc k amp a = a
  escape-acc k lt a = a
  escape-acc k gt a = a
  escape-acc k nbsp a = a
  escape-acc k lrm a = a
  escape-acc k rlm a = a

  pub close-acc : (x : Tag) → Acc w (at Text st low) → Acc (60 ∷ 47 ∷ (name x ++ (62 ∷ w))) (at Text (x ∷ st) low)
  unfolding Acc step kind name
  close-acc Bold a = a
  close-acc Italic a = a
  close-acc Underline a = a
  close-acc Classed a = a
  close-acc Voice a = a
  close-acc Lang a = a
  close-acc Ruby a = a
  close-acc Rt a = a

  pub ruby-acc : (r : Bool) → Acc w (at (Name Ruby) st low) → on_type (on_found (find 117 (tags_r r)) st low) (λ t. Acc (98 ∷ 121 ∷ w) t)
  unfolding Acc step find tags_r
  ruby-acc true a = a
  ruby-acc false a = a

  pub name-acc : (x : Tag) → length st < 16 → allowed x (in_ruby st) ≡ true → Acc w (at (Name x) st low) → Acc (name x ++ w) (at Lt st low)
  unfolding Acc step find tags tags_r name
  name-acc Bold l r a = rw (lt-ltb (length st) 16 l) a
  name-acc Italic l r a = rw (lt-ltb (length st) 16 l) a
  name-acc Underline l r a = rw (lt-ltb (length st) 16 l) a
  name-acc Classed l r a = rw (lt-ltb (length st) 16 l) a
  name-acc Voice l r a = rw (lt-ltb (length st) 16 l) a
  name-acc Lang l r a = rw (lt-ltb (length st) 16 l) a
  name-acc Ruby l r a = rw (lt-ltb (length st) 16 l) (ruby-acc (in_ruby st) a)
  name-acc Rt l r a = rw (lt-ltb (length st) 16 l, r) a

module _ (st : List Tag) (low : ℕ) (x : Tag) where
  chars-acc : (w : List ℕ) {bs : List ℕ} → Chars bs → Acc w (at (Class x) st low) → Acc (bs ++ w) (at (Class x) st low)
  unfolding Acc step
  chars-acc w no_char a = a
  chars-acc w (a_char {b} h c) a = rw (other-kind b h) (chars-acc w c a)

  -- behind the name, and behind a class
  abbrev pub Headed : List ℕ → Type 0
  Headed w = Acc w (at (Name x) st low) × Acc w (at (Class x) st low)

  pub classes-acc : (w : List ℕ) {cs : List ℕ} → Classes cs → Headed w → Headed (cs ++ w)
  unfolding Acc step kind
  classes-acc w no_class a = a
  classes-acc w (a_class {b} {bs} {cs} h c d) a =
      let r : Acc (b ∷ ((bs ++ cs) ++ w)) (at (Dot x) st low) = rw (other-kind b h, append_assoc bs cs w) (chars-acc (cs ++ w) c (classes-acc w d a).1) in
      (r, r)

  noted-acc : (w : List ℕ) (k : Kind) (said : Bool) → note_kind k ≡ true → Acc w (at (Noting x true) st low) → on_type (on_note x said k st low) (λ t. Acc w t)
  noted-acc w And said h a = never h
  noted-acc w Less said h a = a
  noted-acc w More said h a = never h
  noted-acc w Point said h a = a
  noted-acc w Blank said h a = never h
  noted-acc w Break said h a = never h
  noted-acc w Other said h a = a
  noted-acc w Beyond said h a = never h

  pub note-acc : (w : List ℕ) {said : Bool} {a : List ℕ} → Note said a → Acc w (at Text (x ∷ st) low) → Acc (a ++ (62 ∷ w)) (at (Noting x said) st low)
  unfolding Acc step kind
  note-acc w note_end h = h
  note-acc w (note_blank {b = b} k n) h = rw (blank-kind b k) (note-acc w n h)
  note-acc w (note_more {said} {b} {a} k n) h = noted-acc (a ++ (62 ∷ w)) (kind b) said (sym (note-is b) ∙ k) (note-acc w n h)
  note-acc w (note_escape {said} {e} {a} k n) h = rw (append_assoc e a (62 ∷ w)) (escape-acc (a ++ (62 ∷ w)) st low (Noting x true) k (note-acc w n h))

  pub annotation-acc : (w : List ℕ) {n : Bool} {a : List ℕ} → Annotation n a → noted x ≡ n → Acc w (at Text (x ∷ st) low) → Headed (a ++ (62 ∷ w))
  unfolding Acc step kind
  annotation-acc w without e h = (rw e h, rw e h)
  annotation-acc w (with {b = b} k n) e h = let r = blank-kind b k in (rw (r, e) (note-acc w n h), rw (r, e) (note-acc w n h))

module _ (w : List ℕ) (st : List Tag) (low : ℕ) where
  pub timed-acc : {ps : List Place} {m v : ℕ} {bs : List ℕ} → Timed ps m bs v → low ≤ v → Acc w (at Text st (suc v)) → on_type (timed_on ps m st low) (λ t. Acc (bs ++ w) t)
  unfolding Acc step timing
  timed-acc timed-end l a = a
  timed-acc (timed-on {p} {ps} {m} {b} {v} {bs} h k t) l a =
      let q : low ≤ m + (b - p.0) * p.2 + most ps = omega (arith, timed-most t) in
      rw (le-leb p.0 b h, le-leb b p.1 k, le-leb low (m + (b - p.0) * p.2 + most ps) q) (timed-acc t l a)

  pub clock-acc : {v : ℕ} {bs : List ℕ} → Timed clock 0 bs v → low ≤ v → Acc w (at Text st (suc v)) → Acc (bs ++ w) (at Lt st low)
  unfolding Acc step clock
  clock-acc (timed-on {p} {ps} {m} {b} {v} {bs} h k t) l a =
      let s = timed-acc (timed-on h k t) l a in
      rw (ne_eqb b 47 (λ e. omega arith), le-leb b 57 k) s

-- content is read, whatever stands open around it
pub content-acc : {n : ℕ} {r : Bool} {ts w : List ℕ} → Content n r ts w → (low : ℕ) → Above low ts → (rest : List ℕ) (st : List Tag) → length st ≡ n → in_ruby st ≡ r
    → Acc rest (at Text st (next low ts)) → Acc (w ++ rest) (at Text st low)
unfolding Above next
content-acc empty low u rest st e q a = a
content-acc (plain {b = b} {w = w} h c) low u rest st e q a = text-acc (w ++ rest) st low b h (content-acc c low u rest st e q a)
content-acc (escaped {e = e₁} {w = w} h c) low u rest st e q a =
    and-acc ((e₁ ++ w) ++ rest) st low (rw (append_assoc e₁ w rest) (escape-acc (w ++ rest) st low Text h (content-acc c low u rest st e q a)))
content-acc (stamp t {w = w} l c) low u rest st e q a =
    let k = clock-acc (w ++ rest) st low (written-timed t l) u.0 (content-acc c (suc t) u.1 rest st e q a) in
    less-acc _ st low (simp append_assoc (subst (λ (l : List ℕ). Acc l (at Lt st low)) (append_assoc (time_text t) (62 ∷ []) (w ++ rest)) k))
content-acc (span {us = us} {ts = ts} x {cs} {a = a₁} {inner} {w} l h k n₁ i c) low u rest st e q a =
    let v = above_apart low us ts u in
    let mid = next low us in
    let behind = close-acc (w ++ rest) st mid x (content-acc c mid v.1 rest st e q (rw (next-append low us ts) at a)) in
    let inside = content-acc i low v.0 (60 ∷ 47 ∷ (name x ++ (62 ∷ (w ++ rest)))) (x ∷ st) (ap suc e) refl behind in
    let head = classes-acc st low x _ k (annotation-acc st low x _ n₁ refl inside) in
    let named = name-acc _ st low x (rw e l) (rw q h) head.0 in
    less-acc _ st low (simp append_assoc named)
