-- Taking the tags away and undoing the escapes gives the text that is left.
use Prim.Native.Nat.{ℕ, ◌≤◌}
use mathlib.Core.Path.{◌≡◌, refl, sym, ap, ◌∙◌}
use mathlib.Core.Bool.{Bool, true, false, not}
use mathlib.Core.List.{List, [], ◌∷◌, ◌++◌}
use native.Mathlib.Omega.{arith}
use lib.Dec.{eqb}
use borrow.Author.Tests.{ne_eqb, not-true}
use Rattle.base.proofs.Choice.{by-test}
use Rattle.utf8.specs.Strings.{starts_with}
use Rattle.code_points.specs.CodePoints.{encode, joined, encodings}
use Rattle.tx3g_payload.specs.Left.{is_break, only_breaks, left_of, left_from, text_left}
use Rattle.tx3g_payload.specs.Payload.{escape, bold, italic, underline}
use Rattle.tx3g_payload.specs.Statements.{Woven, done, char, opened, closed, untagged, unescaped, TextComesBack, EmptyIs}
use Rattle.tx3g_payload.proofs.Bytes.{All, some-all, encode-some, escape-cases}
use Rattle.tx3g_payload.proofs.Weave.{only-tags, front-none, nothing_written}
use Rattle.tx3g_payload.proofs.Tidy.{all-gone}

-- any byte but x
abbrev other : ℕ → ℕ → Bool
other x b = not (eqb b x)

high-other : (x b : ℕ) → x ≤ 0x7F → 0x80 ≤ b → other x b ≡ true
high-other x b h k = rw (ne_eqb b x (λ e. omega arith))

untagged-skip : (a r : List ℕ) → All (other 0x3C) a → untagged false (a ++ r) ≡ a ++ untagged false r
unfolding untagged
untagged-skip [] r h = refl
untagged-skip (b ∷ a) r h = rw (not-true (eqb b 0x3C) h.0) (ap (λ (s : List ℕ). b ∷ s) (untagged-skip a r h.1))

no_less : (c : ℕ) → All (other 0x3C) (escape c)
unfolding escape encode
no_less c =
    escape-cases (λ _ s. All (other 0x3C) s) c (refl, (refl, (refl, (refl, (refl, tt))))) (refl, (refl, (refl, (refl, tt)))) (refl, (refl, (refl, (refl, tt))))
    (λ e f g. some-all (other 0x3C) (encode c) (encode-some (other 0x3C) c (rw f) (λ b. high-other 0x3C b (omega arith))))

untag : {cs p : List ℕ} → Woven cs p → untagged false p ≡ joined escape cs
unfolding untagged joined
untag done = refl
untag {p = _} (char {cs = cs} {p = p} c w) = untagged-skip (escape c) p (no_less c) ∙ ap (λ (s : List ℕ). escape c ++ s) (untag w)
untag (opened bold w) = untag w
untag (opened italic w) = untag w
untag (opened underline w) = untag w
untag (closed bold w) = untag w
untag (closed italic w) = untag w
untag (closed underline w) = untag w

unescaped-skip : (a r : List ℕ) → All (other 0x26) a → unescaped 0 (a ++ r) ≡ a ++ unescaped 0 r
unfolding unescaped starts_with
unescaped-skip [] r h = refl
unescaped-skip (b ∷ a) r h = rw (not-true (eqb b 0x26) h.0) (ap (λ (s : List ℕ). b ∷ s) (unescaped-skip a r h.1))

unescape-one : (c : ℕ) (r : List ℕ) → unescaped 0 (escape c ++ r) ≡ encode c ++ unescaped 0 r
unfolding unescaped starts_with escape encode
unescape-one c r =
    escape-cases (λ d s. unescaped 0 (s ++ r) ≡ encode d ++ unescaped 0 r) c refl refl refl
    (λ e f g. unescaped-skip (encode c) r (some-all (other 0x26) (encode c) (encode-some (other 0x26) c (rw e) (λ b. high-other 0x26 b (omega arith)))))

unescape : (cs : List ℕ) → unescaped 0 (joined escape cs) ≡ joined encode cs
unfolding unescaped joined
unescape [] = refl
unescape (c ∷ cs) = unescape-one c (joined escape cs) ∙ ap (λ (s : List ℕ). encode c ++ s) (unescape cs)

pub text-comes-back : TextComesBack
unfolding encodings
text-comes-back ranges faces cs = ap (unescaped 0) (untag (only-tags ranges faces cs)) ∙ unescape (text_left cs)

encode-not : (c : ℕ) (r : List ℕ) → encode c ++ r ≡ [] → ⊥
encode-not c r h = let e = (front-none (encode c) r h).0 in rw e at (encode-some (λ _. true) c refl (λ _ _. refl))

-- a character that is no line end is left
some_left : (after : Bool) (cs : List ℕ) → left_from after cs ≡ [] → only_breaks cs ≡ true
unfolding left_from left_of only_breaks
some_left after [] h = refl
some_left after (c ∷ cs) h =
    by-test (is_break c)
    (λ e. let k : left_from true cs ≡ [] = rw e at (front-none (left_of after c cs) (left_from (is_break c) cs) h).1 in rw e (some_left true cs k))
    (λ e. let k : c ∷ [] ≡ [] = rw e at (front-none (left_of after c cs) (left_from (is_break c) cs) h).0 in let z : ◌≡◌ {A = ℕ} 0 1 = cc in absurd (omega arith))

none-encoded : (cs : List ℕ) → joined encode cs ≡ [] → cs ≡ []
unfolding joined
none-encoded [] h = refl
none-encoded (c ∷ cs) h = absurd (encode-not c (joined encode cs) h)

pub empty-is : EmptyIs
unfolding text_left untagged unescaped
empty-is ranges faces cs = (
  λ h. nothing_written ranges faces cs (all-gone cs h),
  λ h. some_left true cs (none-encoded (left_from true cs) (sym (unescape (left_from true cs)) ∙ ap (unescaped 0) (sym (untag (only-tags ranges faces cs)) ∙ ap (untagged false) h) ∙ none)),
)
  where
    none : unescaped 0 (untagged false []) ≡ []
    none = refl
