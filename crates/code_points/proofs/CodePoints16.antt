-- Valid UTF-16 is the bytes of some characters, and nothing else is.
use Prim.Native.Nat.{ℕ, ◌+◌, ◌-◌, ◌*◌, ◌<◌, ◌≤◌}
use mathlib.Core.Path.{◌≡◌, refl, sym, ap, ◌∙◌, subst}
use mathlib.Core.Logic.{inl, inr}
use mathlib.Core.List.{List, [], ◌∷◌, ◌++◌}
use mathlib.Core.Bool.{Bool, true, false}
use native.Mathlib.Omega.{arith}
use borrow.Author.Tests.{le-leb, lt-leb, ltb-true, eqb-true}
use lib.Arith.{digits_div, digits_mod}
use lib.Dec.{ltb, eqb}
use lib.ListN.{length, drop}
use Rattle.base.specs.Choice.{both, within}
use Rattle.base.proofs.Choice.{both_left, both_right, true-false, either, by-test}
use Rattle.viable.specs.FirstBad.{bytes}
use Rattle.characters.specs.Counted.{Characters}
use Rattle.characters.specs.Characters.{is_high, is_low, same_test, utf16, first_units, mark, tx3g_text, character_count, characters_of}
use Rattle.characters.proofs.Counts.{right-counted, counted-text}
use Rattle.characters.proofs.Begun.{text-marked, text-other}
use Rattle.utf8.specs.Strings.{starts_with}
use Rattle.utf8.proofs.Ranges.{inside, below, above, in-range}
use Rattle.code_points.specs.CodePoints.{scalar, scalars, joined, unit, encode16, Utf16Is, CountIs, CountedIs}
use Rattle.code_points.proofs.CodePoints.{scalar-low, scalar-high, scalar_cases, digits, First, points, utf8-count, utf8-is}

-- the bytes of a character from the digits of its number
unit-is : (h l : ℕ) → l < 256 → unit (h * 256 + l) ≡ h ∷ l ∷ []
unfolding unit
unit-is h l k = rw (digits_div h k, digits_mod h k)

encode-unit : (h l : ℕ) → h * 256 + l ≤ 0xFFFF → l < 256 → encode16 (h * 256 + l) ≡ h ∷ l ∷ []
unfolding encode16
encode-unit h l a k = rw (le-leb (h * 256 + l) 0xFFFF a) (unit-is h l k)

-- the number of a surrogate pair, by the two low bits of each high byte and the low bytes
abbrev paired : ℕ → ℕ → ℕ → ℕ → ℕ
paired a l b m = 0x10000 + ((a * 256 + l) * 1024 + (b * 256 + m))

encode-pair : (a l b m : ℕ) → a < 4 → l < 256 → b < 4 → m < 256 → encode16 (paired a l b m) ≡ (0xD8 + a) ∷ l ∷ (0xDC + b) ∷ m ∷ []
unfolding encode16
encode-pair a l b m ha hl hb hm =
    let y : b * 256 + m < 1024 = omega arith in
    let e : paired a l b m - 0x10000 ≡ (a * 256 + l) * 1024 + (b * 256 + m) = omega arith in
    let u : 0xD800 + (a * 256 + l) ≡ (0xD8 + a) * 256 + l = omega arith in
    let v : 0xDC00 + (b * 256 + m) ≡ (0xDC + b) * 256 + m = omega arith in
    rw (lt-leb (paired a l b m) 0xFFFF (omega arith), e, digits_div (a * 256 + l) y, digits_mod (a * 256 + l) y, u, v, unit-is (0xD8 + a) l hl, unit-is (0xDC + b) m hm)

-- a character in front: the text stays valid, with one character more
Right : List ℕ → ℕ → Type 0
Right s c = scalar c ≡ true → (utf16 false (encode16 c ++ s) ≡ utf16 false s) × (first_units (encode16 c ++ s) ≡ 1 + first_units s)

one_unit : (h l : ℕ) (s : List ℕ) → is_high h ≡ false → is_low h ≡ false → (utf16 false (h ∷ l ∷ s) ≡ utf16 false s) × (first_units (h ∷ l ∷ s) ≡ 1 + first_units s)
unfolding utf16 first_units
one_unit h l s hi lo = rw (hi, lo) (refl, refl)

two-units : (a l b m : ℕ) (s : List ℕ) → a < 4 → b < 4
    → (utf16 false ((0xD8 + a) ∷ l ∷ (0xDC + b) ∷ m ∷ s) ≡ utf16 false s) × (first_units ((0xD8 + a) ∷ l ∷ (0xDC + b) ∷ m ∷ s) ≡ 1 + first_units s)
unfolding utf16 first_units is_high is_low
two-units a l b m s ha hb =
    rw (
      inside 0xD8 0xDB (0xD8 + a) (omega arith) (omega arith),
      below 0xDC 0xDF (0xD8 + a) (omega arith),
      above 0xD8 0xDB (0xDC + b) (omega arith),
      inside 0xDC 0xDF (0xDC + b) (omega arith) (omega arith),
    )
    (refl, omega arith)

right-unit : (s : List ℕ) (c : ℕ) → c ≤ 0xFFFF → Right s c
unfolding Right is_high is_low
right-unit s =
    digits 256 (omega arith) (λ c. c ≤ 0xFFFF → Right s c)
    (λ h l k a sc. rw (encode-unit h l a k) (one_unit h l s
    (scalar_cases (h * 256 + l) sc (λ x. below 0xD8 0xDB h (omega arith)) (λ x y. above 0xD8 0xDB h (omega arith)))
    (scalar_cases (h * 256 + l) sc (λ x. below 0xDC 0xDF h (omega arith)) (λ x y. above 0xDC 0xDF h (omega arith)))))

right-pair : (s : List ℕ) (d : ℕ) → d < 0x100000 → Right s (0x10000 + d)
unfolding Right
right-pair s =
    digits 1024 (omega arith) (λ d. d < 0x100000 → Right s (0x10000 + d)) (λ x y ky.
    digits 256 (omega arith) (λ z. z * 1024 + y < 0x100000 → Right s (0x10000 + (z * 1024 + y))) (λ a l kl.
    digits 256 (omega arith) (λ z. z < 1024 → (a * 256 + l) * 1024 + z < 0x100000 → Right s (0x10000 + ((a * 256 + l) * 1024 + z))) (λ b m km hy hd sc.
    rw (encode-pair a l b m (omega arith) kl (omega arith) km) (two-units a l b m s (omega arith) (omega arith))) y ky) x)

right : (s : List ℕ) (c : ℕ) → Right s c
unfolding Right
right s c h =
    let most : c ≤ 0x10FFFF = scalar_cases c h (λ l. omega arith) (λ l m. m) in
    either c 0xFFFF (λ a. right-unit s c a h)
    (λ a. let e : 0x10000 + (c - 0x10000) ≡ c = omega arith in subst (λ (x : ℕ). Right s x) e (right-pair s (c - 0x10000) (omega arith)) h)

encodings-right : (cs : List ℕ) → scalars cs ≡ true → (utf16 false (joined encode16 cs) ≡ true) × (first_units (joined encode16 cs) ≡ length cs)
unfolding scalars joined Right utf16 first_units
encodings-right [] h = (refl, refl)
encodings-right (c ∷ cs) h =
    let r = right (joined encode16 cs) c (both_left (scalar c) (scalars cs) h) in
    let rs = encodings-right cs (both_right (scalar c) (scalars cs) h) in
    (r.0 ∙ rs.0, omega arith)

-- a unit that is no surrogate is a character
unit_scalar : (h l : ℕ) → h < 256 → l < 256 → is_high h ≡ false → is_low h ≡ false → scalar (h * 256 + l) ≡ true
unfolding is_high is_low
unit_scalar h l kh kl hi lo =
    either h 0xD7 (λ a. scalar-low (h * 256 + l) (omega arith))
    (λ a. either h 0xDB (λ b. true-false (within 0xD8 0xDB h) (inside 0xD8 0xDB h a b) hi)
    (λ b. either h 0xDF (λ d. true-false (within 0xDC 0xDF h) (inside 0xDC 0xDF h b d) lo)
    (λ d. scalar-high (h * 256 + l) (omega arith) (omega arith))))

expected : (x due : Bool) → same_test x due ≡ true → x ≡ due
expected true true h = refl
expected true false h = sym h
expected false true h = h
expected false false h = refl

-- the parts of a valid text that begins with a unit
unit-parts : (due : Bool) (h l : ℕ) (s : List ℕ) → bytes (h ∷ l ∷ s) ≡ true → utf16 due (h ∷ l ∷ s) ≡ true
    → (h < 256) × (l < 256) × (bytes s ≡ true) × (is_low h ≡ due) × (utf16 (is_high h) s ≡ true)
unfolding bytes utf16
unit-parts due h l s b u =
    let r = both_right (ltb h 256) (both (ltb l 256) (bytes s)) b in (
      ltb-true h 256 (both_left (ltb h 256) (both (ltb l 256) (bytes s)) b),
      ltb-true l 256 (both_left (ltb l 256) (bytes s) r),
      both_right (ltb l 256) (bytes s) r,
      expected (is_low h) due (both_left (same_test (is_low h) due) (utf16 (is_high h) s) u),
      both_right (same_test (is_low h) due) (utf16 (is_high h) s) u,
    )

valid : List ℕ → Bool
valid s = both (bytes s) (utf16 false s)

valid-is : (s : List ℕ) → bytes s ≡ true → utf16 false s ≡ true → valid s ≡ true
unfolding valid
valid-is s b u = rw (b, u)

first-unit : (h l : ℕ) (s : List ℕ) → h < 256 → l < 256 → is_high h ≡ false → is_low h ≡ false → valid s ≡ true → First encode16 valid (h ∷ l ∷ s)
first-unit h l s kh kl hi lo v =
    record {
      point = h * 256 + l;
      rest = s;
      is-scalar = unit_scalar h l kh kl hi lo;
      split = rw (encode-unit h l (omega arith) kl);
      valid = v;
      shorter = omega arith;
    }

-- after a high surrogate
first-pair : (h l : ℕ) (s : List ℕ) → l < 256 → is_high h ≡ true → bytes s ≡ true → utf16 true s ≡ true → First encode16 valid (h ∷ l ∷ s)
unfolding utf16 is_high is_low
first-pair h l [] kl hi b u = true-false false u refl
first-pair h l (g ∷ []) kl hi b u = true-false false u refl
first-pair h l (g ∷ m ∷ s) kl hi b u =
    let p = unit-parts true g m s b u in
    let x = in-range 0xD8 0xDB h hi in
    let y = in-range 0xDC 0xDF g p.3 in
    let n : utf16 false s ≡ true = rw (above 0xD8 0xDB g (omega arith)) at p.4 in
    let ea : 0xD8 + (h - 0xD8) ≡ h = omega arith in
    let eb : 0xDC + (g - 0xDC) ≡ g = omega arith in
    record {
      point = paired (h - 0xD8) l (g - 0xDC) m;
      rest = s;
      is-scalar = scalar-high (paired (h - 0xD8) l (g - 0xDC) m) (omega arith) (omega arith);
      split = rw (encode-pair (h - 0xD8) l (g - 0xDC) m (omega arith) kl (omega arith) p.1, ea, eb);
      valid = valid-is s p.2 n;
      shorter = omega arith;
    }

first : (h : ℕ) (xs : List ℕ) → valid (h ∷ xs) ≡ true → First encode16 valid (h ∷ xs)
unfolding valid utf16
first h [] v = true-false false (both_right (bytes (h ∷ [])) false v) refl
first h (l ∷ s) v =
    let p = unit-parts false h l s (both_left (bytes (h ∷ l ∷ s)) (utf16 false (h ∷ l ∷ s)) v) (both_right (bytes (h ∷ l ∷ s)) (utf16 false (h ∷ l ∷ s)) v) in
    by-test (is_high h)
    (λ e. first-pair h l s p.1 e p.2 (rw e at p.4))
    (λ e. first-unit h l s p.0 p.1 e p.3 (valid-is s p.2 (rw e at p.4)))

pub utf16-is : Utf16Is
utf16-is s b = (λ u. points encode16 valid first (length s) s (omega arith) (valid-is s b u), λ e. rw e.2 (encodings-right e.0 e.1).0)

pub count-is : CountIs
unfolding tx3g_text character_count mark starts_with
count-is cs h = let r = encodings-right cs h in (utf8-count cs h, sym (right-counted (mark ++ joined encode16 cs) (length cs) r.0 (sym r.1)))

-- a text that begins with the mark
behind-mark : (s : List ℕ) → starts_with mark s ≡ true → s ≡ mark ++ drop 2 s
unfolding starts_with mark
behind-mark [] h = true-false false h refl
behind-mark (a ∷ []) h = true-false false (both_right (eqb a 0xFE) false h) refl
behind-mark (a ∷ b ∷ s) h =
    let p = eqb-true a 0xFE (both_left (eqb a 0xFE) (both (eqb b 0xFF) true) h) in
    let q = eqb-true b 0xFF (both_left (eqb b 0xFF) true (both_right (eqb a 0xFE) (both (eqb b 0xFF) true) h)) in
    rw (p, q)

bytes_drop : (s : List ℕ) → bytes s ≡ true → bytes (drop 2 s) ≡ true
unfolding bytes
bytes_drop [] h = refl
bytes_drop (a ∷ []) h = refl
bytes_drop (a ∷ b ∷ s) h = both_right (ltb b 256) (bytes s) (both_right (ltb a 256) (both (ltb b 256) (bytes s)) h)

same_count : (m n : ℕ) → Characters m ≡ Characters n → m ≡ n
same_count m n e = cc

pub counted_is : CountedIs
counted_is s n b e =
    by-test (starts_with mark s)
    (λ t. let u = sym (text-marked s t) ∙ counted-text s n e in
    let w = (utf16-is (drop 2 s) (bytes_drop s b)).0 u in
    let q : s ≡ mark ++ joined encode16 w.0 = behind-mark s t ∙ ap (λ (x : List ℕ). mark ++ x) w.2 in
    (w.0, w.1, same_count (length w.0) n (sym (count-is w.0 w.1).1 ∙ ap characters_of (sym q) ∙ e), inr q))
    (λ t. let u = sym (text-other s t) ∙ counted-text s n e in
    let w = (utf8-is s).0 u in
    (w.0, w.1, same_count (length w.0) n (sym (count-is w.0 w.1).0 ∙ ap characters_of (sym w.2) ∙ e), inl w.2))
