-- The characters read from a text are those that it was made from.
use Prim.Native.Nat.{ℕ, ◌+◌, ◌-◌, ◌*◌, ◌/◌, ◌%◌, ◌≤◌, ◌<◌}
use mathlib.Core.Path.{◌≡◌, refl, sym, ap, ◌∙◌}
use mathlib.Core.Logic.{◌⊎◌, inl, inr}
use mathlib.Core.Bool.{true, false}
use mathlib.Core.List.{List, [], ◌∷◌, ◌++◌, append_assoc}
use native.Mathlib.Omega.{arith}
use native.Mathlib.Nat.{div-add-mod', div-div-eq-div-mul}
use lib.ListN.{length}
use borrow.Author.Tests.{le-leb, lt-leb, lt-ltb, le-ltb, ne_eqb}
use Rattle.base.proofs.Choice.{both_left, both_right, either}
use Rattle.utf8.specs.Strings.{starts_with}
use Rattle.utf8.proofs.Ranges.{inside, below, above}
use Rattle.characters.specs.Characters.{is_tail, is_high, is_low, mark}
use Rattle.code_points.specs.CodePoints.{scalar, scalars, encode, encode16, unit, joined}
use Rattle.code_points.proofs.CodePoints.{scalar_cases}
use Rattle.code_points.proofs.CodePoints16.{counted_is}
use Rattle.tx3g_payload.specs.Points.{more, point, points8, point16, points16, points_of}
use Rattle.tx3g_payload.specs.Statements.{PointsAre, PointsGood}

no-tail-low : (b : ℕ) → b < 0x80 → is_tail b ≡ false
unfolding is_tail
no-tail-low b h = below 0x80 0xBF b h

no-tail-high : (b : ℕ) → 0xBF < b → is_tail b ≡ false
unfolding is_tail
no-tail-high b h = above 0x80 0xBF b h

is-tail : (r : ℕ) → r < 64 → is_tail (0x80 + r) ≡ true
unfolding is_tail
is-tail r h = inside 0x80 0xBF (0x80 + r) (omega arith) (omega arith)

no-mark : (b : ℕ) (s : List ℕ) → b < 0xFE → starts_with mark (b ∷ s) ≡ false
unfolding starts_with mark
no-mark b s h = rw (ne_eqb b 0xFE (λ e. omega arith))

-- by the digits of its number
read-2 : (q r : ℕ) (s : List ℕ) → q < 32 → r < 64 → points8 ((0xC0 + q) ∷ (0x80 + r) ∷ s) ≡ (q * 64 + r) ∷ points8 s
unfolding points8 point more
read-2 q r s a h =
    let e : (0xC0 + q - 0xC0) * 64 + (0x80 + r - 0x80) ≡ q * 64 + r = omega arith in
    rw (no-tail-high (0xC0 + q) (omega arith), is-tail r h, le-ltb (0xC0 + q) 0x80 (omega arith), lt-ltb (0xC0 + q) 0xE0 (omega arith), e)

read-3 : (q r t : ℕ) (s : List ℕ) → q < 16 → r < 64 → t < 64 → points8 ((0xE0 + q) ∷ (0x80 + r) ∷ (0x80 + t) ∷ s) ≡ ((q * 64 + r) * 64 + t) ∷ points8 s
unfolding points8 point more
read-3 q r t s a h k =
    let e : ((0xE0 + q - 0xE0) * 64 + (0x80 + r - 0x80)) * 64 + (0x80 + t - 0x80) ≡ (q * 64 + r) * 64 + t = omega arith in
    rw (no-tail-high (0xE0 + q) (omega arith), is-tail r h, is-tail t k, le-ltb (0xE0 + q) 0x80 (omega arith), le-ltb (0xE0 + q) 0xE0 (omega arith), lt-ltb (0xE0 + q) 0xF0 (omega arith), e)

read-4 : (q r t u : ℕ) (s : List ℕ) → r < 64 → t < 64 → u < 64
    → points8 ((0xF0 + q) ∷ (0x80 + r) ∷ (0x80 + t) ∷ (0x80 + u) ∷ s) ≡ (((q * 64 + r) * 64 + t) * 64 + u) ∷ points8 s
unfolding points8 point more
read-4 q r t u s h k l =
    let e : (((0xF0 + q - 0xF0) * 64 + (0x80 + r - 0x80)) * 64 + (0x80 + t - 0x80)) * 64 + (0x80 + u - 0x80) ≡ ((q * 64 + r) * 64 + t) * 64 + u = omega arith in
    rw (no-tail-high (0xF0 + q) (omega arith), is-tail r h, is-tail t k, is-tail u l, le-ltb (0xF0 + q) 0x80 (omega arith), le-ltb (0xF0 + q) 0xE0 (omega arith), le-ltb (0xF0 + q) 0xF0 (omega arith), e)

-- the digits give the number
pub two_digits : (c : ℕ) → c / 64 * 64 + c % 64 ≡ c
two_digits c = div-add-mod' c 64

pub three-digits : (c : ℕ) → (c / 4096 * 64 + c / 64 % 64) * 64 + c % 64 ≡ c
three-digits c =
    let e : c / 64 / 64 ≡ c / 4096 = div-div-eq-div-mul c 64 64 in
    let g : c / 4096 * 64 + c / 64 % 64 ≡ c / 64 = ap (λ (x : ℕ). x * 64 + c / 64 % 64) (sym e) ∙ div-add-mod' (c / 64) 64 in
    rw g (div-add-mod' c 64)

pub four-digits : (c : ℕ) → ((c / 262144 * 64 + c / 4096 % 64) * 64 + c / 64 % 64) * 64 + c % 64 ≡ c
four-digits c =
    let e : c / 4096 / 64 ≡ c / 262144 = div-div-eq-div-mul c 4096 64 in
    let g : c / 262144 * 64 + c / 4096 % 64 ≡ c / 4096 = ap (λ (x : ℕ). x * 64 + c / 4096 % 64) (sym e) ∙ div-add-mod' (c / 4096) 64 in
    rw g (three-digits c)

read_one : (c : ℕ) (s : List ℕ) → c ≤ 0x10FFFF → (points8 (encode c ++ s) ≡ c ∷ points8 s) × (starts_with mark (encode c ++ s) ≡ false)
unfolding encode points8 point
read_one c s h =
    either c 0x7F (λ a. rw (le-leb c 0x7F a) (ascii c s a, no-mark c s (omega arith)))
    (λ a. either c 0x7FF
    (λ b. rw (lt-leb c 0x7F a, le-leb c 0x7FF b)
    (read-2 (c / 64) (c % 64) s (omega arith) (omega arith) ∙ ap (λ (x : ℕ). x ∷ points8 s) (two_digits c), no-mark (0xC0 + c / 64) ((0x80 + c % 64) ∷ s) (omega arith)))
    (λ b. either c 0xFFFF
    (λ d. rw (lt-leb c 0x7F a, lt-leb c 0x7FF b, le-leb c 0xFFFF d) (
      read-3 (c / 4096) (c / 64 % 64) (c % 64) s (omega arith) (omega arith) (omega arith) ∙ ap (λ (x : ℕ). x ∷ points8 s) (three-digits c),
      no-mark (0xE0 + c / 4096) ((0x80 + c / 64 % 64) ∷ (0x80 + c % 64) ∷ s) (omega arith),
    ))
    (λ d. rw (lt-leb c 0x7F a, lt-leb c 0x7FF b, lt-leb c 0xFFFF d) (
      read-4 (c / 262144) (c / 4096 % 64) (c / 64 % 64) (c % 64) s (omega arith) (omega arith) (omega arith) ∙ ap (λ (x : ℕ). x ∷ points8 s) (four-digits c),
      no-mark (0xF0 + c / 262144) ((0x80 + c / 4096 % 64) ∷ (0x80 + c / 64 % 64) ∷ (0x80 + c % 64) ∷ s) (omega arith),
    ))))
  where
    ascii : (c : ℕ) (s : List ℕ) → c ≤ 0x7F → points8 (c ∷ s) ≡ c ∷ points8 s
    ascii c s a = rw (no-tail-low c (omega arith), lt-ltb c 0x80 (omega arith))

pub most : (c : ℕ) → scalar c ≡ true → c ≤ 0x10FFFF
most c h = scalar_cases c h (λ l. omega arith) (λ l m. m)

pub read_all : (cs : List ℕ) → scalars cs ≡ true → (points8 (joined encode cs) ≡ cs) × (starts_with mark (joined encode cs) ≡ false)
unfolding scalars joined points8 starts_with mark
read_all [] h = (refl, refl)
read_all (c ∷ cs) h =
    let r = read_one c (joined encode cs) (most c (both_left (scalar c) (scalars cs) h)) in
    (r.0 ∙ ap (λ (s : List ℕ). c ∷ s) (read_all cs (both_right (scalar c) (scalars cs) h)).0, r.1)

-- UTF-16
read-unit : (c : ℕ) (s : List ℕ) → scalar c ≡ true → c ≤ 0xFFFF → points16 (unit c ++ s) ≡ c ∷ points16 s
unfolding unit points16 point16 is_low is_high
read-unit c s h k =
    scalar_cases c h
    (λ l. rw (below 0xDC 0xDF (c / 256) (omega arith), below 0xD8 0xDB (c / 256) (omega arith), div-add-mod' c 256))
    (λ l m. rw (above 0xDC 0xDF (c / 256) (omega arith), above 0xD8 0xDB (c / 256) (omega arith), div-add-mod' c 256))

read-pair : (x y : ℕ) (s : List ℕ) → x < 1024 → y < 1024 → points16 (unit (0xD800 + x) ++ (unit (0xDC00 + y) ++ s)) ≡ (0x10000 + (x * 1024 + y)) ∷ points16 s
unfolding unit points16 point16 is_low is_high
read-pair x y s h k =
    let a = 0xD800 + x in
    let b = 0xDC00 + y in
    let e : (a / 256 - 0xD8) * 256 + a % 256 ≡ x = omega (arith, div-add-mod' a 256) in
    let f : (b / 256 - 0xDC) * 256 + b % 256 ≡ y = omega (arith, div-add-mod' b 256) in
    rw (below 0xDC 0xDF (a / 256) (omega arith), inside 0xD8 0xDB (a / 256) (omega arith) (omega arith), inside 0xDC 0xDF (b / 256) (omega arith) (omega arith), e, f)

read-one16 : (c : ℕ) (s : List ℕ) → scalar c ≡ true → points16 (encode16 c ++ s) ≡ c ∷ points16 s
unfolding encode16
read-one16 c s h =
    either c 0xFFFF (λ k. rw (le-leb c 0xFFFF k) (read-unit c s h k))
    (λ k. let d = c - 0x10000 in
    let t = most c h in
    let e : 0x10000 + (d / 1024 * 1024 + d % 1024) ≡ c = omega (arith, div-add-mod' d 1024) in
    rw (lt-leb c 0xFFFF k, append_assoc (unit (0xD800 + d / 1024)) (unit (0xDC00 + d % 1024)) s)
    (read-pair (d / 1024) (d % 1024) s (omega arith) (omega arith) ∙ ap (λ (x : ℕ). x ∷ points16 s) e))

pub read-all16 : (cs : List ℕ) → scalars cs ≡ true → points16 (joined encode16 cs) ≡ cs
unfolding scalars joined points16
read-all16 [] h = refl
read-all16 (c ∷ cs) h =
    read-one16 c (joined encode16 cs) (both_left (scalar c) (scalars cs) h) ∙ ap (λ (s : List ℕ). c ∷ s) (read-all16 cs (both_right (scalar c) (scalars cs) h))

pub points-are : PointsAre
unfolding points_of mark starts_with
points-are cs h = let r = read_all cs h in (rw r.1 r.0, read-all16 cs h)

-- and a text whose characters are counted has as many
pub points-good : PointsGood
points-good s n b h =
    let c = counted_is s n b h in
    let read : (s ≡ joined encode c.0) ⊎ (s ≡ mark ++ joined encode16 c.0) → points_of s ≡ c.0 = by_form c.0 c.1 in
    let p = read c.3 in
    (ap scalars p ∙ c.1, ap length p ∙ c.2)
  where
    by_form : {s : List ℕ} (cs : List ℕ) → scalars cs ≡ true → (s ≡ joined encode cs) ⊎ (s ≡ mark ++ joined encode16 cs) → points_of s ≡ cs
    by_form cs h (inl e) = ap points_of e ∙ (points-are cs h).0
    by_form cs h (inr e) = ap points_of e ∙ (points-are cs h).1
