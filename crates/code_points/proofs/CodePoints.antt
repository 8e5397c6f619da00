-- Valid UTF-8 is the bytes of some characters, and nothing else is.
use Prim.Native.Nat.{ℕ, zero, suc, ◌+◌, ◌-◌, ◌*◌, ◌/◌, ◌%◌, ◌<◌, ◌≤◌}
use mathlib.Core.Path.{◌≡◌, refl, sym, ap, ◌∙◌, subst}
use mathlib.Core.Logic.{◌⊎◌, inl, inr}
use mathlib.Core.List.{List, [], ◌∷◌, ◌++◌}
use mathlib.Core.Bool.{Bool, true, false, not}
use mathlib.Core.Option.{some}
use native.Mathlib.Omega.{arith}
use native.Mathlib.Nat.{not-suc-le-zero, div-add-mod', mod-lt, div-div-eq-div-mul}
use borrow.Author.Tests.{le-leb, lt-leb, leb-true, eqb-true, ne_eqb, not-true}
use lib.Arith.{digits_div, digits_mod}
use lib.Dec.{eqb, leb}
use lib.ListN.{length, replicate}
use Rattle.base.specs.Choice.{pick, within}
use Rattle.base.proofs.Choice.{both_left, both_right, true-false, either, by-test}
use Rattle.base.proofs.Table.{at}
use Rattle.utf8.specs.Utf8.{Range, Row, tail, rows, follow_in, follow, on_some, judge, utf8}
use Rattle.utf8.specs.Strings.{starts_with}
use Rattle.characters.specs.Characters.{is_tail, firsts, mark, tx3g_text, character_count, characters_of}
use Rattle.characters.proofs.Counts.{right-counted}
use Rattle.characters.specs.Counted.{Characters}
use Rattle.utf8.proofs.Ranges.{inside, below, above, in-range, same_asked, same_asked_lem}
use Rattle.code_points.specs.CodePoints.{scalar, scalars, encode, joined, Encoded, Utf8Is}

-- scalars lie below and above the surrogates
pub scalar-low : (c : ℕ) → c ≤ 0xD7FF → scalar c ≡ true
unfolding scalar within
scalar-low c h = rw (le-leb c 0x10FFFF (omega arith), lt-leb 0xD800 c (omega arith))

pub scalar-high : (c : ℕ) → 0xE000 ≤ c → c ≤ 0x10FFFF → scalar c ≡ true
unfolding scalar within
scalar-high c h k = rw (le-leb c 0x10FFFF k, le-leb 0xD800 c (omega arith), lt-leb c 0xDFFF (omega arith))

pub scalar_cases : {X : Type 0} (c : ℕ) → scalar c ≡ true → (c ≤ 0xD7FF → X) → (0xE000 ≤ c → c ≤ 0x10FFFF → X) → X
unfolding scalar
scalar_cases c h low high =
    let most = leb-true c 0x10FFFF (both_left (leb c 0x10FFFF) (not (within 0xD800 0xDFFF c)) h) in
    let out = not-true (within 0xD800 0xDFFF c) (both_right (leb c 0x10FFFF) (not (within 0xD800 0xDFFF c)) h) in
    either c 0xD7FF low
    (λ k. either c 0xDFFF (λ l. true-false (within 0xD800 0xDFFF c) (inside 0xD800 0xDFFF c k l) out) (λ l. high l most))

-- a number in digits, of six bits in UTF-8
pub digits : (n : ℕ) → 0 < n → (P : ℕ → Type 0) → ((q r : ℕ) → r < n → P (q * n + r)) → (c : ℕ) → P c
digits n h P f c = subst P (div-add-mod' c n) (f (c / n) (c % n) (mod-lt c h))

digits_2 : (P : ℕ → Type 0) → ((q r : ℕ) → r < 64 → P (q * 64 + r)) → (c : ℕ) → P c
digits_2 = digits 64 (omega arith)

digits_3 : (P : ℕ → Type 0) → ((q r t : ℕ) → r < 64 → t < 64 → P ((q * 64 + r) * 64 + t)) → (c : ℕ) → P c
digits_3 P f c = digits_2 P (λ a t k. digits_2 (λ x. P (x * 64 + t)) (λ q r h. f q r t h k) a) c

digits_4 : (P : ℕ → Type 0) → ((q r t u : ℕ) → r < 64 → t < 64 → u < 64 → P (((q * 64 + r) * 64 + t) * 64 + u)) → (c : ℕ) → P c
digits_4 P f c = digits_2 P (λ a u l. digits_3 (λ x. P (x * 64 + u)) (λ q r t h k. f q r t u h k l) a) c

-- the bytes of a character from the digits of its number
encode-1 : (c : ℕ) → c ≤ 0x7F → encode c ≡ c ∷ []
unfolding encode
encode-1 c h = rw (le-leb c 0x7F h)

encode-2 : (q r : ℕ) → 2 ≤ q → q < 32 → r < 64 → encode (q * 64 + r) ≡ (0xC0 + q) ∷ (0x80 + r) ∷ []
unfolding encode
encode-2 q r a b h =
    rw (lt-leb (q * 64 + r) 0x7F (omega arith), le-leb (q * 64 + r) 0x7FF (omega arith), digits_div q h, digits_mod q h)

encode-3 : (q r t : ℕ) → 32 ≤ q * 64 + r → q < 16 → r < 64 → t < 64 → encode ((q * 64 + r) * 64 + t) ≡ (0xE0 + q) ∷ (0x80 + r) ∷ (0x80 + t) ∷ []
unfolding encode
encode-3 q r t a b h k =
    let c = (q * 64 + r) * 64 + t in
    let e : c / 4096 ≡ q = sym (div-div-eq-div-mul c 64 64) ∙ ap (λ (x : ℕ). x / 64) (digits_div (q * 64 + r) k) ∙ digits_div q h in
    rw (lt-leb c 0x7F (omega arith), lt-leb c 0x7FF (omega arith), le-leb c 0xFFFF (omega arith), e, digits_div (q * 64 + r) k, digits_mod (q * 64 + r) k, digits_mod q h)

encode-4 : (q r t u : ℕ) → 16 ≤ q * 64 + r → q < 5 → r < 64 → t < 64 → u < 64
    → encode (((q * 64 + r) * 64 + t) * 64 + u) ≡ (0xF0 + q) ∷ (0x80 + r) ∷ (0x80 + t) ∷ (0x80 + u) ∷ []
unfolding encode
encode-4 q r t u a b h k l =
    let x = q * 64 + r in
    let y = x * 64 + t in
    let c = y * 64 + u in
    let e : c / 4096 ≡ x = sym (div-div-eq-div-mul c 64 64) ∙ ap (λ (z : ℕ). z / 64) (digits_div y l) ∙ digits_div x k in
    let g : c / 262144 ≡ q = sym (div-div-eq-div-mul c 4096 64) ∙ ap (λ (z : ℕ). z / 64) e ∙ digits_div q h in
    rw (lt-leb c 0x7F (omega arith), lt-leb c 0x7FF (omega arith), lt-leb c 0xFFFF (omega arith), g, e, digits_div y l, digits_mod y l, digits_mod x k, digits_mod q h)

-- the rows by the first byte, each width by one computed test
two : ℕ → ℕ → Bool
unfolding rows follow_in follow within
two k x = same_asked (follow (0xC2 + k)) (some (tail ∷ []))

row-2 : (q : ℕ) → 2 ≤ q → q < 32 → follow (0xC0 + q) ≡ some (tail ∷ [])
unfolding two
row-2 q h k =
    let e : 0xC0 + q ≡ 0xC2 + (q - 2) = omega arith in
    rw e (same_asked_lem (follow (0xC2 + (q - 2))) (some (tail ∷ [])) (at two (replicate 30 0) tt (q - 2) (omega arith)))

-- with this first digit, the range of the second byte
second-3 : ℕ → Range
second-3 q = (0x80 + pick (eqb q 0) 32 0, 0x80 + pick (eqb q 13) 31 63)

second-4 : ℕ → Range
second-4 q = (0x80 + pick (eqb q 0) 16 0, 0x80 + pick (eqb q 4) 15 63)

three : ℕ → ℕ → Bool
unfolding rows follow_in follow within second-3
three q x = same_asked (follow (0xE0 + q)) (some (second-3 q ∷ tail ∷ []))

row-3 : (q : ℕ) → q < 16 → follow (0xE0 + q) ≡ some (second-3 q ∷ tail ∷ [])
unfolding three
row-3 q h = same_asked_lem (follow (0xE0 + q)) (some (second-3 q ∷ tail ∷ [])) (at three (replicate 16 0) tt q h)

four : ℕ → ℕ → Bool
unfolding rows follow_in follow within second-4
four q x = same_asked (follow (0xF0 + q)) (some (second-4 q ∷ tail ∷ tail ∷ []))

row-4 : (q : ℕ) → q < 5 → follow (0xF0 + q) ≡ some (second-4 q ∷ tail ∷ tail ∷ [])
unfolding four
row-4 q h = same_asked_lem (follow (0xF0 + q)) (some (second-4 q ∷ tail ∷ tail ∷ [])) (at four (replicate 5 0) tt q h)

-- r is in the range of a second byte
second : (q a m b n r : ℕ) → r < 64 → (q ≡ a → m ≤ r) → (q ≡ b → r ≤ n) → within (0x80 + pick (eqb q a) m 0) (0x80 + pick (eqb q b) n 63) (0x80 + r) ≡ true
second q a m b n r h low high =
    let least : pick (eqb q a) m 0 ≤ r = by-test (eqb q a) (λ e. rw e (low (eqb-true q a e))) (λ e. rw e (omega arith)) in
    let most : r ≤ pick (eqb q b) n 63 = by-test (eqb q b) (λ e. rw e (high (eqb-true q b e))) (λ e. rw e (omega arith)) in
    inside (0x80 + pick (eqb q a) m 0) (0x80 + pick (eqb q b) n 63) (0x80 + r) (omega arith) (omega arith)

in_tail : (r : ℕ) → r < 64 → within 0x80 0xBF (0x80 + r) ≡ true
in_tail r h = inside 0x80 0xBF (0x80 + r) (omega arith) (omega arith)

-- the bytes of a character are UTF-8 in front of UTF-8
spell-1 : (c : ℕ) (s : List ℕ) → c ≤ 0x7F → judge (c ∷ s) [] ≡ judge s []
unfolding judge follow follow_in rows
spell-1 c s h = rw (inside 0x00 0x7F c (omega arith) h)

spell-2 : (q r : ℕ) (s : List ℕ) → 2 ≤ q → q < 32 → r < 64 → judge ((0xC0 + q) ∷ (0x80 + r) ∷ s) [] ≡ judge s []
unfolding judge
spell-2 q r s a b h = rw (row-2 q a b, in_tail r h)

spell-3 : (q r t : ℕ) (s : List ℕ) → q < 16 → r < 64 → t < 64 → (q ≡ 0 → 32 ≤ r) → (q ≡ 13 → r ≤ 31)
    → judge ((0xE0 + q) ∷ (0x80 + r) ∷ (0x80 + t) ∷ s) [] ≡ judge s []
unfolding judge second-3
spell-3 q r t s a h k low high = rw (row-3 q a, second q 0 32 13 31 r h low high, in_tail t k)

spell-4 : (q r t u : ℕ) (s : List ℕ) → q < 5 → r < 64 → t < 64 → u < 64 → (q ≡ 0 → 16 ≤ r) → (q ≡ 4 → r ≤ 15)
    → judge ((0xF0 + q) ∷ (0x80 + r) ∷ (0x80 + t) ∷ (0x80 + u) ∷ s) [] ≡ judge s []
unfolding judge second-4
spell-4 q r t u s a h k l low high = rw (row-4 q a, second q 0 16 4 15 r h low high, in_tail t k, in_tail u l)

-- one byte of a character is no UTF8-tail, and no character begins with the mark's first byte
lead-count : (b : ℕ) (s : List ℕ) → b < 0x80 ⊎ 0xBF < b → firsts (b ∷ s) ≡ 1 + firsts s
unfolding firsts is_tail
lead-count b s (inl h) = rw (below 0x80 0xBF b h)
lead-count b s (inr h) = rw (above 0x80 0xBF b h)

tail-count : (r : ℕ) (s : List ℕ) → r < 64 → firsts ((0x80 + r) ∷ s) ≡ firsts s
unfolding firsts is_tail
tail-count r s h = rw (in_tail r h) (omega arith)

no-mark : (b : ℕ) (s : List ℕ) → b ≤ 0xF4 → starts_with mark (b ∷ s) ≡ false
unfolding starts_with mark
no-mark b s h = rw (ne_eqb b 0xFE (λ e. omega arith))

-- a character in front: the bytes stay UTF-8, one character more, and no mark
Right : List ℕ → ℕ → Type 0
Right s c =
    scalar c ≡ true → (judge (encode c ++ s) [] ≡ judge s []) × (firsts (encode c ++ s) ≡ 1 + firsts s) × (starts_with mark (encode c ++ s) ≡ false)

right-1 : (s : List ℕ) (c : ℕ) → c ≤ 0x7F → Right s c
unfolding Right
right-1 s c a sc = rw (encode-1 c a) (spell-1 c s a, lead-count c s (inl (omega arith)), no-mark c s (omega arith))

right-2 : (s : List ℕ) (c : ℕ) → 0x7F < c → c ≤ 0x7FF → Right s c
unfolding Right
right-2 s =
    digits_2 (λ c. 0x7F < c → c ≤ 0x7FF → Right s c)
    (λ q r h a b sc. rw (encode-2 q r (omega arith) (omega arith) h) (
      spell-2 q r s (omega arith) (omega arith) h,
      lead-count (0xC0 + q) ((0x80 + r) ∷ s) (inr (omega arith)) ∙ ap (λ (n : ℕ). 1 + n) (tail-count r s h),
      no-mark (0xC0 + q) ((0x80 + r) ∷ s) (omega arith),
    ))

right-3 : (s : List ℕ) (c : ℕ) → 0x7FF < c → c ≤ 0xFFFF → Right s c
unfolding Right
right-3 s =
    digits_3 (λ c. 0x7FF < c → c ≤ 0xFFFF → Right s c)
    (λ q r t h k a b sc. rw (encode-3 q r t (omega arith) (omega arith) h k) (
      spell-3 q r t s (omega arith) h k (λ e. omega arith) (λ e. scalar_cases ((q * 64 + r) * 64 + t) sc (λ l. omega arith) (λ l m. absurd (omega arith))),
      lead-count (0xE0 + q) ((0x80 + r) ∷ (0x80 + t) ∷ s) (inr (omega arith)) ∙ ap (λ (n : ℕ). 1 + n) (tail-count r ((0x80 + t) ∷ s) h ∙ tail-count t s k),
      no-mark (0xE0 + q) ((0x80 + r) ∷ (0x80 + t) ∷ s) (omega arith),
    ))

right-4 : (s : List ℕ) (c : ℕ) → 0xFFFF < c → c ≤ 0x10FFFF → Right s c
unfolding Right
right-4 s =
    digits_4 (λ c. 0xFFFF < c → c ≤ 0x10FFFF → Right s c)
    (λ q r t u h k l a b sc. rw (encode-4 q r t u (omega arith) (omega arith) h k l) (
      spell-4 q r t u s (omega arith) h k l (λ e. omega arith) (λ e. omega arith),
      lead-count (0xF0 + q) ((0x80 + r) ∷ (0x80 + t) ∷ (0x80 + u) ∷ s) (inr (omega arith))
          ∙ ap (λ (n : ℕ). 1 + n) (tail-count r ((0x80 + t) ∷ (0x80 + u) ∷ s) h ∙ tail-count t ((0x80 + u) ∷ s) k ∙ tail-count u s l),
      no-mark (0xF0 + q) ((0x80 + r) ∷ (0x80 + t) ∷ (0x80 + u) ∷ s) (omega arith),
    ))

right : (s : List ℕ) (c : ℕ) → Right s c
unfolding Right
right s c h =
    let most : c ≤ 0x10FFFF = scalar_cases c h (λ l. omega arith) (λ l m. m) in
    either c 0x7F (λ a. right-1 s c a h) (λ a. either c 0x7FF (λ b. right-2 s c a b h) (λ b. either c 0xFFFF (λ d. right-3 s c b d h) (λ d. right-4 s c d most h)))

encodings-right : (cs : List ℕ) → scalars cs ≡ true
    → (judge (joined encode cs) [] ≡ true) × (firsts (joined encode cs) ≡ length cs) × (starts_with mark (joined encode cs) ≡ false)
unfolding scalars joined Right judge firsts starts_with mark
encodings-right [] h = (refl, refl, refl)
encodings-right (c ∷ cs) h =
    let r = right (joined encode cs) c (both_left (scalar c) (scalars cs) h) in
    let rs = encodings-right cs (both_right (scalar c) (scalars cs) h) in
    (r.0 ∙ rs.0, omega arith, r.2)

-- the first character of a valid text, with its bytes e and the test ok of validity
pub record First (e : ℕ → List ℕ) (ok : List ℕ → Bool) (s : List ℕ) : Type 0 where
  pub point : ℕ
  pub rest : List ℕ
  pub is-scalar : scalar point ≡ true
  pub split : s ≡ e point ++ rest
  pub valid : ok rest ≡ true
  pub shorter : length rest < length s

-- if each valid text has a first character, it is the bytes of characters
pub points : (e : ℕ → List ℕ) (ok : List ℕ → Bool) → ((b : ℕ) (xs : List ℕ) → ok (b ∷ xs) ≡ true → First e ok (b ∷ xs))
    → (n : ℕ) (s : List ℕ) → length s ≤ n → ok s ≡ true → Encoded e s
unfolding scalars joined
points e ok first zero [] l h = ([], refl, refl)
points e ok first zero (b ∷ xs) l h = absurd (not-suc-le-zero l)
points e ok first (suc n) [] l h = ([], refl, refl)
points e ok first (suc n) (b ∷ xs) l h =
    let f = first b xs h in
    let r = points e ok first n f.rest (omega (arith, f.shorter)) f.valid in
    (f.point ∷ r.0, rw f.is-scalar r.1, f.split ∙ ap (λ (t : List ℕ). e f.point ++ t) r.2)

-- of UTF-8
abbrev First8 : List ℕ → Type 0
First8 s = First encode (λ xs. judge xs []) s

-- a byte is taken from the range that is asked for
taken : (P : List ℕ → Type 0) (xs : List ℕ) (m n : ℕ) (rs : List Range) → judge xs ((0x80 + m, 0x80 + n) ∷ rs) ≡ true
    → ((r : ℕ) (ys : List ℕ) → m ≤ r → r ≤ n → judge ys rs ≡ true → P ((0x80 + r) ∷ ys)) → P xs
unfolding judge
taken P [] m n rs h f = true-false false h refl
taken P (x ∷ xs) m n rs h f =
    let w = in-range (0x80 + m) (0x80 + n) x (both_left (within (0x80 + m) (0x80 + n) x) (judge xs rs) h) in
    let e : 0x80 + (x - 0x80) ≡ x = omega arith in
    subst (λ (y : ℕ). P (y ∷ xs)) e (f (x - 0x80) xs (omega arith) (omega arith) (both_right (within (0x80 + m) (0x80 + n) x) (judge xs rs) h))

first-1 : (b : ℕ) (xs : List ℕ) → b ≤ 0x7F → judge xs [] ≡ true → First8 (b ∷ xs)
first-1 b xs h v =
    record { point = b; rest = xs; is-scalar = scalar-low b (omega arith); split = rw (encode-1 b h); valid = v; shorter = omega arith }

-- the first byte is the lead of its width and a digit
from-digit : (xs : List ℕ) (b lead : ℕ) → lead ≤ b → ((q : ℕ) → q ≡ b - lead → First8 ((lead + q) ∷ xs)) → First8 (b ∷ xs)
from-digit xs b lead h f = let e : lead + (b - lead) ≡ b = omega arith in subst (λ (x : ℕ). First8 (x ∷ xs)) e (f (b - lead) refl)

first-2 : (b : ℕ) (xs : List ℕ) → 0xC2 ≤ b → b ≤ 0xDF → judge xs (tail ∷ []) ≡ true → First8 (b ∷ xs)
first-2 b xs lo hi v =
    from-digit xs b 0xC0 (omega arith) (λ q e.
    taken (λ l. First8 ((0xC0 + q) ∷ l)) xs 0 63 [] v (λ r ys _ h w.
    record {
      point = q * 64 + r;
      rest = ys;
      is-scalar = scalar-low (q * 64 + r) (omega arith);
      split = rw (encode-2 q r (omega arith) (omega arith) (omega arith));
      valid = w;
      shorter = omega arith;
    }))

-- with the second digit from m to n: the numbers of such characters are 2048 or more, and scalars
first-3 : (b m n : ℕ) (xs : List ℕ) → 0xE0 ≤ b → b ≤ 0xEF → n < 64 → 32 ≤ (b - 0xE0) * 64 + m
    → ((c : ℕ) → ((b - 0xE0) * 64 + m) * 64 ≤ c → c < ((b - 0xE0) * 64 + n + 1) * 64 → scalar c ≡ true)
    → judge xs ((0x80 + m, 0x80 + n) ∷ tail ∷ []) ≡ true → First8 (b ∷ xs)
first-3 b m n xs lo hi d least sc v =
    from-digit xs b 0xE0 lo (λ q e.
    taken (λ l. First8 ((0xE0 + q) ∷ l)) xs m n (tail ∷ []) v (λ r ys g h w.
    taken (λ l. First8 ((0xE0 + q) ∷ (0x80 + r) ∷ l)) ys 0 63 [] w (λ t zs _ k w'.
    record {
      point = (q * 64 + r) * 64 + t;
      rest = zs;
      is-scalar = sc ((q * 64 + r) * 64 + t) (omega arith) (omega arith);
      split = rw (encode-3 q r t (omega arith) (omega arith) (omega arith) (omega arith));
      valid = w';
      shorter = omega arith;
    })))

first-4 : (b m n : ℕ) (xs : List ℕ) → 0xF0 ≤ b → b ≤ 0xF4 → n < 64 → 16 ≤ (b - 0xF0) * 64 + m → (b - 0xF0) * 64 + n < 272
    → judge xs ((0x80 + m, 0x80 + n) ∷ tail ∷ tail ∷ []) ≡ true → First8 (b ∷ xs)
first-4 b m n xs lo hi d least most v =
    from-digit xs b 0xF0 lo (λ q e.
    taken (λ l. First8 ((0xF0 + q) ∷ l)) xs m n (tail ∷ tail ∷ []) v (λ r ys g h w.
    taken (λ l. First8 ((0xF0 + q) ∷ (0x80 + r) ∷ l)) ys 0 63 (tail ∷ []) w (λ t zs _ k w'.
    taken (λ l. First8 ((0xF0 + q) ∷ (0x80 + r) ∷ (0x80 + t) ∷ l)) zs 0 63 [] w' (λ u us _ l w''.
    record {
      point = ((q * 64 + r) * 64 + t) * 64 + u;
      rest = us;
      is-scalar = scalar-high (((q * 64 + r) * 64 + t) * 64 + u) (omega arith) (omega arith);
      split = rw (encode-4 q r t u (omega arith) (omega arith) (omega arith) (omega arith) (omega arith));
      valid = w'';
      shorter = omega arith;
    }))))

-- an answer for each row that a first byte may stand in
abbrev Answers : Type 0 → (List Range → Bool) → ℕ → List Row → Type 0
Answers X f b [] = Unit {0}
Answers X f b (r ∷ rs) = (r.0.0 ≤ b → b ≤ r.0.1 → f r.1 ≡ true → X) × Answers X f b rs

by_row : {X : Type 0} (f : List Range → Bool) (b : ℕ) (rs : List Row) → Answers X f b rs → on_some (follow_in rs b) f ≡ true → X
unfolding follow_in
by_row f b [] a h = true-false false h refl
by_row f b (r ∷ rs) a h =
    by-test (within r.0.0 r.0.1 b)
    (λ e. let w = in-range r.0.0 r.0.1 b e in a.0 w.0 w.1 (rw e at h))
    (λ e. by_row f b rs a.1 (rw e at h))

first : (b : ℕ) (xs : List ℕ) → judge (b ∷ xs) [] ≡ true → First8 (b ∷ xs)
unfolding judge follow rows
first b xs =
    by_row (λ rs. judge xs rs) b rows (
      (λ l h. first-1 b xs h),
      (
        first-2 b xs,
        (
          (λ l h. first-3 b 32 63 xs l (omega arith) (omega arith) (omega arith) (λ c a d. scalar-low c (omega arith))),
          (
            (λ l h. first-3 b 0 63 xs (omega arith) (omega arith) (omega arith) (omega arith) (λ c a d. scalar-low c (omega arith))),
            (
              (λ l h. first-3 b 0 31 xs (omega arith) (omega arith) (omega arith) (omega arith) (λ c a d. scalar-low c (omega arith))),
              (
                (λ l h. first-3 b 0 63 xs (omega arith) h (omega arith) (omega arith) (λ c a d. scalar-high c (omega arith) (omega arith))),
                (
                  (λ l h. first-4 b 16 63 xs l (omega arith) (omega arith) (omega arith) (omega arith)),
                  (
                    (λ l h. first-4 b 0 63 xs (omega arith) (omega arith) (omega arith) (omega arith) (omega arith)),
                    (
                      (λ l h. first-4 b 0 15 xs (omega arith) h (omega arith) (omega arith) (omega arith)),
                      tt,
                    ),
                  ),
                ),
              ),
            ),
          ),
        ),
      ),
    )

pub utf8-is : Utf8Is
unfolding utf8
utf8-is s = (points encode (λ xs. judge xs []) first (length s) s (omega arith), λ e. rw e.2 (encodings-right e.0 e.1).0)

pub utf8-count : (cs : List ℕ) → scalars cs ≡ true → characters_of (joined encode cs) ≡ Characters (length cs)
unfolding tx3g_text character_count utf8
utf8-count cs h = let r = encodings-right cs h in sym (right-counted (joined encode cs) (length cs) (rw (r.2, r.0)) (rw (r.2, r.1)))
