-- The character at a place of a text, by the bytes there.
use Prim.Native.Nat.{ℕ, ◌+◌, ◌-◌, ◌*◌, ◌/◌, ◌%◌, ◌≤◌, ◌<◌}
use mathlib.Core.Path.{◌≡◌, refl, sym, ap, ◌∙◌, subst, subst⁻¹}
use mathlib.Core.Logic.{◌⊎◌, inl, inr}
use mathlib.Core.Bool.{Bool, true, false}
use mathlib.Core.List.{List, [], ◌∷◌, ◌++◌}
use native.Mathlib.Omega.{arith}
use native.Mathlib.Nat.{add-zero, div-add-mod'}
use lib.ListN.{length, drop, get_or, length-drop, length-append}
use lib.Seq.{drop-drop, drop_at, get_or-drop}
use borrow.Author.Tests.{le-leb, lt-leb}
use Rattle.base.proofs.Choice.{both_left, both_right, either}
use Rattle.code_points.specs.CodePoints.{scalar, scalars, encode, encode16, unit, joined}
use Rattle.code_points.proofs.CodePoints.{scalar_cases}
use Rattle.tx3g_payload.proofs.Points.{read_all, read-all16, most, two_digits, three-digits, four-digits}
use Rattle.tx3g_payload_write.specs.Terms.{points_by, encode_by, Spelled, CharacterAt}

-- the bytes of characters are read as these
pub read_by : (u : Bool) (cs : List ℕ) → scalars cs ≡ true → points_by u (joined (encode_by u) cs) ≡ cs
read_by true cs h = read-all16 cs h
read_by false cs h = (read_all cs h).0

pub spelled : (u : Bool) (cs : List ℕ) → scalars cs ≡ true → Spelled u (joined (encode_by u) cs)
spelled u cs h = record { right = ap scalars (read_by u cs h) ∙ h; bytes_are = ap (joined (encode_by u)) (read_by u cs h) }

-- the first of them
pub record First (u : Bool) (t : List ℕ) : Type 0 where
  pub code : ℕ
  pub rest : List ℕ
  pub bytes_are : t ≡ encode_by u code ++ rest
  pub right : scalar code ≡ true
  pub points-are : points_by u t ≡ code ∷ points_by u rest
  pub again : Spelled u rest

pub first_of : (u : Bool) (t : List ℕ) → 0 < length t → Spelled u t → First u t
unfolding joined scalars
first_of u t l w = go (points_by u t) refl
  where
    go : (cs : List ℕ) → points_by u t ≡ cs → First u t
    go [] e = let z : t ≡ [] = sym w.bytes_are ∙ ap (joined (encode_by u)) e in absurd (omega (arith, l, ap length z))
    go (c ∷ cs) e =
        let h : scalars (c ∷ cs) ≡ true = sym (ap scalars e) ∙ w.right in
        let r = both_right (scalar c) (scalars cs) h in
        record {
          code = c;
          rest = joined (encode_by u) cs;
          bytes_are = sym w.bytes_are ∙ ap (joined (encode_by u)) e;
          right = both_left (scalar c) (scalars cs) h;
          points-are = e ∙ ap (λ (x : List ℕ). c ∷ x) (sym (read_by u cs r));
          again = spelled u cs r;
        }

-- what stands at a place and behind it
module _ (s a r : List ℕ) (at : ℕ) (e : drop at s ≡ a ++ r) where
  behind : drop (at + length a) s ≡ r
  behind = sym (drop-drop (length a) at s) ∙ (ap (λ (x : List ℕ). drop (length a) x) e ∙ drop_at a r (length a) refl)

  byte-in : (i : ℕ) → get_or s (at + i) 0 ≡ get_or (a ++ r) i 0
  byte-in i = sym (get_or-drop at s i 0) ∙ ap (λ (x : List ℕ). get_or x i 0) e

  byte-here : get_or s at 0 ≡ get_or (a ++ r) 0 0
  byte-here = ap (λ (x : ℕ). get_or s x 0) (sym (add-zero at)) ∙ byte-in 0

-- a character of w bytes at a place that is not the end
made : (u : Bool) (s : List ℕ) (at : ℕ) → at < length s → (f : First u (drop at s)) (c n : ℕ) → c ≡ f.code → n ≡ at + length (encode_by u f.code) → 0 < length (encode_by u f.code) → CharacterAt u s at c n
made u s at l f c n p q h =
    let b = behind s (encode_by u f.code) f.rest at f.bytes_are in
    let d : drop n s ≡ f.rest = ap (λ (x : ℕ). drop x s) q ∙ b in
    record {
      is = f.points-are ∙ (ap (λ (x : ℕ). x ∷ points_by u f.rest) (sym p) ∙ ap (λ (x : List ℕ). c ∷ points_by u x) (sym d));
      rest = subst (Spelled u) (sym d) f.again;
      goes = omega (arith, q, h);
      ends = ends-in;
      most = omega (arith, p, most f.code f.right);
    }
  where
    ends-in : n ≤ length s
    ends-in = either n (length s) (λ a. a)
        (λ a. let z = ap length f.bytes_are in absurd (omega (arith, a, q, l, z, length-drop at s, length-append (encode_by u f.code) f.rest)))

-- a character's bytes, by its number
pub form-1 : (c : ℕ) → c ≤ 0x7F → encode c ≡ c ∷ []
unfolding encode
form-1 c a = rw (le-leb c 0x7F a)

pub form-2 : (c : ℕ) → 0x7F < c → c ≤ 0x7FF → encode c ≡ (0xC0 + c / 64) ∷ (0x80 + c % 64) ∷ []
unfolding encode
form-2 c a b = rw (lt-leb c 0x7F a, le-leb c 0x7FF b)

pub form-3 : (c : ℕ) → 0x7FF < c → c ≤ 0xFFFF → encode c ≡ (0xE0 + c / 4096) ∷ (0x80 + c / 64 % 64) ∷ (0x80 + c % 64) ∷ []
unfolding encode
form-3 c b d = rw (lt-leb c 0x7F (omega arith), lt-leb c 0x7FF b, le-leb c 0xFFFF d)

pub form-4 : (c : ℕ) → 0xFFFF < c → encode c ≡ (0xF0 + c / 262144) ∷ (0x80 + c / 4096 % 64) ∷ (0x80 + c / 64 % 64) ∷ (0x80 + c % 64) ∷ []
unfolding encode
form-4 c d = rw (lt-leb c 0x7F (omega arith), lt-leb c 0x7FF (omega arith), lt-leb c 0xFFFF d)

-- UTF-8: its bytes, by how many there are
pub data Utf8At (s : List ℕ) (at : ℕ) : Type 0 where
  one : get_or s at 0 < 0x80 → CharacterAt false s at (get_or s at 0) (at + 1) → Utf8At s at
  two : (q r : ℕ) → q < 32 → r < 64 → get_or s at 0 ≡ 0xC0 + q → get_or s (at + 1) 0 ≡ 0x80 + r
      → CharacterAt false s at (q * 64 + r) (at + 2) → Utf8At s at
  three : (q r t : ℕ) → q < 16 → r < 64 → t < 64 → get_or s at 0 ≡ 0xE0 + q → get_or s (at + 1) 0 ≡ 0x80 + r → get_or s (at + 2) 0 ≡ 0x80 + t
      → CharacterAt false s at ((q * 64 + r) * 64 + t) (at + 3) → Utf8At s at
  four : (q r t u : ℕ) → q < 5 → r < 64 → t < 64 → u < 64 → get_or s at 0 ≡ 0xF0 + q → get_or s (at + 1) 0 ≡ 0x80 + r → get_or s (at + 2) 0 ≡ 0x80 + t → get_or s (at + 3) 0 ≡ 0x80 + u
      → CharacterAt false s at (((q * 64 + r) * 64 + t) * 64 + u) (at + 4) → Utf8At s at

module _ (s : List ℕ) (at : ℕ) (l : at < length s) (f : First false (drop at s)) where
  stands : (a : List ℕ) → encode f.code ≡ a → drop at s ≡ a ++ f.rest
  stands a e = f.bytes_are ∙ ap (λ (x : List ℕ). x ++ f.rest) e

  as-1 : f.code ≤ 0x7F → Utf8At s at
  as-1 a =
      let c = f.code in
      let e = form-1 c a in
      let z : get_or s at 0 ≡ c = byte-here s (c ∷ []) f.rest at (stands (c ∷ []) e) in
      one (omega arith) (made false s at l f (get_or s at 0) (at + 1) z (omega (arith, ap length e)) (omega (arith, ap length e)))

  as-2 : 0x7F < f.code → f.code ≤ 0x7FF → Utf8At s at
  as-2 a b =
      let c = f.code in
      let e = form-2 c a b in
      let bs : List ℕ = (0xC0 + c / 64) ∷ (0x80 + c % 64) ∷ [] in
      let d = stands bs e in
      two (c / 64) (c % 64) (omega arith) (omega arith) (byte-here s bs f.rest at d) (byte-in s bs f.rest at d 1)
      (made false s at l f (c / 64 * 64 + c % 64) (at + 2) (two_digits c) (omega (arith, ap length e)) (omega (arith, ap length e)))

  as-3 : 0x7FF < f.code → f.code ≤ 0xFFFF → Utf8At s at
  as-3 a b =
      let c = f.code in
      let e = form-3 c a b in
      let bs : List ℕ = (0xE0 + c / 4096) ∷ (0x80 + c / 64 % 64) ∷ (0x80 + c % 64) ∷ [] in
      let d = stands bs e in
      three (c / 4096) (c / 64 % 64) (c % 64) (omega arith) (omega arith) (omega arith)
      (byte-here s bs f.rest at d) (byte-in s bs f.rest at d 1) (byte-in s bs f.rest at d 2)
      (made false s at l f ((c / 4096 * 64 + c / 64 % 64) * 64 + c % 64) (at + 3) (three-digits c) (omega (arith, ap length e)) (omega (arith, ap length e)))

  as-4 : 0xFFFF < f.code → Utf8At s at
  as-4 a =
      let c = f.code in
      let e = form-4 c a in
      let m = most c f.right in
      let bs : List ℕ = (0xF0 + c / 262144) ∷ (0x80 + c / 4096 % 64) ∷ (0x80 + c / 64 % 64) ∷ (0x80 + c % 64) ∷ [] in
      let d = stands bs e in
      four (c / 262144) (c / 4096 % 64) (c / 64 % 64) (c % 64) (omega arith) (omega arith) (omega arith) (omega arith)
      (byte-here s bs f.rest at d) (byte-in s bs f.rest at d 1) (byte-in s bs f.rest at d 2) (byte-in s bs f.rest at d 3)
      (made false s at l f (((c / 262144 * 64 + c / 4096 % 64) * 64 + c / 64 % 64) * 64 + c % 64) (at + 4) (four-digits c) (omega (arith, ap length e)) (omega (arith, ap length e)))

some_left : (s : List ℕ) (at : ℕ) → at < length s → 0 < length (drop at s)
some_left s at l = rw (length-drop at s) (omega arith)

pub utf8-is-at : (s : List ℕ) (at : ℕ) → at < length s → Spelled false (drop at s) → Utf8At s at
utf8-is-at s at l w =
    let f = first_of false (drop at s) (some_left s at l) w in
    either f.code 0x7F (as-1 s at l f) (λ a. either f.code 0x7FF (as-2 s at l f a) (λ b. either f.code 0xFFFF (as-3 s at l f b) (as-4 s at l f)))

-- what the bytes tell, from the first on
pub of_one : (s : List ℕ) (at a : ℕ) → Utf8At s at → a ≡ get_or s at 0 → a < 0x80 → CharacterAt false s at a (at + 1)
of_one s at a (one h c) e l = rw e c
of_one s at a (two q r hq hr x y c) e l = absurd (omega arith)
of_one s at a (three q r t hq hr ht x y z c) e l = absurd (omega arith)
of_one s at a (four q r t u hq hr ht hu x y z w c) e l = absurd (omega arith)

pub from-two : (s : List ℕ) (at a : ℕ) → Utf8At s at → a ≡ get_or s at 0 → 0x80 ≤ a → (at + 1 < length s) × (0xC0 ≤ a) × (0x80 ≤ get_or s (at + 1) 0) × (get_or s (at + 1) 0 < 0xC0)
from-two s at a (one h c) e l = absurd (omega arith)
from-two s at a (two q r hq hr x y c) e l = let m = c.ends in (omega arith, omega arith, omega arith, omega arith)
from-two s at a (three q r t hq hr ht x y z c) e l = let m = c.ends in (omega arith, omega arith, omega arith, omega arith)
from-two s at a (four q r t u hq hr ht hu x y z w c) e l = let m = c.ends in (omega arith, omega arith, omega arith, omega arith)

pub of_two : (s : List ℕ) (at a b : ℕ) → Utf8At s at → a ≡ get_or s at 0 → b ≡ get_or s (at + 1) 0 → 0x80 ≤ a → a < 0xE0
    → CharacterAt false s at ((a - 0xC0) * 64 + (b - 0x80)) (at + 2)
of_two s at a b (one h c) e f l m = absurd (omega arith)
of_two s at a b (two q r hq hr x y c) e f l m = let v : (a - 0xC0) * 64 + (b - 0x80) ≡ q * 64 + r = omega arith in rw v c
of_two s at a b (three q r t hq hr ht x y z c) e f l m = absurd (omega arith)
of_two s at a b (four q r t u hq hr ht hu x y z w c) e f l m = absurd (omega arith)

pub from-three : (s : List ℕ) (at a : ℕ) → Utf8At s at → a ≡ get_or s at 0 → 0xE0 ≤ a → (at + 2 < length s) × (0x80 ≤ get_or s (at + 2) 0) × (get_or s (at + 2) 0 < 0xC0)
from-three s at a (one h c) e l = absurd (omega arith)
from-three s at a (two q r hq hr x y c) e l = absurd (omega arith)
from-three s at a (three q r t hq hr ht x y z c) e l = let m = c.ends in (omega arith, omega arith, omega arith)
from-three s at a (four q r t u hq hr ht hu x y z w c) e l = let m = c.ends in (omega arith, omega arith, omega arith)

pub of_three : (s : List ℕ) (at a b c : ℕ) → Utf8At s at → a ≡ get_or s at 0 → b ≡ get_or s (at + 1) 0 → c ≡ get_or s (at + 2) 0 → 0xE0 ≤ a → a < 0xF0
    → CharacterAt false s at (((a - 0xE0) * 64 + (b - 0x80)) * 64 + (c - 0x80)) (at + 3)
of_three s at a b c (one h i) e f g l m = absurd (omega arith)
of_three s at a b c (two q r hq hr x y i) e f g l m = absurd (omega arith)
of_three s at a b c (three q r t hq hr ht x y z i) e f g l m =
    let v : ((a - 0xE0) * 64 + (b - 0x80)) * 64 + (c - 0x80) ≡ (q * 64 + r) * 64 + t = omega arith in rw v i
of_three s at a b c (four q r t u hq hr ht hu x y z w i) e f g l m = absurd (omega arith)

pub from-four : (s : List ℕ) (at a : ℕ) → Utf8At s at → a ≡ get_or s at 0 → 0xF0 ≤ a → (at + 3 < length s) × (0x80 ≤ get_or s (at + 3) 0) × (get_or s (at + 3) 0 < 0xC0) × (a < 0xF5)
from-four s at a (one h c) e l = absurd (omega arith)
from-four s at a (two q r hq hr x y c) e l = absurd (omega arith)
from-four s at a (three q r t hq hr ht x y z c) e l = absurd (omega arith)
from-four s at a (four q r t u hq hr ht hu x y z w c) e l = let m = c.ends in (omega arith, omega arith, omega arith, omega arith)

pub of_four : (s : List ℕ) (at a b c d : ℕ) → Utf8At s at → a ≡ get_or s at 0 → b ≡ get_or s (at + 1) 0 → c ≡ get_or s (at + 2) 0 → d ≡ get_or s (at + 3) 0 → 0xF0 ≤ a
    → CharacterAt false s at ((((a - 0xF0) * 64 + (b - 0x80)) * 64 + (c - 0x80)) * 64 + (d - 0x80)) (at + 4)
of_four s at a b c d (one h i) e f g j l = absurd (omega arith)
of_four s at a b c d (two q r hq hr x y i) e f g j l = absurd (omega arith)
of_four s at a b c d (three q r t hq hr ht x y z i) e f g j l = absurd (omega arith)
of_four s at a b c d (four q r t u hq hr ht hu x y z w i) e f g j l =
    let v : (((a - 0xF0) * 64 + (b - 0x80)) * 64 + (c - 0x80)) * 64 + (d - 0x80) ≡ ((q * 64 + r) * 64 + t) * 64 + u = omega arith in rw v i

-- UTF-16: one unit, or a pair
pub data Utf16At (s : List ℕ) (at : ℕ) : Type 0 where
  alone : (h k : ℕ) → (h < 0xD8) ⊎ (0xDF < h) → k < 256 → get_or s at 0 ≡ h → get_or s (at + 1) 0 ≡ k → CharacterAt true s at (h * 256 + k) (at + 2) → Utf16At s at
  pair : (x y : ℕ) → x < 1024 → y < 1024 → get_or s at 0 ≡ 0xD8 + x / 256 → get_or s (at + 1) 0 ≡ x % 256 → get_or s (at + 2) 0 ≡ 0xDC + y / 256 → get_or s (at + 3) 0 ≡ y % 256
      → CharacterAt true s at (0x10000 + (x * 1024 + y)) (at + 4) → Utf16At s at

form-unit : (c : ℕ) → c ≤ 0xFFFF → encode16 c ≡ (c / 256) ∷ (c % 256) ∷ []
unfolding encode16 unit
form-unit c a = rw (le-leb c 0xFFFF a)

form-pair : (c : ℕ) → 0xFFFF < c
    → let x = 0xD800 + (c - 0x10000) / 1024 in let y = 0xDC00 + (c - 0x10000) % 1024 in encode16 c ≡ (x / 256) ∷ (x % 256) ∷ (y / 256) ∷ (y % 256) ∷ []
unfolding encode16 unit
form-pair c a = rw (lt-leb c 0xFFFF a)

module _ (s : List ℕ) (at : ℕ) (l : at < length s) (f : First true (drop at s)) where
  stands16 : (a : List ℕ) → encode16 f.code ≡ a → drop at s ≡ a ++ f.rest
  stands16 a e = f.bytes_are ∙ ap (λ (x : List ℕ). x ++ f.rest) e

  as-unit : f.code ≤ 0xFFFF → Utf16At s at
  as-unit a =
      let c = f.code in
      let e = form-unit c a in
      let bs : List ℕ = (c / 256) ∷ (c % 256) ∷ [] in
      let d = stands16 bs e in
      let sides : (c / 256 < 0xD8) ⊎ (0xDF < c / 256) = scalar_cases c f.right (λ m. inl (omega arith)) (λ m n. inr (omega arith)) in
      alone (c / 256) (c % 256) sides (omega arith) (byte-here s bs f.rest at d) (byte-in s bs f.rest at d 1)
      (made true s at l f (c / 256 * 256 + c % 256) (at + 2) (div-add-mod' c 256) (omega (arith, ap length e)) (omega (arith, ap length e)))

  as-pair : 0xFFFF < f.code → Utf16At s at
  as-pair a =
      let c = f.code in
      let x = (c - 0x10000) / 1024 in
      let y = (c - 0x10000) % 1024 in
      let e = form-pair c a in
      let m = most c f.right in
      let u = 0xD800 + x in
      let v = 0xDC00 + y in
      let bs : List ℕ = (u / 256) ∷ (u % 256) ∷ (v / 256) ∷ (v % 256) ∷ [] in
      let d = stands16 bs e in
      let n : 0x10000 + (x * 1024 + y) ≡ c = omega (arith, div-add-mod' (c - 0x10000) 1024) in
      pair x y (omega arith) (omega arith)
      (byte-here s bs f.rest at d ∙ omega (arith, div-add-mod' u 256, div-add-mod' x 256))
      (byte-in s bs f.rest at d 1 ∙ omega (arith, div-add-mod' u 256, div-add-mod' x 256))
      (byte-in s bs f.rest at d 2 ∙ omega (arith, div-add-mod' v 256, div-add-mod' y 256))
      (byte-in s bs f.rest at d 3 ∙ omega (arith, div-add-mod' v 256, div-add-mod' y 256))
      (made true s at l f (0x10000 + (x * 1024 + y)) (at + 4) n (omega (arith, ap length e)) (omega (arith, ap length e)))

pub utf16-is-at : (s : List ℕ) (at : ℕ) → at < length s → Spelled true (drop at s) → Utf16At s at
utf16-is-at s at l w = let f = first_of true (drop at s) (some_left s at l) w in either f.code 0xFFFF (as-unit s at l f) (as-pair s at l f)

pub unit-there : (s : List ℕ) (at : ℕ) → Utf16At s at → at + 1 < length s
unit-there s at (alone h k o m x y c) = let n = c.ends in omega arith
unit-there s at (pair x y hx hy a b d e c) = let n = c.ends in omega arith

pub of-unit : (s : List ℕ) (at h k : ℕ) → Utf16At s at → h ≡ get_or s at 0 → k ≡ get_or s (at + 1) 0 → (h < 0xD8) ⊎ (0xDB < h) → CharacterAt true s at (h * 256 + k) (at + 2)
of-unit s at h k (alone h' k' o m x y c) e f w = rw (e ∙ x, f ∙ y) c
of-unit s at h k (pair x y hx hy a b d g c) e f (inl w) = absurd (omega arith)
of-unit s at h k (pair x y hx hy a b d g c) e f (inr w) = absurd (omega arith)

pub from-pair : (s : List ℕ) (at h : ℕ) → Utf16At s at → h ≡ get_or s at 0 → 0xD8 ≤ h → h ≤ 0xDB
    → (at + 3 < length s) × (0xDC ≤ get_or s (at + 2) 0) × (get_or s (at + 2) 0 < 0xE0) × (get_or s (at + 1) 0 < 256) × (get_or s (at + 3) 0 < 256)
from-pair s at h (alone h' k' (inl o) m x y c) e l n = absurd (omega arith)
from-pair s at h (alone h' k' (inr o) m x y c) e l n = absurd (omega arith)
from-pair s at h (pair x y hx hy a b d g c) e l n = let o = c.ends in (omega arith, omega arith, omega arith, omega arith, omega arith)

pub of_pair : (s : List ℕ) (at h k i j : ℕ) → Utf16At s at → h ≡ get_or s at 0 → k ≡ get_or s (at + 1) 0 → i ≡ get_or s (at + 2) 0 → j ≡ get_or s (at + 3) 0 → 0xD8 ≤ h → h ≤ 0xDB
    → CharacterAt true s at (0x10000 + ((h - 0xD8) * 256 + k) * 1024 + ((i - 0xDC) * 256 + j)) (at + 4)
of_pair s at h k i j (alone h' k' (inl o) m x y c) e f p q l n = absurd (omega arith)
of_pair s at h k i j (alone h' k' (inr o) m x y c) e f p q l n = absurd (omega arith)
of_pair s at h k i j (pair x y hx hy a b d g c) e f p q l n =
    let v : (h - 0xD8) * 256 + k ≡ x = omega (arith, div-add-mod' x 256) in
    let w : (i - 0xDC) * 256 + j ≡ y = omega (arith, div-add-mod' y 256) in
    let z : 0x10000 + ((h - 0xD8) * 256 + k) * 1024 + ((i - 0xDC) * 256 + j) ≡ 0x10000 + (x * 1024 + y) = omega arith in
    rw z c

-- by the encoding that a test tells
pub spelled_by : (u v : Bool) (s : List ℕ) → u ≡ v → Spelled u s → Spelled v s
spelled_by u v s e w = subst (λ (x : Bool). Spelled x s) e w

pub character-by : (u v : Bool) (s : List ℕ) (at c n : ℕ) → u ≡ v → CharacterAt v s at c n → CharacterAt u s at c n
character-by u v s at c n e w = subst⁻¹ (λ (x : Bool). CharacterAt x s at c n) e w
