-- Bytes that stand in a payload as they are, and a step over them or over one character.
use Prim.Native.Nat.{ℕ, zero, suc, ◌+◌, ◌-◌, ◌≤◌, ◌<◌}
use mathlib.Core.Path.{◌≡◌, refl, sym, ap, ap₂, ◌∙◌, subst}
use mathlib.Core.Logic.{◌⊎◌, inl, inr}
use mathlib.Core.Bool.{Bool, true, false, not}
use mathlib.Core.List.{List, [], ◌∷◌, ◌++◌, append-nil}
use native.Mathlib.Omega.{arith}
use native.Mathlib.Nat.{add-zero}
use lib.Bits.{bit_or}
use lib.Dec.{eqb, leb, ltb}
use lib.ListN.{length, take, drop, get_or, length-drop, length-append, take-append-drop}
use lib.Seq.{drop-drop, get_or-drop, drop_at, length-take-le}
use borrow.Author.Tests.{leb-true, eqb-false, not-true, eq-eqb, lt-ltb, ne_eqb}
use Rattle.base.specs.Choice.{both, within}
use mir.Val.{bool_byte}
use Rattle.std.proofs.lemmas.Bool.Decides.{nat_tests}
use Rattle.base.specs.Over.{wrote}
use Rattle.base.specs.Iter.{iter}
use Rattle.base.proofs.Choice.{both_left, both_right, either}
use Rattle.base.proofs.Over.{in_two, length-wrote}
use Rattle.utf8.proofs.Ranges.{below}
use Rattle.ascii.specs.Ascii.{all}
use Rattle.ascii.proofs.Blocks.{or-none}
use Rattle.characters.specs.Characters.{is_tail}
use Rattle.code_points.specs.CodePoints.{scalar, scalars, encode, joined}
use Rattle.tx3g_payload.specs.Points.{point, points8}
use Rattle.tx3g_payload.specs.Left.{is_break, left_of}
use Rattle.tx3g_payload.specs.Payload.{escape}
use Rattle.tx3g_payload_write.specs.Left.{Left, Gone, Stays}
use Rattle.tx3g_payload_write.specs.declared.Walk.{Walk}
use Rattle.tx3g_payload_write.specs.Terms.{points_by, Spelled, CharacterAt, lefts_of, after_of, left_items, given, opens, added_by, shown_by, plain, PlainAhead, added_all, shown_all, Stepped}
use Rattle.tx3g_payload_write.proofs.Breaks.{stays}
use Rattle.tx3g_payload_write.proofs.Characters.{form-1}
use Rattle.boxes.specs.Boxes.{part}
use Rattle.tx3g_payload_write.proofs.Stores.{escape-none}

-- ---- one byte

record PlainByte (b : ℕ) : Type 0 where
  low : 0x20 ≤ b
  high : b ≤ 0x7F
  no-amp : ¬ (b ≡ 0x26)
  no_less : ¬ (b ≡ 0x3C)
  no-greater : ¬ (b ≡ 0x3E)

plain_byte : (b : ℕ) → plain b ≡ true → PlainByte b
unfolding plain within
plain_byte b h =
    let x₃ : Bool = not (eqb b 0x3E) in
    let x₂ : Bool = not (eqb b 0x3C) in
    let x₁ : Bool = not (eqb b 0x26) in
    let x₀ : Bool = both (leb 0x20 b) (leb b 0x7F) in
    let h₂ = both_left (both (both x₀ x₁) x₂) x₃ h in
    let h₁ = both_left (both x₀ x₁) x₂ h₂ in
    let h₀ = both_left x₀ x₁ h₁ in
    record {
      low = leb-true 0x20 b (both_left (leb 0x20 b) (leb b 0x7F) h₀);
      high = leb-true b 0x7F (both_right (leb 0x20 b) (leb b 0x7F) h₀);
      no-amp = eqb-false b 0x26 (not-true (eqb b 0x26) (both_right x₀ x₁ h₁));
      no_less = eqb-false b 0x3C (not-true (eqb b 0x3C) (both_right (both x₀ x₁) x₂ h₂));
      no-greater = eqb-false b 0x3E (not-true (eqb b 0x3E) (both_right (both (both x₀ x₁) x₂) x₃ h));
    }

plain-break : (b : ℕ) → plain b ≡ true → false ≡ is_break b
unfolding is_break
plain-break b h = let p = plain_byte b h in let l = p.low in sym (rw (ne_eqb b 0x0D (λ z. omega arith), ne_eqb b 0x0A (λ z. omega arith)))

plain-escape : (b : ℕ) → plain b ≡ true → escape b ≡ b ∷ []
plain-escape b h = let p = plain_byte b h in escape-none b p.no-amp p.no_less p.no-greater ∙ form-1 b p.high

plain-point : (b : ℕ) (s : List ℕ) → plain b ≡ true → points8 (b ∷ s) ≡ b ∷ points8 s
unfolding points8 point is_tail
plain-point b s h = let p = plain_byte b h in let l = p.high in rw (below 0x80 0xBF b (omega arith), lt-ltb b 0x80 (omega arith))

-- ---- several

abbrev AllPlain : List ℕ → Type 0
AllPlain [] = Unit {0}
AllPlain (b ∷ s) = (plain b ≡ true) × AllPlain s

all_plain : (n : ℕ) (t : List ℕ) → n ≤ length t → ((k : ℕ) → k < n → plain (get_or t k 0) ≡ true) → AllPlain (take n t)
all_plain zero t l h = tt
all_plain (suc n) [] l h = tt
all_plain (suc n) (b ∷ t) l h = (h 0 (omega arith), all_plain n t (omega arith) (λ k m. h (suc k) (omega arith)))

plain-lefts : (xs cs : List ℕ) (after : Bool) → AllPlain xs → lefts_of after (length xs) (xs ++ cs) ≡ xs
unfolding lefts_of
plain-lefts [] cs after h = refl
plain-lefts (b ∷ xs) cs after h = ap₂ (λ (x y : List ℕ). x ++ y) (sym (stays after b (xs ++ cs) (plain-break b h.0))) (plain-lefts xs cs (is_break b) h.1)

plain-after : (xs cs : List ℕ) (after : Bool) → AllPlain xs → 0 < length xs → false ≡ after_of after (length xs) (xs ++ cs)
unfolding after_of
plain-after [] cs after h l = absurd (omega arith)
plain-after (b ∷ []) cs after h l = plain-break b h.0
plain-after (b ∷ d ∷ xs) cs after h l = plain-after (d ∷ xs) cs (is_break b) h.1 (omega arith)

plain-joined : (xs : List ℕ) → AllPlain xs → joined escape xs ≡ xs
unfolding joined
plain-joined [] h = refl
plain-joined (b ∷ xs) h = ap₂ (λ (x y : List ℕ). x ++ y) (plain-escape b h.0) (plain-joined xs h.1)

plain-points : (xs r : List ℕ) → AllPlain xs → points8 (xs ++ r) ≡ xs ++ points8 r
plain-points [] r h = refl
plain-points (b ∷ xs) r h = plain-point b (xs ++ r) h.0 ∙ ap (λ (y : List ℕ). b ∷ y) (plain-points xs r h.1)

same-tail : (b : ℕ) (x y : List ℕ) → b ∷ x ≡ b ∷ y → x ≡ y
same-tail b x y e = cc

plain-spelled : (xs r : List ℕ) → AllPlain xs → Spelled false (xs ++ r) → Spelled false r
unfolding scalars joined
plain-spelled [] r h w = w
plain-spelled (b ∷ xs) r h w =
    let e = plain-point b (xs ++ r) h.0 in
    let p = plain_byte b h.0 in
    let s : scalars (b ∷ points8 (xs ++ r)) ≡ true = sym (ap scalars e) ∙ w.right in
    let j : joined encode (b ∷ points8 (xs ++ r)) ≡ b ∷ (xs ++ r) = sym (ap (joined encode) e) ∙ w.bytes_are in
    let k : b ∷ joined encode (points8 (xs ++ r)) ≡ b ∷ (xs ++ r) = ap (λ (x : List ℕ). x ++ joined encode (points8 (xs ++ r))) (sym (form-1 b p.high)) ∙ j in
    plain-spelled xs r h.1 (record { right = both_right (scalar b) (scalars (points8 (xs ++ r))) s; bytes_are = same-tail b _ _ k })

-- ---- a step over plain bytes

added-plain : (shown : Bool) (face : ℕ) (xs : List ℕ) → AllPlain xs → 0 < length xs → added_all shown face xs ≡ given (not shown) (opens face) ++ xs
added-plain shown face [] h l = absurd (omega arith)
added-plain shown face (b ∷ xs) h l = ap (λ (x : List ℕ). given (not shown) (opens face) ++ x) (plain-joined (b ∷ xs) h)

shown-plain : (shown : Bool) (xs : List ℕ) → 0 < length xs → true ≡ shown_all shown xs
shown-plain shown [] l = absurd (omega arith)
shown-plain shown (b ∷ xs) l = refl

-- a part of the text, by its length
part-take : (s : List ℕ) (at n : ℕ) → part s at (at + n) ≡ take n (drop at s)
unfolding part
part-take s at n = let z : at + n - at ≡ n = omega arith in rw z

module _ (s : List ℕ) (face : ℕ) (w : Walk) (old mid new : List ℕ) (n begun : ℕ) where
  pub stepped-plain : 0 < n → PlainAhead s false w.at w.left n → Spelled false (drop w.at s) → w.bytes ≤ 4095 → length old ≡ 4128
      → (begun ≡ w.bytes + length (given (not w.shown) (opens face))) × (begun ≤ w.bytes + 9) × (mid ≡ wrote old w.bytes (given (not w.shown) (opens face)))
      → n ≤ 8 → new ≡ wrote mid begun (part s w.at (w.at + n))
      → Stepped s false face w old new (record { at = w.at + n; left = w.left - n; after = false; bytes = begun + n; shown = true })
  stepped-plain some p spell b lent q eight e =
      let t : List ℕ = drop w.at s in
      let xs : List ℕ = take n t in
      let r : List ℕ = drop (w.at + n) s in
      let inside = p.inside in
      let lt : n ≤ length t = rw (length-drop w.at s) (omega arith) in
      let lx : length xs ≡ n = length-take-le n t lt in
      let all = all_plain n t lt (λ k l. subst (λ (x : ℕ). plain x ≡ true) (sym (get_or-drop w.at s k 0)) (p.plain_so k l)) in
      let split : t ≡ xs ++ r = sym (take-append-drop n t) ∙ ap (λ (x : List ℕ). xs ++ x) (drop-drop n w.at s) in
      let pts : points8 t ≡ xs ++ points8 r = ap points8 split ∙ plain-points xs r all in
      let lefts : lefts_of w.after n (points8 t) ≡ xs = ap₂ (λ (k : ℕ) (y : List ℕ). lefts_of w.after k y) (sym lx) pts ∙ plain-lefts xs (points8 r) w.after all in
      let tags : List ℕ = given (not w.shown) (opens face) in
      let added : added_all w.shown face (lefts_of w.after n (points8 t)) ≡ tags ++ xs = ap (added_all w.shown face) lefts ∙ added-plain w.shown face xs all (omega (arith, some, lx)) in
      let z = length-append tags xs in
      record {
        number = n;
        some = some;
        left_is = omega (arith, p.few);
        here = inside;
        spells = plain-spelled xs r all (subst (Spelled false) split spell);
        ahead = sym (ap (drop n) pts ∙ drop_at xs (points8 r) n lx);
        many = omega (arith, ap length pts, length-append xs (points8 r), lx);
        after_is = plain-after xs (points8 r) w.after all (omega (arith, some, lx)) ∙ ap₂ (λ (k : ℕ) (y : List ℕ). after_of w.after k y) lx (sym pts);
        shown_is = shown-plain w.shown xs (omega (arith, some, lx)) ∙ ap (shown_all w.shown) (sym lefts);
        bytes_are = omega (arith, q.0, ap length added, z, lx);
        most = omega (arith, q.1, eight);
        stands = in_two old mid new tags xs w.bytes begun q.2 (e ∙ ap (wrote mid begun) (part-take s w.at n)) q.0 (omega (arith, q.1, b, lent)) ∙ ap (wrote old w.bytes) (sym added);
      }

-- ---- a step over one character

added-one : (shown : Bool) (face : ℕ) (l : Left) → added_all shown face (left_items l ++ []) ≡ added_by shown face l
unfolding joined
added-one shown face Gone = refl
added-one shown face (Stays c) = ap (λ (x : List ℕ). given (not shown) (opens face) ++ x) (append-nil (escape c))

shown-one : (shown : Bool) (l : Left) → shown_all shown (left_items l ++ []) ≡ shown_by shown l
shown-one shown Gone = refl
shown-one shown (Stays c) = refl

module _ (s : List ℕ) (u : Bool) (face : ℕ) (w : Walk) (old new : List ℕ) (c n : ℕ) (l : Left) (bytes : ℕ) (shown after : Bool) where
  pub stepped-one : 0 < w.left → CharacterAt u s w.at c n → left_items l ≡ left_of w.after c (points_by u (drop n s)) → after ≡ is_break c
      → (bytes ≡ w.bytes + length (added_by w.shown face l)) × (bytes ≤ w.bytes + 14) × (shown ≡ shown_by w.shown l) × (new ≡ wrote old w.bytes (added_by w.shown face l))
      → Stepped s u face w old new (record { at = n; left = w.left - 1; after = after; bytes = bytes; shown = shown })
  unfolding lefts_of after_of
  stepped-one some k h a q =
      let cs : List ℕ = points_by u (drop n s) in
      let lefts : lefts_of w.after 1 (points_by u (drop w.at s)) ≡ left_items l ++ [] = ap (lefts_of w.after 1) k.is ∙ ap (λ (x : List ℕ). x ++ []) (sym h) in
      let added : added_all w.shown face (lefts_of w.after 1 (points_by u (drop w.at s))) ≡ added_by w.shown face l = ap (added_all w.shown face) lefts ∙ added-one w.shown face l in
      record {
        number = 1;
        some = omega arith;
        left_is = omega arith;
        here = k.ends;
        spells = k.rest;
        ahead = sym (ap (drop 1) k.is);
        many = omega (arith, ap length k.is);
        after_is = a ∙ sym (ap (after_of w.after 1) k.is);
        shown_is = q.2 ∙ sym (ap (shown_all w.shown) lefts ∙ shown-one w.shown l);
        bytes_are = omega (arith, q.0, ap length added);
        most = omega (arith, q.1);
        stands = q.3 ∙ ap (wrote old w.bytes) (sym added);
      }

-- ---- the test of a byte

-- one test as a byte
pub byte-is : (t : Bool) → eqb (bool_byte t) 0 ≡ not t
byte-is true = refl
byte-is false = refl

-- a byte below a space, and one that is not
pub outer-low : (b : ℕ) (t : Bool) → t ≡ ltb b 0x20 → b < 0x20 → not t ≡ within 0x20 0x7F b
unfolding within
outer-low b t e h = rw e (grind (arith, nat_tests))

pub outer-high : (b : ℕ) (t : Bool) → t ≡ ltb 0x7F b → 0x20 ≤ b → not t ≡ within 0x20 0x7F b
unfolding within
outer-high b t e h = rw e (grind (arith, nat_tests))

-- the four tests, joined
pub mark-is : (b x y z w : ℕ) → eqb x 0 ≡ within 0x20 0x7F b → eqb y 0 ≡ not (eqb b 0x26) → eqb z 0 ≡ not (eqb b 0x3C) → eqb w 0 ≡ not (eqb b 0x3E)
    → eqb (bit_or (bit_or (bit_or x y) z) w) 0 ≡ plain b
unfolding plain
mark-is b x y z w ex ey ez ew = simp (or-none, ex, ey, ez, ew)

-- one byte more is plain
pub plain-next : (s : List ℕ) (i k x y : ℕ) → eqb x 0 ≡ all plain s i k → eqb y 0 ≡ plain (get_or s (i + k) 0) → eqb (bit_or x y) 0 ≡ all plain s i (suc k)
unfolding all iter
plain-next s i k x y e f = or-none x y ∙ ap₂ both e f

-- each of them
pub all-at : (s : List ℕ) (i n k : ℕ) → all plain s i n ≡ true → k < n → plain (get_or s (i + k) 0) ≡ true
unfolding all iter
all-at s i zero k h l = absurd (omega arith)
all-at s i (suc n) k h l =
    either (suc k) n
    (λ m. all-at s i n k (both_left (all plain s i n) (plain (get_or s (i + n) 0)) h) m)
    (λ m. let z : n ≡ k = omega arith in subst (λ (x : ℕ). plain (get_or s (i + x) 0) ≡ true) z (both_right (all plain s i n) (plain (get_or s (i + n) 0)) h))

-- ---- what is known of the bytes ahead

pub ahead_none : (s : List ℕ) (u : Bool) (at left : ℕ) → at < length s → PlainAhead s u at left 0
ahead_none s u at left h = record { few = omega arith; inside = omega arith; bytes_so = λ z. absurd (omega arith); plain_so = λ k l. absurd (omega arith) }

pub ahead-one : (s : List ℕ) (u : Bool) (at left m : ℕ) → at < length s → 0 < left → u ≡ false → eqb m 0 ≡ plain (get_or s at 0) → m ≡ 0 → PlainAhead s u at left 1
ahead-one s u at left m h l f e z =
    record {
      few = omega arith;
      inside = omega arith;
      bytes_so = λ y. (f, inr refl);
      plain_so = λ k y. let x : k ≡ 0 = omega arith in rw (x, add-zero at) (sym e ∙ eq-eqb m 0 z);
    }

pub ahead-eight : (s : List ℕ) (u : Bool) (at left : ℕ) → at + 8 ≤ length s → 8 ≤ left → u ≡ false → all plain s at 8 ≡ true → PlainAhead s u at left 8
ahead-eight s u at left h l f a = record { few = l; inside = h; bytes_so = λ y. (f, inl refl); plain_so = λ k y. all-at s at 8 k a y }

pub ahead-few : (s : List ℕ) (u : Bool) (at left n : ℕ) → PlainAhead s u at left n → 0 < n → n ≤ 8
ahead-few s u at left n p l = go (p.bytes_so l).1
  where
    go : (n ≡ 8) ⊎ (n ≡ 1) → n ≤ 8
    go (inl z) = omega arith
    go (inr z) = omega arith

pub ahead-bytes : (s : List ℕ) (u : Bool) (at left n : ℕ) → PlainAhead s u at left n → ¬ (n ≡ 0) → u ≡ false
ahead-bytes s u at left n p e = (p.bytes_so (omega arith)).0

pub ahead-by : (s : List ℕ) (u v : Bool) (at left n : ℕ) → u ≡ v → PlainAhead s u at left n → PlainAhead s v at left n
ahead-by s u v at left n e p = subst (λ (x : Bool). PlainAhead s x at left n) e p

pub stepped_by : (s : List ℕ) (u v : Bool) (face : ℕ) (w : Walk) (old new : List ℕ) (r : Walk) → u ≡ v → Stepped s v face w old new r → Stepped s u face w old new r
stepped_by s u v face w old new r e t = subst (λ (x : Bool). Stepped s x face w old new r) (sym e) t

-- behind the tags there is room for eight bytes
pub begin-room : (old mid tags : List ℕ) (at begun : ℕ) → (begun ≡ at + length tags) × (begun ≤ at + 9) × (mid ≡ wrote old at tags) → at ≤ 4095 → length old ≡ 4128 → begun + 8 ≤ length mid
begin-room old mid tags at begun q l e = omega (arith, q.0, q.1, l, e, ap length q.2, length-wrote old at tags (omega (arith, q.0, q.1, l, e)))
