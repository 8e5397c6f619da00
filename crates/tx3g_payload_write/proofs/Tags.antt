-- A stretch, written character by character: its tags stand before the first that is left, and behind the last.
use Prim.Native.Nat.{ℕ, zero, suc, ◌+◌, ◌≤◌, ◌<◌}
use mathlib.Core.Path.{◌≡◌, refl, sym, ap, ap₂, ◌∙◌}
use mathlib.Core.Bool.{Bool, true, false}
use mathlib.Core.List.{List, [], ◌∷◌, ◌++◌, append_assoc, append-nil}
use native.Mathlib.Omega.{arith}
use lib.ListN.{length, drop, length-append, length-drop}
use lib.Seq.{drop-drop}
use Rattle.base.specs.Over.{wrote}
use Rattle.base.proofs.Over.{wrote-nil, in_two, length-wrote}
use Rattle.base.proofs.Choice.{either}
use Rattle.code_points.specs.CodePoints.{joined}
use Rattle.tx3g_payload.specs.Left.{is_break, left_of}
use Rattle.tx3g_payload.specs.Payload.{escape, bold, italic, underline, opening, closing, flag, tagged, in_face, wrapped}
use Rattle.tx3g_payload_write.specs.declared.Walk.{Walk}
use Rattle.tx3g_payload_write.specs.Terms.{points_by, Spelled, lefts_of, after_of, given, opens, closes, added_all, shown_all, Stepped, stretch_bytes, StretchMade}
use Rattle.tx3g_payload_write.proofs.Breaks.{points-end}

-- a face's tags around a text are those before it and those behind it
tags : (a b c : Bool) (s : List ℕ) → tagged a bold (tagged b italic (tagged c underline s))
    ≡ (given a (opening bold) ++ (given b (opening italic) ++ given c (opening underline))) ++ (s ++ (given c (closing underline) ++ (given b (closing italic) ++ given a (closing bold))))
tags true true true s = simp append_assoc
tags true true false s = simp append_assoc
tags true false true s = simp append_assoc
tags true false false s = refl
tags false true true s = simp append_assoc
tags false true false s = refl
tags false false true s = refl
tags false false false s = sym (append-nil s)

pub face-tags : (face : ℕ) (s : List ℕ) → in_face face s ≡ opens face ++ (s ++ closes face)
unfolding in_face opens closes
face-tags face s = tags (flag 1 face) (flag 2 face) (flag 4 face) s

-- what is to be written of characters that are left, by whether the tags are there
abbrev pub rest_of : Bool → ℕ → List ℕ → List ℕ
rest_of true face cs = joined escape cs ++ closes face
rest_of false face cs = wrapped face cs

pub joined-append : (e : ℕ → List ℕ) (a b : List ℕ) → joined e (a ++ b) ≡ joined e a ++ joined e b
unfolding joined
joined-append e [] b = refl
joined-append e (c ∷ a) b = rw (joined-append e a b) (sym (append_assoc (e c) (joined e a) (joined e b)))

-- some of them, and the others
rest-split : (shown : Bool) (face : ℕ) (xs ys : List ℕ) → rest_of shown face (xs ++ ys) ≡ added_all shown face xs ++ rest_of (shown_all shown xs) face ys
rest-split shown face [] ys = refl
rest-split true face (c ∷ cs) ys =
    ap (λ (x : List ℕ). x ++ closes face) (joined-append escape (c ∷ cs) ys) ∙ append_assoc (joined escape (c ∷ cs)) (joined escape ys) (closes face)
rest-split false face (c ∷ cs) ys =
    face-tags face (joined escape (c ∷ (cs ++ ys)))
    ∙ (ap (λ (x : List ℕ). opens face ++ (x ++ closes face)) (joined-append escape (c ∷ cs) ys)
    ∙ (ap (λ (x : List ℕ). opens face ++ x) (append_assoc (joined escape (c ∷ cs)) (joined escape ys) (closes face))
    ∙ sym (append_assoc (opens face) (joined escape (c ∷ cs)) (joined escape ys ++ closes face))))

rest_end : (shown : Bool) (face : ℕ) → rest_of shown face [] ≡ given shown (closes face)
unfolding joined
rest_end true face = refl
rest_end false face = refl

lefts-none : (after : Bool) (m : ℕ) → lefts_of after m [] ≡ []
unfolding lefts_of
lefts-none after zero = refl
lefts-none after (suc m) = refl

after_none : (after : Bool) (m : ℕ) → after_of after m [] ≡ after
unfolding after_of
after_none after zero = refl
after_none after (suc m) = refl

lefts-split : (after : Bool) (n d m : ℕ) (cs : List ℕ) → m ≡ n + d → lefts_of after m cs ≡ lefts_of after n cs ++ lefts_of (after_of after n cs) d (drop n cs)
unfolding lefts_of after_of
lefts-split after zero d m cs e = let z : m ≡ d = omega arith in rw z
lefts-split after (suc n) d zero cs e = absurd (omega arith)
lefts-split after (suc n) d (suc m) [] e = sym (lefts-none after d)
lefts-split after (suc n) d (suc m) (c ∷ cs) e =
    ap (λ (x : List ℕ). left_of after c cs ++ x) (lefts-split (is_break c) n d m cs (omega arith)) ∙ sym (append_assoc (left_of after c cs) (lefts_of (is_break c) n cs) (lefts_of (after_of (is_break c) n cs) d (drop n cs)))

after-split : (after : Bool) (n d m : ℕ) (cs : List ℕ) → m ≡ n + d → after_of after m cs ≡ after_of (after_of after n cs) d (drop n cs)
unfolding after_of
after-split after zero d m cs e = let z : m ≡ d = omega arith in rw z
after-split after (suc n) d zero cs e = absurd (omega arith)
after-split after (suc n) d (suc m) [] e = sym (after_none after d)
after-split after (suc n) d (suc m) (c ∷ cs) e = after-split (is_break c) n d m cs (omega arith)

-- how far a stretch is written
pub record Going (s : List ℕ) (u : Bool) (face : ℕ) (w₀ : Walk) (old out : List ℕ) (w : Walk) : Type 0 where
  pub so_far : List ℕ
  pub stands : out ≡ wrote old w₀.bytes so_far
  pub counts : w.bytes ≡ w₀.bytes + length so_far
  pub most : w.bytes ≤ 4112
  pub is : so_far ++ rest_of w.shown face (lefts_of w.after w.left (points_by u (drop w.at s))) ≡ stretch_bytes s u w₀.left face w₀.at w₀.after
  pub here : w.at ≤ length s
  pub spelled : Spelled u (drop w.at s)
  pub many : w.left ≤ length (points_by u (drop w.at s))
  pub ahead : drop w.left (points_by u (drop w.at s)) ≡ drop w₀.left (points_by u (drop w₀.at s))
  pub after_is : after_of w.after w.left (points_by u (drop w.at s)) ≡ after_of w₀.after w₀.left (points_by u (drop w₀.at s))

-- where characters are left to be written, one stands here
pub one-stands : (u : Bool) (s : List ℕ) (at left : ℕ) → 0 < left → left ≤ length (points_by u (drop at s)) → at < length s
one-stands u s at left h l =
    either (suc at) (length s) (λ a. omega arith)
    (λ a. let z = ap length (points-end u s at (omega arith)) in absurd (omega (arith, h, l, z)))

module _ (s : List ℕ) (u : Bool) (face : ℕ) (w₀ : Walk) (old : List ℕ) where
  pub going_on : w₀.shown ≡ false → w₀.at ≤ length s → Spelled u (drop w₀.at s) → w₀.left ≤ length (points_by u (drop w₀.at s)) → w₀.bytes ≤ 4095 → Going s u face w₀ old old w₀
  unfolding stretch_bytes
  going_on f a w m b =
      record {
        so_far = [];
        stands = wrote-nil old w₀.bytes;
        counts = omega arith;
        most = omega arith;
        is = ap (λ (x : Bool). rest_of x face (lefts_of w₀.after w₀.left (points_by u (drop w₀.at s)))) f;
        here = a;
        spelled = w;
        many = m;
        ahead = refl;
        after_is = refl;
      }

  -- a turn: some characters, and what is written of them
  pub turned : length old ≡ 4128 → (out out₂ : List ℕ) (w r : Walk) → Going s u face w₀ old out w → w.bytes ≤ 4095 → Stepped s u face w out out₂ r → Going s u face w₀ old out₂ r
  turned lent out out₂ w r g b t =
      let cs : List ℕ = points_by u (drop w.at s) in
      let some : List ℕ = lefts_of w.after t.number cs in
      let rest : List ℕ = lefts_of r.after r.left (points_by u (drop r.at s)) in
      let added : List ℕ = added_all w.shown face some in
      let lefts : lefts_of w.after w.left cs ≡ some ++ rest =
      lefts-split w.after t.number r.left w.left cs t.left_is
      ∙ ap₂ (λ (x : Bool) (y : List ℕ). some ++ lefts_of x r.left y) (sym t.after_is) (sym t.ahead) in
      let z = length-append g.so_far added in
      let d = length-drop t.number cs in
      record {
        so_far = g.so_far ++ added;
        stands = in_two old out out₂ g.so_far added w₀.bytes w.bytes g.stands t.stands g.counts (omega (arith, lent, b));
        counts = omega (arith, t.bytes_are, g.counts, z);
        most = omega (arith, t.most, b);
        is = append_assoc g.so_far added (rest_of r.shown face rest)
            ∙ (ap (λ (x : List ℕ). g.so_far ++ x) (sym (ap (rest_of w.shown face) lefts ∙ (rest-split w.shown face some rest ∙ ap (λ (x : Bool). added ++ rest_of x face rest) (sym t.shown_is)))) ∙ g.is);
        here = t.here;
        spelled = t.spells;
        many = omega (arith, g.many, t.left_is, t.many, ap length t.ahead, d);
        ahead = ap (drop r.left) t.ahead ∙ (drop-drop r.left t.number cs ∙ (ap (λ (k : ℕ). drop k cs) (sym t.left_is) ∙ g.ahead));
        after_is = ap₂ (λ (x : Bool) (y : List ℕ). after_of x r.left y) t.after_is t.ahead
            ∙ (sym (after-split w.after t.number r.left w.left cs t.left_is) ∙ g.after_is);
      }

  kept-so : (out so : List ℕ) → length old ≡ 4128 → out ≡ wrote old w₀.bytes so → w₀.bytes + length so ≤ 4128 → length out ≡ length old
  kept-so out so lent e l = ap length e ∙ length-wrote old w₀.bytes so (omega (arith, lent, l))

  -- the buffer keeps its length
  pub still : length old ≡ 4128 → (out : List ℕ) (w : Walk) → Going s u face w₀ old out w → length out ≡ length old
  still lent out w g = kept-so out g.so_far lent g.stands (omega (arith, g.counts, g.most))

  -- too many bytes
  pub stopped : length old ≡ 4128 → (out : List ℕ) (w : Walk) → Going s u face w₀ old out w → 4095 < w.bytes
      → StretchMade s u w₀.left face w₀.at w₀.after w₀.bytes old out (record { at = w.at; after = w.after; bytes = w.bytes })
  stopped lent out w g p =
      let z = length-append g.so_far (rest_of w.shown face (lefts_of w.after w.left (points_by u (drop w.at s)))) in
      let y = ap length g.is in
      record {
        kept = still lent out w g;
        most = omega (arith, g.most);
        fits = λ q. absurd (omega (arith, p, q));
        past = λ q. omega (arith, p, g.counts, z, y);
        here = λ q. absurd (omega (arith, p, q));
        rest = λ q. absurd (omega (arith, p, q));
        ahead = λ q. absurd (omega (arith, p, q));
        after_is = λ q. absurd (omega (arith, p, q));
      }

  -- the end, with the end tags
  pub ended : length old ≡ 4128 → (out out₂ : List ℕ) (w : Walk) (end : ℕ) → Going s u face w₀ old out w → w.left ≤ 0
      → (end ≡ w.bytes + length (given w.shown (closes face))) × (end ≤ w.bytes + 12) × (out₂ ≡ wrote out w.bytes (given w.shown (closes face)))
      → StretchMade s u w₀.left face w₀.at w₀.after w₀.bytes old out₂ (record { at = w.at; after = w.after; bytes = end })
  unfolding lefts_of after_of
  ended lent out out₂ w end g p e =
      let f : w.left ≡ 0 = omega arith in
      let last : List ℕ = given w.shown (closes face) in
      let whole : g.so_far ++ last ≡ stretch_bytes s u w₀.left face w₀.at w₀.after =
      ap (λ (x : List ℕ). g.so_far ++ x) (sym (ap (λ (k : ℕ). rest_of w.shown face (lefts_of w.after k (points_by u (drop w.at s)))) f ∙ rest_end w.shown face)) ∙ g.is in
      let a : out₂ ≡ wrote old w₀.bytes (g.so_far ++ last) = in_two old out out₂ g.so_far last w₀.bytes w.bytes g.stands e.2 g.counts (omega (arith, lent, g.most)) in
      let z = length-append g.so_far last in
      let y = ap length whole in
      record {
        kept = kept-so out₂ (g.so_far ++ last) lent a (omega (arith, g.counts, g.most, z, e.0, e.1));
        most = omega (arith, g.most, e.1);
        fits = λ q. (omega (arith, e.0, g.counts, z, y), a ∙ ap (wrote old w₀.bytes) whole);
        past = λ q. omega (arith, q, e.0, g.counts, z, y);
        here = λ q. g.here;
        rest = λ q. g.spelled;
        ahead = λ q. ap (λ (k : ℕ). drop k (points_by u (drop w.at s))) (sym f) ∙ g.ahead;
        after_is = λ q. ap (λ (k : ℕ). after_of w.after k (points_by u (drop w.at s))) (sym f) ∙ g.after_is;
      }
