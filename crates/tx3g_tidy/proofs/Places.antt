-- Places behind characters.
use Prim.Native.Nat.{ℕ, zero, suc, ◌+◌, ◌-◌, ◌≤◌, ◌<◌}
use mathlib.Core.Path.{◌≡◌, refl, sym, ap, ap₂, ◌∙◌, subst}
use mathlib.Core.Bool.{true, false}
use mathlib.Core.List.{List, [], ◌∷◌, ◌++◌}
use native.Mathlib.Omega.{arith}
use lib.ListN.{length, drop, length-append, length-drop}
use lib.Seq.{drop-drop}
use Rattle.base.proofs.Choice.{both_right, either}
use Rattle.code_points.specs.CodePoints.{scalar, scalars, encode, joined}
use Rattle.tx3g_payload.specs.Points.{points8}
use Rattle.tx3g_payload_write.specs.Terms.{Spelled, CharacterAt}
use Rattle.tx3g_payload_write.proofs.Characters.{read_by, spelled, form-1, form-2, form-3, form-4}
use Rattle.tx3g_tidy.specs.Tidy.{Ahead, Behind, Single}

-- ---- one by one

-- so many are passed, and so many are left
pub record Passing (s : List ℕ) (from count at left : ℕ) : Type 0 where
  pub few : left ≤ count
  pub so_far : Behind s from (count - left) at
  pub many : left ≤ length (points8 (drop at s))

module _ (s : List ℕ) (from count : ℕ) where
  pub passing : Ahead s from count → Passing s from count from count
  passing a =
      let z : count - count ≡ 0 = omega arith in
      record {
        few = omega arith;
        so_far = record { goes = omega arith; here = a.here; spells = a.spells; is = ap (λ (k : ℕ). drop k (points8 (drop from s))) (sym z) };
        many = a.many;
      }

  pub passed-one : (at left code next : ℕ) → Passing s from count at left → 0 < left → CharacterAt false s at code next → Passing s from count next (left - 1)
  passed-one at left code next p l c =
      let f = p.few in
      let b = p.so_far in
      let z : count - left + 1 ≡ count - (left - 1) = omega arith in
      record {
        few = omega arith;
        so_far = record {
          goes = omega (arith, b.goes, c.goes);
          here = c.ends;
          spells = c.rest;
          is = sym (ap (drop 1) c.is) ∙ (ap (drop 1) b.is ∙ (drop-drop 1 (count - left) (points8 (drop from s)) ∙ ap (λ (k : ℕ). drop k (points8 (drop from s))) z));
        };
        many = omega (arith, p.many, ap length c.is);
      }

  pub passed-all : (at left : ℕ) → Passing s from count at left → left ≤ 0 → Behind s from count at
  passed-all at left p l = let z : count - left ≡ count = omega arith in subst (λ (k : ℕ). Behind s from k at) z p.so_far

-- ---- where each is one byte

abbrev Low : List ℕ → Type 0
Low [] = Unit {0}
Low (c ∷ cs) = (c ≤ 0x7F) × Low cs

encode-long : (c : ℕ) → 0x7F < c → 1 < length (encode c)
encode-long c a =
    either c 0x7FF (λ b. omega (arith, ap length (form-2 c a b)))
    (λ b. either c 0xFFFF (λ d. omega (arith, ap length (form-3 c b d))) (λ d. omega (arith, ap length (form-4 c d))))

encode-some : (c : ℕ) → 0 < length (encode c)
encode-some c = either c 0x7F (λ a. omega (arith, ap length (form-1 c a))) (λ a. omega (arith, encode-long c a))

pub joined-long : (cs : List ℕ) → length cs ≤ length (joined encode cs)
unfolding joined
joined-long [] = omega arith
joined-long (c ∷ cs) = omega (arith, encode-some c, joined-long cs, length-append (encode c) (joined encode cs))

low_by : (cs : List ℕ) → length (joined encode cs) ≡ length cs → Low cs
unfolding joined
low_by [] e = tt
low_by (c ∷ cs) e =
    let z = length-append (encode c) (joined encode cs) in
    let j = joined-long cs in
    let s = encode-some c in
    (either c 0x7F (λ a. a) (λ a. absurd (omega (arith, e, z, j, encode-long c a))), low_by cs (omega (arith, e, z, j, s)))

low-joined : (cs : List ℕ) → Low cs → joined encode cs ≡ cs
unfolding joined
low-joined [] h = refl
low-joined (c ∷ cs) h = ap₂ (λ (x y : List ℕ). x ++ y) (form-1 c h.0) (low-joined cs h.1)

low-drop : (k : ℕ) (cs : List ℕ) → Low cs → Low (drop k cs)
low-drop zero cs h = h
low-drop (suc k) [] h = tt
low-drop (suc k) (c ∷ cs) h = low-drop k cs h.1

scalars-drop : (k : ℕ) (cs : List ℕ) → scalars cs ≡ true → scalars (drop k cs) ≡ true
unfolding scalars
scalars-drop zero cs h = h
scalars-drop (suc k) [] h = refl
scalars-drop (suc k) (c ∷ cs) h = scalars-drop k cs (both_right (scalar c) (scalars cs) h)

single-at : (s : List ℕ) (k : ℕ) → Single s → (points8 (drop k s) ≡ drop k s) × Spelled false (drop k s)
single-at s k w =
    let cs : List ℕ = points8 s in
    let e : joined encode cs ≡ s = w.spells.bytes_are in
    let low = low_by cs (ap length e ∙ sym w.many) in
    let same : s ≡ cs = sym e ∙ low-joined cs low in
    let right = scalars-drop k cs w.spells.right in
    let bytes : drop k s ≡ joined encode (drop k cs) = ap (λ (x : List ℕ). drop k x) same ∙ sym (low-joined (drop k cs) (low-drop k cs low)) in
    (ap points8 bytes ∙ (read_by false (drop k cs) right ∙ ap (λ (x : List ℕ). drop k x) (sym same)), subst (Spelled false) (sym bytes) (spelled false (drop k cs) right))

pub behind-single : (s : List ℕ) (from count : ℕ) → Ahead s from count → Single s → Behind s from count (from + count)
behind-single s from count a w =
    let f = single-at s from w in
    let g = single-at s (from + count) w in
    record {
      goes = omega arith;
      here = omega (arith, a.here, a.many, ap length f.0, length-drop from s);
      spells = g.1;
      is = g.0 ∙ (sym (drop-drop count from s) ∙ ap (λ (x : List ℕ). drop count x) (sym f.0));
    }
