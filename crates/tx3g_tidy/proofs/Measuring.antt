-- The length of the payload of a tidy text: that of the tags, and that of the text.
use Prim.Native.Nat.{ℕ, zero, suc, ◌+◌, ◌-◌, ◌*◌, ◌/◌, ◌%◌, ◌≤◌, ◌<◌}
use mathlib.Core.Path.{◌≡◌, refl, ap, ◌∙◌}
use mathlib.Core.Bool.{Bool, true, false}
use mathlib.Core.List.{List, ◌++◌}
use native.Mathlib.Omega.{arith}
use lib.Dec.{eqb}
use lib.ListN.{length, take, drop, length-append}
use lib.Seq.{take-add, take_all}
use Rattle.base.specs.Choice.{pick}
use Rattle.code_points.specs.CodePoints.{joined}
use Rattle.tx3g_style.specs.Style.{styles_of}
use Rattle.tx3g_payload.specs.Left.{text_left}
use Rattle.tx3g_payload.specs.Payload.{escape, bold, italic, underline, opening, closing, flag}
use Rattle.tx3g_payload_write.specs.declared.Stretch.{Stretch}
use Rattle.tx3g_payload_write.specs.Sample.{characters_at, payload_in}
use Rattle.tx3g_payload_write.specs.Terms.{given, opens, closes, WalkAt, StretchIs}
use Rattle.tx3g_payload_write.proofs.Tags.{joined-append}
use Rattle.tx3g_tidy.proofs.Reaching.{onward, Reached, begins, all-onward, none-onward, moves-on, first-onward}

-- by the flags
tags-length : (a b c : Bool) → length (given a (opening bold) ++ (given b (opening italic) ++ given c (opening underline))) + length (given c (closing underline) ++ (given b (closing italic) ++ given a (closing bold)))
    ≡ (pick a 1 0 + pick b 1 0 + pick c 1 0) * 7
tags-length true true true = refl
tags-length true true false = refl
tags-length true false true = refl
tags-length true false false = refl
tags-length false true true = refl
tags-length false true false = refl
tags-length false false true = refl
tags-length false false false = refl

bit_is : (t : ℕ) → t < 2 → pick (eqb t 1) 1 0 ≡ t
bit_is zero h = refl
bit_is (suc zero) h = refl
bit_is (suc (suc t)) h = absurd (omega arith)

-- seven bytes for each flag
pub tags-are : (face : ℕ) → length (opens face) + length (closes face) ≡ (face % 2 + face / 2 % 2 + face / 4 % 2) * 7
unfolding opens closes flag
tags-are face =
    let whole : face / 1 ≡ face = omega arith in
    tags-length (flag 1 face) (flag 2 face) (flag 4 face)
    ∙ rw (whole, bit_is (face % 2) (omega arith), bit_is (face / 2 % 2) (omega arith), bit_is (face / 4 % 2) (omega arith))

-- those before x: those before k, and those from k to x
text-length : (cs : List ℕ) (k x : ℕ) → k ≤ x → length (joined escape (take x cs)) ≡ length (joined escape (take k cs)) + length (joined escape (take (x - k) (drop k cs)))
text-length cs k x h =
    let z : x ≡ k + (x - k) = omega arith in
    ap (λ (l : List ℕ). length (joined escape l)) (ap (λ (y : ℕ). take y cs) z ∙ take-add k (x - k) cs)
    ∙ (ap length (joined-append escape (take k cs) (take (x - k) (drop k cs))) ∙ length-append (joined escape (take k cs)) (joined escape (take (x - k) (drop k cs))))

-- the tags of the characters before k take m bytes
pub record Measured (e s : List ℕ) (n left q k m : ℕ) : Type 0 where
  pub on : Reached e s n left q k
  pub size : length (payload_in e s) ≡ m + length (joined escape (take k (characters_at s))) + length (onward e s k on.after)
  pub most : m ≤ 21 * k

module _ (e s : List ℕ) (n : ℕ) where
  pub sets-out : (left q : ℕ) → length (characters_at s) ≡ n → text_left (characters_at s) ≡ characters_at s → WalkAt s left q 0 (styles_of s) → Measured e s n left q 0 0
  unfolding joined
  sets-out left q c h w = record { on = begins e s n left q c h w; size = omega (arith, ap length (all-onward e s n left q c h w)); most = omega arith }

  module _ (left q k m : ℕ) (g : Measured e s n left q k m) where
    pub goes_on : (p : Stretch) → StretchIs e s n k p → (t : ℕ) → (t ≡ length (opens p.face) + length (closes p.face)) × (t ≤ 21) → Measured e s n p.left p.next p.end (m + t)
    goes_on p w t h =
        let next = moves-on e s n left q k g.on p w in
        let text : List ℕ = joined escape (take (p.end - k) (drop k (characters_at s))) in
        let first : List ℕ = opens p.face ++ (text ++ closes p.face) in
        record {
          on = next;
          size = omega (arith, h.0, g.size, ap length (first-onward e s n left q k g.on p w), length-append first (onward e s p.end next.after), length-append (opens p.face) (text ++ closes p.face), length-append text (closes p.face), text-length (characters_at s) k p.end (omega (arith, w.goes)));
          most = omega (arith, h.1, g.most, w.goes);
        }

    -- no character is left
    pub comes_home : n ≤ k → (length (payload_in e s) ≡ m + length (joined escape (characters_at s))) × (m ≤ 21 * n)
    comes_home l =
        let all : take k (characters_at s) ≡ characters_at s = take_all k (characters_at s) (omega (arith, g.on.many, l)) in
        (omega (arith, g.size, ap (λ (x : List ℕ). length (joined escape x)) all, ap length (none-onward e s n left q k g.on l)), omega (arith, g.most, g.on.here))
