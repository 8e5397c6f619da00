-- The zero bytes of a payload: by them alone it can break its rule.
use Prim.Native.Nat.{ℕ, suc, ◌<◌}
use mathlib.Core.Path.{◌≡◌, refl, sym, ap, ◌∙◌}
use mathlib.Core.Bool.{Bool, true, false, not}
use mathlib.Core.List.{List, [], ◌∷◌, ◌++◌}
use lib.Bits.{bit_or}
use lib.Dec.{eqb}
use lib.ListN.{length, take, get_or}
use lib.Seq.{take-suc}
use Rattle.base.specs.Choice.{pick, both, any_of}
use Rattle.ascii.proofs.Blocks.{or-none, mark-none}
use Rattle.verdict.specs.Verdict.{Fine}
use Rattle.boxes.specs.Boxes.{part}
use Rattle.tx3g_sample.specs.Sample.{text_end, characters_in, judge_sample}
use Rattle.tx3g_payload.specs.Points.{points_of}
use Rattle.tx3g_payload.specs.Statements.{has_zero}
use Rattle.tx3g_payload.proofs.Points.{points-good}
use Rattle.tx3g_payload.proofs.Rule.{only_zero, zeros-same}
use Rattle.tx3g_payload_write.specs.Sample.{characters_at, range_at, face_of, payload_in}
use Rattle.tx3g_payload_write.proofs.Texts.{part_bytes, counted-so, text-of-fine}
use Rattle.tx3g_convert.specs.Terms.{Ruled}

-- ---- a loop over bytes

zero-behind : (l : List ℕ) (b : ℕ) → not (has_zero (l ++ b ∷ [])) ≡ both (not (has_zero l)) (not (eqb b 0))
unfolding has_zero
zero-behind [] b = one (eqb b 0)
  where
    one : (t : Bool) → not (any_of t false) ≡ not t
    one true = refl
    one false = refl
zero-behind (a ∷ l) b = more (eqb a 0) (has_zero (l ++ b ∷ [])) (has_zero l) (zero-behind l b)
  where
    more : (t u v : Bool) → not u ≡ both (not v) (not (eqb b 0)) → not (any_of t u) ≡ both (not (any_of t v)) (not (eqb b 0))
    more true u v h = refl
    more false u v h = h

pub none_yet : true ≡ not (has_zero [])
unfolding has_zero
none_yet = refl

-- one byte more
pub zero-next : (s : List ℕ) (i x b : ℕ) → i < length s → b ≡ pick (eqb (get_or s i 0) 0) 1 0 → eqb x 0 ≡ not (has_zero (take i s)) → eqb (bit_or x b) 0 ≡ not (has_zero (take (suc i) s))
zero-next s i x b h q e =
    or-none x b
    ∙ ap (both (eqb x 0)) (ap (λ (k : ℕ). eqb k 0) q ∙ mark-none (eqb (get_or s i 0) 0))
    ∙ ap (λ (t : Bool). both t (not (eqb (get_or s i 0) 0))) e
    ∙ sym (zero-behind (take i s) (get_or s i 0))
    ∙ ap (λ (l : List ℕ). not (has_zero l)) (sym (take-suc s i 0 h))

pub not-twice : (x y : Bool) → x ≡ not y → not x ≡ y
not-twice x true h = ap not h
not-twice x false h = ap not h

-- ---- of a sample

pub payload-ruled : (e s : List ℕ) → ((j : ℕ) → get_or s j 0 < 256) → judge_sample e s ≡ Fine → Ruled (payload_in e s)
unfolding payload_in characters_at
payload-ruled e s b h =
    let t = part s 2 (text_end s) in
    let g = points-good t (characters_in s) (part_bytes s 2 (text_end s) b) (counted-so s (text-of-fine e s h)) in
    only_zero (range_at s) (face_of e s) (points_of t) g.0 ∙ ap not (sym (zeros-same (range_at s) (face_of e s) (points_of t)))
