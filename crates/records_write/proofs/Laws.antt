-- Laws for writing cues as records and pool: sizes, stores one behind the other, one cue more.
use Prim.Native.Nat.{ℕ, zero, suc, ◌+◌, ◌-◌, ◌*◌, ◌≤◌}
use mathlib.Core.Path.{◌≡◌, refl, sym, ap, ◌∙◌}
use mathlib.Core.List.{List, ◌++◌}
use native.Mathlib.Omega.{arith}
use native.Mathlib.Numerals.{add-one}
use lib.ListN.{length, get_or, length-append}
use lib.Seq.{take-length}
use Rattle.base.specs.Over.{over, wrote}
use Rattle.base.proofs.Over.{over-wrote, length-wrote, in_two, in_three}
use Rattle.fields.proofs.BigEndian.{length-bytes}
use Rattle.boxes.specs.Boxes.{part}
use Rattle.timeline.specs.Cues.{Cue}
use Rattle.timeline.specs.Unpacking.{no_cue}
use Rattle.records_write.specs.Records.{record_bytes, record_of, texts_of, pool_to, records_to, pool_of}

-- ---- sizes

record-length : (a b c d e f g : ℕ) → length (record_bytes a b c d e f g) ≡ 24
unfolding record_bytes
record-length a b c d e f g = simp (length-append, length-bytes)

pub length-record : (scale offset : ℕ) (c : Cue) → length (record_of scale offset c) ≡ 24
unfolding record_of
length-record scale offset c = record-length _ _ _ _ _ _ _

pub length-records : (scale : ℕ) (cs : List Cue) (k : ℕ) → length (records_to scale cs k) ≡ k * 24
unfolding records_to
length-records scale cs zero = refl
length-records scale cs (suc k) = rw (length-append, length-record) (omega (arith, length-records scale cs k))

-- the pool grows with its cues
pool-grows : (cs : List Cue) (k d : ℕ) → length (pool_to cs k) ≤ length (pool_to cs (k + d))
unfolding pool_to
pool-grows cs k zero = let e : k + 0 ≡ k = omega arith in rw e (omega arith)
pool-grows cs k (suc d) =
    let e : k + suc d ≡ suc (k + d) = omega arith in
    rw e (omega (arith, pool-grows cs k d, length-append (pool_to cs (k + d)) (texts_of (get_or cs (k + d) no_cue).body)))

pub pool-most : (cs : List Cue) (k : ℕ) → k ≤ length cs → length (pool_to cs k) ≤ length (pool_of cs)
unfolding pool_of
pool-most cs k h = let e : k + (length cs - k) ≡ length cs = omega arith in omega (arith, pool-grows cs k (length cs - k), ap (λ (n : ℕ). length (pool_to cs n)) e)

-- ---- stores, one behind the other

-- a text is copied whole
pub whole : (s : List ℕ) → part s 0 (0 + length s) ≡ s
unfolding part
whole s = let e : 0 + length s - 0 ≡ length s = omega arith in rw e (take-length s)

pub in_four : (d d₁ d₂ d₃ d₄ a b e f : List ℕ) (at p q r : ℕ) → d₁ ≡ wrote d at a → d₂ ≡ wrote d₁ p b → d₃ ≡ wrote d₂ q e → d₄ ≡ wrote d₃ r f
    → p ≡ at + length a → q ≡ p + length b → r ≡ q + length e → at + length a + length b + length e ≤ length d → d₄ ≡ wrote d at (a ++ (b ++ (e ++ f)))
in_four d d₁ d₂ d₃ d₄ a b e f at p q r e₁ e₂ e₃ e₄ hp hq hr h =
    let l : length d₁ ≡ length d = ap length e₁ ∙ length-wrote d at a (omega arith) in
    in_two d d₁ d₄ a (b ++ (e ++ f)) at p e₁ (in_three d₁ d₂ d₃ d₄ b e f p q r e₂ e₃ e₄ hq hr (omega arith)) hp (omega arith)

-- ---- one cue more, in each output

pub records-next : (scale : ℕ) (cs : List Cue) (k : ℕ) (old : List ℕ) → wrote (over (records_to scale cs k) old) (k * 24) (record_of scale (length (pool_to cs k)) (get_or cs k no_cue)) ≡ over (records_to scale cs (suc k)) old
unfolding records_to
records-next scale cs k old = over-wrote (records_to scale cs k) old (record_of scale (length (pool_to cs k)) (get_or cs k no_cue)) (k * 24) (sym (length-records scale cs k))

pub pool-next : (cs : List Cue) (k : ℕ) (old : List ℕ) → wrote (over (pool_to cs k) old) (length (pool_to cs k)) (texts_of (get_or cs k no_cue).body) ≡ over (pool_to cs (suc k)) old
unfolding pool_to
pool-next cs k old = over-wrote (pool_to cs k) old (texts_of (get_or cs k no_cue).body) (length (pool_to cs k)) refl

-- a turn of a loop that puts cue c
module _ (cs : List Cue) (k at : ℕ) (c : Cue) (old d d₁ : List ℕ) (e : get_or cs k no_cue ≡ c) (o : at ≡ length (pool_to cs k)) where
  pub record-put : (scale : ℕ) → d ≡ over (records_to scale cs k) old → d₁ ≡ wrote d (k * 24) (record_of scale at c) → d₁ ≡ over (records_to scale cs (k + 1)) old
  record-put scale h w = w ∙ rw (add-one, ← records-next scale cs k old, e, o, h)

  pub texts-put : d ≡ over (pool_to cs k) old → d₁ ≡ wrote d at (texts_of c.body) → d₁ ≡ over (pool_to cs (k + 1)) old
  texts-put h w = w ∙ rw (add-one, ← pool-next cs k old, e, o, h)
