-- The texts of a record: their order and their lengths.
use Prim.Native.Nat.{ℕ, ◌+◌, ◌-◌, ◌*◌, ◌<◌, ◌≤◌}
use mathlib.Core.Path.{◌≡◌, refl, ap, ◌∙◌}
use mathlib.Core.List.{List}
use native.Mathlib.Omega.{arith}
use lib.ListN.{length, take, drop, length-drop}
use lib.Seq.{length-take-le}
use Rattle.records.specs.Records.{count, text_offset, identifier_length, settings_offset, settings_length, payload_offset, payload_length, texts_end, piece, identifier_of, settings_of, payload_of}

-- a record that is counted lies within the bytes
pub in-records : (recs : List ℕ) (i : ℕ) → i < count recs → i * 24 + 24 ≤ length recs
unfolding count
in-records recs i h = omega arith

-- the texts stand one after the other
pub record InOrder (recs : List ℕ) (i : ℕ) : Type 0 where
  pub settings-at : settings_offset recs i ≡ text_offset recs i + identifier_length recs i
  pub payload-at : payload_offset recs i ≡ settings_offset recs i + settings_length recs i
  pub end-at : texts_end recs i ≡ payload_offset recs i + payload_length recs i

pub in_order : (recs : List ℕ) (i : ℕ) → InOrder recs i
unfolding settings_offset payload_offset texts_end
in_order recs i = record { settings-at = refl; payload-at = refl; end-at = refl }

length-piece : (pool : List ℕ) (from n : ℕ) → from + n ≤ length pool → length (piece pool from n) ≡ n
unfolding piece
length-piece pool from n h = length-take-le n (drop from pool) (rw length-drop (omega arith))

-- texts within the pool have the lengths that the record says
pub text-lengths : (recs pool : List ℕ) (i : ℕ) → texts_end recs i ≤ length pool
    → (length (identifier_of recs pool i) ≡ identifier_length recs i) × (length (settings_of recs pool i) ≡ settings_length recs i) × (length (payload_of recs pool i) ≡ payload_length recs i)
unfolding identifier_of settings_of payload_of
text-lengths recs pool i h =
    let o = in_order recs i in (
      length-piece pool (text_offset recs i) (identifier_length recs i) (omega arith),
      length-piece pool (settings_offset recs i) (settings_length recs i) (omega arith),
      length-piece pool (payload_offset recs i) (payload_length recs i) (omega arith),
    )

part-is : (pool : List ℕ) (a b x n : ℕ) → a ≡ x → b ≡ x + n → take (b - a) (drop a pool) ≡ piece pool x n
unfolding piece
part-is pool a b x n p q =
    let e : b - a ≡ n = omega arith in
    ap (λ (k : ℕ). take k (drop a pool)) e ∙ ap (λ (k : ℕ). take n (drop k pool)) p

-- the parts of the pool between the offsets are the texts
pub parts_are : (recs pool : List ℕ) (i a b e l : ℕ) → a ≡ text_offset recs i → b ≡ settings_offset recs i → e ≡ payload_offset recs i → l ≡ texts_end recs i
    → (take (b - a) (drop a pool) ≡ identifier_of recs pool i) × (take (e - b) (drop b pool) ≡ settings_of recs pool i) × (take (l - e) (drop e pool) ≡ payload_of recs pool i)
unfolding identifier_of settings_of payload_of
parts_are recs pool i a b e l p q r s =
    let o = in_order recs i in (
      part-is pool a b (text_offset recs i) (identifier_length recs i) p (q ∙ o.settings-at),
      part-is pool b e (settings_offset recs i) (settings_length recs i) q (r ∙ o.payload-at),
      part-is pool e l (payload_offset recs i) (payload_length recs i) r (s ∙ o.end-at),
    )
