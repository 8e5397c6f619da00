-- Laws for printing a packed list: the count has room, and the table's lines are read from its front.
use Rattle.std.proofs.Common.{Ok}
use Prim.Native.Nat.{ℕ, zero, suc, ◌+◌, ◌*◌, ◌≤◌}
use mathlib.Core.Path.{◌≡◌, refl, sym, ap, ap₂, ◌∙◌}
use mathlib.Core.List.{List, ◌++◌}
use native.Mathlib.Omega.{arith}
use lib.ListN.{length, drop, length-append}
use Rattle.base.specs.Over.{over}
use Rattle.fields.proofs.BigEndian.{be-front}
use Rattle.listing.specs.Listing.{pair_text, row_text, rows_text}
use Rattle.pack.specs.Packed.{Packed, Done, Refused}
use Rattle.pack.specs.Packing.{packed_track, table_bytes, packed_of, after}
use Rattle.pack.specs.Writing.{count_of}
use Rattle.pack.proofs.Laws.{length-table}
use Rattle.pack.proofs.Answers.{done-means}
use Rattle.report.specs.Report.{packed_text, list_text}

-- a text over the front of a list is no longer than what comes of it
pub with-room : (r : ℕ) (x d e : List ℕ) → (r ≡ length x) × (e ≡ over x d) → (r ≡ length x) × (e ≡ over x d) × (r ≤ length e)
unfolding over
with-room r x d e h = let l = ap length h.1 ∙ length-append x (drop (length x) d) in (h.0, h.1, omega (arith, h.0))

row-front : (p r : List ℕ) (k : ℕ) → k * 8 + 8 ≤ length p → row_text (p ++ r) k ≡ row_text p k
unfolding row_text
row-front p r k h = ap₂ pair_text (be-front 4 p r (k * 8) (omega arith)) (be-front 4 p r (k * 8 + 4) (omega arith))

-- the lines of n records say nothing of what is behind them
rows-front : (p r : List ℕ) (n : ℕ) → n * 8 ≤ length p → rows_text (p ++ r) n ≡ rows_text p n
unfolding rows_text
rows-front p r zero h = refl
rows-front p r (suc k) h = ap₂ ◌++◌ (rows-front p r k (omega arith)) (row-front p r k (omega arith))

module _ (scale T : ℕ) (recs pool : List ℕ) where
  pub count_most : (a : Packed) → a ≡ packed_of scale T recs pool 16392 65536 → count_of a ≤ 2049
  count_most (Ok x) e =
      let w = done-means scale T recs pool 16392 65536 x.samples x.table x.bytes (sym e) in
      omega (arith, w.table_fits, w.samples_are, length-table (packed_track scale T recs pool))
  count_most (Refused r) e = omega arith

  pub text-is : (a : Packed) (z table : List ℕ) → a ≡ packed_of scale T recs pool 16392 65536 → table ≡ after a (table_bytes (packed_track scale T recs pool)) z
      → packed_text a table ≡ list_text scale T recs pool
  unfolding list_text over
  text-is (Ok y) z table e q =
      let w = done-means scale T recs pool 16392 65536 y.samples y.table y.bytes (sym e) in
      let p = table_bytes (packed_track scale T recs pool) in
      ap (λ (x : List ℕ). rows_text x y.samples) q
      ∙ rows-front p (drop (length p) z) y.samples (omega (arith, w.samples_are, length-table (packed_track scale T recs pool)))
      ∙ ap (λ (x : Packed). packed_text x p) e
  text-is (Refused r) z table e q = ap (λ (x : Packed). packed_text x (table_bytes (packed_track scale T recs pool))) e
