-- Laws of specs/Table.antt: rows, and what a table has in which there is no fault.
use Prim.Native.Nat.{ℕ, zero, suc, ◌+◌, ◌-◌, ◌*◌, ◌%◌, ◌≤◌, ◌<◌}
use mathlib.Core.Path.{◌≡◌, refl}
use mathlib.Core.List.{List}
use mathlib.Core.Bool.{not}
use native.Mathlib.Omega.{arith}
use native.Mathlib.Nat.{le_refl}
use native.Mathlib.Decide.{le_ind}
use lib.Dec.{ltb, eqb}
use lib.ListN.{length, drop, length-drop}
use lib.Seq.{length-take-le}
use borrow.Author.Tests.{ltb-false, eqb-true, eqb-false, le-ltb, ne_eqb, not-false}
use Rattle.verdict.specs.declared.Refusal.{Refusal}
use Rattle.verdict.specs.Verdict.{Verdict, Fine, Refused}
use Rattle.verdict.specs.Judgement.{◌gives◌at◌, each}
use Rattle.verdict.proofs.Judgement.{both-fine, not-given, each-fine, each_all}
use Rattle.boxes.specs.Boxes.{part}
use Rattle.table.specs.Table.{row_count, duration_of, size_of, offset_of, bytes_of, placed_at, judge_size, judge_row, judge_row_by, judge_whole, judge_left, judge_rows, Laid, ReadableBy, FineLaid, FineReadable}

pub offset-suc : (table : List ℕ) (i : ℕ) → offset_of table (suc i) ≡ offset_of table i + size_of table i
unfolding offset_of
offset-suc table i = refl

pub bytes-at : (table samples : List ℕ) (i from size : ℕ) → from ≡ offset_of table i → size ≡ size_of table i → bytes_of table samples i ≡ part samples from (from + size)
unfolding bytes_of
bytes-at table samples i from size e h = rw (offset-suc table i, ← e, ← h)

-- a sample within the bytes has the bytes that its size says
pub length-bytes : (table samples : List ℕ) (i : ℕ) → offset_of table (suc i) ≤ length samples → length (bytes_of table samples i) ≡ size_of table i
unfolding bytes_of part
length-bytes table samples i h = let o = offset-suc table i in rw (length-take-le (offset_of table (suc i) - offset_of table i) (drop (offset_of table i) samples) (rw length-drop (omega arith))) (omega arith)

-- offsets never fall
pub offset-most : (table : List ℕ) (i n : ℕ) → i ≤ n → offset_of table i ≤ offset_of table n
offset-most table i n h = le_ind (λ m. offset_of table i ≤ offset_of table m) (le_refl (offset_of table i)) (λ m l e. omega (arith, offset-suc table m)) n h

pub in_table : (table : List ℕ) (i : ℕ) → i < row_count table → i * 8 + 8 ≤ length table
unfolding row_count
in_table table i h = omega arith

-- each sample ends within the bytes
pub laid-inside : (table samples : List ℕ) → Laid table samples → (i : ℕ) → i < row_count table → offset_of table (suc i) ≤ length samples
laid-inside table samples w i h = omega (arith, offset-most table (suc i) (row_count table) h, w.used)

-- ---- a row without fault

placed-fine : (i : ℕ) (v : Verdict) → placed_at i v ≡ Fine → v ≡ Fine
placed-fine i Fine e = refl
placed-fine i (Refused r) e = let z : ◌≡◌ {A = ℕ} 0 1 = cc in absurd (omega arith)

module _ (table samples : List ℕ) (i : ℕ) where
  pub size-fine : judge_size table samples i ≡ Fine → (0 < size_of table i) × (offset_of table (suc i) ≤ length samples)
  unfolding judge_size
  size-fine e =
      let a = both-fine (eqb (size_of table i) 0 gives 4 at i) _ e in
      let y = eqb-false (size_of table i) 0 (not-given (eqb (size_of table i) 0) 4 i a.0) in
      (omega (arith, y), ltb-false (length samples) (offset_of table (suc i)) (not-given (ltb (length samples) (offset_of table (suc i))) 1 i a.1))

  fine-size : 0 < size_of table i → offset_of table (suc i) ≤ length samples → judge_size table samples i ≡ Fine
  unfolding judge_size
  fine-size h k =
      let y : (size_of table i ≡ 0 → ⊥) = λ e. omega arith in
      rw (ne_eqb (size_of table i) 0 y, le-ltb (length samples) (offset_of table (suc i)) k)

  pub row_fine : judge_row table samples i ≡ Fine → (0 < duration_of table i) × (judge_size table samples i ≡ Fine)
  unfolding judge_row
  row_fine e =
      let a = both-fine (eqb (duration_of table i) 0 gives 10 at i) _ e in
      let x = eqb-false (duration_of table i) 0 (not-given (eqb (duration_of table i) 0) 10 i a.0) in
      (omega (arith, x), a.1)

  fine-row : 0 < duration_of table i → judge_size table samples i ≡ Fine → judge_row table samples i ≡ Fine
  unfolding judge_row
  fine-row h e = let x : (duration_of table i ≡ 0 → ⊥) = λ e. omega arith in rw (ne_eqb (duration_of table i) 0 x, e)

  pub read-fine : (read : List ℕ → Verdict) → judge_row_by read table samples i ≡ Fine → (judge_row table samples i ≡ Fine) × (read (bytes_of table samples i) ≡ Fine)
  unfolding judge_row_by
  read-fine read e = let a = both-fine (judge_row table samples i) _ e in (a.0, placed-fine i (read (bytes_of table samples i)) a.1)

-- ---- a table without fault

module _ (table : List ℕ) where
  whole-fine : judge_whole table ≡ Fine → (length table % 8 ≡ 0) × (row_count table ≤ 65536)
  unfolding judge_whole
  whole-fine e =
      let a = both-fine (not (eqb (length table % 8) 0) gives 1 at 0) _ e in (
        eqb-true (length table % 8) 0 (not-false (eqb (length table % 8) 0) (not-given (not (eqb (length table % 8) 0)) 1 0 a.0)),
        ltb-false 65536 (row_count table) (not-given (ltb 65536 (row_count table)) 9 0 a.1),
      )

  fine-whole : length table % 8 ≡ 0 → row_count table ≤ 65536 → judge_whole table ≡ Fine
  unfolding judge_whole
  fine-whole e h = rw (e, le-ltb 65536 (row_count table) h)

-- the sizes use up the bytes: the last row ends within them, and none is left
last-used : (table samples : List ℕ) (n : ℕ) → ((i : ℕ) → i < n → judge_size table samples i ≡ Fine) → length samples ≤ offset_of table n → offset_of table n ≡ length samples
unfolding offset_of
last-used table samples zero row h = omega arith
last-used table samples (suc n) row h = omega (arith, (size-fine table samples n (row n (le_refl (suc n)))).1)

module _ (row : ℕ → Verdict) (table samples : List ℕ) where
  -- no fault in a table: none in a row, and, where a row's judgement holds that of its size, the samples are laid
  pub rows-fine : judge_rows row table samples ≡ Fine → ((i : ℕ) → row i ≡ Fine → judge_size table samples i ≡ Fine)
      → Laid table samples × ((i : ℕ) → i < row_count table → row i ≡ Fine)
  unfolding judge_rows judge_left
  rows-fine e size =
      let n = row_count table in
      let a = both-fine (judge_whole table) _ e in
      let b = both-fine (each row n) _ a.1 in
      let w = whole-fine table a.0 in
      let r : (i : ℕ) → i < n → row i ≡ Fine = λ i l. each-fine row n i b.0 l in
      let enough = ltb-false (offset_of table n) (length samples) (not-given (ltb (offset_of table n) (length samples)) 2 n b.1) in (
        record {
          whole = w.0;
          count = w.1;
          sized = λ i l. (size-fine table samples i (size i (r i l))).0;
          used = last-used table samples n (λ i l. size i (r i l)) enough;
        },
        r,
      )

  fine-rows : Laid table samples → ((i : ℕ) → i < row_count table → row i ≡ Fine) → judge_rows row table samples ≡ Fine
  unfolding judge_rows judge_left
  fine-rows w r =
      rw (fine-whole table w.whole w.count, each_all row (row_count table) r, le-ltb (offset_of table (row_count table)) (length samples) (omega (arith, w.used)))

laid-size : (table samples : List ℕ) → Laid table samples → (i : ℕ) → i < row_count table → judge_size table samples i ≡ Fine
laid-size table samples w i h = fine-size table samples i (w.sized i h) (laid-inside table samples w i h)

pub laid-iff : FineLaid
laid-iff table samples = (
  λ e. (rows-fine (judge_size table samples) table samples e (λ i h. h)).0,
  λ w. fine-rows (judge_size table samples) table samples w (laid-size table samples w),
)

pub readable-iff : FineReadable
unfolding judge_row_by
readable-iff read table samples = (there, back)
  where
    there : judge_rows (judge_row_by read table samples) table samples ≡ Fine → ReadableBy read table samples × ((i : ℕ) → i < row_count table → 0 < duration_of table i)
    there e =
        let w = rows-fine (judge_row_by read table samples) table samples e (λ i h. (row_fine table samples i (read-fine table samples i read h).0).1) in (
          record { laid = w.0; reads = λ i l. (read-fine table samples i read (w.1 i l)).1 },
          λ i l. (row_fine table samples i (read-fine table samples i read (w.1 i l)).0).0,
        )

    back : ReadableBy read table samples × ((i : ℕ) → i < row_count table → 0 < duration_of table i) → judge_rows (judge_row_by read table samples) table samples ≡ Fine
    back r = fine-rows (judge_row_by read table samples) table samples r.0.laid (λ i l. rw (fine-row table samples i (r.1 i l) (laid-size table samples r.0.laid i l), r.0.reads i l))

-- no verdict is both
pub fine-refused : {X : Type 0} (r : Refusal) → Fine ≡ Refused r → X
fine-refused r e = let z : ◌≡◌ {A = ℕ} 0 1 = cc in absurd (omega arith)
