-- A run of samples that last: its rows are the table's own bytes, and its samples stand back to back.
use Prim.Native.Nat.{ℕ, zero, suc, ◌+◌, ◌-◌, ◌*◌, ◌/◌, ◌%◌, ◌≤◌, ◌<◌}
use mathlib.Core.Path.{◌≡◌, refl, sym, ap, ap₂, ◌∙◌}
use mathlib.Core.List.{List, [], ◌∷◌, ◌++◌, append_assoc, append-nil}
use native.Mathlib.Omega.{arith}
use native.Mathlib.Nat.{le_refl}
use native.Mathlib.Decide.{le_ind}
use native.Mathlib.Numerals.{add-one}
use lib.ListN.{length, take, drop, get_or, length-append, length-drop}
use lib.Seq.{take-suc, take-add, get_or-drop, drop-drop}
use Rattle.base.proofs.Choice.{either}
use Rattle.fields.specs.BigEndian.{be, bytes}
use Rattle.fields.proofs.BigEndian.{Bytes}
use Rattle.boxes.specs.Boxes.{part}
use Rattle.table.specs.Table.{row_count, duration_of, size_of, offset_of, bytes_of, Laid}
use Rattle.table.specs.Parts.{part_at, table_of, content_of}
use Rattle.table.proofs.Laws.{offset-suc, offset-most, in_table, laid-inside, length-bytes}
use Rattle.wvtt_write.proofs.Laws.{part_join}
use Rattle.table_lasting.specs.Copying.{Lasts}
use Rattle.table_lasting.proofs.Lasting.{last_to, last-kept, table_more, content-more}

-- ---- finding

pub lasts-none : (table : List ℕ) (from : ℕ) → from ≤ row_count table → Lasts table from from 0
lasts-none table from h = record { goes = le_refl from; most = h; lasts = λ k f b. absurd (omega arith); sum = omega arith }

module _ (table : List ℕ) (from i n : ℕ) (w : Lasts table from i n) (l : i < row_count table) (size : ℕ) (e : size ≡ size_of table i) where
  pub lasts-within : n + size ≤ offset_of table (row_count table)
  lasts-within = omega (arith, offset-suc table i, offset-most table (suc i) (row_count table) l, w.sum)

  pub lasts-more : (duration_of table i ≡ 0 → ⊥) → Lasts table from (i + 1) (n + size)
  lasts-more h = record {
    goes = omega (arith, w.goes);
    most = omega arith;
    lasts = λ k f b. either (suc k) i (λ b₂. w.lasts k f b₂) (λ b₂. let q : k ≡ i = omega arith in rw q h);
    sum = rw add-one (omega (arith, offset-suc table i, w.sum));
  }

-- ---- bytes

-- a number, written where it was read
again : (w : ℕ) (s : List ℕ) (at : ℕ) → Bytes s → at + w ≤ length s → bytes w (be w s at) ≡ take w (drop at s)
unfolding be bytes
again zero s at f h = refl
again (suc w) s at f h =
    let v = be w s at * 256 + get_or s (at + w) 0 in
    let q : v / 256 ≡ be w s at = omega (arith, f (at + w)) in
    let r : v % 256 ≡ get_or s (at + w) 0 = omega (arith, f (at + w)) in
    let l : w < length (drop at s) = rw length-drop (omega arith) in
    ap₂ (λ (x y : ℕ). bytes w x ++ y ∷ []) q r
    ∙ ap₂ (λ (x : List ℕ) (y : ℕ). x ++ y ∷ []) (again w s at f (omega arith)) (sym (get_or-drop at s w 0))
    ∙ sym (take-suc (drop at s) w 0 l)

row-again : (table : List ℕ) (i : ℕ) → Bytes table → i < row_count table → bytes 4 (duration_of table i) ++ bytes 4 (size_of table i) ≡ part table (i * 8) (suc i * 8)
unfolding duration_of size_of part
row-again table i f l =
    let h = in_table table i l in
    let e : 4 + 4 ≡ suc i * 8 - i * 8 = omega arith in
    ap₂ (λ (x y : List ℕ). x ++ y) (again 4 table (i * 8) f (omega arith)) (again 4 table (i * 8 + 4) f (omega arith) ∙ ap (take 4) (sym (drop-drop 4 (i * 8) table)))
    ∙ sym (take-add 4 4 (drop (i * 8) table))
    ∙ ap (λ (x : ℕ). take x (drop (i * 8) table)) e

-- ---- copying

module _ (table samples : List ℕ) (fits : Bytes table) (laid : Laid table samples) (from : ℕ) where
  -- what lasts before row m is what lasts before `from`, and all between them
  pub record Ran (m : ℕ) : Type 0 where
    pub count : length (last_to table samples m) + from ≡ length (last_to table samples from) + m
    pub rows : table_of (last_to table samples m) ≡ table_of (last_to table samples from) ++ part table (from * 8) (m * 8)
    pub contents : content_of (last_to table samples m) ≡ content_of (last_to table samples from) ++ part samples (offset_of table from) (offset_of table m)

  Before : ℕ → Type 0
  Before m = m ≤ row_count table → ((i : ℕ) → from ≤ i → i < m → duration_of table i ≡ 0 → ⊥) → Ran m

  ran-none : Before from
  unfolding Before part
  ran-none _ _ =
      let a : from * 8 - from * 8 ≡ 0 = omega arith in
      let b : offset_of table from - offset_of table from ≡ 0 = omega arith in
      record { count = refl; rows = rw a (sym (append-nil (table_of (last_to table samples from)))); contents = rw b (sym (append-nil (content_of (last_to table samples from)))) }

  ran-more : (m : ℕ) → from ≤ m → Before m → Before (suc m)
  unfolding Before bytes_of
  ran-more m l before most lasts =
      let w = before (omega arith) (λ i f b. lasts i f (omega arith)) in
      let h = lasts m l (le_refl (suc m)) in
      let u : last_to table samples (suc m) ≡ last_to table samples (m + 1) = ap (last_to table samples) (sym (add-one m)) in
      let k = ap length (u ∙ last-kept table samples m h) ∙ length-append (last_to table samples m) (part_at table samples m ∷ []) in
      let n = length-bytes table samples m (laid-inside table samples laid m most) in
      record {
        count = omega (arith, k, w.count);
        rows =
            ap table_of u
            ∙ table_more table samples m h
            ∙ ap₂ (λ (x y : List ℕ). x ++ y) w.rows (ap (λ (x : ℕ). bytes 4 (duration_of table m) ++ bytes 4 x) n ∙ row-again table m fits most)
            ∙ append_assoc (table_of (last_to table samples from)) (part table (from * 8) (m * 8)) (part table (m * 8) (suc m * 8))
            ∙ ap (λ (x : List ℕ). table_of (last_to table samples from) ++ x) (part_join table (from * 8) (m * 8) (suc m * 8) (omega arith) (omega arith));
        contents =
            ap content_of u
            ∙ content-more table samples m h
            ∙ ap (λ (x : List ℕ). x ++ bytes_of table samples m) w.contents
            ∙ append_assoc (content_of (last_to table samples from)) (part samples (offset_of table from) (offset_of table m)) (bytes_of table samples m)
            ∙ ap (λ (x : List ℕ). content_of (last_to table samples from) ++ x) (part_join samples (offset_of table from) (offset_of table m) (offset_of table (suc m)) (offset-most table from m l) (offset-most table m (suc m) (omega arith)));
      }

  pub ran : (end n : ℕ) → Lasts table from end n → Ran end
  unfolding Before
  ran end n w = le_ind Before ran-none ran-more end w.goes w.most w.lasts
