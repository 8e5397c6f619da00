-- The turns of the two loops over a table: the first judges it and counts the samples that last, the second copies them, run by run.
use Prim.Native.Nat.{ℕ, ◌+◌, ◌-◌, ◌*◌, ◌≤◌, ◌<◌}
use mathlib.Core.Path.{◌≡◌, refl, sym, ap, ◌∙◌}
use mathlib.Core.List.{List, [], ◌∷◌, ◌++◌}
use native.Mathlib.Omega.{arith}
use native.Mathlib.Nat.{le_antisymm}
use native.Mathlib.Numerals.{add-one}
use lib.ListN.{length, length-append}
use Rattle.base.specs.Over.{over, wrote}
use Rattle.base.proofs.Over.{over-nil, over-wrote, length_over}
use Rattle.fields.proofs.BigEndian.{Bytes}
use Rattle.boxes.specs.Boxes.{part}
use Rattle.verdict.specs.declared.Refusal.{Refusal}
use Rattle.verdict.specs.Verdict.{Fine, Refused as Faulty}
use Rattle.table.specs.Table.{row_count, duration_of, size_of, offset_of, bytes_of, judge_size, judge_whole, judge_left}
use Rattle.wvtt_write.proofs.Laws.{length_part}
use Rattle.table.specs.Parts.{Part, part_at, table_of, content_of}
use Rattle.table.proofs.Laws.{offset-suc, offset-most, length-bytes, laid-inside, size-fine}
use Rattle.table.proofs.Parts.{length-table}
use Rattle.table.proofs.Judging.{Judged, judged-none, judged-more, judged-stops, judged-all}
use Rattle.table_lasting.specs.Dropped.{Done, Refused}
use Rattle.table_lasting.specs.Lasting.{lasting_of}
use Rattle.table_lasting.specs.Dropping.{judge_drop, sizes_of, drop_room}
use Rattle.table_lasting.specs.Copying.{Room, Lasts}
use Rattle.table_lasting.proofs.Lasting.{last_to, last_none, last-all, last-kept, last-dropped, last_most, content-more}
use Rattle.table_lasting.proofs.Runs.{ran}

-- ---- judging and counting

-- no fault in the rows before i, of which `kept` last, with so many bytes
pub record Counted (table samples : List ℕ) (i kept bytes at : ℕ) : Type 0 where
  pub judged : Judged (judge_size table samples) table samples at i
  pub count : kept ≡ length (last_to table samples i)
  pub sum : bytes ≡ length (content_of (last_to table samples i))
  pub fewer : kept ≤ i
  pub less : bytes ≤ at

module _ (table samples : List ℕ) where
  pub counted_none : Counted table samples 0 0 0 0
  unfolding content_of
  counted_none = record {
    judged = judged-none (judge_size table samples) table samples;
    count = ap length (sym (last_none table samples));
    sum = ap (λ (l : List Part). length (content_of l)) (sym (last_none table samples));
    fewer = omega arith;
    less = omega arith;
  }

  module _ (i kept bytes at : ℕ) (w : Counted table samples i kept bytes at) (l : i < row_count table) (f : judge_size table samples i ≡ Fine) (size : ℕ) (e : size ≡ size_of table i) where
    next : Judged (judge_size table samples) table samples (at + size) (i + 1)
    next = judged-more (judge_size table samples) table samples at i w.judged l f f size e

    pub counted-kept : (duration_of table i ≡ 0 → ⊥) → Counted table samples (i + 1) (kept + 1) (bytes + size) (at + size)
    counted-kept h = record {
      judged = next;
      count = sym (ap length (last-kept table samples i h) ∙ length-append (last_to table samples i) (part_at table samples i ∷ []) ∙ omega (arith, w.count));
      sum = sym (ap length (content-more table samples i h) ∙ length-append (content_of (last_to table samples i)) (bytes_of table samples i) ∙ omega (arith, w.sum, length-bytes table samples i (size-fine table samples i f).1));
      fewer = omega (arith, w.fewer);
      less = omega (arith, w.less);
    }

    pub counted-dropped : duration_of table i ≡ 0 → Counted table samples (i + 1) kept bytes (at + size)
    counted-dropped h = record {
      judged = next;
      count = w.count ∙ ap length (sym (last-dropped table samples i h));
      sum = w.sum ∙ ap (λ (l : List Part). length (content_of l)) (sym (last-dropped table samples i h));
      fewer = omega (arith, w.fewer);
      less = omega (arith, w.less);
    }

  module _ (i kept bytes at : ℕ) (w : Counted table samples i kept bytes at) (z : judge_whole table ≡ Fine) where
    pub counted-stops : i < row_count table → (r : Refusal) → judge_size table samples i ≡ Faulty r → Refused r ≡ drop_room table samples
    unfolding drop_room judge_drop
    counted-stops l r f = rw (← judged-stops (judge_size table samples) table samples at i w.judged z l r f)

    pub counted-left : row_count table ≤ i → (r : Refusal) → judge_left samples (row_count table) at ≡ Faulty r → Refused r ≡ drop_room table samples
    unfolding drop_room judge_drop
    counted-left l r f = rw (← judged-all (judge_size table samples) table samples at i w.judged z l, f)

    pub counted-all : row_count table ≤ i → judge_left samples (row_count table) at ≡ Fine → Done kept (kept * 8) bytes ≡ drop_room table samples
    unfolding drop_room judge_drop sizes_of
    counted-all l f =
        let n = le_antisymm w.judged.most l in
        let e : last_to table samples i ≡ lasting_of table samples = ap (last_to table samples) n ∙ last-all table samples in
        let t : length (table_of (last_to table samples i)) ≡ kept * 8 = length-table (last_to table samples i) ∙ ap (λ (x : ℕ). x * 8) (sym w.count) in
        rw (← judged-all (judge_size table samples) table samples at i w.judged z l, f, ← e, t, ← w.count, ← w.sum)

-- ---- copying

-- the samples of the rows before i that last stand in the outputs
pub record Copied (table samples rows₀ content₀ rows content : List ℕ) (i kept to at : ℕ) : Type 0 where
  pub most : i ≤ row_count table
  pub begins : at ≡ offset_of table i
  pub count : kept ≡ length (last_to table samples i)
  pub sum : to ≡ length (content_of (last_to table samples i))
  pub table_is : rows ≡ over (table_of (last_to table samples i)) rows₀
  pub content-is : content ≡ over (content_of (last_to table samples i)) content₀

module _ (table samples rows₀ content₀ : List ℕ) where
  pub copied_none : Copied table samples rows₀ content₀ rows₀ content₀ 0 0 0 0
  unfolding offset_of content_of table_of
  copied_none =
      let e = last_none table samples in
      record {
        most = omega arith;
        begins = refl;
        count = ap length (sym e);
        sum = ap (λ (l : List Part). length (content_of l)) (sym e);
        table_is = over-nil rows₀ ∙ ap (λ (l : List Part). over (table_of l) rows₀) (sym e);
        content-is = over-nil content₀ ∙ ap (λ (l : List Part). over (content_of l) content₀) (sym e);
      }

  module _ (room : Room table samples rows₀ content₀) (rows content : List ℕ) (i kept to at : ℕ) (w : Copied table samples rows₀ content₀ rows content i kept to at) where
    pub copied-long : (length rows ≡ length rows₀) × (length content ≡ length content₀)
    copied-long =
        let m = last_most table samples i (row_count table) w.most in
        let a = ap (λ (x : List Part). length (table_of x)) (last-all table samples) in
        let b = ap (λ (x : List Part). length (content_of x)) (last-all table samples) in (
          ap length w.table_is ∙ length_over (table_of (last_to table samples i)) rows₀ (omega (arith, m.0, room.for_table)),
          ap length w.content-is ∙ length_over (content_of (last_to table samples i)) content₀ (omega (arith, m.1, room.for_content)),
        )

    pub copied_all : row_count table ≤ i → (rows ≡ over (table_of (lasting_of table samples)) rows₀) × (content ≡ over (content_of (lasting_of table samples)) content₀)
    copied_all l =
        let e : last_to table samples i ≡ lasting_of table samples = ap (last_to table samples) (le_antisymm w.most l) ∙ last-all table samples in
        (w.table_is ∙ ap (λ (x : List Part). over (table_of x) rows₀) e, w.content-is ∙ ap (λ (x : List Part). over (content_of x) content₀) e)

    module _ (l : i < row_count table) (size : ℕ) (e : size ≡ size_of table i) where
      pub copied-inside : at + size ≤ length samples
      copied-inside = omega (arith, laid-inside table samples room.laid i l, offset-suc table i, w.begins)

      pub copied-dropped : duration_of table i ≡ 0 → Copied table samples rows₀ content₀ rows content (i + 1) kept to (at + size)
      copied-dropped h =
          let q = sym (last-dropped table samples i h) in
          record {
            most = omega arith;
            begins = rw add-one (omega (arith, offset-suc table i, w.begins));
            count = w.count ∙ ap length q;
            sum = w.sum ∙ ap (λ (x : List Part). length (content_of x)) q;
            table_is = w.table_is ∙ ap (λ (x : List Part). over (table_of x) rows₀) q;
            content-is = w.content-is ∙ ap (λ (x : List Part). over (content_of x) content₀) q;
          }

    module _ (fits : Bytes table) (end n : ℕ) (run : Lasts table i end n) where
      -- the run stands in both inputs
      pub run_inside : (i * 8 + (end - i) * 8 ≤ length table) × (at + n ≤ length samples)
      unfolding row_count
      run_inside = (
        omega (arith, run.goes, run.most),
        omega (arith, w.begins, run.sum, offset-most table end (row_count table) run.most, room.laid.used),
      )

      from-table : List ℕ
      from-table = part table (i * 8) (i * 8 + (end - i) * 8)

      from-samples : List ℕ
      from-samples = part samples at (at + n)

      rows_more : table_of (last_to table samples end) ≡ table_of (last_to table samples i) ++ from-table
      unfolding from-table
      rows_more =
          let e : end * 8 ≡ i * 8 + (end - i) * 8 = omega (arith, run.goes) in
          (ran table samples fits room.laid i end n run).rows ∙ ap (λ (x : ℕ). table_of (last_to table samples i) ++ part table (i * 8) x) e

      contents-more : content_of (last_to table samples end) ≡ content_of (last_to table samples i) ++ from-samples
      unfolding from-samples
      contents-more = (ran table samples fits room.laid i end n run).contents ∙ rw (run.sum, ← w.begins)

      sum_more : length (content_of (last_to table samples end)) ≡ to + n
      unfolding from-samples
      sum_more = ap length contents-more ∙ length-append (content_of (last_to table samples i)) from-samples ∙ omega (arith, w.sum, length_part samples at n run_inside.1)

      -- and there is room for it in both outputs
      pub run_room : (kept * 8 + (end - i) * 8 ≤ length rows) × (to + n ≤ length content)
      run_room =
          let m = last_most table samples end (row_count table) run.most in
          let a = ap (λ (x : List Part). length (table_of x)) (last-all table samples) in
          let b = ap (λ (x : List Part). length (content_of x)) (last-all table samples) in
          let t = length-table (last_to table samples end) in
          let k = (ran table samples fits room.laid i end n run).count in
          (omega (arith, m.0, t, k, a, w.count, run.goes, copied-long.0, room.for_table), omega (arith, m.1, b, sum_more, copied-long.1, room.for_content))

      pub copied-run : (rows₂ content₂ : List ℕ) → rows₂ ≡ wrote rows (kept * 8) (part table (i * 8) (i * 8 + (end - i) * 8)) → content₂ ≡ wrote content to (part samples at (at + n))
          → Copied table samples rows₀ content₀ rows₂ content₂ end (kept + (end - i)) (to + n) (at + n)
      unfolding from-table from-samples
      copied-run rows₂ content₂ p q = record {
        most = run.most;
        begins = omega (arith, w.begins, run.sum);
        count = omega (arith, (ran table samples fits room.laid i end n run).count, w.count, run.goes);
        sum = sym sum_more;
        table_is =
            p ∙ ap (λ (x : List ℕ). wrote x (kept * 8) from-table) w.table_is
            ∙ over-wrote (table_of (last_to table samples i)) rows₀ from-table (kept * 8) (omega (arith, length-table (last_to table samples i), w.count))
            ∙ ap (λ (x : List ℕ). over x rows₀) (sym rows_more);
        content-is =
            q ∙ ap (λ (x : List ℕ). wrote x to from-samples) w.content-is
            ∙ over-wrote (content_of (last_to table samples i)) content₀ from-samples to w.sum
            ∙ ap (λ (x : List ℕ). over x content₀) (sym contents-more);
      }
