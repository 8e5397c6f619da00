-- The loop that judges a table row by row.
use Prim.Native.Nat.{ℕ, ◌+◌, ◌≤◌, ◌<◌}
use mathlib.Core.Path.{◌≡◌, refl, sym, ap, ◌∙◌}
use mathlib.Core.List.{List}
use native.Mathlib.Omega.{arith}
use native.Mathlib.Nat.{le_antisymm}
use native.Mathlib.Numerals.{add-one}
use lib.ListN.{length}
use Rattle.verdict.specs.declared.Refusal.{Refusal}
use Rattle.verdict.specs.Verdict.{Verdict, Fine, Refused}
use Rattle.verdict.specs.Judgement.{each}
use Rattle.verdict.proofs.Judgement.{each_more, each-stops}
use Rattle.table.specs.Table.{row_count, size_of, offset_of, judge_size, judge_whole, judge_left, judge_rows}
use Rattle.table.proofs.Laws.{offset-suc, size-fine}

-- no fault in the rows before i, and the sample of row i begins at `at`
pub record Judged (row : ℕ → Verdict) (table samples : List ℕ) (at i : ℕ) : Type 0 where
  pub most : i ≤ row_count table
  pub begins : at ≡ offset_of table i
  pub inside : at ≤ length samples
  pub fine : each row i ≡ Fine

module _ (row : ℕ → Verdict) (table samples : List ℕ) where
  pub judged-none : Judged row table samples 0 0
  unfolding offset_of each
  judged-none = record { most = omega arith; begins = refl; inside = omega arith; fine = refl }

  module _ (at i : ℕ) (w : Judged row table samples at i) where
    -- a sample that lies in the bytes ends there, too
    pub judged-ends : (size : ℕ) → size ≡ size_of table i → judge_size table samples i ≡ Fine → at + size ≤ length samples
    judged-ends size e h = omega (arith, (size-fine table samples i h).1, offset-suc table i, w.begins)

    pub judged-more : i < row_count table → row i ≡ Fine → judge_size table samples i ≡ Fine → (size : ℕ) → size ≡ size_of table i → Judged row table samples (at + size) (i + 1)
    judged-more l f h size e = record {
      most = omega arith;
      begins = rw add-one (omega (arith, offset-suc table i, w.begins));
      inside = judged-ends size e h;
      fine = each_more row i w.fine f;
    }

    pub judged-stops : judge_whole table ≡ Fine → i < row_count table → (r : Refusal) → row i ≡ Refused r → Refused r ≡ judge_rows row table samples
    unfolding judge_rows
    judged-stops z l r f = rw (z, each-stops row i (row_count table) r l w.fine f)

    pub judged-all : judge_whole table ≡ Fine → row_count table ≤ i → judge_left samples (row_count table) at ≡ judge_rows row table samples
    unfolding judge_rows
    judged-all z l =
        let n = le_antisymm w.most l in
        let e = ap (each row) (sym n) ∙ w.fine in
        let o = ap (offset_of table) (sym n) ∙ sym w.begins in
        rw (z, e, o)
