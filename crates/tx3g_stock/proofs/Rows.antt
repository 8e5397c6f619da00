-- The rows of a track without fault, one after the other; the sample of row i begins at `at`.
use Prim.Native.Nat.{ℕ, zero, suc, ◌+◌, ◌-◌, ◌≤◌, ◌<◌}
use mathlib.Core.Path.{◌≡◌, refl, sym, ap, ◌∙◌}
use mathlib.Core.List.{List}
use native.Mathlib.Omega.{arith}
use native.Mathlib.Numerals.{add-one}
use lib.ListN.{length, take, drop, length-take}
use Rattle.verdict.specs.Verdict.{Fine}
use Rattle.verdict.proofs.Judgement.{both-fine}
use Rattle.boxes.specs.Boxes.{part}
use Rattle.table.specs.Table.{row_count, duration_of, size_of, offset_of, bytes_of, ReadableBy}
use Rattle.table.proofs.Laws.{offset-suc, offset-most, bytes-at, readable-iff}
use Rattle.tx3g_sample.specs.Sample.{judge_text, characters_in, judge_modifiers, judge_sample}
use Rattle.tx3g_sample.proofs.Laws.{text-fine, count_past}
use Rattle.tx3g_stock.specs.declared.Counts.{Counts}
use Rattle.tx3g_stock.specs.Stock.{judge_stock, kinds_in, kinds_to, counts_by, counts_to, counts_of}
use Rattle.tx3g_stock.specs.Terms.{together, AtMost}
use Rattle.tx3g_stock.proofs.Laws.{kinds-most, counts-together}

-- a sample without fault has its byte count
sample-long : (e s : List ℕ) → judge_sample e s ≡ Fine → 2 ≤ length s
unfolding judge_sample
sample-long e s h = let a = both-fine (judge_text s) (judge_modifiers e (characters_in s) s) h in omega (arith, text-fine s a.0, count_past s)

module _ (e table samples : List ℕ) (fine : judge_stock e table samples ≡ Fine) where
  readable : ReadableBy (judge_sample e) table samples × ((i : ℕ) → i < row_count table → 0 < duration_of table i)
  unfolding judge_stock
  readable = (readable-iff (judge_sample e) table samples).0 fine

  pub rows_few : row_count table ≤ 65536
  rows_few = readable.0.laid.count

  pub row-lasts : (i : ℕ) → i < row_count table → 0 < duration_of table i
  row-lasts = readable.1

  pub row_reads : (i : ℕ) → i < row_count table → judge_sample e (bytes_of table samples i) ≡ Fine
  row_reads = readable.0.reads

  pub offset-inside : (i : ℕ) → i ≤ row_count table → offset_of table i ≤ length samples
  offset-inside i h = omega (arith, offset-most table i (row_count table) h, readable.0.laid.used)

  module _ (at i size : ℕ) (h : i < row_count table) (begins : at ≡ offset_of table i) (long : size ≡ size_of table i) where
    pub row_ends : at + size ≤ length samples
    row_ends = omega (arith, offset-inside (suc i) h, offset-suc table i)

    pub row_next : at + size ≡ offset_of table (i + 1)
    row_next = rw add-one (omega (arith, offset-suc table i))

    pub row-bytes : take (at + size - at) (drop at samples) ≡ bytes_of table samples i
    unfolding part
    row-bytes = sym (bytes-at table samples i at size begins long)

    pub row_fine : judge_sample e (take (at + size - at) (drop at samples)) ≡ Fine
    row_fine = ap (judge_sample e) row-bytes ∙ row_reads i h

    pub row-long : 2 ≤ length (take (at + size - at) (drop at samples))
    row-long = sample-long e _ row_fine

-- ---- counting

module _ (e table samples : List ℕ) (fine : judge_stock e table samples ≡ Fine) where
  row-kinds : (k i : ℕ) → i < row_count table → kinds_in k (bytes_of table samples i) ≤ size_of table i
  unfolding bytes_of part
  row-kinds k i h =
      let m = kinds-most k (bytes_of table samples i) in
      let l : length (take (offset_of table (suc i) - offset_of table i) (drop (offset_of table i) samples)) ≤ size_of table i = rw length-take (omega (arith, offset-suc table i)) in
      omega arith

  kinds-to-most : (k i : ℕ) → i ≤ row_count table → kinds_to k table samples i ≤ offset_of table i
  unfolding kinds_to
  kinds-to-most k zero h = omega arith
  kinds-to-most k (suc i) h = omega (arith, kinds-to-most k i (omega arith), row-kinds k i h, offset-suc table i)

  pub counts-few : (i n : ℕ) → i ≤ row_count table → length samples ≤ n → AtMost n (counts_to table samples i)
  unfolding counts_to
  counts-few i n h l = record { by = λ k. kinds_to k table samples i; is = refl; most = λ k. omega (arith, kinds-to-most k i h, offset-inside e table samples fine i h) }

pub counts-none : (table samples : List ℕ) → record { hlit = 0; retired_blinking = 0; hclr = 0; krok = 0; dlay = 0; href = 0; tbox = 0; twrp = 0 } ≡ counts_to table samples 0
unfolding counts_to counts_by kinds_to
counts-none table samples = refl

pub counts-more : (table samples : List ℕ) (i : ℕ) (s : List ℕ) (c d : Counts) → c ≡ counts_to table samples i → s ≡ bytes_of table samples i
    → d ≡ together c (counts_by (λ k. kinds_in k s)) → d ≡ counts_to table samples (i + 1)
unfolding counts_to kinds_to
counts-more table samples i s c d e q r =
    r
    ∙ rw (e, q, add-one i) (counts-together (λ k. kinds_to k table samples i) (λ k. kinds_in k (bytes_of table samples i)))

pub counts_all : (table samples : List ℕ) (i : ℕ) (c : Counts) → c ≡ counts_to table samples i → i ≡ row_count table → c ≡ counts_of table samples
unfolding counts_of
counts_all table samples i c e h = e ∙ ap (counts_to table samples) h
