-- A `tx3g` track: its judgement beside an entry, and the boxes that a conversion drops. Document 01, 'Order'; document 02, K9.
use Rattle.std.specs.Prelude.{ℕ, zero, suc, ◌+◌, List, eqb, length}
use Rattle.base.specs.Choice.{pick}
use Rattle.verdict.specs.Verdict.{Verdict}
use Rattle.boxes.specs.Boxes.{Boxes, clean, broken, box, boxes_in}
use Rattle.table.specs.Table.{row_count, bytes_of, judge_row_by, judge_rows}
use Rattle.tx3g_contents.specs.Kinds.{hlit, blnk, hclr, krok, dlay, href, tbox, twrp}
use Rattle.tx3g_sample.specs.Sample.{text_end, judge_sample}
use Rattle.tx3g_stock.specs.declared.Counts.{Counts}

-- the track, as in unpacking, each sample read as `tx3g` beside the entry
unfoldable pub judge_stock : List ℕ → List ℕ → List ℕ → Verdict
judge_stock e table samples = judge_rows (judge_row_by (judge_sample e) table samples) table samples

-- ---- the boxes that are dropped

-- how many boxes are of kind k; what their bodies hold is not looked at
unfoldable pub of_kind : ℕ → Boxes → ℕ
of_kind k clean = 0
of_kind k (broken r) = 0
of_kind k (box p j b n rest) = pick (eqb j k) 1 0 + of_kind k rest

unfoldable pub kinds_in : ℕ → List ℕ → ℕ
unfolding of_kind
kinds_in k s = of_kind k (boxes_in s (text_end s) (length s))

-- over the first n samples, with text left or not
unfoldable pub kinds_to : ℕ → List ℕ → List ℕ → ℕ → ℕ
unfolding kinds_in
kinds_to k table samples zero = 0
kinds_to k table samples (suc i) = kinds_to k table samples i + kinds_in k (bytes_of table samples i)

-- a number for each kind that is dropped and counted: all that document 01 names but `styl`; `blnk` under the name that document 02 gives it, K13
unfoldable pub counts_by : (ℕ → ℕ) → Counts
counts_by f =
    record {
      hlit = f hlit;
      retired_blinking = f blnk;
      hclr = f hclr;
      krok = f krok;
      dlay = f dlay;
      href = f href;
      tbox = f tbox;
      twrp = f twrp;
    }

unfoldable pub counts_to : List ℕ → List ℕ → ℕ → Counts
unfolding kinds_to counts_by
counts_to table samples n = counts_by (λ k. kinds_to k table samples n)

unfoldable pub counts_of : List ℕ → List ℕ → Counts
unfolding counts_to
counts_of table samples = counts_to table samples (row_count table)
