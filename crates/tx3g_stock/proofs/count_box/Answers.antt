-- Each number by itself.
use Rattle.tx3g_stock.specs.Stock.{counts_by}
use Rattle.tx3g_stock.proofs.count_box.Goals as goal

pub returns : goal.returns
unfolding counts_by
returns c = λ i. record {
  hlit = c.count_kind.ensures i;
  retired_blinking = c.count_kind-2.ensures i;
  hclr = c.count_kind-3.ensures i;
  krok = c.count_kind-4.ensures i;
  dlay = c.count_kind-5.ensures i;
  href = c.count_kind-6.ensures i;
  tbox = c.count_kind-7.ensures i;
  twrp = c.count_kind-8.ensures i;
}
