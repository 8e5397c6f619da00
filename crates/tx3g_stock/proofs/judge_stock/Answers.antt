-- `tx3g_stock::judge_stock` meets its contract: the judgement of a table, by that of a sample beside the entry.
use Rattle.tx3g_sample.specs.Sample.{judge_sample}
use Rattle.tx3g_stock.specs.Stock.{judge_stock}
use Rattle.tx3g_stock.proofs.judge_stock.Goals as goal

pub returns : goal.returns
unfolding judge_stock
returns c = c.judge_by.ensures (judge_sample c.args.e.now) (λ y r p. cc)
