-- `sample_table::read_chunk` meets its contract.
use Rattle.std.proofs.Common.{ℕ, ◌≡◌, length, arith, subst}
use Rattle.sample_table.specs.Reads.{Moved}
use Rattle.sample_table.proofs.Laws.{by_read}
use Rattle.sample_table.proofs.read_chunk.Goals as goal

pub returns : goal.returns
returns g c = let read = c.read_once-got in
    let whole : length read.new.buffer ≡ 65536 = omega (arith, read.auto.buffer) in
    by_read c.args.state read.result read.new.buffer c.take_read.result whole
    (subst (λ (n : ℕ). Moved n read.result) whole read.ensures) c.take_read.ensures
