-- `sample_table::read_line` meets its contract.
use Rattle.sample_table.proofs.Laws.{led-nowhere, led_on, led-to-last, led-out}
use Rattle.sample_table.proofs.read_line.Goals as goal

pub loop-init : goal.loop-init
loop-init g c = led-nowhere c.args.state

pub returns-then-chunk : goal.returns-then-chunk
returns-then-chunk g c = led-to-last c.args.state c.loop.reached c.loop.invariant
    c.read_chunk-chunk.result c.read_chunk-chunk.ensures c.if-chunk.true c.finish.result c.finish.ensures

pub loop-preserved : goal.loop-preserved
loop-preserved g c = led_on c.args.state c.loop.reached c.loop.invariant
    c.read_chunk-chunk.result c.read_chunk-chunk.ensures c.if-chunk.false

pub returns : goal.returns
returns g c = led-out c.args.state c.loop.reached c.loop.invariant
