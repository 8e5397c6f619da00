-- Nothing is written for no payload; else the cue.
use borrow.Author.Rules.{rules}
use Rattle.tx3g_payload_write.specs.Sample.{payload_in}
use Rattle.tx3g_convert.proofs.Writing.{short-payload, none-wrote, some-short, some_fits, some-wrote}
use Rattle.tx3g_convert.proofs.write_sample.Goals as goal

pub put_sample-n-requires : goal.put_sample-n-requires
put_sample-n-requires c = let a = c.args in let p = c.requires in (p.2, p.3, short-payload (payload_in a.e.now a.s.now) (λ t. (p.5 t).short), p.4)

pub returns-then-n-eq0 : goal.returns-then-n-eq0
returns-then-n-eq0 c = let put = c.put_sample-n.ensures in none-wrote _ _ _ _ _ _ _ put.0 put.1 c.if-n-eq0.true _ _ _ c.behind.ensures

pub slice_bounds-put_payload-end : goal.slice_bounds-put_payload-end
slice_bounds-put_payload-end c =
    let a = c.args in
    let put = c.put_sample-n.ensures in
    let l = some-short a.scale a.duration a.state _ _ _ _ put.0 put.1 c.if-n-eq0.false _ _ c.requires.5 in
    search rules

pub put_payload-requires : goal.put_payload-requires
put_payload-requires c =
    let p = c.requires in
    let put = c.put_sample-n.ensures in
    (p.0, p.1, some_fits _ _ _ _ _ _ _ put.0 put.1 c.if-n-eq0.false _ _ p.5)

pub behind-requires-2 : goal.behind-requires-2
behind-requires-2 c =
    let a = c.args in
    let p = c.requires in
    let put = c.put_sample-n.ensures in
    (p.1, some-short a.scale a.duration a.state _ _ _ _ put.0 put.1 c.if-n-eq0.false _ _ p.5)

pub returns : goal.returns
returns c =
    let put = c.put_sample-n.ensures in
    let cue = c.put_payload.ensures in
    some-wrote _ _ _ _ _ _ _ put.0 put.1 c.if-n-eq0.false _ _ c.requires.5 _ _ _ c.behind-2.ensures cue.0 cue.1
