-- Put at once; or nothing was put, and it is made.
use Rattle.tx3g_tidy.specs.Tidy.{tidy_in}
use Rattle.tx3g_convert.proofs.Writing.{put-at-once, put_then}
use Rattle.tx3g_convert.proofs.put_sample.Goals as goal

pub returns-then-put-gt0 : goal.returns-then-put-gt0
returns-then-put-gt0 c = let put = c.put_tidy-put.ensures in put-at-once (tidy_in c.args.s.now) _ _ _ _ put.0 put.1 c.if-put-gt0.true

pub returns-else-put-gt0 : goal.returns-else-put-gt0
returns-else-put-gt0 c = let put = c.put_tidy-put.ensures in put_then (tidy_in c.args.s.now) _ _ _ _ put.0 put.1 c.if-put-gt0.false c.requires.2 _ _ c.make_payload.ensures
