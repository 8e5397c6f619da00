-- The configuration, two line ends, and all cues.
use mathlib.Core.Path.{◌∙◌}
use native.Mathlib.Omega.{arith}
use lib.ListN.{length-set}
use Rattle.vtt_write.proofs.Laws.{file-written}
use Rattle.vtt_write.proofs.put_file.Goals as goal

pub bounds-out-n-2 : goal.bounds-out-n-2
bounds-out-n-2 c = simp length-set (omega (arith, c.put_text-n.ensures.0, c.put_text-n.auto.pool))

pub put_cues-requires : goal.put_cues-requires
put_cues-requires c = (c.requires.0, simp length-set (omega (arith, c.requires.1, c.put_text-n.ensures.0, c.put_text-n.auto.pool)))

pub shape_of-out : goal.shape_of-out
shape_of-out c = c.put_cues.auto.out ∙ simp length-set c.put_text-n.auto.pool

pub returns : goal.returns
returns c = file-written c.args.out.now _ _ c.args.configuration.now c.args.records.now c.args.pool.now _ c.put_text-n.ensures.0 (omega (arith, c.requires.1, c.put_text-n.ensures.0)) c.put_text-n.ensures.1 c.put_cues.ensures
