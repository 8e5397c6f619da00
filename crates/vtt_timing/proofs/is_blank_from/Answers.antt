-- The run of blanks ends with the text.
use Rattle.vtt_timing.specs.Timing.{blank}
use Rattle.vtt_timing.proofs.Laws.{none-behind}
use Rattle.vtt_timing.proofs.is_blank_from.Goals as goal

pub returns : goal.returns
returns c = none-behind blank c.args.s.now c.args.at _ c.pass_run.ensures.0 c.pass_run.ensures.1
