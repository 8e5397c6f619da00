-- `wvtt_entry::read_entry` meets its contract: a refusal is passed on.
use Rattle.wvtt_entry.proofs.Laws.{entry-fixed}
use mathlib.Core.Path.{sym, ◌∙◌}
use Rattle.wvtt_entry.proofs.read_entry.Goals as goal

pub read_whole-requires : goal.read_whole-requires
read_whole-requires c = entry-fixed _ (sym c.judge_entry.ensures ∙ c.in_ok-judge_entry.was)
