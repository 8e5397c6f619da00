use Rattle.vtt_lines.proofs.sees_arrow.Goals as goal

pub returns-else-seen : goal.returns-else-seen
returns-else-seen c = rw c.if-seen.false c.holds_arrow.ensures
