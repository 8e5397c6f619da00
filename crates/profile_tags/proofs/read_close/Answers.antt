-- A letter and > ; else the tag's word.
use Rattle.profile_tags.proofs.Starts.{close-short}
use Rattle.profile_tags.proofs.read_close.Goals as goal

pub returns-then-is_short : goal.returns-then-is_short
returns-then-is_short c = close-short _ _ _ (rw c.if-is_short.true at c.is_short.ensures)
