-- Seven bytes for each flag.
use mathlib.Core.Path.{sym}
use native.Mathlib.Omega.{arith}
use Rattle.tx3g_tidy.proofs.Measuring.{tags-are}
use Rattle.tx3g_tidy.proofs.tags_size.Goals as goal

pub returns : goal.returns
returns c = (sym (tags-are c.args.face), omega arith)
