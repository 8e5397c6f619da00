use Rattle.conform.proofs.Laws.{matches_from}
use Rattle.wvtt_cues.specs.Walk.{held_from}
use Rattle.wvtt_cues.specs.Cues.{sample_cues}
use Rattle.timeline.specs.Checking.{matches}
use Rattle.cues.specs.List.{cues_of}
use Rattle.records.specs.Records.{count}
use mathlib.Core.Path.{◌≡◌}
use Prim.Native.Nat.{◌≤◌}
use Rattle.conform.proofs.match_sample.Given as goal

abbrev pub invariant-loop-i : goal.invariant-loop-i
invariant-loop-i l = (l.i ≤ count l.records) × (matches_from l.scale l.records l.pool l.x l.i (held_from l.s l.at) ≡ matches (cues_of l.scale l.records l.pool) l.x.begin l.x.end (sample_cues l.s))
