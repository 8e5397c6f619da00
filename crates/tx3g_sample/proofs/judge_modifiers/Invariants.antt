-- `tx3g_sample::judge_modifiers` meets its contract. The invariant: the kinds so far, and judging what is left gives the whole answer.
use Rattle.tx3g_sample.specs.Sample.{in_sample, modifiers_of}
use Rattle.tx3g_seen.specs.Seen.{Marks}
use Rattle.tx3g_entry.specs.Entry.{nothing_more}
use Rattle.tx3g_fonts.specs.Fonts.{has_font}
use Rattle.boxes.specs.Boxes.{boxes_in, judged}
use lib.ListN.{length}
use mathlib.Core.List.{List}
use mathlib.Core.Path.{◌≡◌}
use Prim.Native.Nat.{ℕ, ◌-◌}
use Rattle.tx3g_sample.proofs.judge_modifiers.Given as goal

abbrev pub invariant-loop-kind : goal.invariant-loop-kind
invariant-loop-kind l = (before : List ℕ) × Marks l.seen before × (judged (in_sample (has_font l.e l.fonts) l.characters l.s) nothing_more before (boxes_in l.s l.at (length l.s)) ≡ modifiers_of (has_font l.e l.fonts) l.characters l.s l.from)

abbrev pub decreases-loop-kind : goal.decreases-loop-kind
decreases-loop-kind l = length l.s - l.at
