-- `listing::put_rows` meets its contract. The invariant: the lines of the first k records stand at the front.
use Prim.Native.Nat.{◌*◌, ◌≤◌}
use mathlib.Core.Path.{◌≡◌}
use lib.ListN.{length}
use Rattle.base.specs.Over.{over}
use Rattle.listing.specs.Listing.{rows_text}
use Rattle.listing.proofs.put_rows.Given as goal

abbrev pub invariant-loop-k : goal.invariant-loop-k
invariant-loop-k l = (l.at ≤ l.k * 22) × (length l.out ≡ length l.initial.out) × (l.at ≡ length (rows_text l.table l.k)) × (l.out ≡ over (rows_text l.table l.k) l.initial.out)
