use Prim.Native.Nat.{ℕ}
use mathlib.Core.Path.{ap, ◌∙◌}
use mathlib.Core.Bool.{not}
use mathlib.Core.List.{List}
use native.Mathlib.Omega.{arith}
use native.Mathlib.Numerals.{add-one}
use lib.Dec.{eqb}
use lib.Seq.{take_all}
use Rattle.tx3g_tidy.specs.Escapes.{extras}
use Rattle.tx3g_tidy.proofs.Escapes.{plain-first, plain-next}
use Rattle.tx3g_tidy.proofs.has_escapes.Goals as goal

pub loop-b-init : goal.loop-b-init
loop-b-init c = plain-first c.args.text.now

pub loop-b-preserved : goal.loop-b-preserved
loop-b-preserved c =
    let l = c.loop-b in
    rw add-one (plain-next _ _ l.x c.escape_mark-x.result (omega arith) l.invariant c.escape_mark-x.ensures)

pub returns : goal.returns
returns c = ap not (c.loop-b.invariant ∙ ap (λ (s : List ℕ). eqb (extras s) 0) (take_all _ _ (omega arith)))
