use Rattle.fields.specs.BigEndian.{bytes}
use Rattle.fields.proofs.BigEndian.{length-bytes}
use Rattle.base.specs.Over.{wrote}
use Rattle.base.proofs.Over.{wrote-more}
use Prim.Native.Nat.{ℕ, ◌+◌, ◌*◌}
use mathlib.Core.List.{List}
use mathlib.Core.Path.{◌∙◌, ap}
use native.Mathlib.Omega.{arith}
use Rattle.table.proofs.put_row.Goals as goal

pub returns : goal.returns
returns c = let a = c.args in
    let l = length-bytes 4 a.duration in
    c.put32-2.ensures ∙ ap (λ (d : List ℕ). wrote d (a.i * 8 + 4) (bytes 4 a.size)) c.put32.ensures ∙ wrote-more _ _ _ _ _ (omega arith) (omega arith)
