-- `wvtt_write::put_header` meets its contract: two numbers, one behind the other.
use Rattle.fields.specs.BigEndian.{bytes}
use Rattle.fields.proofs.BigEndian.{length-bytes}
use Rattle.base.specs.Over.{wrote}
use Rattle.base.proofs.Over.{wrote-more}
use native.Mathlib.Omega.{arith}
use Prim.Native.Nat.{ℕ, ◌+◌}
use mathlib.Core.Path.{ap, ◌∙◌}
use mathlib.Core.List.{List}
use Rattle.wvtt_write.proofs.put_header.Goals as goal

pub returns : goal.returns
returns c = let a = c.args in
    let l = length-bytes 4 a.size in
    c.put32-2.ensures
    ∙ ap (λ (d : List ℕ). wrote d (a.at + 4) (bytes 4 a.kind)) c.put32.ensures
    ∙ wrote-more a.out.now a.at (a.at + 4) (bytes 4 a.size) (bytes 4 a.kind) (omega arith) (omega arith)
