-- `wvtt_write::put_id` meets its contract: a header, and the number behind it.
use Rattle.wvtt_write.proofs.Laws.{boxed}
use Rattle.wvtt.specs.Kinds.{vsid}
use Rattle.fields.specs.BigEndian.{bytes}
use Rattle.fields.proofs.BigEndian.{length-bytes}
use Rattle.base.specs.Over.{wrote}
use native.Mathlib.Omega.{arith}
use Prim.Native.Nat.{ℕ, ◌+◌}
use mathlib.Core.Path.{ap, sym, ◌∙◌}
use mathlib.Core.List.{List, ◌++◌}
use Rattle.wvtt_write.proofs.put_id.Goals as goal

pub returns : goal.returns
returns c = let a = c.args in
    c.put32.ensures
    ∙ ap (λ (d : List ℕ). wrote d (a.at + 8) (bytes 4 a.id)) c.put_header.ensures
    ∙ ap (λ (n : ℕ). wrote (wrote a.out.now a.at (bytes 4 (n + 8) ++ bytes 4 vsid)) (a.at + 8) (bytes 4 a.id)) (sym (length-bytes 4 a.id))
    ∙ boxed a.out.now a.at vsid (bytes 4 a.id) (omega arith)
