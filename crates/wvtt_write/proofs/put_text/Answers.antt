-- `wvtt_write::put_text` meets its contract: a header, and the copy behind it.
use Rattle.wvtt_write.proofs.Laws.{length_part, boxed}
use Rattle.fields.specs.BigEndian.{bytes}
use Rattle.boxes.specs.Boxes.{part}
use Rattle.base.specs.Over.{wrote}
use native.Mathlib.Omega.{arith}
use Prim.Native.Nat.{ℕ, ◌+◌}
use mathlib.Core.Path.{ap, sym, ◌∙◌}
use mathlib.Core.List.{List, ◌++◌}
use Rattle.wvtt_write.proofs.put_text.Goals as goal

pub returns : goal.returns
returns c = let a = c.args in
    let t = part a.pool.now a.from (a.from + a.n) in
    c.copy_run.ensures
    ∙ ap (λ (d : List ℕ). wrote d (a.at + 8) t) c.put_header.ensures
    ∙ ap (λ (n : ℕ). wrote (wrote a.out.now a.at (bytes 4 (n + 8) ++ bytes 4 a.kind)) (a.at + 8) t) (sym (length_part a.pool.now a.from a.n (omega arith)))
    ∙ boxed a.out.now a.at a.kind t (omega arith)
