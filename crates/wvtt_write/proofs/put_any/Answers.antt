-- `wvtt_write::put_any` meets its contract: no bytes write nothing.
use Rattle.wvtt_write.proofs.Laws.{length_part, any_none, any_some, any-size}
use Rattle.boxes.specs.Boxes.{part}
use Rattle.base.specs.Over.{wrote}
use Rattle.base.proofs.Over.{wrote-nil}
use lib.ListN.{length}
use native.Mathlib.Nat.{add-zero}
use native.Mathlib.Omega.{arith}
use Prim.Native.Nat.{◌+◌}
use mathlib.Core.Path.{◌≡◌, ap, sym, ◌∙◌}
use Rattle.wvtt_write.proofs.put_any.Goals as goal

pub returns-then-n-eq0 : goal.returns-then-n-eq0
returns-then-n-eq0 c = let a = c.args in
    let t = part a.pool.now a.from (a.from + a.n) in
    let l : length t ≡ 0 = length_part a.pool.now a.from a.n (omega arith) ∙ c.if-n-eq0.true in
    (rw c.if-n-eq0.true (sym (add-zero a.at)), wrote-nil a.out.now a.at ∙ ap (wrote a.out.now a.at) (sym (any_none a.kind t l)))

pub put_text-requires : goal.put_text-requires
put_text-requires c = omega (arith, any-size c.args.n c.if-n-eq0.false)

pub returns : goal.returns
returns c = let a = c.args in
    let t = part a.pool.now a.from (a.from + a.n) in
    let l = length_part a.pool.now a.from a.n (omega arith) in (
      omega (arith, any-size a.n c.if-n-eq0.false),
      c.put_text.ensures ∙ ap (wrote a.out.now a.at) (sym (any_some a.kind t (λ z. c.if-n-eq0.false (sym l ∙ z)))),
    )
