-- `wvtt_write::put_texts` meets its contract: three writes, each behind the one before.
use Rattle.base.proofs.Over.{in_three}
use Rattle.wvtt_write.proofs.Laws.{length-any, pooled-lengths, texts-are}
use Rattle.wvtt_write.specs.Written.{if_any, pooled, any_size, texts_size}
use Rattle.wvtt.specs.Kinds.{iden, sttg}
use Rattle.boxes.specs.Written.{item_bytes}
use Rattle.base.specs.Over.{wrote}
use lib.ListN.{length}
use native.Mathlib.Omega.{arith}
use Prim.Native.Nat.{ℕ, ◌+◌}
use mathlib.Core.Path.{◌≡◌, ap, sym, ◌∙◌}
use Rattle.wvtt_write.proofs.put_texts.Goals as goal

pub put_any-behind-requires : goal.put_any-behind-requires
unfolding texts_size
put_any-behind-requires c = omega arith

pub put_any-last-requires : goal.put_any-last-requires
unfolding texts_size
put_any-last-requires c = omega arith

pub put_text-requires : goal.put_text-requires
unfolding texts_size
put_text-requires c = omega arith

pub returns : goal.returns
unfolding texts_size pooled
returns c = let a = c.args in
    let y = pooled 0 a.pool.now a.from a.identifier a.settings a.payload in
    let n = pooled-lengths 0 a.pool.now a.from a.identifier a.settings a.payload (omega arith) in
    let x : length (item_bytes (if_any iden y.identifier)) ≡ any_size a.identifier = length-any iden y.identifier ∙ ap any_size n.0 in
    let z : length (item_bytes (if_any sttg y.settings)) ≡ any_size a.settings = length-any sttg y.settings ∙ ap any_size n.1 in
    in_three _ _ _ _ _ _ _ _ _ _ c.put_any-behind.ensures.1 c.put_any-last.ensures.1 c.put_text.ensures
    (c.put_any-behind.ensures.0 ∙ ap (λ (k : ℕ). a.at + k) (sym x)) (c.put_any-last.ensures.0 ∙ ap (λ (k : ℕ). c.put_any-behind.result + k) (sym z)) (omega arith)
    ∙ ap (wrote a.out.now a.at) (sym (texts-are y))
