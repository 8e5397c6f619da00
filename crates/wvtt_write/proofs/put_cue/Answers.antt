-- `wvtt_write::put_cue` meets its contract: three writes, each behind the one before.
use Rattle.base.proofs.Over.{in_three}
use Rattle.wvtt_write.proofs.Laws.{pooled-size}
use Rattle.wvtt_write.proofs.Laws.{cue-is}
use Rattle.wvtt_write.specs.Written.{pooled, cue_size, text_items}
use Rattle.wvtt.specs.Kinds.{vttc, vsid}
use Rattle.boxes.proofs.Written.{length-box}
use Rattle.boxes.specs.Written.{box_bytes, item_bytes}
use Rattle.fields.specs.BigEndian.{bytes}
use Rattle.fields.proofs.BigEndian.{length-bytes}
use Rattle.base.specs.Over.{wrote}
use lib.ListN.{length, length-append}
use native.Mathlib.Omega.{arith}
use Prim.Native.Nat.{ℕ, ◌+◌}
use mathlib.Core.Path.{◌≡◌, refl, ap, sym, ◌∙◌}
use mathlib.Core.List.{◌++◌}
use Rattle.wvtt_write.proofs.put_cue.Goals as goal

pub put_header-requires : goal.put_header-requires
unfolding cue_size
put_header-requires c = omega arith

pub put_id-requires : goal.put_id-requires
unfolding cue_size
put_id-requires c = omega arith

pub put_texts-requires : goal.put_texts-requires
unfolding cue_size
put_texts-requires c = omega arith

pub returns : goal.returns
unfolding cue_size pooled text_items
returns c = let a = c.args in
    let y = pooled a.id a.pool.now a.from a.identifier a.settings a.payload in
    let z = pooled-size a.id a.pool.now a.from a.identifier a.settings a.payload (omega arith) in
    let s : c.cue_size-size.result ≡ 20 + length (item_bytes (text_items y)) = omega (arith, c.cue_size-size.ensures.0, z) in
    let h : length (bytes 4 c.cue_size-size.result ++ bytes 4 vttc) ≡ 8 = simp (length-append, length-bytes) in
    let b : length (box_bytes vsid (bytes 4 a.id)) ≡ 12 = rw (length-box, length-bytes) in (
      omega arith,
      in_three _ _ _ _ _ _ _ _ _ _ c.put_header.ensures c.put_id.ensures c.put_texts.ensures (omega arith) (omega arith) (omega arith)
          ∙ ap (λ (k : ℕ). wrote a.out.now a.at (bytes 4 k ++ bytes 4 vttc ++ (box_bytes vsid (bytes 4 a.id) ++ item_bytes (text_items y)))) s
          ∙ ap (wrote a.out.now a.at) (sym (cue-is y a.id refl)),
    )
