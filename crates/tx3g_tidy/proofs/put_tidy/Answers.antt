-- By what is counted.
use mathlib.Core.Path.{refl}
use Rattle.base.proofs.Over.{over-nil}
use Rattle.tx3g_payload_write.proofs.Texts.{text-of-fine}
use Rattle.tx3g_tidy.proofs.Samples.{none-counted, some-counted, good-is}
use Rattle.tx3g_tidy.proofs.put_tidy.Goals as goal

pub count_tidy-n-requires : goal.count_tidy-n-requires
count_tidy-n-requires c = text-of-fine _ _ c.requires.1

pub returns-then-n-eq0 : goal.returns-then-n-eq0
returns-then-n-eq0 c = rw (none-counted _ (text-of-fine _ _ c.requires.1) (λ j. (c.type_inv.s j).fits) _ c.count_tidy-n.ensures c.if-n-eq0.true) (refl, over-nil _)

pub put_parts-requires : goal.put_parts-requires
put_parts-requires c =
    let p = c.requires in
    let w = some-counted _ (text-of-fine _ _ p.1) (λ j. (c.type_inv.s j).fits) _ c.count_tidy-n.ensures c.if-n-eq0.false in
    (good-is _ _ _ p.0 p.1 w.1, w.0, p.2, p.3)

pub returns : goal.returns
returns c =
    let w = some-counted _ (text-of-fine _ _ c.requires.1) (λ j. (c.type_inv.s j).fits) _ c.count_tidy-n.ensures c.if-n-eq0.false in
    rw w.0 c.put_parts.ensures
