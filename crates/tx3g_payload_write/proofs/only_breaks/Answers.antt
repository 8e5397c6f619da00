use mathlib.Core.Path.{refl, sym, ◌∙◌}
use native.Mathlib.Omega.{arith}
use Rattle.tx3g_payload_write.proofs.Breaks.{only_no, only_yes, only_end}
use Rattle.tx3g_payload_write.proofs.only_breaks.Goals as goal

pub loop-at-init : goal.loop-at-init
loop-at-init c = (c.requires.0, c.requires.1, refl)

pub returns-then-not-is_break : goal.returns-then-not-is_break
returns-then-not-is_break c = sym (sym c.loop-at.invariant.2 ∙ only_no _ _ _ _ _ c.character_at-c.ensures (sym c.if-not-is_break.true ∙ c.is_break.ensures))

pub loop-at-smaller : goal.loop-at-smaller
loop-at-smaller c = let w = c.character_at-c.ensures in omega (arith, w.goes, w.ends)

pub loop-at-preserved : goal.loop-at-preserved
loop-at-preserved c =
    let w = c.character_at-c.ensures in
    (w.ends, w.rest, sym (only_yes _ _ _ _ _ w (sym c.if-not-is_break.false ∙ c.is_break.ensures)) ∙ c.loop-at.invariant.2)

pub returns : goal.returns
returns c = sym (sym c.loop-at.invariant.2 ∙ only_end c.args.utf16 c.args.text.now c.loop-at.at (omega arith))
