use Rattle.base.proofs.Results.{passed_on}
use Rattle.tx3g_rules.proofs.Laws.{style-room, style-place, style-is, end-zero, end_more}
use Rattle.tx3g_rules.specs.Rules.{judge_style}
use Rattle.tx3g_contents.proofs.Laws.{styles-past}
use Rattle.tx3g_fonts.proofs.Laws.{slotted}
use Rattle.tx3g_fonts.specs.Fonts.{has_font}
use Rattle.fields.specs.BigEndian.{be}
use Rattle.verdict.specs.Judgement.{each}
use Rattle.verdict.proofs.Judgement.{each_more, each-stops}
use mathlib.Core.Path.{◌≡◌, refl, sym, ◌∙◌}
use Prim.Native.Nat.{◌<◌}
use native.Mathlib.Omega.{arith}
use Rattle.tx3g_rules.proofs.judge_styles.Goals as goal

pub enter_fonts-requires : goal.enter_fonts-requires
enter_fonts-requires c = (c.requires.0, refl)

pub get16-count-requires : goal.get16-count-requires
get16-count-requires c = let w = styles-past c.args.s.now c.args.body in omega arith

pub loop-k-init : goal.loop-k-init
unfolding each
loop-k-init c = (end-zero c.args.s.now _, refl)

pub overflow_add-at : goal.overflow_add-at
overflow_add-at c = omega (arith, style-room c.args.s.now c.args.body c.loop-k.k _ (omega (arith, c.get16-count.ensures.0)) c.requires.1)

pub overflow_mul-at : goal.overflow_mul-at
overflow_mul-at c = omega (arith, style-room c.args.s.now c.args.body c.loop-k.k _ (omega (arith, c.get16-count.ensures.0)) c.requires.1)

pub overflow_add-at-in-loop-k : goal.overflow_add-at-in-loop-k
overflow_add-at-in-loop-k c = omega (arith, style-room c.args.s.now c.args.body c.loop-k.k _ (omega (arith, c.get16-count.ensures.0)) c.requires.1)

pub judge_style-requires : goal.judge_style-requires
judge_style-requires c = (c.requires.0, rw c.enter_fonts.ensures (slotted _ _), style-room c.args.s.now c.args.body c.loop-k.k _ (omega (arith, c.get16-count.ensures.0)) c.requires.1)

pub returns-in_err-judge_style : goal.returns-in_err-judge_style
returns-in_err-judge_style c =
    let counted : c.loop-k.k < be 2 c.args.s.now c.args.body = omega (arith, c.get16-count.ensures.0) in
    let turn : judge_style (has_font c.args.e.now c.args.fonts) c.args.characters c.args.s.now c.args.place c.args.body c.loop-k.k ≡ c.judge_style.result = sym (style-is _ _ _ _ _ _ _ _ c.loop-k.invariant.0 (style-place c.args.s.now _ _)) ∙ sym c.judge_style.ensures in
    passed_on _ _ c.from_residual.ensures ∙ sym (each-stops _ _ _ _ (counted) c.loop-k.invariant.1 (turn ∙ c.in_err-judge_style.was))

pub overflow_add-at-in-loop-k-2 : goal.overflow_add-at-in-loop-k-2
overflow_add-at-in-loop-k-2 c = omega (arith, style-room c.args.s.now c.args.body c.loop-k.k _ (omega (arith, c.get16-count.ensures.0)) c.requires.1)

pub get16-previous-requires : goal.get16-previous-requires
get16-previous-requires c = omega (arith, style-room c.args.s.now c.args.body c.loop-k.k _ (omega (arith, c.get16-count.ensures.0)) c.requires.1)

pub loop-k-preserved : goal.loop-k-preserved
loop-k-preserved c =
    let turn : judge_style (has_font c.args.e.now c.args.fonts) c.args.characters c.args.s.now c.args.place c.args.body c.loop-k.k ≡ c.judge_style.result = sym (style-is _ _ _ _ _ _ _ _ c.loop-k.invariant.0 (style-place c.args.s.now _ _)) ∙ sym c.judge_style.ensures in
    (end_more _ _ _ _ _ (style-place c.args.s.now _ _) c.get16-previous.ensures.0, each_more _ _ c.loop-k.invariant.1 (turn ∙ c.in_ok-judge_style.was))

pub returns : goal.returns
returns c = let e : c.loop-k.k ≡ c.get16-count.result = omega arith in rw (← c.get16-count.ensures.0, ← e) (sym c.loop-k.invariant.1)
