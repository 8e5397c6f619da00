use Rattle.tx3g_fonts.proofs.Laws.{taken_more, among-zero, font-zero, font-more, font-room, fonts-from, fresh-new, fresh-old}
use Rattle.tx3g_fonts.specs.Fonts.{font_among}
use Rattle.verdict.specs.Judgement.{each}
use Rattle.verdict.proofs.Judgement.{each_more, each-stops}
use mathlib.Core.Path.{◌≡◌, refl, sym, ◌∙◌}
use mathlib.Core.Bool.{false}
use native.Mathlib.Omega.{arith}
use Rattle.tx3g_fonts.proofs.judge_ids.Goals.{else-taken-slot-via-then-taken-slot+else-is_among, else-taken-slot-via-else-taken-slot}
use Rattle.tx3g_fonts.proofs.judge_ids.Goals as goal

pub overflow_add-at : goal.overflow_add-at
overflow_add-at c = let w = fonts-from c.args.s.now c.args.body c.args.count in omega arith

pub loop-k-init : goal.loop-k-init
unfolding each
loop-k-init c = (font-zero _ _, refl, record { whole = refl; free = λ id f. among-zero _ _ id })

pub get16-id-requires : goal.get16-id-requires
get16-id-requires c = omega (arith, font-room c.args.s.now c.args.body c.loop-k.k c.args.count _ _ (omega arith) c.loop-k.invariant.0 c.requires)

pub is_among-requires : goal.is_among-requires
is_among-requires c = omega (arith, font-room c.args.s.now c.args.body c.loop-k.k c.args.count _ _ (omega arith) c.loop-k.invariant.0 c.requires)

pub returns-then-is_among : goal.returns-then-is_among
returns-then-is_among c =
    let old = fresh-old _ _ _ _ _ _ c.loop-k.invariant.0 c.get16-id.ensures.0 (sym c.is_among.ensures ∙ c.if-is_among.true) in
    c.refused.ensures ∙ sym (each-stops _ _ _ _ (omega arith) c.loop-k.invariant.1 old)

pub pass_font-at-requires : goal.pass_font-at-requires
pass_font-at-requires c = font-room c.args.s.now c.args.body c.loop-k.k c.args.count _ _ (omega arith) c.loop-k.invariant.0 c.requires

pub loop-k-preserved : goal.loop-k-preserved
loop-k-preserved c =
    let absent : font_among c.args.s.now c.args.body c.loop-k.k c.get16-id.result
    ≡ false = elim c.else-taken-slot.branch [
      | else-taken-slot-via-then-taken-slot+else-is_among w ↦ sym w.is_among.ensures ∙ w.if-is_among.false
      | else-taken-slot-via-else-taken-slot w ↦ c.loop-k.invariant.2.free _ w.if-taken-slot.false
    ] in
    let inv = c.loop-k.invariant in
    let id = c.get16-id.ensures.0 in
    (font-more _ _ _ _ _ inv.0 c.pass_font-at.ensures.0, each_more _ _ inv.1 (fresh-new _ _ _ _ _ _ inv.0 id (absent)), taken_more _ _ _ _ _ _ inv.0 id inv.2)

pub returns : goal.returns
returns c = let e : c.loop-k.k ≡ c.args.count = omega arith in rw (← e) (sym c.loop-k.invariant.1)
