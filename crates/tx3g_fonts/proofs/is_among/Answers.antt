use Rattle.tx3g_fonts.proofs.Laws.{font-zero, font-more, font-room, fonts-from, among-zero, among-more, among-found}
use mathlib.Core.Path.{◌≡◌, sym, ◌∙◌}
use native.Mathlib.Omega.{arith}
use Rattle.tx3g_fonts.proofs.is_among.Goals as goal

pub overflow_add-at : goal.overflow_add-at
overflow_add-at c = let w = fonts-from c.args.s.now c.args.body c.args.count in omega arith

pub loop-k-init : goal.loop-k-init
loop-k-init c = (font-zero _ _, among-zero _ _ _)

pub get16-requires : goal.get16-requires
get16-requires c = omega (arith, font-room c.args.s.now c.args.body c.loop-k._k c.args.count _ _ (omega arith) c.loop-k.invariant.0 c.requires)

pub returns-then-get16-id : goal.returns-then-get16-id
returns-then-get16-id c = sym (among-found _ _ _ _ _ _ (omega arith) c.loop-k.invariant.0 (sym c.get16.ensures.0 ∙ c.if-get16-id.true))

pub pass_font-at-requires : goal.pass_font-at-requires
pass_font-at-requires c = font-room c.args.s.now c.args.body c.loop-k._k c.args.count _ _ (omega arith) c.loop-k.invariant.0 c.requires

pub loop-k-preserved : goal.loop-k-preserved
loop-k-preserved c = (font-more _ _ _ _ _ c.loop-k.invariant.0 c.pass_font-at.ensures.0, among-more _ _ _ _ _ c.loop-k.invariant.0 c.loop-k.invariant.1 (λ e. c.if-get16-id.false (c.get16.ensures.0 ∙ e)))

pub returns : goal.returns
returns c = let e : c.loop-k._k ≡ c.args.count = omega arith in rw (← e) (sym c.loop-k.invariant.1)
