use Rattle.tx3g_fonts.proofs.Laws.{font-zero, font-more, font-room, fonts-from, slots-zero, slots-more, slots-size}
use Rattle.fields.specs.BigEndian.{be}
use lib.ListN.{length}
use mathlib.Core.Path.{◌≡◌}
use native.Mathlib.Omega.{arith}
use Rattle.tx3g_fonts.proofs.enter_fonts.Goals as goal

pub get16-count-requires : goal.get16-count-requires
get16-count-requires c = omega (arith, fonts-from c.args.s.now c.args.body (be 2 c.args.s.now c.args.body))

pub overflow_add-at : goal.overflow_add-at
overflow_add-at c = omega (arith, fonts-from c.args.s.now c.args.body (be 2 c.args.s.now c.args.body))

pub loop-k-init : goal.loop-k-init
loop-k-init c = (font-zero _ _, slots-zero c.args.s.now c.args.body _)

pub get16-id-requires : goal.get16-id-requires
get16-id-requires c = omega (arith, font-room c.args.s.now c.args.body c.loop-k._k (be 2 c.args.s.now c.args.body) _ _ (omega (arith, c.get16-count.ensures.0)) c.loop-k.invariant.0 c.requires.0)

pub bounds-slots-id : goal.bounds-slots-id
bounds-slots-id c =
    let size : length c.loop-k.slots ≡ length c.args.slots.now = rw c.loop-k.invariant.1 (slots-size _ _ _ _) in
    omega (arith, size)

pub pass_font-at-requires : goal.pass_font-at-requires
pass_font-at-requires c = font-room c.args.s.now c.args.body c.loop-k._k (be 2 c.args.s.now c.args.body) _ _ (omega (arith, c.get16-count.ensures.0)) c.loop-k.invariant.0 c.requires.0

pub loop-k-preserved : goal.loop-k-preserved
loop-k-preserved c = (font-more _ _ _ _ _ c.loop-k.invariant.0 c.pass_font-at.ensures.0, slots-more _ _ _ _ _ _ _ c.loop-k.invariant.0 c.get16-id.ensures.0 c.loop-k.invariant.1)

pub shape_of-slots : goal.shape_of-slots
shape_of-slots c =
    let size : length c.loop-k.slots ≡ length c.args.slots.now = rw c.loop-k.invariant.1 (slots-size _ _ _ _) in
    size

pub returns : goal.returns
returns c = let e : c.loop-k._k ≡ be 2 c.args.s.now c.args.body = omega (arith, c.get16-count.ensures.0) in rw (← e) c.loop-k.invariant.1
