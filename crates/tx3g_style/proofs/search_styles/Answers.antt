use Rattle.tx3g_style.proofs.Laws.{holds_at_lem, style-found, style-none}
use Rattle.tx3g_rules.proofs.Laws.{style-room}
use Rattle.tx3g_contents.proofs.Laws.{styles-past}
use Rattle.fields.specs.BigEndian.{be}
use borrow.Author.Count.{below_none, below_more}
use mathlib.Core.Path.{◌∙◌}
use Prim.Native.Nat.{◌≤◌, ◌<◌}
use native.Mathlib.Omega.{arith}
use Rattle.tx3g_style.proofs.search_styles.Goals as goal

pub get16-count-requires : goal.get16-count-requires
get16-count-requires c = let w = styles-past c.args.s.now c.args.body in omega arith

pub loop-i-init : goal.loop-i-init
loop-i-init c = below_none _

pub overflow_add-at : goal.overflow_add-at
overflow_add-at c = omega (arith, style-room c.args.s.now c.args.body c.loop-i.i _ (omega (arith, c.get16-count.ensures.0)) c.requires.1)

pub overflow_mul-at : goal.overflow_mul-at
overflow_mul-at c = omega (arith, style-room c.args.s.now c.args.body c.loop-i.i _ (omega (arith, c.get16-count.ensures.0)) c.requires.1)

pub overflow_add-at-in-loop-i : goal.overflow_add-at-in-loop-i
overflow_add-at-in-loop-i c = omega (arith, style-room c.args.s.now c.args.body c.loop-i.i _ (omega (arith, c.get16-count.ensures.0)) c.requires.1)

pub holds_character-requires : goal.holds_character-requires
holds_character-requires c = style-room c.args.s.now c.args.body c.loop-i.i _ (omega (arith, c.get16-count.ensures.0)) c.requires.1

pub read_style-requires : goal.read_style-requires
read_style-requires c = style-room c.args.s.now c.args.body c.loop-i.i _ (omega (arith, c.get16-count.ensures.0)) c.requires.1

pub returns-then-holds_character : goal.returns-then-holds_character
returns-then-holds_character c =
    let counted : c.loop-i.i < be 2 c.args.s.now c.args.body = omega (arith, c.get16-count.ensures.0) in
    c.read_style.ensures ∙ style-found c.args.e.now _ _ _ _ (counted) (holds_at_lem _ _ _ _ _ c.holds_character.ensures ∙ c.if-holds_character.true) c.loop-i.invariant

pub loop-i-preserved : goal.loop-i-preserved
loop-i-preserved c = below_more _ _ c.loop-i.invariant (holds_at_lem _ _ _ _ _ c.holds_character.ensures ∙ c.if-holds_character.false)

pub returns : goal.returns
returns c = let q : be 2 c.args.s.now c.args.body ≤ c.loop-i.i = omega (arith, c.get16-count.ensures.0) in
    c.read_style-2.ensures ∙ style-none _ c.args.s.now _ _ (λ j l. c.loop-i.invariant j (omega arith))
