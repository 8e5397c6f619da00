-- `tx3g_modifiers::read_modifier` meets its contract.
use Rattle.tx3g_modifiers.specs.Modifiers.{modifier_of}
use Rattle.tx3g_contents.specs.Kinds.{styl, krok, href, tbox, twrp}
use Rattle.tx3g_contents.proofs.Laws.{styles-past, karaoke-past, end-styl, end-krok, end-href, end-twrp, end-other}
use borrow.Author.Tests.{ne_eqb}
use native.Mathlib.Omega.{arith}
use Rattle.tx3g_modifiers.proofs.read_modifier.Goals as goal

pub get16-requires : goal.get16-requires
get16-requires c = omega (arith, styles-past c.args.s.now c.args.body, end-styl c.args.s.now c.args.kind c.args.body c.in-1937013100.is)

pub overflow_add-result : goal.overflow_add-result
overflow_add-result c = omega (arith, styles-past c.args.s.now c.args.body, end-styl c.args.s.now c.args.kind c.args.body c.in-1937013100.is)

pub returns-in-1937013100 : goal.returns-in-1937013100
unfolding modifier_of
returns-in-1937013100 c = rw (c.in-1937013100.is, c.get16.ensures.0)

pub get32-requires : goal.get32-requires
get32-requires c = omega (arith, karaoke-past c.args.s.now c.args.body, end-krok c.args.s.now c.args.kind c.args.body c.in-1802661739.is)

pub overflow_add-body : goal.overflow_add-body
overflow_add-body c = omega (arith, karaoke-past c.args.s.now c.args.body, end-krok c.args.s.now c.args.kind c.args.body c.in-1802661739.is)

pub get16-requires-in-1802661739 : goal.get16-requires-in-1802661739
get16-requires-in-1802661739 c = omega (arith, karaoke-past c.args.s.now c.args.body, end-krok c.args.s.now c.args.kind c.args.body c.in-1802661739.is)

pub overflow_add-result-in-1802661739 : goal.overflow_add-result-in-1802661739
overflow_add-result-in-1802661739 c = omega (arith, karaoke-past c.args.s.now c.args.body, end-krok c.args.s.now c.args.kind c.args.body c.in-1802661739.is)

pub returns-in-1802661739 : goal.returns-in-1802661739
unfolding modifier_of
returns-in-1802661739 c = rw (c.in-1802661739.is, c.get32.ensures.0, c.get16-in-1802661739.ensures.0)

pub read_link-requires : goal.read_link-requires
read_link-requires c = rw (← end-href c.args.s.now _ _ c.in-1752327526.is) c.requires

pub returns-in-1752327526 : goal.returns-in-1752327526
unfolding modifier_of
returns-in-1752327526 c = rw c.in-1752327526.is c.read_link.ensures

pub returns-in-1952608120 : goal.returns-in-1952608120
unfolding modifier_of
returns-in-1952608120 c = rw c.in-1952608120.is

pub get8-requires : goal.get8-requires
get8-requires c = omega (arith, end-twrp c.args.s.now c.args.kind c.args.body c.in-1953985136.is)

pub returns-in-1953985136 : goal.returns-in-1953985136
unfolding modifier_of
returns-in-1953985136 c = rw (c.in-1953985136.is, c.get8.ensures.0)

pub read_plain-requires : goal.read_plain-requires
read_plain-requires c = omega (arith, end-other c.args.s.now c.args.kind c.args.body (λ e. omega arith) (λ e. omega arith))

pub returns-in_default : goal.returns-in_default
unfolding modifier_of
returns-in_default c = rw (ne_eqb c.args.kind styl (λ e. omega arith), ne_eqb c.args.kind krok (λ e. omega arith), ne_eqb c.args.kind href (λ e. omega arith), ne_eqb c.args.kind tbox (λ e. omega arith), ne_eqb c.args.kind twrp (λ e. omega arith)) c.read_plain.ensures
