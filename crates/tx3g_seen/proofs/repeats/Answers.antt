-- `tx3g_seen::repeats` meets its contract.
use Rattle.tx3g_contents.specs.Kinds.{single, styl, hclr, krok, dlay, tbox, twrp}
use borrow.Author.Tests.{ne_eqb}
use native.Mathlib.Omega.{arith}
use Rattle.tx3g_seen.proofs.repeats.Goals as goal

pub returns-in-1937013100 : goal.returns-in-1937013100
unfolding single
returns-in-1937013100 c = λ before m. rw c.in-1937013100.is m.of_styles

pub returns-in-1751346290 : goal.returns-in-1751346290
unfolding single
returns-in-1751346290 c = λ before m. rw c.in-1751346290.is m.of_colour

pub returns-in-1802661739 : goal.returns-in-1802661739
unfolding single
returns-in-1802661739 c = λ before m. rw c.in-1802661739.is m.of_karaoke

pub returns-in-1684824441 : goal.returns-in-1684824441
unfolding single
returns-in-1684824441 c = λ before m. rw c.in-1684824441.is m.of_delay

pub returns-in-1952608120 : goal.returns-in-1952608120
unfolding single
returns-in-1952608120 c = λ before m. rw c.in-1952608120.is m.of_box

pub returns-in-1953985136 : goal.returns-in-1953985136
unfolding single
returns-in-1953985136 c = λ before m. rw c.in-1953985136.is m.of_wrap

pub returns-in_default : goal.returns-in_default
unfolding single
returns-in_default c = λ before m. rw (ne_eqb c.args.kind styl (λ e. omega arith), ne_eqb c.args.kind hclr (λ e. omega arith), ne_eqb c.args.kind krok (λ e. omega arith), ne_eqb c.args.kind dlay (λ e. omega arith), ne_eqb c.args.kind tbox (λ e. omega arith), ne_eqb c.args.kind twrp (λ e. omega arith))
