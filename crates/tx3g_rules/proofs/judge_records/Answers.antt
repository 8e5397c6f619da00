-- `tx3g_rules::judge_records` meets its contract.
use Rattle.tx3g_rules.specs.Rules.{judge_records}
use Rattle.tx3g_contents.specs.Kinds.{styl, krok, tbox, twrp}
use Rattle.tx3g_contents.proofs.Laws.{end-styl, end-krok, end-tbox, end-twrp, end-other}
use borrow.Author.Tests.{ne_eqb}
use native.Mathlib.Omega.{arith}
use Rattle.tx3g_rules.proofs.judge_records.Goals as goal

pub judge_styles-requires : goal.judge_styles-requires
judge_styles-requires c = (c.requires.0, rw (← end-styl c.args.s.now _ _ c.in-1937013100.is) c.requires.1)

pub returns-in-1937013100 : goal.returns-in-1937013100
unfolding judge_records
returns-in-1937013100 c = rw c.in-1937013100.is c.judge_styles.ensures

pub judge_karaoke-requires : goal.judge_karaoke-requires
judge_karaoke-requires c = rw (← end-krok c.args.s.now _ _ c.in-1802661739.is) c.requires.1

pub returns-in-1802661739 : goal.returns-in-1802661739
unfolding judge_records
returns-in-1802661739 c = rw c.in-1802661739.is c.judge_karaoke.ensures

pub judge_text_box-requires : goal.judge_text_box-requires
judge_text_box-requires c = omega (arith, end-tbox c.args.s.now c.args.kind c.args.body c.in-1952608120.is)

pub returns-in-1952608120 : goal.returns-in-1952608120
unfolding judge_records
returns-in-1952608120 c = rw c.in-1952608120.is c.judge_text_box.ensures

pub judge_wrap-requires : goal.judge_wrap-requires
judge_wrap-requires c = omega (arith, end-twrp c.args.s.now c.args.kind c.args.body c.in-1953985136.is)

pub returns-in-1953985136 : goal.returns-in-1953985136
unfolding judge_records
returns-in-1953985136 c = rw c.in-1953985136.is c.judge_wrap.ensures

pub judge_range-requires : goal.judge_range-requires
judge_range-requires c = omega (arith, end-other c.args.s.now c.args.kind c.args.body (λ e. omega arith) (λ e. omega arith))

pub returns-in_default : goal.returns-in_default
unfolding judge_records
returns-in_default c = rw (ne_eqb c.args.kind styl (λ e. omega arith), ne_eqb c.args.kind krok (λ e. omega arith), ne_eqb c.args.kind tbox (λ e. omega arith), ne_eqb c.args.kind twrp (λ e. omega arith), ← c.is_ranged.ensures, c.if-is_ranged.true) c.judge_range.ensures

pub returns-in_default-2 : goal.returns-in_default-2
unfolding judge_records
returns-in_default-2 c = rw (ne_eqb c.args.kind styl (λ e. omega arith), ne_eqb c.args.kind krok (λ e. omega arith), ne_eqb c.args.kind tbox (λ e. omega arith), ne_eqb c.args.kind twrp (λ e. omega arith), ← c.is_ranged.ensures, c.if-is_ranged.false)
