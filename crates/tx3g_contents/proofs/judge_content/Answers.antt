-- `tx3g_contents::judge_content` meets its contract.
use Rattle.tx3g_contents.specs.Contents.{content_end}
use borrow.Author.Tests.{ne_eqb}
use native.Mathlib.Omega.{arith}
use Rattle.tx3g_contents.proofs.judge_content.Goals as goal

pub returns-in-1937013100 : goal.returns-in-1937013100
unfolding content_end
returns-in-1937013100 c = rw c.in-1937013100.is c.judge_styles_end.ensures

pub returns-in-1802661739 : goal.returns-in-1802661739
unfolding content_end
returns-in-1802661739 c = rw c.in-1802661739.is c.judge_karaoke_end.ensures

pub returns-in-1752327526 : goal.returns-in-1752327526
unfolding content_end
returns-in-1752327526 c = rw c.in-1752327526.is c.judge_link_end.ensures

pub returns-in_default : goal.returns-in_default
unfolding content_end
returns-in_default c = rw (ne_eqb c.args.kind 0x7374796C (λ e. omega arith), ne_eqb c.args.kind 0x6B726F6B (λ e. omega arith), ne_eqb c.args.kind 0x68726566 (λ e. omega arith), ← c.fixed_size.ensures.0) c.judge_end.ensures
