-- `tx3g_fonts::judge_fonts` meets its contract: the walk first, then the limit, then the IDs.
use Rattle.base.proofs.Results.{passed_on}
use Rattle.tx3g_fonts.proofs.Laws.{fonts-from}
use Rattle.tx3g_fonts.specs.Fonts.{font_at, judge_fonts}
use Rattle.bodies.proofs.Filled.{filled-fine}
use Rattle.fields.specs.BigEndian.{be}
use borrow.Author.Tests.{lt-ltb, le-ltb}
use mathlib.Core.Path.{◌≡◌, sym, ◌∙◌}
use native.Mathlib.Omega.{arith}
use Rattle.tx3g_fonts.proofs.judge_fonts.Goals as goal

pub returns-in_err-judge_walk : goal.returns-in_err-judge_walk
unfolding judge_fonts
returns-in_err-judge_walk c = passed_on _ _ c.from_residual.ensures ∙ sym (simp (← c.judge_walk.ensures, c.in_err-judge_walk.was))

pub get16-count-requires : goal.get16-count-requires
get16-count-requires c =
    let whole : font_at c.args.s.now c.args.body (be 2 c.args.s.now c.args.body) ≡ c.args.next = filled-fine _ _ _ (sym c.judge_walk.ensures ∙ c.in_ok-judge_walk.was) in
    let w = fonts-from c.args.s.now c.args.body (be 2 c.args.s.now c.args.body) in omega (arith, whole)

pub returns-then-count-gt256 : goal.returns-then-count-gt256
unfolding judge_fonts
returns-then-count-gt256 c = rw (← c.judge_walk.ensures, c.in_ok-judge_walk.was, ← c.get16-count.ensures.0, lt-ltb _ _ c.if-count-gt256.true) c.refused.ensures

pub judge_ids-requires : goal.judge_ids-requires
judge_ids-requires c =
    let whole : font_at c.args.s.now c.args.body (be 2 c.args.s.now c.args.body) ≡ c.args.next = filled-fine _ _ _ (sym c.judge_walk.ensures ∙ c.in_ok-judge_walk.was) in
    rw (c.get16-count.ensures.0, whole) c.requires.1

pub returns : goal.returns
unfolding judge_fonts
returns c = rw (← c.judge_walk.ensures, c.in_ok-judge_walk.was, ← c.get16-count.ensures.0, le-ltb _ _ c.if-count-gt256.false) c.judge_ids.ensures
