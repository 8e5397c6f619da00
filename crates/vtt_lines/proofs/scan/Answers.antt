use mathlib.Core.Path.{sym, ◌∙◌}
use native.Mathlib.Omega.{arith}
use Rattle.vtt_lines.proofs.Blocks.{line-filled, passing-start, passing_step, passing-stop}
use Rattle.vtt_lines.proofs.Scanning.{scanning-start, scanned-step, scanned-stop, scanned-fits}
use Rattle.vtt_lines.proofs.scan.Goals as goal

pub loop-l-init : goal.loop-l-init
loop-l-init c = (passing-start _ _ _ c.requires.0 c.requires.1, scanning-start _ _ _)

pub line_from-l-requires : goal.line_from-l-requires
line_from-l-requires c = let i = c.loop-l.invariant.0 in (i.within, i.numbered)

pub goes_on-plain-requires : goal.goes_on-plain-requires
goes_on-plain-requires c = let i = c.loop-l.invariant in (i.0.within, omega (arith, i.0.within, i.1.before))

pub overflow_sub-l : goal.overflow_sub-l
overflow_sub-l c = c.line_from-l.ensures.1.ends

pub with_line-size-requires : goal.with_line-size-requires
with_line-size-requires c =
    let a = c.args in
    let l = c.line_from-l.ensures.1 in
    omega (arith, scanned-fits a.s.now a.at _ _ _ _ _ c.loop-l.invariant.1, l.follows, l.within)

pub loop-l-smaller : goal.loop-l-smaller
loop-l-smaller c =
    let h = (line-filled c.args.s.now c.loop-l.place (sym c.is_filled.ensures ∙ c.loop-l-test.true)).0 in
    omega (arith, h, c.line_from-l.ensures.1.moves, c.line_from-l.ensures.1.within)

pub loop-l-preserved : goal.loop-l-preserved
loop-l-preserved c =
    let h = sym c.is_filled.ensures ∙ c.loop-l-test.true in
    let l = c.line_from-l in
    let i = c.loop-l.invariant in (
      passing_step _ _ _ _ _ i.0 l.result h l.ensures.0 l.ensures.1,
      scanned-step _ _ _ _ _ _ _ l.result _ _ _ h (line-filled c.args.s.now c.loop-l.place h).0 l.ensures.0 l.ensures.1 i.1 c.with_line-size.ensures c.goes_on-plain.ensures,
    )

pub returns : goal.returns
returns c =
    let h = sym c.is_filled.ensures ∙ c.loop-l-test.false in
    let i = c.loop-l.invariant in
    (passing-stop _ _ _ _ _ i.0 h, scanned-stop _ _ _ _ _ c.loop-l.place i.0.within h i.1)
