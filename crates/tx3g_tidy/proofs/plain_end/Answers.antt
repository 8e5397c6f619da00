use mathlib.Core.Path.{◌≡◌}
use native.Mathlib.Omega.{arith}
use Rattle.tx3g_tidy.proofs.Escapes.{mark-plain, mark-escaped, plain-begin, plain_more}
use Rattle.tx3g_tidy.proofs.plain_end.Goals as goal

pub returns-then-escape_mark-gt0 : goal.returns-then-escape_mark-gt0
returns-then-escape_mark-gt0 c =
    record { goes = omega arith; ends = omega arith; plain = plain-begin _ _; stops = λ h. mark-escaped _ c.escape_mark.result c.escape_mark.ensures c.if-escape_mark-gt0.true }

pub loop-i-init : goal.loop-i-init
loop-i-init c = (c.pass_plain-first.ensures.0, c.pass_plain-first.ensures.2)

pub returns-then-escape_mark-gt0-2 : goal.returns-then-escape_mark-gt0-2
returns-then-escape_mark-gt0-2 c =
    let l = c.loop-i in
    let m = c.escape_mark-in-loop-i in
    record { goes = l.invariant.0; ends = omega arith; plain = l.invariant.1; stops = λ h. mark-escaped _ m.result m.ensures c.if-escape_mark-gt0-2.true }

pub loop-i-preserved : goal.loop-i-preserved
loop-i-preserved c =
    let l = c.loop-i in
    let m = c.escape_mark-in-loop-i in
    (omega arith, plain_more _ _ _ l.invariant.0 (omega arith) l.invariant.1 (mark-plain _ m.result m.ensures c.if-escape_mark-gt0-2.false))

pub returns : goal.returns
returns c =
    let l = c.loop-i in
    let all : l.i ≡ c.args.end = omega arith in
    record { goes = omega arith; ends = omega arith; plain = rw (← all) l.invariant.1; stops = λ h. absurd (omega arith) }
