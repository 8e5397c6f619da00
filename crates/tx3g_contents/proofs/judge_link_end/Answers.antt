-- `tx3g_contents::judge_link_end` meets its contract.
use Rattle.tx3g_contents.proofs.Laws.{missing, link-past, alternative-past}
use Rattle.tx3g_contents.specs.Contents.{alternative_at, link_end}
use mathlib.Core.Path.{◌≡◌, ◌∙◌}
use Prim.Native.Nat.{◌+◌, ◌<◌}
use native.Mathlib.Omega.{arith}
use Rattle.tx3g_contents.proofs.judge_link_end.Goals as goal

pub returns-then-next-body-lt5 : goal.returns-then-next-body-lt5
returns-then-next-body-lt5 c = let h : c.args.next < link_end c.args.s.now c.args.body = omega (arith, link-past c.args.s.now c.args.body) in
    c.refused.ensures ∙ missing _ _ _ h

pub returns-then-next-alternative : goal.returns-then-next-alternative
unfolding alternative_at
returns-then-next-alternative c =
    let second : c.args.body + 5 + c.get8.result ≡ alternative_at c.args.s.now c.args.body = rw c.get8.ensures.0 in
    let h : c.args.next < link_end c.args.s.now c.args.body = omega (arith, alternative-past c.args.s.now c.args.body, second) in
    c.refused-then-next-alternative.ensures ∙ missing _ _ _ h

pub returns : goal.returns
unfolding link_end alternative_at
returns c =
    let second : c.args.body + 5 + c.get8.result ≡ alternative_at c.args.s.now c.args.body = rw c.get8.ensures.0 in
    rw (← second, ← c.get8-length.ensures.0) c.judge_end.ensures
