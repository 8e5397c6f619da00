-- The payload where it stands, or as it was gathered.
use Prim.Native.Nat.{ℕ}
use mathlib.Core.Path.{ap, ◌∙◌}
use mathlib.Core.List.{List}
use native.Mathlib.Omega.{arith}
use Rattle.cues.specs.Caption.{caption, judge_content}
use Rattle.vtt_blocks.specs.Found.{text_in}
use Rattle.vtt_read.proofs.States.{gathered-text}
use Rattle.vtt_read.proofs.judge_found.Goals as goal

pub returns-then-g : goal.returns-then-g
returns-then-g c =
    let a = c.args in
    c.judge_content.ensures
    ∙ ap (λ (x : List ℕ). judge_content 1000 359999999 a.state.before (caption a.c.start a.c.end (text_in a.s.now a.state.at a.c.identifier) (text_in a.s.now a.c.from a.c.to) x) a.c.line)
    (c.requires.1.same c.if-g.true)

pub returns : goal.returns
returns c =
    let a = c.args in
    let p = c.requires in
    let g = c.gather-h.ensures.1 in
    c.judge_content-2.ensures
    ∙ ap (λ (x : List ℕ). judge_content 1000 359999999 a.state.before (caption a.c.start a.c.end (text_in a.s.now a.state.at a.c.identifier) (text_in a.s.now a.c.from a.c.to) x) a.c.line)
    (gathered-text _ _ _ _ _ g (omega (arith, p.2, p.3, p.1.sized, g.sized)))
