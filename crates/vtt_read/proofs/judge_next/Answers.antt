-- By what is found.
use Prim.Native.Nat.{◌<◌}
use mathlib.Core.Path.{sym, ap, ◌∙◌, subst, subst⁻¹}
use Rattle.verdict.specs.Verdict.{Refused}
use Rattle.vtt_blocks.specs.Found.{FoundIs}
use Rattle.vtt_read.specs.declared.State.{State}
use Rattle.vtt_read.specs.Steps.{Stands, Rows}
use Rattle.vtt_read.proofs.States.{empty-on, note-on, untimed-stops, style-stops, other-stops}
use Rattle.vtt_read.proofs.judge_next.Goals as goal

pub judge_cue-requires : goal.judge_cue-requires
judge_cue-requires c = let p = c.requires in (p.0, subst (FoundIs c.args.s.now c.args.state.at c.args.state.line) c.in-Cue.is c.find_block.ensures, p.2, p.3)

pub returns-in-Empty : goal.returns-in-Empty
returns-in-Empty c =
    let a = c.args in
    let on = empty-on _ _ c.requires.0 _ _ (subst (FoundIs a.s.now a.state.at a.state.line) c.in-Empty.is c.find_block.ensures) in
    subst⁻¹ (λ (x : State). Stands a.s.now x × (a.state.at < x.at) × Rows a.s.now x.count a.tab.now) c.moved.ensures (on.0, on.1, c.requires.3)

pub returns-in-Untimed : goal.returns-in-Untimed
returns-in-Untimed c =
    let a = c.args in
    untimed-stops _ _ c.requires.0 _ (subst (FoundIs a.s.now a.state.at a.state.line) c.in-Untimed.is c.find_block.ensures) ∙ ap Refused (sym c.fault_at.ensures)

pub returns-in-Note : goal.returns-in-Note
returns-in-Note c =
    let a = c.args in
    let on = note-on _ _ c.requires.0 _ _ (subst (FoundIs a.s.now a.state.at a.state.line) c.in-Note.is c.find_block.ensures) in
    subst⁻¹ (λ (x : State). Stands a.s.now x × (a.state.at < x.at) × Rows a.s.now x.count a.tab.now) c.moved-in-Note.ensures (on.0, on.1, c.requires.3)

pub returns-in-Style : goal.returns-in-Style
returns-in-Style c =
    let a = c.args in
    style-stops _ _ c.requires.0 (subst (FoundIs a.s.now a.state.at a.state.line) c.in-Style.is c.find_block.ensures) ∙ ap Refused (sym c.fault_at-in-Style.ensures)

pub returns-in-Other : goal.returns-in-Other
returns-in-Other c =
    let a = c.args in
    other-stops _ _ c.requires.0 (subst (FoundIs a.s.now a.state.at a.state.line) c.in-Other.is c.find_block.ensures) ∙ ap Refused (sym c.fault_at-in-Other.ensures)
