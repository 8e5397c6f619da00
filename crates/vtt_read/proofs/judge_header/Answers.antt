-- The first line, then no arrow in the header.
use mathlib.Core.Path.{refl, sym, ap, ◌∙◌}
use Rattle.verdict.specs.Verdict.{Refused}
use Rattle.text.specs.Rules.{webvtt}
use Rattle.vtt_lines.specs.declared.Line.{Line}
use Rattle.vtt_lines.proofs.Places.{line_is}
use Rattle.vtt_blocks.specs.Kinds.{opens}
use Rattle.vtt_blocks.specs.Found.{text_in}
use Rattle.vtt_read.proofs.Header.{no-webvtt, header-arrow, header-on}
use Rattle.vtt_read.proofs.judge_header.Goals as goal

pub returns-then-not-opens_with : goal.returns-then-not-opens_with
unfolding webvtt
returns-then-not-opens_with c =
    no-webvtt c.args.s.now _ c.mark_length-at.ensures.0
    (sym (ap (opens webvtt) (ap (λ (l : Line). text_in c.args.s.now c.mark_length-at.result l.end) c.line_from-first.ensures.0 ∙ line_is c.args.s.now _))
    ∙ sym c.opens_with.ensures ∙ c.if-not-opens_with.true)
    ∙ ap Refused (sym c.fault_at.ensures)

pub returns-then-p : goal.returns-then-p
unfolding webvtt
returns-then-p c =
    header-arrow c.args.s.now _ c.mark_length-at.ensures.0
    (sym (ap (opens webvtt) (ap (λ (l : Line). text_in c.args.s.now c.mark_length-at.result l.end) c.line_from-first.ensures.0 ∙ line_is c.args.s.now _))
    ∙ sym c.opens_with.ensures ∙ c.if-not-opens_with.false)
    (sym c.pass_lines-p.ensures.1 ∙ c.if-p.true)
    ∙ ap Refused (sym c.fault_at-then-p.ensures)

pub returns : goal.returns
unfolding webvtt
returns c = (
  header-on c.args.s.now _ c.mark_length-at.ensures.0
      (sym (ap (opens webvtt) (ap (λ (l : Line). text_in c.args.s.now c.mark_length-at.result l.end) c.line_from-first.ensures.0 ∙ line_is c.args.s.now _))
      ∙ sym c.opens_with.ensures ∙ c.if-not-opens_with.false)
      _ _ (sym c.pass_lines-p.ensures.1 ∙ c.if-p.false) c.pass_lines-p.ensures.0,
  refl,
)
