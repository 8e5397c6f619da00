-- STYLE and REGION, then NOTE and its lines.
use mathlib.Core.Path.{sym, ◌∙◌}
use Rattle.vtt_blocks.proofs.Parts.{is-style, is_region, is-other, is-marked, is-note}
use Rattle.vtt_blocks.proofs.find_plain.Goals as goal

pub returns-then-is_named : goal.returns-then-is_named
returns-then-is_named c = is-style _ _ (sym c.is_named.ensures ∙ c.if-is_named.true)

pub returns-then-is_named-2 : goal.returns-then-is_named-2
returns-then-is_named-2 c = is_region _ _ (sym c.is_named-2.ensures ∙ c.if-is_named-2.true)

pub returns-then-not-opens_with : goal.returns-then-not-opens_with
returns-then-not-opens_with c =
    is-other _ _ (sym c.is_named.ensures ∙ c.if-is_named.false) (sym c.is_named-2.ensures ∙ c.if-is_named-2.false)
    (sym c.opens_with.ensures ∙ c.if-not-opens_with.true)

pub returns-then-p : goal.returns-then-p
returns-then-p c =
    is-marked _ _ (sym c.is_named.ensures ∙ c.if-is_named.false) (sym c.is_named-2.ensures ∙ c.if-is_named-2.false)
    c.requires.4 (sym c.pass_lines-p.ensures.1 ∙ c.if-p.true)

pub returns : goal.returns
returns c = (
  is-note _ _ (sym c.is_named.ensures ∙ c.if-is_named.false) (sym c.is_named-2.ensures ∙ c.if-is_named-2.false)
      c.requires.4 (sym c.opens_with.ensures ∙ c.if-not-opens_with.false) (sym c.pass_lines-p.ensures.1 ∙ c.if-p.false),
  c.pass_lines-p.ensures.0,
)
