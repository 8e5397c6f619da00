-- `tx3g_rules::judge_style` meets its contract.
use Rattle.tx3g_rules.specs.Rules.{style_fault}
use Rattle.tx3g_rules.proofs.judge_style.Goals as goal

pub returns-then-not-has_font_by_slots : goal.returns-then-not-has_font_by_slots
unfolding style_fault
returns-then-not-has_font_by_slots c = rw (← c.get16-font.ensures.0, ← c.has_font_by_slots.ensures, c.if-not-has_font_by_slots.true) c.refused.ensures

pub returns-then-follows_style : goal.returns-then-follows_style
unfolding style_fault
returns-then-follows_style c = rw (← c.get16-font.ensures.0, ← c.has_font_by_slots.ensures, c.if-not-has_font_by_slots.false, ← c.follows_style.ensures, c.if-follows_style.true)

pub returns-else-follows_style : goal.returns-else-follows_style
unfolding style_fault
returns-else-follows_style c = rw (← c.get16-font.ensures.0, ← c.has_font_by_slots.ensures, c.if-not-has_font_by_slots.false, ← c.follows_style.ensures, c.if-follows_style.false) c.refused-else-follows_style.ensures
