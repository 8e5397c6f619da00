-- The run, by the laws of the walk.
use mathlib.Core.Path.{sym, ◌∙◌}
use native.Mathlib.Omega.{arith}
use Rattle.tx3g_style.specs.Style.{style_in, default_style}
use Rattle.tx3g_style.proofs.Laws.{default-lies}
use Rattle.tx3g_payload_write.proofs.Walks.{stretch-styled, stretch-plain, stretch-none}
use Rattle.tx3g_payload_write.proofs.next_stretch.Goals as goal

pub get8-requires : goal.get8-requires
get8-requires c = let w = default-lies _ _ _ c.requires.0 in omega arith

pub returns-in-Styled : goal.returns-in-Styled
returns-in-Styled c = let p = c.requires in stretch-styled _ _ _ _ _ _ p.0 p.1 p.2 _ _ _ _ (sym c.in-Styled.is ∙ c.next_run.ensures)

pub returns-in-Plain : goal.returns-in-Plain
unfolding default_style style_in
returns-in-Plain c = let p = c.requires in stretch-plain _ _ _ _ _ _ p.0 p.1 p.2 _ _ _ _ c.get8.ensures.0 (sym c.in-Plain.is ∙ c.next_run.ensures)

pub returns-in-End : goal.returns-in-End
returns-in-End c = let p = c.requires in absurd (stretch-none _ _ _ _ _ _ p.0 p.1 p.2 (sym c.in-End.is ∙ c.next_run.ensures))
