use Rattle.wvtt_cues.specs.Cues.{text_of}
use Rattle.rows.specs.Table.{same_texts}
use Rattle.rows.proofs.same_texts.Goals.{then-same_part, else-same_part}
use Rattle.rows.proofs.same_texts.Goals as goal

pub returns-then-same_part-2 : goal.returns-then-same_part-2
unfolding same_texts text_of
returns-then-same_part-2 c = elim c.if-same_part.branch [
  | then-same_part w ↦ simp (← c.same_part.ensures, w.if-same_part.true, ← w.same_part-then-same_part.ensures, ← w.value-is, c.if-same_part-2.true, ← c.same_part-then-same_part-2.ensures)
  | else-same_part w ↦ absurd cc
]

pub returns-else-same_part-2 : goal.returns-else-same_part-2
unfolding same_texts text_of
returns-else-same_part-2 c = elim c.if-same_part.branch [
  | then-same_part w ↦ simp (← c.same_part.ensures, w.if-same_part.true, ← w.same_part-then-same_part.ensures, ← w.value-is, c.if-same_part-2.false)
  | else-same_part w ↦ simp (← c.same_part.ensures, w.if-same_part.false, c.if-same_part-2.false)
]
