use Rattle.vtt_lines.proofs.Places.{after_last, after-other, after-short, after-cr, after-crlf}
use Rattle.vtt_lines.proofs.after_end.Goals as goal

pub returns-then-s-end : goal.returns-then-s-end
returns-then-s-end c = after_last _ _ c.if-s-end.true

pub returns-then-s-end-ne13 : goal.returns-then-s-end-ne13
returns-then-s-end-ne13 c = after-other _ _ c.if-s-end.false c.if-s-end-ne13.true

pub returns-then-s-next : goal.returns-then-s-next
returns-then-s-next c = after-short _ _ c.if-s-end.false c.if-s-next.true

pub returns-then-s-next-ne10 : goal.returns-then-s-next-ne10
returns-then-s-next-ne10 c = after-cr _ _ c.if-s-next.false c.if-s-next-ne10.true

pub returns : goal.returns
returns c = after-crlf _ _ c.if-s-next.false c.if-s-end-ne13.false c.if-s-next-ne10.false
