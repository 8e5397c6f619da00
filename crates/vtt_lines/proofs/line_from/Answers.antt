-- `vtt_lines::line_from` meets its contract: the cursor that comes back gives the line, with its places in order.
use mathlib.Core.Path.{◌≡◌, subst⁻¹}
use Rattle.vtt_lines.specs.Cursor.{found_at, Ahead}
use Rattle.vtt_lines.specs.declared.Line.{Line}
use Rattle.vtt_lines.proofs.Places.{line-ahead}
use Rattle.vtt_lines.proofs.line_from.Goals as goal

pub returns : goal.returns
returns c =
    let answer : Line = record { end = c.next_line-end.result; next = c.next_line-end.new.c.at; number = c.next_line-end.new.c.line } in
    let q : answer ≡ found_at c.args.s.now c.args.at c.args.line = rw (c.next_line-end.ensures.0, c.next_line-end.ensures.1) in
    (q, subst⁻¹ (Ahead c.args.s.now c.args.at c.args.line) q (line-ahead c.args.s.now c.args.at c.args.line c.requires.0))
