-- An empty line; the first line with an arrow, or else the second; or a block without timing line.
use mathlib.Core.Path.{sym, ◌∙◌}
use native.Mathlib.Omega.{arith}
use Rattle.vtt_blocks.proofs.Blocks.{next-numbered, empty-found, first_found, second-found, plain-block}
use Rattle.vtt_blocks.proofs.find_block.Goals as goal

pub returns-then-end-at : goal.returns-then-end-at
returns-then-end-at c = let f = c.line_from-first.ensures in empty-found _ _ _ _ f.0 f.1 (omega arith) (omega arith) c.if-end-at.true

pub returns-then-holds_arrow : goal.returns-then-holds_arrow
returns-then-holds_arrow c =
    let f = c.line_from-first.ensures in
    first_found _ _ _ _ f.0 f.1 (omega arith) c.if-end-at.false (omega arith) (sym c.holds_arrow.ensures ∙ c.if-holds_arrow.true) c.find_cue.result c.find_cue.ensures

pub returns-then-holds_arrow-2 : goal.returns-then-holds_arrow-2
returns-then-holds_arrow-2 c =
    let f = c.line_from-first.ensures in
    let g = c.line_from-second.ensures in
    second-found _ _ _ _ f.0 f.1 (omega arith) c.if-end-at.false (sym c.holds_arrow.ensures ∙ c.if-holds_arrow.false) _ g.0 g.1
    (omega arith) (sym c.holds_arrow-2.ensures ∙ c.if-holds_arrow-2.true) c.find_cue-then-holds_arrow-2.result c.find_cue-then-holds_arrow-2.ensures

pub find_plain-requires : goal.find_plain-requires
find_plain-requires c =
    let f = c.line_from-first.ensures in
    (f.1.ends, omega (arith, f.1.follows, f.1.within), f.1.within, next-numbered _ _ _ _ f.0 f.1 (omega arith) (omega arith), sym c.holds_arrow.ensures ∙ c.if-holds_arrow.false)

pub returns : goal.returns
returns c =
    let f = c.line_from-first.ensures in
    let g = c.line_from-second.ensures in
    plain-block _ _ _ _ f.0 f.1 (omega arith) c.if-end-at.false (sym c.holds_arrow.ensures ∙ c.if-holds_arrow.false) _ g.0 g.1
    (sym c.holds_arrow-2.ensures ∙ c.if-holds_arrow-2.false) c.find_plain.result c.find_plain.ensures
