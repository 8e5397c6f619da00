-- The judgement of UTF-8, and the count of the bytes that begin a character.
use mathlib.Core.Path.{sym, ap, ◌∙◌}
use Rattle.viable.specs.Judged.{Judged}
use Rattle.viable.proofs.FirstBad.{judged-right}
use Rattle.utf8.specs.Utf8.{utf8, utf8_begun}
use Rattle.utf8.proofs.Machine.{ascii-utf8}
use Rattle.text.proofs.Begun.{utf8-judged}
use Rattle.characters.specs.Counted.{Characters}
use Rattle.characters.specs.Characters.{firsts, count_by}
use Rattle.characters.proofs.Firsts.{ascii-count}
use Rattle.characters.proofs.count_utf8.Goals as goal

pub returns-then-is_ascii : goal.returns-then-is_ascii
returns-then-is_ascii c =
    let a = sym c.is_ascii.ensures ∙ c.if-is_ascii.true in
    ap Characters (ascii-count _ a) ∙ ap (λ (j : Judged). count_by j (firsts c.args.s.now)) (judged-right utf8 utf8_begun _ (sym (ascii-utf8 _ (λ j. (c.type_inv.s j).fits) a)))

pub returns-in-Ok : goal.returns-in-Ok
returns-in-Ok c =
    ap Characters c.count_firsts.ensures
    ∙ ap (λ (j : Judged). count_by j (firsts c.args.s.now)) (sym c.in-Ok.is ∙ c.judge_rule.ensures ∙ utf8-judged _)

pub returns-in-Err : goal.returns-in-Err
returns-in-Err c = ap (λ (j : Judged). count_by j (firsts c.args.s.now)) (sym c.in-Err.is ∙ c.judge_rule.ensures ∙ utf8-judged _)
