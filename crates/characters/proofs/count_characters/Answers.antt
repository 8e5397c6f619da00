-- By how much of the mark the text begins with.
use mathlib.Core.Path.{◌≡◌, ◌∙◌}
use native.Mathlib.Omega.{arith}
use Rattle.characters.specs.Characters.{mark}
use Rattle.characters.proofs.Counts.{count-bad}
use Rattle.characters.proofs.Units.{mark-whole, mark-half, mark-none}
use Rattle.characters.proofs.count_characters.Goals as goal

pub count_utf16-requires : goal.count_utf16-requires
unfolding mark
count_utf16-requires c = mark-whole _ _ c.agreeing.ensures.0 c.in-2.is

pub returns-in-1 : goal.returns-in-1
unfolding mark
returns-in-1 c = count-bad _ _ (mark-half _ _ c.agreeing.ensures.0 c.in-1.is)

pub returns-in_default : goal.returns-in_default
unfolding mark
returns-in_default c =
    let n = c.agreeing.result in
    let z : n ≡ 0 = omega (arith, c.agreeing.ensures.1) in
    c.count_utf8.ensures ∙ mark-none _ n c.agreeing.ensures.0 z
