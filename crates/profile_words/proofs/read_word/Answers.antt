use mathlib.Core.Path.{◌≡◌}
use native.Mathlib.Omega.{arith}
use lib.ListN.{length}
use Rattle.profile_words.proofs.Laws.{word-start, word-short, word-wrong, word-turn, word-done}
use Rattle.profile_words.proofs.read_word.Goals as goal
use Rattle.profile_words.proofs.read_word.Goals.{then-i-s-via-then-i-s, then-i-s-via-else-i-s+then-s-at}

pub loop-i-init : goal.loop-i-init
loop-i-init c = (omega arith, word-start _ _ _ c.requires)

pub returns-then-i-s : goal.returns-then-i-s
returns-then-i-s c = elim c.then-i-s.branch [
  | then-i-s-via-then-i-s w ↦ word-short _ _ _ _ c.loop-i.invariant.1 c.loop-i-test.true (omega arith)
  | then-i-s-via-else-i-s+then-s-at w ↦ word-wrong _ _ _ _ c.loop-i.invariant.1 c.loop-i-test.true (omega arith) w.if-s-at.true
]

pub loop-i-preserved : goal.loop-i-preserved
loop-i-preserved c = (omega arith, word-turn _ _ _ _ c.loop-i.invariant.1 c.loop-i-test.true (omega arith) c.if-s-at.false)

pub returns : goal.returns
returns c = let e : length c.args.w.now ≡ c.loop-i.i = omega arith in rw e (word-done _ _ _ _ c.loop-i.invariant.1 (omega arith))
