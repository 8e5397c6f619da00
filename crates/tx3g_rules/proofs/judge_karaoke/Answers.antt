use Rattle.base.proofs.Results.{passed_on}
use Rattle.tx3g_rules.proofs.Laws.{turn-room, turn-place, turn_is, time-zero, time-more}
use Rattle.tx3g_rules.specs.Rules.{judge_turn}
use Rattle.tx3g_contents.proofs.Laws.{karaoke-past}
use Rattle.fields.specs.BigEndian.{be}
use Rattle.verdict.specs.Judgement.{each}
use Rattle.verdict.proofs.Judgement.{each_more, each-stops}
use mathlib.Core.Path.{◌≡◌, refl, sym, ◌∙◌}
use Prim.Native.Nat.{◌+◌, ◌<◌}
use native.Mathlib.Omega.{arith}
use Rattle.tx3g_rules.proofs.judge_karaoke.Goals as goal

pub overflow_add-body : goal.overflow_add-body
overflow_add-body c = let w = karaoke-past c.args.s.now c.args.body in omega arith

pub get16-count-requires : goal.get16-count-requires
get16-count-requires c = let w = karaoke-past c.args.s.now c.args.body in omega arith

pub get32-previous-requires : goal.get32-previous-requires
get32-previous-requires c = let w = karaoke-past c.args.s.now c.args.body in omega arith

pub loop-k-init : goal.loop-k-init
unfolding each
loop-k-init c = (time-zero _ _ _ c.get32-previous.ensures.0, refl)

pub overflow_add-at : goal.overflow_add-at
overflow_add-at c = omega (arith, turn-room c.args.s.now c.args.body c.loop-k.k _ (omega (arith, c.get16-count.ensures.0)) c.requires)

pub overflow_mul-at : goal.overflow_mul-at
overflow_mul-at c = omega (arith, turn-room c.args.s.now c.args.body c.loop-k.k _ (omega (arith, c.get16-count.ensures.0)) c.requires)

pub overflow_add-at-in-loop-k : goal.overflow_add-at-in-loop-k
overflow_add-at-in-loop-k c = omega (arith, turn-room c.args.s.now c.args.body c.loop-k.k _ (omega (arith, c.get16-count.ensures.0)) c.requires)

pub judge_turn-requires : goal.judge_turn-requires
judge_turn-requires c = turn-room c.args.s.now c.args.body c.loop-k.k _ (omega (arith, c.get16-count.ensures.0)) c.requires

pub returns-in_err-judge_turn : goal.returns-in_err-judge_turn
returns-in_err-judge_turn c =
    let counted : c.loop-k.k < be 2 c.args.s.now (c.args.body + 4) = omega (arith, c.get16-count.ensures.0) in
    let turn : judge_turn c.args.characters c.args.s.now c.args.place c.args.body c.loop-k.k ≡ c.judge_turn.result = sym (turn_is _ _ _ _ _ _ _ c.loop-k.invariant.0 (turn-place c.args.s.now _ _)) ∙ sym c.judge_turn.ensures in
    passed_on _ _ c.from_residual.ensures ∙ sym (each-stops _ _ _ _ (counted) c.loop-k.invariant.1 (turn ∙ c.in_err-judge_turn.was))

pub get32-previous-requires-in-loop-k : goal.get32-previous-requires-in-loop-k
get32-previous-requires-in-loop-k c = omega (arith, turn-room c.args.s.now c.args.body c.loop-k.k _ (omega (arith, c.get16-count.ensures.0)) c.requires)

pub loop-k-preserved : goal.loop-k-preserved
loop-k-preserved c =
    let turn : judge_turn c.args.characters c.args.s.now c.args.place c.args.body c.loop-k.k ≡ c.judge_turn.result = sym (turn_is _ _ _ _ _ _ _ c.loop-k.invariant.0 (turn-place c.args.s.now _ _)) ∙ sym c.judge_turn.ensures in
    (time-more _ _ _ _ _ (turn-place c.args.s.now _ _) c.get32-previous-in-loop-k.ensures.0, each_more _ _ c.loop-k.invariant.1 (turn ∙ c.in_ok-judge_turn.was))

pub returns : goal.returns
returns c = let e : c.loop-k.k ≡ c.get16-count.result = omega arith in rw (← c.get16-count.ensures.0, ← e) (sym c.loop-k.invariant.1)
