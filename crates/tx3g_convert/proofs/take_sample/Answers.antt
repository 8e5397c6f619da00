-- A known payload is judged by its length. Else no payload is no cue, and the cue's judgement decides, which may take the payload for ruled.
use Rattle.base.proofs.Results.{passed_on}
use mathlib.Core.Path.{◌≡◌, ap, ◌∙◌}
use mathlib.Core.Bool.{true}
use lib.ListN.{length}
use Rattle.tx3g_payload_write.specs.Sample.{payload_in}
use Rattle.tx3g_tidy.specs.Tidy.{tidy_in}
use Rattle.tx3g_convert.specs.Turn.{On}
use Rattle.tx3g_convert.specs.Terms.{Ruled, Sized}
use Rattle.tx3g_convert.proofs.Zeros.{payload-ruled}
use Rattle.tx3g_convert.proofs.Judging.{some-text, some-made, made-length, turn-none, turn-short, turn-text, known_so, known-sized}
use Rattle.tx3g_convert.proofs.take_sample.Goals as goal

pub returns-in_err-judge_cue : goal.returns-in_err-judge_cue
returns-in_err-judge_cue c =
    let known : (tidy_in c.args.s.now ≡ true) × (c.tidy_length-known.result ≡ length (payload_in c.args.e.now c.args.s.now)) = known_so _ _ _ c.tidy_length-known.ensures c.if-known-gt0.true in
    let sized : Sized c.args.state.cues c.tidy_length-known.result (payload_in c.args.e.now c.args.s.now) = known-sized _ _ _ _ (λ j. (c.type_inv.s j).fits) c.requires.3 known in
    let a = c.args in
    passed_on _ _ c.from_residual.ensures ∙ turn-text _ _ _ _ _ _ (λ _. known.1) _ (c.judge_cue.ensures _ sized) (some-text (payload_in a.e.now a.s.now) _ known.1 c.if-known-gt0.true) _ (rw c.in_err-judge_cue.was)

pub behind-requires : goal.behind-requires
behind-requires c =
    let known : (tidy_in c.args.s.now ≡ true) × (c.tidy_length-known.result ≡ length (payload_in c.args.e.now c.args.s.now)) = known_so _ _ _ c.tidy_length-known.ensures c.if-known-gt0.true in
    let sized : Sized c.args.state.cues c.tidy_length-known.result (payload_in c.args.e.now c.args.s.now) = known-sized _ _ _ _ (λ j. (c.type_inv.s j).fits) c.requires.3 known in
    let a = c.args in
    (c.requires.1, turn-short a.scale a.i a.duration a.state _ _ (λ _. known.1) _ (c.judge_cue.ensures _ sized) c.in_ok-judge_cue.was)

pub returns-then-known-gt0 : goal.returns-then-known-gt0
returns-then-known-gt0 c =
    let known : (tidy_in c.args.s.now ≡ true) × (c.tidy_length-known.result ≡ length (payload_in c.args.e.now c.args.s.now)) = known_so _ _ _ c.tidy_length-known.ensures c.if-known-gt0.true in
    let sized : Sized c.args.state.cues c.tidy_length-known.result (payload_in c.args.e.now c.args.s.now) = known-sized _ _ _ _ (λ j. (c.type_inv.s j).fits) c.requires.3 known in
    let a = c.args in
    turn-text _ _ _ _ _ _ (λ _. known.1) _ (c.judge_cue.ensures _ sized) (some-text (payload_in a.e.now a.s.now) _ known.1 c.if-known-gt0.true) _ (ap On c.behind.ensures ∙ rw c.in_ok-judge_cue.was)

pub returns-then-n-eq0 : goal.returns-then-n-eq0
returns-then-n-eq0 c = turn-none _ _ _ _ _ _ _ _ c.make_payload-n.ensures c.if-n-eq0.true _ c.behind-then-n-eq0.ensures

pub returns-in_err-judge_made : goal.returns-in_err-judge_made
returns-in_err-judge_made c =
    let ruled : Ruled (payload_in c.args.e.now c.args.s.now) = payload-ruled _ _ (λ j. (c.type_inv.s j).fits) c.requires.3 in
    let m = c.make_payload-n.ensures in
    passed_on _ _ c.from_residual-in_err-judge_made.ensures ∙ turn-text _ _ _ _ _ _ (λ l. (made-length _ _ _ _ m l).0) _ (c.judge_made.ensures _ _ m ruled) (some-made _ _ _ _ m c.if-n-eq0.false) _ (rw c.in_err-judge_made.was)

pub behind-requires-2 : goal.behind-requires-2
behind-requires-2 c =
    let ruled : Ruled (payload_in c.args.e.now c.args.s.now) = payload-ruled _ _ (λ j. (c.type_inv.s j).fits) c.requires.3 in
    let m = c.make_payload-n.ensures in
    let a = c.args in
    (c.requires.1, turn-short a.scale a.i a.duration a.state _ _ (λ l. (made-length _ _ _ _ m l).0) _ (c.judge_made.ensures _ _ m ruled) c.in_ok-judge_made.was)

pub returns : goal.returns
returns c =
    let ruled : Ruled (payload_in c.args.e.now c.args.s.now) = payload-ruled _ _ (λ j. (c.type_inv.s j).fits) c.requires.3 in
    let m = c.make_payload-n.ensures in
    turn-text _ _ _ _ _ _ (λ l. (made-length _ _ _ _ m l).0) _ (c.judge_made.ensures _ _ m ruled) (some-made _ _ _ _ m c.if-n-eq0.false) _ (ap On c.behind-2.ensures ∙ rw c.in_ok-judge_made.was)
