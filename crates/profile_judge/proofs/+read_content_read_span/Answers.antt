use native.Mathlib.Omega.{arith}
use mathlib.Core.Path.{subst⁻¹}
use Rattle.base.proofs.Results.{passed_on}
use Rattle.profile.specs.Spot.{Past, Bad}
use Rattle.profile.proofs.Readings.{r-here, r-then}
use Rattle.profile_judge.specs.Part.{On, Wrong}
use Rattle.profile_judge.specs.Terms.{Room, texts, SpanIs, ContentIs}
use Rattle.profile_judge.proofs.Laws.{then-content, content-wrong, content-more, content-whole, content-short, content-span, content-torn, content-close, content-none, span-full, span-misnamed, span-torn, span-closed, tag-letter}
use Rattle.profile_judge.proofs.+read_content_read_span.Goals as goal
use Rattle.profile_judge.proofs.+read_content_read_span.Goals.{read_content-else-next-s-via-then-next-s+else-left-eq16, read_content-else-next-s-via-else-next-s}

pub read_content-loop-next-init : goal.read_content-loop-next-init
read_content-loop-next-init t c = r-here (Room c.args.left c.args.ruby) _ _ (texts c.args.left c.args.ruby _) (omega arith)

pub read_content-read_text-requires : goal.read_content-read_text-requires
read_content-read_text-requires t c = c.loop-next.invariant.bounds.1

pub read_content-returns-in_err-next : goal.read_content-returns-in_err-next
read_content-returns-in_err-next t c =
    subst⁻¹ (ContentIs c.args.s.now c.args.at c.args.left c.args.ruby c.args.low) (passed_on _ _ c.from_residual.ensures)
    (then-content c.args.s.now c.args.at c.args.left c.args.ruby c.args.low _ _ (Wrong _) c.loop-next.invariant (content-wrong c.args.s.now _ c.args.left c.args.ruby _ _ c.in_err-next.ensures.0))

pub read_content-overflow_sub-s : goal.read_content-overflow_sub-s
read_content-overflow_sub-s t c = c.in_ok-next.ensures.0.bounds.1

pub read_content-returns-then-left-eq16 : goal.read_content-returns-then-left-eq16
read_content-returns-then-left-eq16 t c = then-content c.args.s.now c.args.at c.args.left c.args.ruby c.args.low _ _ (On _ _) (content-more c.args.s.now c.args.at c.args.left c.args.ruby c.args.low _ _ _ _ c.loop-next.invariant c.in_ok-next.ensures.0) (content-whole c.args.s.now c.in_ok-next.next c.args.left c.args.ruby c.in_ok-next.low c.if-next-s.true c.if-left-eq16.true)

pub read_content-returns-then-s-next-lt2 : goal.read_content-returns-then-s-next-lt2
read_content-returns-then-s-next-lt2 t c =
    then-content c.args.s.now c.args.at c.args.left c.args.ruby c.args.low _ _ (Wrong _) (content-more c.args.s.now c.args.at c.args.left c.args.ruby c.args.low _ _ _ _ c.loop-next.invariant c.in_ok-next.ensures.0)
    (content-short c.args.s.now c.in_ok-next.next c.args.left c.args.ruby c.in_ok-next.low c.in_ok-next.ensures.0.bounds.1 c.if-s-next-lt2.true c.in_ok-next.ensures.1
    (λ e z. elim c.else-next-s.branch [
      | read_content-else-next-s-via-then-next-s+else-left-eq16 w ↦ w.if-left-eq16.false z
      | read_content-else-next-s-via-else-next-s w ↦ w.if-next-s.false e
    ]))

pub read_content-bounds-s-next : goal.read_content-bounds-s-next
read_content-bounds-s-next t c = omega (arith, c.if-s-next-lt2.false, c.in_ok-next.ensures.0.bounds.1)

pub read_content-returns-then-left-eq16-2 : goal.read_content-returns-then-left-eq16-2
read_content-returns-then-left-eq16-2 t c = then-content c.args.s.now c.args.at c.args.left c.args.ruby c.args.low _ _ (Wrong _) (content-more c.args.s.now c.args.at c.args.left c.args.ruby c.args.low _ _ _ _ c.loop-next.invariant c.in_ok-next.ensures.0) (content-none c.args.s.now c.in_ok-next.next c.args.left c.args.ruby c.in_ok-next.low (omega (arith, c.if-s-next-lt2.false)) (c.in_ok-next.ensures.1.0 (omega (arith, c.if-s-next-lt2.false))) (omega (arith, c.if-s-next-lt2.false)) c.if-s-next-eq47.true c.if-left-eq16-2.true)

pub read_content-returns-then-s-next-eq47 : goal.read_content-returns-then-s-next-eq47
read_content-returns-then-s-next-eq47 t c = then-content c.args.s.now c.args.at c.args.left c.args.ruby c.args.low _ _ (On _ _) (content-more c.args.s.now c.args.at c.args.left c.args.ruby c.args.low _ _ _ _ c.loop-next.invariant c.in_ok-next.ensures.0) (content-close c.args.s.now c.in_ok-next.next c.args.left c.args.ruby c.in_ok-next.low (omega (arith, c.if-s-next-lt2.false)) (c.in_ok-next.ensures.1.0 (omega (arith, c.if-s-next-lt2.false))) (omega (arith, c.if-s-next-lt2.false)) c.if-s-next-eq47.true c.if-left-eq16-2.false)

pub read_content-read_span-requires : goal.read_content-read_span-requires
read_content-read_span-requires t c = omega (arith, c.if-s-next-lt2.false, tag-letter c.args.s.now _ c.in_ok-next.ensures.1 (omega (arith, c.if-s-next-lt2.false)) c.if-s-next-eq47.false)

pub read_content-returns-in_err-end : goal.read_content-returns-in_err-end
read_content-returns-in_err-end t c =
    subst⁻¹ (ContentIs c.args.s.now c.args.at c.args.left c.args.ruby c.args.low) (passed_on _ _ c.from_residual-in_err-end.ensures)
    (then-content c.args.s.now c.args.at c.args.left c.args.ruby c.args.low _ _ (Wrong _) (content-more c.args.s.now c.args.at c.args.left c.args.ruby c.args.low _ _ _ _ c.loop-next.invariant c.in_ok-next.ensures.0) (content-torn c.args.s.now c.in_ok-next.next c.args.left c.args.ruby c.in_ok-next.low (omega (arith, c.if-s-next-lt2.false)) (c.in_ok-next.ensures.1.0 (omega (arith, c.if-s-next-lt2.false))) _ c.in_err-end.ensures))

pub read_content-loop-next-smaller : goal.read_content-loop-next-smaller
read_content-loop-next-smaller t c = let k = c.in_ok-end.ensures in omega (arith, k.bounds.0, k.bounds.1, c.in_ok-next.ensures.0.bounds.0)

pub read_content-loop-next-preserved : goal.read_content-loop-next-preserved
read_content-loop-next-preserved t c = r-then (Room c.args.left c.args.ruby) _ _ _ _ (texts c.args.left c.args.ruby _) (texts c.args.left c.args.ruby _) (texts c.args.left c.args.ruby _) (content-more c.args.s.now c.args.at c.args.left c.args.ruby c.args.low _ _ _ _ c.loop-next.invariant c.in_ok-next.ensures.0) (content-span c.args.s.now c.in_ok-next.next c.args.left c.args.ruby c.in_ok-next.low (omega (arith, c.if-s-next-lt2.false)) (c.in_ok-next.ensures.1.0 (omega (arith, c.if-s-next-lt2.false))) _ _ c.in_ok-end.ensures)

pub read_span-returns-then-left-eq0 : goal.read_span-returns-then-left-eq0
read_span-returns-then-left-eq0 t c = span-full c.args.s.now c.args.at c.args.left c.args.ruby c.args.low (omega arith) (omega arith) c.if-left-eq0.true

pub read_span-overflow_sub-left : goal.read_span-overflow_sub-left
read_span-overflow_sub-left t c = omega (arith, c.if-left-eq0.false)

pub read_span-returns-in_err-inside : goal.read_span-returns-in_err-inside
read_span-returns-in_err-inside t c =
    subst⁻¹ (SpanIs c.args.s.now c.args.at c.args.left c.args.ruby c.args.low) (passed_on _ _ c.from_residual.ensures)
    (span-misnamed c.args.s.now c.args.at c.args.left c.args.ruby c.args.low c.if-left-eq0.false _ c.in_err-inside.ensures)

pub read_span-read_content-requires : goal.read_span-read_content-requires
read_span-read_content-requires t c = let k = c.in_ok-inside.ensures in omega (arith, c.if-left-eq0.false, k.bounds.1)

pub read_span-returns-in_err-close : goal.read_span-returns-in_err-close
read_span-returns-in_err-close t c =
    subst⁻¹ (SpanIs c.args.s.now c.args.at c.args.left c.args.ruby c.args.low) (passed_on _ _ c.from_residual-in_err-close.ensures)
    (span-torn c.args.s.now c.args.at c.args.left c.args.ruby c.args.low c.if-left-eq0.false _ _ c.in_ok-inside.ensures _ c.is_ruby.ensures _ c.in_err-close.ensures)

pub read_span-read_close-requires : goal.read_span-read_close-requires
read_span-read_close-requires t c = c.in_ok-close.ensures.1

pub read_span-returns-in_err-next : goal.read_span-returns-in_err-next
read_span-returns-in_err-next t c =
    subst⁻¹ (SpanIs c.args.s.now c.args.at c.args.left c.args.ruby c.args.low) (passed_on _ _ c.from_residual-in_err-next.ensures)
    (span-closed c.args.s.now c.args.at c.args.left c.args.ruby c.args.low c.if-left-eq0.false _ _ c.in_ok-inside.ensures _ c.is_ruby.ensures _ _ c.in_ok-close.ensures (Bad _) c.in_err-next.ensures)

pub read_span-returns : goal.read_span-returns
read_span-returns t c = span-closed c.args.s.now c.args.at c.args.left c.args.ruby c.args.low c.if-left-eq0.false _ _ c.in_ok-inside.ensures _ c.is_ruby.ensures _ _ c.in_ok-close.ensures (Past _) c.in_ok-next.ensures
