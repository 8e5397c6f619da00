-- `settings_write::put_form` meets its contract: the settings, and `region:` with the name behind them.
use lib.Seq.{length-take-le}
use lib.ListN.{length}
use mathlib.Core.Path.{sym, ◌∙◌}
use native.Mathlib.Omega.{arith}
use borrow.Author.Tests.{eqb-true, eqb-false}
use Rattle.settings_write.proofs.Laws.{size-some, form-alone, form-region, size-least}
use Rattle.settings_write.proofs.put_form.Goals as goal

pub slice_bounds-put_text-end : goal.slice_bounds-put_text-end
slice_bounds-put_text-end c = sym (length-take-le c.args.n c.args.head.now c.requires.0)

pub put_text-requires : goal.put_text-requires
put_text-requires c = let a = c.args in omega (arith, length-take-le a.n a.head.now c.requires.0, size-least a.n (length a.region.now))

pub returns-else-not-is_empty : goal.returns-else-not-is_empty
returns-else-not-is_empty c = form-alone _ _ _ c.args.region.now (eqb-true (length c.args.region.now) 0 (sym c.is_empty.ensures ∙ c.if-not-is_empty.false)) c.put_text.ensures.1

pub put_word-at-requires : goal.put_word-at-requires
put_word-at-requires c = let a = c.args in omega (arith, c.put_text.auto.pool, (size-some a.n (length a.region.now) (eqb-false (length c.args.region.now) 0 (sym c.is_empty.ensures ∙ c.if-not-is_empty.true))).1)

pub put_text-requires-then-not-is_empty : goal.put_text-requires-then-not-is_empty
put_text-requires-then-not-is_empty c = let a = c.args in omega (arith, c.put_text.auto.pool, c.put_word-at.auto.out, c.put_word-at.ensures.0, (size-some a.n (length a.region.now) (eqb-false (length c.args.region.now) 0 (sym c.is_empty.ensures ∙ c.if-not-is_empty.true))).0)

pub returns-then-not-is_empty : goal.returns-then-not-is_empty
returns-then-not-is_empty c = let a = c.args in
    form-region a.out.now _ _ _ _ a.region.now a.n _ (sym (length-take-le a.n a.head.now c.requires.0)) (eqb-false (length c.args.region.now) 0 (sym c.is_empty.ensures ∙ c.if-not-is_empty.true)) c.requires.1 c.put_text.ensures.1 c.put_word-at.ensures.0 c.put_word-at.ensures.1 c.put_text-then-not-is_empty.ensures.1
