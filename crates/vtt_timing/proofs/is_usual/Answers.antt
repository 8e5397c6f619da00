-- Place by place.
use mathlib.Core.Path.{refl, sym, ◌∙◌}
use mathlib.Core.Bool.{false}
use native.Mathlib.Omega.{arith}
use Rattle.base.proofs.Choice.{true-false}
use Rattle.vtt_timing.proofs.Usual.{ends_there, ends-blank}
use Rattle.vtt_timing.proofs.is_usual.Goals as goal

pub returns-then-l-lt29 : goal.returns-then-l-lt29
returns-then-l-lt29 c = λ e. true-false false e refl

pub returns-then-l-ne32 : goal.returns-then-l-ne32
returns-then-l-ne32 c = λ e. true-false false e refl

pub returns-then-l-ne32-2 : goal.returns-then-l-ne32-2
returns-then-l-ne32-2 c = λ e. true-false false e refl

pub returns-then-not-is_arrow : goal.returns-then-not-is_arrow
returns-then-not-is_arrow c = λ e. true-false false e refl

pub returns-then-l-eq29 : goal.returns-then-l-eq29
returns-then-l-eq29 c = λ e. record {
  long = c.if-l-lt29.false;
  first_blank = c.if-l-ne32.false;
  arrow_there = sym c.is_arrow.ensures ∙ c.if-not-is_arrow.false;
  second_blank = c.if-l-ne32-2.false;
  apart = ends_there c.args.l.now c.if-l-eq29.true;
}

pub returns : goal.returns
returns c = λ e. record {
  long = c.if-l-lt29.false;
  first_blank = c.if-l-ne32.false;
  arrow_there = sym c.is_arrow.ensures ∙ c.if-not-is_arrow.false;
  second_blank = c.if-l-ne32-2.false;
  apart = ends-blank c.args.l.now (omega (arith, c.if-l-lt29.false, c.if-l-eq29.false)) ∙ sym c.is_blank.ensures ∙ e;
}
