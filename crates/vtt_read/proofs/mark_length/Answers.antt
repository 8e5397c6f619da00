-- The three bytes, if there are so many.
use native.Mathlib.Omega.{arith}
use Rattle.vtt_read.proofs.Header.{mark-short, other-first, other-second, other-third, marked}
use Rattle.vtt_read.proofs.mark_length.Goals as goal

pub returns-in-239 : goal.returns-in-239
returns-in-239 c = (marked _ (omega arith) (omega arith) (omega arith) (omega arith), omega arith)

pub returns-in_default : goal.returns-in_default
returns-in_default c = (mark-short _ (omega arith), omega arith)

pub returns-in_default-2 : goal.returns-in_default-2
returns-in_default-2 c = (other-third _ (omega arith) (λ e. omega arith), omega arith)

pub returns-in_default-3 : goal.returns-in_default-3
returns-in_default-3 c = (other-second _ (omega arith) (λ e. omega arith), omega arith)

pub returns-in_default-4 : goal.returns-in_default-4
returns-in_default-4 c = (other-first _ (omega arith) (λ e. omega arith), omega arith)
