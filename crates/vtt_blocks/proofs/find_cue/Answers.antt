-- The timing line's settings stand in the file where they stand in the line.
use mathlib.Core.Path.{refl, subst}
use native.Mathlib.Omega.{arith}
use Rattle.vtt_timing.specs.Read.{ReadAs}
use Rattle.vtt_blocks.specs.Found.{text_in}
use Rattle.vtt_blocks.proofs.Parts.{settings_end, timed-at}
use Rattle.vtt_blocks.proofs.find_cue.Goals as goal

pub overflow_add-result : goal.overflow_add-result
overflow_add-result c = record { fits = omega (arith, settings_end c.args.s.now c.args.from c.args.end _ _ _ _ (omega arith) (omega arith) (subst (ReadAs (text_in c.args.s.now c.args.from c.args.end)) c.in-Some.is c.read_timing.ensures)) }

pub overflow_add-result-in-Some : goal.overflow_add-result-in-Some
overflow_add-result-in-Some c = record { fits = omega (arith, settings_end c.args.s.now c.args.from c.args.end _ _ _ _ (omega arith) (omega arith) (subst (ReadAs (text_in c.args.s.now c.args.from c.args.end)) c.in-Some.is c.read_timing.ensures)) }

pub returns-in-Some : goal.returns-in-Some
returns-in-Some c = timed-at _ _ _ _ _ _ _ _ _ _ (omega arith) (omega arith) (subst (ReadAs (text_in c.args.s.now c.args.from c.args.end)) c.in-Some.is c.read_timing.ensures)

pub returns-in-None : goal.returns-in-None
returns-in-None c = (subst (ReadAs (text_in c.args.s.now c.args.from c.args.end)) c.in-None.is c.read_timing.ensures, refl)
