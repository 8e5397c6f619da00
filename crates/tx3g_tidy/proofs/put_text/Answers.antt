-- Where nothing is escaped, the text is copied.
use native.Mathlib.Omega.{arith}
use Rattle.tx3g_tidy.proofs.Escapes.{plain-found}
use Rattle.tx3g_tidy.proofs.Parts.{plain-part, plain-wrote}
use Rattle.tx3g_tidy.proofs.put_text.Goals as goal

pub copy_run-requires : goal.copy_run-requires
copy_run-requires c =
    let p = c.requires in
    let w = plain-part _ _ _ p.0 p.1 (plain-found _ _ _ _ c.has_escapes.ensures c.if-has_escapes.false) in
    (omega (arith, p.2, w.1), omega (arith, p.0, p.1))

pub returns : goal.returns
returns c = let p = c.requires in plain-wrote _ _ _ _ _ _ p.0 p.1 (plain-found _ _ _ _ c.has_escapes.ensures c.if-has_escapes.false) c.copy_run.ensures
