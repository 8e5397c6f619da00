-- `verdict::text_at` meets its contract: the refusal of a bad text is built by `bad_text_at`.
use Rattle.verdict.proofs.text_at.Goals as goal

pub returns-in-Err : goal.returns-in-Err
returns-in-Err c = rw (c.bad_text_at.ensures, c.in-Err.is)
