-- Each byte of ASCII begins a character.
use mathlib.Core.Path.{sym, ◌∙◌}
use Rattle.characters.proofs.Firsts.{ascii-count}
use Rattle.tx3g_tidy.proofs.count_utf8.Goals as goal

pub returns-then-is_ascii : goal.returns-then-is_ascii
returns-then-is_ascii c = ascii-count _ (sym c.is_ascii.ensures ∙ c.if-is_ascii.true)
