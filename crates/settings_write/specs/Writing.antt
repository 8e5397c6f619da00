-- Writing settings in their fixed form: what is refused, and the whole answer. Document 02, K10.
use Rattle.std.specs.Prelude.{ℕ, List, length}
use Rattle.base.specs.Choice.{pick}
use Rattle.verdict.specs.Judgement.{fault}
use Rattle.wvtt_entry_write.specs.Written.{Written, Done, Refused}
use Rattle.wvtt_entry_write.specs.Writing.{lent}
use Rattle.settings.specs.declared.Settings.{Settings}
use Rattle.settings.specs.Grammar.{Record}
use Rattle.settings.specs.Form.{written, writable}

-- settings, and the name of a region that is lent beside them
abbrev pub record_with : Settings → List ℕ → Record
record_with x w = record { settings = x; region = w }

-- the answer of `settings_room`: 8 for a record that no reading could give, or how many bytes are needed
unfoldable pub settings_room : Settings → List ℕ → Written
settings_room x w = pick (writable (record_with x w)) (Done (length (written (record_with x w)))) (Refused (fault 8 0))

-- the answer of `write_settings`: then 15
unfoldable pub settings_written : Settings → List ℕ → ℕ → Written
unfolding settings_room
settings_written x w room = lent (settings_room x w) room
