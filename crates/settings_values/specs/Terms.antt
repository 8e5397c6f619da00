-- Terms of contracts: a percentage as it is answered.
use Rattle.std.specs.Prelude.{ℕ}
use Rattle.std.proofs.Math.Option.{Option, none, some}
use Rattle.settings_values.specs.Hundredths.{Hundredths, Of, Wrong}

abbrev pub percent_or : Hundredths → Option ℕ
percent_or (Of p) = some p
percent_or Wrong = none
