-- Numbers stand for the value whose numbers they are.
use Rattle.std.specs.Prelude.{◌≡◌, true}
use Rattle.settings.specs.declared.Settings.{Settings}
use Rattle.settings_flat.specs.Flat.{flat_settings, known, settings_of}

abbrev pub FlatComesBack : Type 0
FlatComesBack = (x : Settings) → (known (flat_settings x) ≡ true) × (settings_of (flat_settings x) ≡ x)
