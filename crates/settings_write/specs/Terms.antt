-- Terms of the contracts of private functions.
use Rattle.std.specs.Prelude.{ℕ, ◌+◌, ◌≤◌, ◌≡◌, Bool, true, false, List, [], eqb, leb, length, take}
use Rattle.base.specs.Choice.{pick, both}
use Rattle.settings.specs.declared.Settings.{Settings}
use Rattle.settings.specs.Form.{stated_values, joined, settings_allowed, region_allowed, written, writable}
use Rattle.settings_write.specs.Form.{Form, Fits, Unfit}
use Rattle.settings_write.specs.Writing.{record_with}

-- each value and the name may be written; and the name alone is not too long
unfoldable pub sound : Settings → List ℕ → Bool
sound x w = both (leb (length w) 255) (both (settings_allowed x) (region_allowed w))

-- how many bytes a form has whose settings without the region have n, and whose region's name has m
unfoldable pub form_size : ℕ → ℕ → ℕ
form_size n m = pick (eqb m 0) n (pick (eqb n 0) (7 + m) (n + 8 + m))

-- what is known of a record once it is prepared: where it can be written, what was put into e and how long the form is
abbrev pub Prepared : Settings → List ℕ → Form → List ℕ → Type 0
Prepared x w (Fits n size) e = (writable (record_with x w) ≡ true) × (take n e ≡ joined [] (stated_values x)) × (n ≤ length e) × (size ≡ length (written (record_with x w)))
Prepared x w Unfit e = writable (record_with x w) ≡ false
