-- A record that can be written: how many bytes its settings have without the region, and how many the form has.
use Rattle.std.specs.Prelude.{ℕ, Option, Some, None}

abbrev pub Form : Type 0
Form = Option (ℕ × ℕ)

pattern abbrev pub Fits : ℕ → ℕ → Form
Fits h n = Some (h, n)

pattern abbrev pub Unfit : Form
Unfit = None
