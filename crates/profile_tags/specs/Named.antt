-- The place behind the name of a tag, and the tag; or where no name can go on.
use Rattle.std.specs.Prelude.{ℕ, Result, Ok, Err}
use Rattle.profile.specs.declared.Tag.{Tag}

abbrev pub Named : Type 0
Named = Result (ℕ × Tag) ℕ

pattern abbrev pub Found : ℕ → Tag → Named
Found i t = Ok (i, t)

pattern abbrev pub Wrong : ℕ → Named
Wrong i = Err i
