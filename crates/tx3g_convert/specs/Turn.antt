-- The state behind a sample; or why not.
use Rattle.std.specs.Prelude.{Result, Ok, Err}
use Rattle.verdict.specs.declared.Refusal.{Refusal}
use Rattle.tx3g_convert.specs.declared.State.{State}

abbrev pub Turn : Type 0
Turn = Result State Refusal

pattern abbrev pub On : State → Turn
On x = Ok x

pattern abbrev pub Stopped : Refusal → Turn
Stopped r = Err r
