-- A cue's parts; or the refusal of a header.
use Rattle.std.specs.Prelude.{Result, Ok, Err}
use Rattle.verdict.specs.declared.Refusal.{Refusal}
use Rattle.wvtt_cues.specs.declared.Parts.{Parts}

abbrev pub Inner : Type 0
Inner = Result Parts Refusal

pattern abbrev pub Whole : Parts → Inner
Whole x = Ok x

pattern abbrev pub Refused : Refusal → Inner
Refused r = Err r
