-- The examples, by computation.
use mathlib.Core.Path.{refl}
use Rattle.profile.specs.Grammar.{name}
use Rattle.profile.specs.Machine.{kind, clock, find, escapes, escapes_l, tags, tags_r, most, timing, step, judge_from, judge}
use Rattle.profile.specs.Cases.{repeated, Cases}

pub cases : Cases
unfolding repeated judge judge_from step find escapes escapes_l tags tags_r most timing kind name clock
cases = record {
  seventeen = refl;
  sixteen = refl;
  twice = refl;
  falling = refl;
  highest = refl;
  bare_voice = refl;
  blank_voice = refl;
  less_in_voice = refl;
  escaped_lang = refl;
  rt_outside = refl;
  rt_inside = refl;
  nothing_open = refl;
  other_end = refl;
  early = refl;
  greater = refl;
}
