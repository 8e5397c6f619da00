-- Terms of the contracts: runs of bytes, and a timing line as it is answered.
use Rattle.std.specs.Prelude.{ℕ, ◌-◌, ◌≤◌, ◌≡◌, Bool, true, List, length, take, drop, get_or, Option, Some, None}
use Rattle.std.proofs.Math.Option.{none, some}
use Rattle.utf8.specs.Strings.{starts_with}
use Rattle.utf8.specs.Forbidden.{arrow}
use Rattle.timestamps.specs.Timestamps.{capped}
use Rattle.vtt_timing.specs.declared.Run.{Run}
use Rattle.vtt_timing.specs.declared.Run.TheVariants.{Blanks, Word, Edges}
use Rattle.vtt_timing.specs.declared.Times.{Times}
use Rattle.vtt_timing.specs.Grammar.{ended}
use Rattle.vtt_timing.specs.Timing.{blank, unblank, edge, Timing, timing_of}

-- a byte of the run
abbrev pub in_run : Run → ℕ → Bool
in_run Blanks = blank
in_run Word = unblank
in_run Edges = edge

-- blanks and `-->` stand where `hh:mm:ss.mmm --> hh:mm:ss.mmm` has them
pub record Usual (l : List ℕ) : Type 0 where
  pub long : 29 ≤ length l
  pub first_blank : get_or l 12 0 ≡ 0x20
  pub arrow_there : starts_with arrow (drop 13 l) ≡ true
  pub second_blank : get_or l 16 0 ≡ 0x20
  pub apart : ended (drop 29 l) ≡ true

-- the times, as timestamps are answered, and the settings as a part of the line
pub record TimesIn (l : List ℕ) (start end from to : ℕ) : Type 0 where
  pub says : Timing
  pub is : timing_of l ≡ some says
  pub start_is : start ≡ capped says.start
  pub end_is : end ≡ capped says.end
  pub ordered : from ≤ to
  pub within : to ≤ length l
  pub settings_is : take (to - from) (drop from l) ≡ says.settings

abbrev pub ReadAs : List ℕ → Option Times → Type 0
ReadAs l (Some t) = TimesIn l t.start t.end t.from t.to
ReadAs l None = timing_of l ≡ none

-- what is read by places is what the line says; nothing is said of a line that is not
abbrev pub UsuallyRead : List ℕ → Option Times → Type 0
UsuallyRead l (Some t) = TimesIn l t.start t.end t.from t.to
UsuallyRead l None = Unit {0}
