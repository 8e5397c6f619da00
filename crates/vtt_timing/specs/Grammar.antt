-- What a timing line is, in K1's words.
use Rattle.std.specs.Prelude.{ℕ, ◌≡◌, ◌≢◌, ◌↔◌, Bool, true, List, [], ◌∷◌, ◌++◌}
use Rattle.std.proofs.Math.Option.{some}
use Rattle.utf8.specs.Forbidden.{arrow}
use Rattle.vtt_lines.specs.Lines.{Line}
use Rattle.timestamps.specs.Timestamps.{behind, time_of}
use Rattle.vtt_timing.specs.Timing.{blank, trimmed, Timing, timing_of}

-- one or more spaces and tabs
abbrev pub Blanks : List ℕ → Type 0
Blanks s = (s ≢ []) × (behind blank s ≡ [])

-- nothing, or a space or tab and anything
abbrev pub ended : List ℕ → Bool
ended [] = true
ended (b ∷ s) = blank b

-- a time, blanks, `-->`, blanks, a time, and then nothing, or a blank and anything, of which the trimmed rest is the settings
pub record TimingLine (l : Line) (t : Timing) : Type 0 where
  pub first : List ℕ
  pub before : List ℕ
  pub after : List ℕ
  pub second : List ℕ
  pub rest : List ℕ
  pub is : l ≡ first ++ (before ++ (arrow ++ (after ++ (second ++ rest))))
  pub start_is : time_of first ≡ some t.start
  pub some_before : Blanks before
  pub some_after : Blanks after
  pub end_is : time_of second ≡ some t.end
  pub rest_apart : ended rest ≡ true
  pub settings_is : trimmed rest ≡ t.settings

-- the definition reads exactly the timing lines
abbrev pub TimingMeans : Type 0
TimingMeans = (l : Line) (t : Timing) → (timing_of l ≡ some t) ↔ TimingLine l t
