-- The timing line of a cue. Document 02, K1.
use Rattle.std.specs.Prelude.{ℕ, Bool, true, false, not, List, [], ◌∷◌, eqb, drop}
use Rattle.std.proofs.Math.Option.{Option, none, some}
use Rattle.base.specs.Choice.{pick, both, any_of}
use Rattle.utf8.specs.Strings.{starts_with}
use Rattle.utf8.specs.Forbidden.{arrow}
use Rattle.vtt_lines.specs.Lines.{Line}
use Rattle.timestamps.specs.Timestamps.{front, behind, time_of}

-- a space or a tab
unfoldable pub blank : ℕ → Bool
blank b = any_of (eqb b 0x20) (eqb b 0x09)

unfoldable pub unblank : ℕ → Bool
unfolding blank
unblank b = not (blank b)

-- a space, tab or form feed
unfoldable pub edge : ℕ → Bool
unfolding blank
edge b = any_of (blank b) (eqb b 0x0C)

-- the first byte passes the test
abbrev pub begins : (ℕ → Bool) → List ℕ → Bool
begins p [] = false
begins p (b ∷ s) = p b

-- the byte in front of what is left of the others; nothing where it is an edge and nothing is left
abbrev pub unless_edge : ℕ → List ℕ → List ℕ
unless_edge b [] = pick (edge b) [] (b ∷ [])
unless_edge b (c ∷ s) = b ∷ c ∷ s

-- without the spaces, tabs and form feeds at the end
unfoldable pub trimmed_end : List ℕ → List ℕ
unfolding edge
trimmed_end [] = []
trimmed_end (b ∷ s) = unless_edge b (trimmed_end s)

-- trimmed of spaces, tabs and form feeds
unfoldable pub trimmed : List ℕ → List ℕ
unfolding edge trimmed_end
trimmed s = trimmed_end (behind edge s)

-- what a timing line says: times in ms, and the settings
pub record Timing : Type 0 where
  pub start : ℕ
  pub end : ℕ
  pub settings : List ℕ

abbrev pub timing : Bool → Option ℕ → Option ℕ → List ℕ → Option Timing
timing false a b s = none
timing true none b s = none
timing true (some a) none s = none
timing true (some a) (some b) s = some (record { start = a; end = b; settings = s })

-- the line from its first blank on, but for blanks
unfoldable pub after_word : List ℕ → List ℕ
unfolding blank unblank
after_word s = behind blank (behind unblank s)

-- a time, blanks, `-->`, blanks, a time, and then nothing, or a blank and the settings
unfoldable pub timing_of : Line → Option Timing
unfolding after_word trimmed
timing_of l =
    let r = after_word l in
    let s = behind blank (drop 3 r) in
    timing (both (starts_with arrow r) (begins blank (drop 3 r))) (time_of (front unblank l)) (time_of (front unblank s)) (trimmed (behind unblank s))
