-- The premises under which a file that is written is read again. Document 02, K5.
use Rattle.std.specs.Prelude.{ℕ, ◌≡◌, Bool, true, false}
use mathlib.Core.List.{List, [], ◌∷◌, Memᴰ}
use Rattle.utf8.specs.Strings.{CR, has_any}
use Rattle.utf8.specs.Forbidden.{arrow}
use Rattle.text.specs.Rules.{webvtt}
use Rattle.cues.specs.Caption.{Caption}
use Rattle.vtt_lines.specs.Lines.{Line, lines_of, filled}
use Rattle.vtt_timing.specs.Timing.{edge, begins}
use Rattle.vtt_blocks.specs.Kinds.{opens}

-- the string stands nowhere in the text
abbrev pub Without : List ℕ → List ℕ → Type 0
Without p s = has_any (p ∷ []) s ≡ false

abbrev pub first_of : List Line → Line
first_of [] = []
first_of (l ∷ ls) = l

-- the last byte passes the test
unfoldable pub ends : (ℕ → Bool) → List ℕ → Bool
ends p [] = false
ends p (b ∷ []) = p b
ends p (b ∷ c ∷ s) = ends p (c ∷ s)

-- ---- the configuration

-- it holds no empty line
abbrev pub NoEmptyLine : List ℕ → Type 0
NoEmptyLine configuration = filled (lines_of configuration) ≡ lines_of configuration

-- and no `-->`
abbrev pub NoArrow : List ℕ → Type 0
NoArrow configuration = Without arrow configuration

-- its first line is one that K1 takes: `WEBVTT`, and then nothing, or a space or tab and anything
abbrev pub FirstLineTaken : List ℕ → Type 0
FirstLineTaken configuration = opens webvtt (first_of (lines_of configuration)) ≡ true

pub record Header (configuration : List ℕ) : Type 0 where
  pub no_empty : NoEmptyLine configuration
  pub no_arrow : NoArrow configuration
  pub first_taken : FirstLineTaken configuration

-- ---- a cue

-- its payload holds no CR
abbrev pub NoCR : Caption → Type 0
NoCR c = Without (CR ∷ []) c.payload

-- its settings do not begin with a space, tab or form feed
abbrev pub SettingsBegin : Caption → Type 0
SettingsBegin c = begins edge c.settings ≡ false

-- and do not end with one
abbrev pub SettingsEnd : Caption → Type 0
SettingsEnd c = ends edge c.settings ≡ false

pub record Plain (c : Caption) : Type 0 where
  pub no_cr : NoCR c
  pub settings_begin : SettingsBegin c
  pub settings_end : SettingsEnd c

-- ---- both

-- of each cue
abbrev pub Each : (Caption → Type 0) → List Caption → Type 0
Each P cs = (c : Caption) → Memᴰ c cs → P c

pub record Premises (configuration : List ℕ) (cs : List Caption) : Type 0 where
  pub header : Header configuration
  pub plain : Each Plain cs
