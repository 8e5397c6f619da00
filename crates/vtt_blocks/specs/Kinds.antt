-- What a block of a file is. Document 02, K1.
use Rattle.std.specs.Prelude.{ℕ, suc, Bool, not, List, [], ◌∷◌, eqb, length, drop}
use Rattle.std.proofs.Math.Option.{Option, none, some}
use Rattle.base.specs.Choice.{pick, both, any_of}
use Rattle.utf8.specs.Strings.{starts_with}
use Rattle.cues.specs.Caption.{Caption, caption}
use Rattle.timestamps.specs.Timestamps.{behind}
use Rattle.vtt_lines.specs.Lines.{Line, joined, Block, holds_arrow, some_arrow}
use Rattle.vtt_timing.specs.Timing.{blank, Timing, timing_of}
use Rattle.vtt_timing.specs.Grammar.{ended}

-- a cue, with its timing line's number; one whose timing line, of that number, is malformed; a NOTE; STYLE or REGION; something else
pub data Kind : Type 0 where
  cue : ℕ → Caption → Kind
  untimed : ℕ → Kind
  note : Kind
  style : Kind
  other : Kind

-- the strings `NOTE`, `STYLE`, `REGION`
abbrev pub NOTE : List ℕ
NOTE = 0x4E ∷ 0x4F ∷ 0x54 ∷ 0x45 ∷ []

abbrev pub STYLE : List ℕ
STYLE = 0x53 ∷ 0x54 ∷ 0x59 ∷ 0x4C ∷ 0x45 ∷ []

abbrev pub REGION : List ℕ
REGION = 0x52 ∷ 0x45 ∷ 0x47 ∷ 0x49 ∷ 0x4F ∷ 0x4E ∷ []

-- only spaces and tabs
abbrev pub blanks : List ℕ → Bool
blanks s = eqb (length (behind blank s)) 0

-- the line is the word, and then nothing, or a space or tab and anything
unfoldable pub opens : List ℕ → Line → Bool
unfolding blank
opens word l = both (starts_with word l) (ended (drop (length word) l))

-- the line is the word, and then only spaces and tabs
unfoldable pub names : List ℕ → Line → Bool
unfolding blank
names word l = both (starts_with word l) (blanks (drop (length word) l))

-- a block with this timing line: the settings are the line's, the payload is the lines behind it
abbrev pub timed : ℕ → Line → Option Timing → List Line → Kind
timed n identifier none ls = untimed n
timed n identifier (some t) ls = cue n (caption t.start t.end identifier t.settings (joined ls))

-- a block without timing line
unfoldable pub plain_kind : Line → List Line → Kind
unfolding names opens some_arrow
plain_kind l ls = pick (any_of (names STYLE l) (names REGION l)) style (pick (both (opens NOTE l) (not (some_arrow (l ∷ ls)))) note other)

-- a block whose first line is no timing line
unfoldable pub later_kind : ℕ → Line → List Line → Kind
unfolding timing_of joined plain_kind holds_arrow
later_kind n l [] = plain_kind l []
later_kind n l (m ∷ ls) = pick (holds_arrow m) (timed (suc n) l (timing_of m) ls) (plain_kind l (m ∷ ls))

-- a block whose first line, or else second, holds `-->` is a cue with that timing line, whatever its first line says
unfoldable pub kind_of : Block → Kind
unfolding later_kind holds_arrow timing_of joined
kind_of b = pick (holds_arrow b.first) (timed b.line [] (timing_of b.first) b.rest) (later_kind b.line b.first b.rest)
