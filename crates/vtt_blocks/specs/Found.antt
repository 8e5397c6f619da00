-- Terms of the contracts: what is found at the place of a line, by the blocks from there on.
use Rattle.std.specs.Prelude.{ℕ, ◌+◌, ◌-◌, ◌≤◌, ◌<◌, ◌≡◌, false, List, ◌∷◌, length, take, drop}
use Rattle.std.proofs.Math.Option.{none, some}
use Rattle.cues.specs.Caption.{Caption}
use Rattle.timestamps.specs.Timestamps.{capped}
use Rattle.vtt_lines.specs.Lines.{Line, lines_of, joined, filled, unfilled, Block, blocks_from}
use Rattle.vtt_lines.specs.Cursor.{PassedTo}
use Rattle.vtt_timing.specs.Timing.{Timing, timing_of}
use Rattle.vtt_blocks.specs.declared.Place.{Place}
use Rattle.vtt_blocks.specs.declared.Found.{Found}
use Rattle.vtt_blocks.specs.declared.Found.TheVariants.{Empty, Cue, Untimed, Note, Style, Other}
use Rattle.vtt_blocks.specs.Kinds.{Kind, cue, untimed, note, style, other, plain_kind, kind_of}

-- the bytes from one place to before another
abbrev pub text_in : List ℕ → ℕ → ℕ → List ℕ
text_in s from end = take (end - from) (drop from s)

-- the blocks from a place on, whose line has this number
abbrev pub blocks_at : List ℕ → ℕ → ℕ → List Block
blocks_at s at line = blocks_from false line (lines_of (drop at s))

-- a place behind another, and the number of its line
pub record Further (s : List ℕ) (at place number : ℕ) : Type 0 where
  pub onward : at < place
  pub within : place ≤ length s
  pub numbered : number ≤ place + 1

-- an empty line is passed
pub record EmptyAt (s : List ℕ) (at line place number : ℕ) : Type 0 where
  pub further : Further s at place number
  pub left : blocks_at s at line ≡ blocks_at s place number

-- a block is found, of a kind, and then those that are left
pub record FoundAt (s : List ℕ) (at line : ℕ) (kind : Kind) (left : List Block) : Type 0 where
  pub block : Block
  pub is : blocks_at s at line ≡ block ∷ left
  pub kind_is : kind_of block ≡ kind
  pub first_line : block.line ≡ line

-- a block of a kind is found
pub record KindAt (s : List ℕ) (at line : ℕ) (kind : Kind) : Type 0 where
  pub left : List Block
  pub found : FoundAt s at line kind left

-- a NOTE is found, and the place behind it
pub record NoteAt (s : List ℕ) (at line place number : ℕ) : Type 0 where
  pub further : Further s at place number
  pub found : FoundAt s at line note (blocks_at s place number)

-- the lines up to an empty one, and those behind them
abbrev pub filled_at : List ℕ → ℕ → List Line
filled_at s at = filled (lines_of (drop at s))

abbrev pub left_at : List ℕ → ℕ → List Line
left_at s at = unfilled (lines_of (drop at s))

-- a cue is found: its texts are parts of the file, its times are answered as timestamps are
pub record CueAt (s : List ℕ) (at line : ℕ) (c : Place) : Type 0 where
  pub says : Caption
  pub found : FoundAt s at line (cue c.line says) (blocks_from false (c.line + 1 + length (filled_at s c.payload)) (left_at s c.payload))
  pub start_is : c.start ≡ capped says.start
  pub end_is : c.end ≡ capped says.end
  pub identifier_is : text_in s at c.identifier ≡ says.identifier
  pub settings_is : text_in s c.from c.to ≡ says.settings
  pub payload_is : joined (filled_at s c.payload) ≡ says.payload
  pub identifier_from : at ≤ c.identifier
  pub identifier_within : c.identifier ≤ length s
  pub ordered : c.from ≤ c.to
  pub settings_within : c.to ≤ length s
  pub further : Further s at c.payload (c.line + 1)

-- the timing line from `from` to `end` is read
pub record TimedAt (s : List ℕ) (identifier from end line payload : ℕ) (c : Place) : Type 0 where
  pub says : Timing
  pub is : timing_of (text_in s from end) ≡ some says
  pub start_is : c.start ≡ capped says.start
  pub end_is : c.end ≡ capped says.end
  pub settings_is : text_in s c.from c.to ≡ says.settings
  pub ordered : c.from ≤ c.to
  pub within : c.to ≤ length s
  pub identifier_is : c.identifier ≡ identifier
  pub line_is : c.line ≡ line
  pub payload_is : c.payload ≡ payload

abbrev pub TimedIs : List ℕ → ℕ → ℕ → ℕ → ℕ → ℕ → Found → Type 0
TimedIs s identifier from end line payload (Empty place number) = ⊥
TimedIs s identifier from end line payload (Cue c) = TimedAt s identifier from end line payload c
TimedIs s identifier from end line payload (Untimed n) = (timing_of (text_in s from end) ≡ none) × (n ≡ line)
TimedIs s identifier from end line payload (Note place number) = ⊥
TimedIs s identifier from end line payload Style = ⊥
TimedIs s identifier from end line payload Other = ⊥

-- a block without timing line, by its first line and the lines from `next` on
abbrev pub PlainIs : List ℕ → Line → ℕ → ℕ → Found → Type 0
PlainIs s l next line (Empty place number) = ⊥
PlainIs s l next line (Cue c) = ⊥
PlainIs s l next line (Untimed n) = ⊥
PlainIs s l next line (Note place number) = (plain_kind l (filled_at s next) ≡ note) × PassedTo s next line place number
PlainIs s l next line Style = plain_kind l (filled_at s next) ≡ style
PlainIs s l next line Other = plain_kind l (filled_at s next) ≡ other

-- what is found at a place
abbrev pub FoundIs : List ℕ → ℕ → ℕ → Found → Type 0
FoundIs s at line (Empty place number) = EmptyAt s at line place number
FoundIs s at line (Cue c) = CueAt s at line c
FoundIs s at line (Untimed n) = KindAt s at line (untimed n)
FoundIs s at line (Note place number) = NoteAt s at line place number
FoundIs s at line Style = KindAt s at line style
FoundIs s at line Other = KindAt s at line other
