-- Terms of the contracts of private functions: the lengths of what is written, and the cues so far.
use Rattle.std.specs.Prelude.{ℕ, zero, suc, ◌+◌, List, [], ◌∷◌, map}
use Rattle.utf8.specs.Strings.{LF}
use Rattle.timeline.specs.Lists.{listed}
use Rattle.records.specs.Records.{identifier_length, settings_length, payload_length}
use Rattle.cues.specs.Judgement.{caption_of}
use Rattle.vtt_lines.specs.Lines.{joined}
use Rattle.vtt_write.specs.Writing.{cue_text}

-- a text of n bytes with its line end or its space; an empty text has none
abbrev pub line_size : ℕ → ℕ
line_size zero = 0
line_size (suc n) = suc (suc n)

-- a cue whose texts have these lengths
unfoldable pub cue_size : ℕ → ℕ → ℕ → ℕ
cue_size identifier settings payload = line_size identifier + (30 + line_size settings) + line_size payload

-- the end of the blank line before cue k; none before the first
abbrev pub gap : ℕ → List ℕ
gap zero = []
gap (suc k) = LF ∷ []

abbrev pub gap_size : ℕ → ℕ
gap_size zero = 0
gap_size (suc k) = 1

-- the first k cues
unfoldable pub cues_to : List ℕ → List ℕ → ℕ → List ℕ
unfolding cue_text joined
cues_to recs pool k = joined (map cue_text (listed (caption_of recs pool) k))

-- the bytes that they take
unfoldable pub size_to : List ℕ → ℕ → ℕ
unfolding cue_size
size_to recs zero = 0
size_to recs (suc k) = size_to recs k + (gap_size k + cue_size (identifier_length recs k) (settings_length recs k) (payload_length recs k))
