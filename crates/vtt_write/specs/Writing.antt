-- Writing a configuration text and a cue list as a WebVTT file. Document 02, K5.
use Rattle.std.specs.Prelude.{ℕ, List, [], ◌∷◌, ◌++◌, map, ltb, length}
use Rattle.base.specs.Choice.{pick}
use Rattle.base.specs.Over.{over}
use Rattle.utf8.specs.Strings.{LF}
use Rattle.utf8.specs.Forbidden.{arrow}
use Rattle.viable.specs.FirstBad.{judged_by}
use Rattle.text.specs.Rules.{configuration_text}
use Rattle.text.specs.Beginnings.{configuration_begun}
use Rattle.verdict.specs.Verdict.{Verdict, Fine, Refused}
use Rattle.verdict.specs.Judgement.{fault, text_at}
use Rattle.cues.specs.Caption.{Caption}
use Rattle.cues.specs.Judgement.{judge_list}
use Rattle.cues.specs.List.{captions_of}
use Rattle.timestamps.specs.Timestamps.{time_text}
use Rattle.vtt_lines.specs.Lines.{joined}
use Rattle.vtt_write.specs.FileWritten.{FileWritten, Done, BadConfiguration, BadList, NoRoom}

-- ---- the file

-- a text and its line end; an empty text writes nothing
abbrev pub line_text : List ℕ → List ℕ
line_text [] = []
line_text (b ∷ s) = b ∷ s ++ LF ∷ []

-- a space and a text; an empty text writes nothing
abbrev pub spaced : List ℕ → List ℕ
spaced [] = []
spaced (b ∷ s) = 0x20 ∷ b ∷ s

-- `start --> end`
unfoldable pub times_text : ℕ → ℕ → List ℕ
unfolding time_text
times_text start end = time_text start ++ 0x20 ∷ arrow ++ 0x20 ∷ time_text end

-- and the settings behind them
unfoldable pub timing_text : Caption → List ℕ
unfolding times_text
timing_text c = times_text c.start c.end ++ spaced c.settings

-- a cue: identifier, times and settings, payload
unfoldable pub cue_text : Caption → List ℕ
unfolding timing_text
cue_text c = line_text c.identifier ++ (line_text (timing_text c) ++ line_text c.payload)

-- header, blank line, then each cue, and a blank line between cues
unfoldable pub file_of : List ℕ → List Caption → List ℕ
unfolding cue_text joined
file_of configuration cs = configuration ++ LF ∷ LF ∷ joined (map cue_text cs)

-- the file of a configuration and a list
unfoldable pub file_bytes : List ℕ → List ℕ → List ℕ → List ℕ
unfolding file_of captions_of
file_bytes configuration recs pool = file_of configuration (captions_of recs pool)

-- ---- the answer

-- whose fault it is: the configuration's comes before the list's
abbrev pub by_list : Verdict → ℕ → FileWritten
by_list Fine n = Done n
by_list (Refused r) n = BadList r

abbrev pub by_both : Verdict → Verdict → ℕ → FileWritten
by_both Fine v n = by_list v n
by_both (Refused r) v n = BadConfiguration r

-- how many bytes the file has: the configuration is judged first, then the list as packing judges it at scale 1,000 and T 359,999,999
unfoldable pub write_room : List ℕ → List ℕ → List ℕ → FileWritten
unfolding file_bytes
write_room configuration recs pool =
    by_both (text_at 0 (judged_by configuration_text configuration_begun configuration)) (judge_list 1000 359999999 recs pool)
    (length (file_bytes configuration recs pool))

-- held against the room that is lent: 15
abbrev pub lent : ℕ → FileWritten → FileWritten
lent room (Done n) = pick (ltb room n) (NoRoom (fault 15 0)) (Done n)
lent room (BadConfiguration r) = BadConfiguration r
lent room (BadList r) = BadList r
lent room (NoRoom r) = NoRoom r

unfoldable pub written_of : List ℕ → List ℕ → List ℕ → ℕ → FileWritten
unfolding write_room
written_of configuration recs pool room = lent room (write_room configuration recs pool)

-- an output: the file over its front on success, else as it was
abbrev pub after : FileWritten → List ℕ → List ℕ → List ℕ
after (Done n) file old = over file old
after (BadConfiguration r) file old = old
after (BadList r) file old = old
after (NoRoom r) file old = old
