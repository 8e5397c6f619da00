-- Demand 2 for reading: what texts, samples, entries and styles mean beside the definitions that the contracts name. Each statement stands in the specs/ of the crate that its import
-- names.
use Rattle.code_points.specs.CodePoints.{Utf8Is, Utf16Is, CountIs, CountedIs}
use Rattle.wvtt_cues.specs.Walk.{NextMeans, WalkIsWhole, SampleWhole, SampleSound}
use Rattle.wvtt_write.specs.ReadBack.{SampleFine, SampleHeld}
use Rattle.tx3g_modifiers.specs.Exactly.{NextMeans as NextModifierMeans, Exactly, NeverBlinks}
use Rattle.tx3g_style.specs.Only.{OnlyOne}
use Rattle.wvtt_entry.specs.Held.{EntryHolds}
use Rattle.wvtt_entry_write.specs.Statements.{ReadsBack, RoomLaw}
use Rattle.tx3g_read.specs.Statements.{EntryReads, TextIs, BlinkingIs}
use Rattle.tx3g_runs.specs.Statements.{WalkBegins, RunIs, PlainIs, WalkEnds}

pub record ReadingMeans : Type 0 where
  -- a text is UTF-8, or UTF-16, exactly if it is the bytes of some characters, and these are counted
  pub utf8 : Utf8Is
  pub utf16 : Utf16Is
  pub count : CountIs
  pub counted : CountedIs
  -- the walk over a sample hands out its cues from left to right, each by ID and the bytes of its three texts
  pub cues : NextMeans
  -- over a sample without fault it refuses nothing
  pub walk : WalkIsWhole
  -- a sample without fault holds the cues of all its `vttc` boxes
  pub whole : SampleWhole
  -- the cues of a sample without fault are within the limits, and their texts follow their rules
  pub sound : SampleSound
  -- a sample that is written is read without fault, and gives its cues back
  pub written : SampleFine
  pub back : SampleHeld
  -- the walk over a `tx3g` sample hands out its modifiers from left to right; without fault they are exactly its modifier boxes but `blnk`
  pub modifiers : NextModifierMeans
  pub exactly : Exactly
  -- and over any bytes it hands out no `blnk`
  pub never_blinks : NeverBlinks
  -- at most one style holds a character
  pub style : OnlyOne
  -- a `wvtt` entry is read as its index, the text of its one `vttC` and that of its one `vlab`, if it has one
  pub entry : EntryHolds
  -- an entry that is written has no fault, and gives index, configuration and label back; its room is exact
  pub entry_back : ReadsBack
  pub entry_room : RoomLaw
  -- a `tx3g` entry without fault has fields, and its fonts stand one behind the other
  pub tx3g_entry : EntryReads
  -- the text of a `tx3g` sample without fault is what its encoding says, of that many characters
  pub tx3g_text_is : TextIs
  -- its answer carries 'retired blinking present' exactly if it has no fault and a `blnk`
  pub blinking : BlinkingIs
  -- runs lie end to end from character 0 to the text's end; each character has its run's style; a run of the default style is as long as it can be
  pub runs_begin : WalkBegins
  pub runs : RunIs
  pub plain_run : PlainIs
  pub runs_end : WalkEnds
