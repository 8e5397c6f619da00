-- Demand 1: a refusal's number is never 0 and stands in document 01's table; its second place is 0 beside every number but 6, and beside 6 it names the first bad byte of the
-- text that its place names; whatever was given.
use Rattle.std.specs.Prelude.{Ok}
use Rattle.std.specs.Prelude.{ℕ, ◌≤◌, ◌≡◌, ◌≢◌, ◌⊎◌, List, length}
use Rattle.std.proofs.Math.Option.{Option}
use Rattle.verdict.specs.Verdict.{Verdict, Fine, Refused}
use Rattle.characters.specs.Characters.{characters_of}
use Rattle.boxes.specs.Boxes.{stopped_by, step_at, boxes_in}
use Rattle.profile_judge.specs.Judgement.{judge_profile}
use Rattle.settings.specs.Read.{Read, Done as SettingsRead, Refused as NoSettings}
use Rattle.settings.specs.Reading.{read_settings}
use Rattle.settings_flat.specs.declared.CaptionsSettings.{CaptionsSettings}
use Rattle.settings_flat.specs.Flat.{given_written}
use Rattle.wvtt.specs.Sample.{judge_sample}
use Rattle.wvtt_cues.specs.Held.{Held as Cue, Cue as HeldCue, Refused as NoCue, End as NoMoreCues}
use Rattle.wvtt_cues.specs.Cues.{next_cue}
use Rattle.wvtt_entry.specs.Entry.{judge_entry}
use Rattle.wvtt_entry_write.specs.Written.{Written, Done as WrittenDone, Refused as NotWritten}
use Rattle.wvtt_entry_write.specs.Writing.{written_of}
use Rattle.cues.specs.Judgement.{judge_list}
use Rattle.track.specs.Track.{judge_track}
use Rattle.conform.specs.Checked.{Checked, Passed, BadList, BadTrack}
use Rattle.conform.specs.Conformance.{checked}
use Rattle.pack.specs.Packed.{Packed, Done, Refused as NotPacked}
use Rattle.pack.specs.Packing.{packed_of}
use Rattle.unpack.specs.Unpacked.{Unpacked, Done as Unpacks, Refused as NotUnpacked}
use Rattle.unpack.specs.Unpacking.{unpack_of}
use Rattle.vtt_read.specs.FileRead.{FileRead, Done as Reads, Refused as NotRead}
use Rattle.vtt_read.specs.Reading.{read_of}
use Rattle.vtt_write.specs.FileWritten.{FileWritten, Done as FileDone, BadConfiguration, BadList as BadCues, NoRoom}
use Rattle.vtt_write.specs.Writing.{written_of as file_written}
use Rattle.table_lasting.specs.Dropped.{Dropped, Done as Drops, Refused as NotDropped}
use Rattle.table_lasting.specs.Dropping.{drop_of}
use Rattle.tx3g_convert.specs.Converted.{Converted, Done as Converts, BadEntry, BadTrack as BadStock, NoRoom as NoRoomLeft}
use Rattle.tx3g_convert.specs.Convert.{convert_of}
use Rattle.tx3g_entry.specs.Entry.{judge_entry as judge_tx3g_entry}
use Rattle.tx3g_sample.specs.Sample.{counted_at, read_sample, verdict_of}
use Rattle.tx3g_modifiers.specs.Held.{Held as Modifier, One as HeldModifier, Refused as NoModifier, End as NoMoreModifiers}
use Rattle.tx3g_modifiers.specs.Modifiers.{next_modifier}
use Rattle.tx3g_style.specs.Style.{style_of, fault_of}
use Rattle.tx3g_box.specs.Spot.{Spot, Sample as SampleBox, Entry as EntryBox, BadEntry as BoxEntry, BadSample as BoxSample}
use Rattle.tx3g_box.specs.TextBox.{spot_of}
use Rattle.demands.specs.Offsets.{InSample, InEntry, InWritten, InConfiguration, InPayload, InSettings, InRecord, InFile, InTrack, InText, InTx3g, InStock, Never}

-- the numbers of refusals: 1 to 19, and 21
abbrev pub InTable : ℕ → Type 0
InTable n = (1 ≤ n) × (n ≤ 21) × (n ≢ 20)

-- no refusal, or one with a number of the table; if that is 6, `Says` holds of its two places, else the second is 0
abbrev pub Listed : (ℕ → ℕ → Type 0) → Verdict → Type 0
Listed Says Fine = Unit {0}
Listed Says (Refused r) = InTable r.number × (r.number ≢ 6 → r.offset ≡ 0) × (r.number ≡ 6 → Says r.place r.offset)

-- of reading settings: with a number of the table, or 20
abbrev pub SettingsListed : (ℕ → ℕ → Type 0) → Verdict → Type 0
SettingsListed Says Fine = Unit {0}
SettingsListed Says (Refused r) = (InTable r.number ⊎ (r.number ≡ 20)) × (r.number ≢ 6 → r.offset ≡ 0) × (r.number ≡ 6 → Says r.place r.offset)

abbrev pub packing : Packed → Verdict
packing (Ok x) = Fine
packing (NotPacked r) = Refused r

abbrev pub unpacking : Unpacked → Verdict
unpacking (Ok x) = Fine
unpacking (NotUnpacked r) = Refused r

abbrev pub reading : FileRead → Verdict
reading (Ok x) = Fine
reading (NotRead r) = Refused r

-- of the check: the list's texts, or the track's, by who is at fault
abbrev pub CheckListed : List ℕ → List ℕ → List ℕ → List ℕ → Checked → Type 0
CheckListed records pool table samples Passed = Unit {0}
CheckListed records pool table samples (BadList r) = Listed (InRecord records pool) (Refused r)
CheckListed records pool table samples (BadTrack r) = Listed (InTrack table samples) (Refused r)

-- of writing a file: the configuration, the list's texts, or no text, by who is at fault
abbrev pub WriteListed : List ℕ → List ℕ → List ℕ → FileWritten → Type 0
WriteListed configuration records pool (FileDone n) = Unit {0}
WriteListed configuration records pool (BadConfiguration r) = Listed (InConfiguration configuration) (Refused r)
WriteListed configuration records pool (BadCues r) = Listed (InRecord records pool) (Refused r)
WriteListed configuration records pool (NoRoom r) = Listed Never (Refused r)

-- of converting a track: the entry has no text that is judged, and the samples' texts and payloads have; by who is at fault
abbrev pub ConvertListed : List ℕ → List ℕ → List ℕ → Converted → Type 0
ConvertListed e table samples (Ok x) = Unit {0}
ConvertListed e table samples (BadEntry r) = Listed Never (Refused r)
ConvertListed e table samples (BadStock r) = Listed (InStock e table samples) (Refused r)
ConvertListed e table samples (NoRoomLeft r) = Listed Never (Refused r)

abbrev pub dropping : Dropped → Verdict
dropping (Ok x) = Fine
dropping (NotDropped r) = Refused r

abbrev pub writing : Written → Verdict
writing (WrittenDone n) = Fine
writing (NotWritten r) = Refused r

abbrev pub of_settings : Read → Verdict
of_settings (SettingsRead x) = Fine
of_settings (NoSettings r) = Refused r

abbrev pub of_box : Spot → Verdict
of_box (SampleBox b) = Fine
of_box EntryBox = Fine
of_box (BoxEntry r) = Refused r
of_box (BoxSample r) = Refused r

abbrev pub of_cue : Cue → Verdict
of_cue (HeldCue c n) = Fine
of_cue (NoCue r) = Refused r
of_cue NoMoreCues = Fine

abbrev pub of_modifier : Modifier → Verdict
of_modifier (HeldModifier m n) = Fine
of_modifier (NoModifier r) = Refused r
of_modifier NoMoreModifiers = Fine

-- for every operation that refuses
pub record RefusalsAre : Type 0 where
  pub count : (s : List ℕ) → Listed (InText s) (counted_at 0 (characters_of s))
  pub step : (s : List ℕ) (at end : ℕ) → Listed Never (stopped_by (step_at s at end))
  pub profile : (s : List ℕ) → Listed (InPayload s) (judge_profile s)
  pub settings : (s : List ℕ) → SettingsListed (InSettings s) (of_settings (read_settings s))
  pub write_settings : (x : CaptionsSettings) (region : List ℕ) (room : ℕ) → Listed Never (writing (given_written x region room))
  pub sample : (s : List ℕ) → Listed (InSample s) (judge_sample s)
  pub cue : (s : List ℕ) (from : ℕ) → Listed Never (of_cue (next_cue s (boxes_in s from (length s))))
  pub entry : (e : List ℕ) → Listed (InEntry e) (judge_entry e)
  pub write_entry : (c : List ℕ) (l : Option (List ℕ)) (room : ℕ) → Listed (InWritten c l) (writing (written_of c l room))
  pub list : (scale T : ℕ) (records pool : List ℕ) → Listed (InRecord records pool) (judge_list scale T records pool)
  pub track : (table samples : List ℕ) → Listed (InTrack table samples) (judge_track table samples)
  pub check : (scale T : ℕ) (records pool table samples : List ℕ) → CheckListed records pool table samples (checked scale T records pool table samples)
  pub pack : (scale T : ℕ) (records pool : List ℕ) (table_room samples_room : ℕ) → Listed (InRecord records pool) (packing (packed_of scale T records pool table_room samples_room))
  pub unpack : (scale : ℕ) (table samples : List ℕ) (records_room pool_room : ℕ) → Listed (InTrack table samples) (unpacking (unpack_of scale table samples records_room pool_room))
  pub file : (file : List ℕ) (records_room pool_room : ℕ) → Listed (InFile file) (reading (read_of file records_room pool_room))
  pub write_file : (configuration records pool : List ℕ) (room : ℕ) → WriteListed configuration records pool (file_written configuration records pool room)
  pub convert : (scale : ℕ) (e table samples : List ℕ) (records_room pool_room : ℕ) → ConvertListed e table samples (convert_of scale e table samples records_room pool_room)
  pub drop : (table samples : List ℕ) (table_room samples_room : ℕ) → Listed Never (dropping (drop_of table samples table_room samples_room))
  pub tx3g_entry : (e : List ℕ) → Listed Never (judge_tx3g_entry e)
  pub tx3g_sample : (e s : List ℕ) → Listed (InTx3g s) (verdict_of (read_sample e s))
  pub modifier : (s : List ℕ) (from : ℕ) → Listed Never (of_modifier (next_modifier s (boxes_in s from (length s))))
  pub style : (e s : List ℕ) (k : ℕ) → Listed (InTx3g s) (fault_of (style_of e s k))
  pub text_box : (e s : List ℕ) → Listed (InTx3g s) (of_box (spot_of e s))
