-- Answers as C sees them: structs of numbers. What an answer leaves free is 0.
use Rattle.std.specs.Prelude.{ℕ, Option, Some, None, Ok, is_some, Bool, true, false, List, ltb, pos}
use Rattle.base.specs.Choice.{pick, both}
use Rattle.verdict.specs.declared.Refusal.{Refusal}
use Rattle.verdict.specs.Verdict.{Verdict, Fine, Refused}
use Rattle.verdict.specs.Judgement.{fault, bad_text, text_at}
use Rattle.viable.specs.FirstBad.{judged_by}
use Rattle.boxes.specs.declared.Step.{Step}
use Rattle.boxes.specs.declared.Step.TheVariants.{Box, Refused as Stopped, End as NoBox}
use Rattle.characters.specs.Counted.{Counted, Characters, Bad}
use Rattle.wvtt_cues.specs.Held.{Held, Cue, Refused as NotWhole, End}
use Rattle.times.specs.Times.{back}
use Rattle.pack.specs.Packed.{Packed, Refused as NotPacked}
use Rattle.table_lasting.specs.Dropped.{Dropped, Refused as NotDropped}
use Rattle.unpack.specs.Unpacked.{Unpacked, Refused as NotListed}
use Rattle.vtt_read.specs.FileRead.{FileRead, Refused as FileRefused}
use Rattle.vtt_write.specs.FileWritten.{FileWritten, Done as FileOut, BadConfiguration, BadList as ListOut, NoRoom}
use Rattle.conform.specs.Checked.{Checked, Passed, BadList, BadTrack}
use Rattle.wvtt_entry.specs.Read.{Read as WvttEntry, Whole as WvttWhole, Refused as WvttRefused}
use Rattle.wvtt_entry.specs.Reading.{or_nowhere}
use Rattle.wvtt_entry_write.specs.Written.{Written, Done as WrittenDone, Refused as NotWritten}
use Rattle.signed.specs.declared.Edges.{Edges}
use Rattle.signed.specs.Signed.{edges_at}
use Rattle.tx3g_read.specs.declared.Fields.{Fields}
use Rattle.tx3g_read.specs.Entry.{Entry as Tx3gEntry, Whole as Tx3gWhole, Refused as Tx3gRefused}
use Rattle.tx3g_read.specs.declared.Font.{Font}
use Rattle.tx3g_read.specs.Sample.{Held as Content, BadEntry as EntryAtFault, BadSample as SampleAtFault}
use Rattle.tx3g_runs.specs.declared.Run.{Run}
use Rattle.tx3g_runs.specs.declared.Run.TheVariants.{Styled as StyledRun, Plain as PlainRun, End as NoRun}
use Rattle.tx3g_style.specs.Styled.{Styled, Found, BadEntry as EntryOf, BadSample as SampleOf}
use Rattle.tx3g_box.specs.Spot.{Spot, Sample, Entry, BadEntry as BoxEntry, BadSample as BoxSample}
use Rattle.tx3g_box.specs.TextBox.{bytes_at}
use Rattle.tx3g_modifiers.specs.declared.Modifier.{Modifier}
use Rattle.tx3g_modifiers.specs.declared.Modifier.TheVariants.{Styles, Highlight, Colour, Karaoke, Delay, Link, TextBox, Wrap}
use Rattle.tx3g_modifiers.specs.Held.{Held as Modified, One, Refused as NotRead, End as NoMore}
use Rattle.tx3g_stock.specs.declared.Counts.{Counts}
use Rattle.tx3g_convert.specs.Converted.{Converted, BadEntry as ConvertEntry, BadTrack as ConvertTrack, NoRoom as ConvertRoom}
use Rattle.captions.specs.declared.CaptionsChecked.{CaptionsChecked}
use Rattle.captions.specs.declared.CaptionsWvttEntry.{CaptionsWvttEntry}
use Rattle.captions.specs.declared.CaptionsWritten.{CaptionsWritten}
use Rattle.captions.specs.declared.CaptionsTx3gEntry.{CaptionsTx3gEntry}
use Rattle.captions.specs.declared.CaptionsFont.{CaptionsFont}
use Rattle.captions.specs.declared.CaptionsTx3gSample.{CaptionsTx3gSample}
use Rattle.captions.specs.declared.CaptionsRun.{CaptionsRun}
use Rattle.captions.specs.declared.CaptionsPacked.{CaptionsPacked}
use Rattle.captions.specs.declared.CaptionsUnpacked.{CaptionsUnpacked}
use Rattle.captions.specs.declared.CaptionsDropped.{CaptionsDropped}
use Rattle.captions.specs.declared.CaptionsVttRead.{CaptionsVttRead}
use Rattle.captions.specs.declared.CaptionsVttWritten.{CaptionsVttWritten}
use Rattle.captions.specs.declared.CaptionsStyle.{CaptionsStyle}
use Rattle.captions.specs.declared.CaptionsTextBox.{CaptionsTextBox}
use Rattle.captions.specs.declared.CaptionsModifier.{CaptionsModifier}
use Rattle.captions.specs.declared.CaptionsCount.{CaptionsCount}
use Rattle.captions.specs.declared.CaptionsStep.{CaptionsStep}
use Rattle.captions.specs.declared.CaptionsCue.{CaptionsCue}
use Rattle.captions.specs.declared.CaptionsTx3gConverted.{CaptionsTx3gConverted}

-- nothing is wrong
abbrev pub nothing : Refusal
nothing = fault 0 0

abbrev pub flat_verdict : Verdict → Refusal
flat_verdict Fine = nothing
flat_verdict (Refused r) = r

-- a text by its rule, at place 0
unfoldable pub flat_text : (List ℕ → Bool) → (List ℕ → Bool) → List ℕ → Refusal
flat_text keeps begun s = flat_verdict (text_at 0 (judged_by keeps begun s))

-- a count of characters: 6 for bad text, at place 0
abbrev pub flat_count : Counted → CaptionsCount
flat_count (Characters n) = record { refusal = nothing; characters = n }
flat_count (Bad q) = record { refusal = bad_text 0 q; characters = 0 }

-- a step: a box, or a refusal, or neither at the end
abbrev pub flat_step : Step → CaptionsStep
flat_step (Box k b n) = record { refusal = nothing; found = true; kind = k; body = b; next = n }
flat_step (Stopped r) = record { refusal = r; found = false; kind = 0; body = 0; next = 0 }
flat_step NoBox = record { refusal = nothing; found = false; kind = 0; body = 0; next = 0 }

-- no cue, and why
abbrev pub no_cue : Refusal → CaptionsCue
no_cue r =
    record {
      refusal = r;
      found = false;
      named = false;
      id = 0;
      identifier_from = 0;
      identifier_end = 0;
      settings_from = 0;
      settings_end = 0;
      payload_from = 0;
      payload_end = 0;
      next = 0;
    }

-- a cue of a sample, or a refusal, or neither at the end
abbrev pub flat_held : Held → CaptionsCue
flat_held (Cue c n) =
    record {
      refusal = nothing;
      found = true;
      named = c.named;
      id = c.id;
      identifier_from = c.identifier.from;
      identifier_end = c.identifier.end;
      settings_from = c.settings.from;
      settings_end = c.settings.end;
      payload_from = c.payload.from;
      payload_end = c.payload.end;
      next = n;
    }
flat_held (NotWhole r) = no_cue r
flat_held End = no_cue nothing

-- the time of a tick, 0 where the scale is 0 or the tick is not below 2^48
unfoldable pub ms_of : ℕ → ℕ → ℕ
ms_of scale t = pick (both (ltb 0 scale) (ltb t 281474976710656)) (back scale t) 0

-- what packing answers
abbrev pub flat_packed : Packed → CaptionsPacked
flat_packed (Ok x) = record { refusal = nothing; samples = x.samples; table_bytes = x.table; sample_bytes = x.bytes }
flat_packed (NotPacked r) = record { refusal = r; samples = 0; table_bytes = 0; sample_bytes = 0 }

-- what unpacking answers
abbrev pub flat_unpacked : Unpacked → CaptionsUnpacked
flat_unpacked (Ok x) = record { refusal = nothing; record_bytes = x.records; pool_bytes = x.pool; t = x.t }
flat_unpacked (NotListed r) = record { refusal = r; record_bytes = 0; pool_bytes = 0; t = 0 }

-- what dropping samples of duration 0 answers
abbrev pub flat_dropped : Dropped → CaptionsDropped
flat_dropped (Ok x) = record { refusal = nothing; samples = x.samples; table_bytes = x.table; sample_bytes = x.bytes }
flat_dropped (NotDropped r) = record { refusal = r; samples = 0; table_bytes = 0; sample_bytes = 0 }

-- what reading a file answers
abbrev pub flat_file : FileRead → CaptionsVttRead
flat_file (Ok x) = record { refusal = nothing; cues = x.cues; record_bytes = x.records; pool_bytes = x.pool }
flat_file (FileRefused r) = record { refusal = r; cues = 0; record_bytes = 0; pool_bytes = 0 }

-- what writing a file answers. Who is at fault: 1 an entry, 2 a sample, 3 a list, 4 a track, 5 a configuration, 6 an output, 0 nobody
abbrev pub flat_file_written : FileWritten → CaptionsVttWritten
flat_file_written (FileOut n) = record { refusal = nothing; who = 0; bytes = n }
flat_file_written (BadConfiguration r) = record { refusal = r; who = 5; bytes = 0 }
flat_file_written (ListOut r) = record { refusal = r; who = 3; bytes = 0 }
flat_file_written (NoRoom r) = record { refusal = r; who = 6; bytes = 0 }

-- what the check answers
abbrev pub flat_checked : Checked → CaptionsChecked
flat_checked Passed = record { refusal = nothing; who = 0 }
flat_checked (BadList r) = record { refusal = r; who = 3 }
flat_checked (BadTrack r) = record { refusal = r; who = 4 }

-- a `wvtt` entry: its texts where they stand
abbrev pub flat_wvtt_entry : WvttEntry → CaptionsWvttEntry
flat_wvtt_entry (WvttWhole x) =
    record {
      refusal = nothing;
      data_reference_index = x.index;
      labelled = is_some x.label;
      configuration_from = x.configuration.from;
      configuration_end = x.configuration.end;
      label_from = (or_nowhere x.label).from;
      label_end = (or_nowhere x.label).end;
    }
flat_wvtt_entry (WvttRefused r) =
    record { refusal = r; data_reference_index = 0; labelled = false; configuration_from = 0; configuration_end = 0; label_from = 0; label_end = 0 }

-- the bytes that were written
abbrev pub flat_written : Written → CaptionsWritten
flat_written (WrittenDone n) = record { refusal = nothing; bytes = n }
flat_written (NotWritten r) = record { refusal = r; bytes = 0 }

-- the fields of a `tx3g` entry
abbrev pub flat_fields : Fields → CaptionsTx3gEntry
flat_fields f =
    record {
      refusal = nothing;
      data_reference_index = f.index;
      display_flags = f.flags;
      horizontal = f.horizontal;
      vertical = f.vertical;
      background_red = f.background.red;
      background_green = f.background.green;
      background_blue = f.background.blue;
      background_alpha = f.background.alpha;
      top = f.top;
      left = f.left;
      bottom = f.bottom;
      right = f.right;
      font = f.style.font;
      face = f.style.face;
      size = f.style.size;
      red = f.style.red;
      green = f.style.green;
      blue = f.style.blue;
      alpha = f.style.alpha;
      fonts = f.fonts;
      fonts_from = f.from;
    }

-- no fields, and why
abbrev pub no_fields : Refusal → CaptionsTx3gEntry
no_fields r =
    record {
      refusal = r;
      data_reference_index = 0;
      display_flags = 0;
      horizontal = pos 0;
      vertical = pos 0;
      background_red = 0;
      background_green = 0;
      background_blue = 0;
      background_alpha = 0;
      top = pos 0;
      left = pos 0;
      bottom = pos 0;
      right = pos 0;
      font = 0;
      face = 0;
      size = 0;
      red = 0;
      green = 0;
      blue = 0;
      alpha = 0;
      fonts = 0;
      fonts_from = 0;
    }

abbrev pub flat_tx3g_entry : Tx3gEntry → CaptionsTx3gEntry
flat_tx3g_entry (Tx3gWhole f) = flat_fields f
flat_tx3g_entry (Tx3gRefused r) = no_fields r

-- a font, if its bytes are there
abbrev pub flat_font : Option Font → CaptionsFont
flat_font (Some x) = record { found = true; id = x.id; name_from = x.from; name_end = x.end }
flat_font None = record { found = false; id = 0; name_from = 0; name_end = 0 }

-- no sample, why, and who is at fault
abbrev pub no_content : Refusal → ℕ → CaptionsTx3gSample
no_content r who =
    record { refusal = r; who = who; characters = 0; utf16 = false; text_from = 0; text_end = 0; modifiers = 0; styles = 0; styles_from = 0; retired_blinking = false }

-- what a `tx3g` sample holds; its modifiers begin where its text ends
abbrev pub flat_content : Content → CaptionsTx3gSample
flat_content (Ok x) =
    record {
      refusal = nothing;
      who = 0;
      characters = x.characters;
      utf16 = x.text.utf16;
      text_from = x.text.from;
      text_end = x.text.end;
      modifiers = x.text.end;
      styles = x.styles.count;
      styles_from = x.styles.from;
      retired_blinking = x.retired_blinking;
    }
flat_content (EntryAtFault r) = no_content r 1
flat_content (SampleAtFault r) = no_content r 2

-- a run of the default style, or none
abbrev pub plain_run : Bool → ℕ → ℕ → ℕ → ℕ → CaptionsRun
plain_run b f e l n =
    record { found = b; styled = false; from = f; end = e; font = 0; face = 0; size = 0; red = 0; green = 0; blue = 0; alpha = 0; styles = l; styles_from = n }

-- a run from character k on
abbrev pub flat_run : Run → ℕ → CaptionsRun
flat_run (StyledRun e t l n) k =
    record {
      found = true;
      styled = true;
      from = k;
      end = e;
      font = t.font;
      face = t.face;
      size = t.size;
      red = t.red;
      green = t.green;
      blue = t.blue;
      alpha = t.alpha;
      styles = l;
      styles_from = n;
    }
flat_run (PlainRun e l n) k = plain_run true k e l n
flat_run NoRun k = plain_run false 0 0 0 0

-- no style, and why; who is at fault
abbrev pub no_style : Refusal → ℕ → CaptionsStyle
no_style r who = record { refusal = r; who = who; start = 0; end = 0; font = 0; face = 0; size = 0; red = 0; green = 0; blue = 0; alpha = 0 }

-- a style
abbrev pub flat_styled : Styled → CaptionsStyle
flat_styled (Found s) = record { refusal = nothing; who = 0; start = s.start; end = s.end; font = s.font; face = s.face; size = s.size; red = s.red; green = s.green; blue = s.blue; alpha = s.alpha }
flat_styled (EntryOf r) = no_style r 1
flat_styled (SampleOf r) = no_style r 2

-- a text box, and where it stands
abbrev pub box_of : Bool → ℕ → Edges → CaptionsTextBox
box_of b f x = record { refusal = nothing; who = 0; in_sample = b; from = f; top = x.top; left = x.left; bottom = x.bottom; right = x.right }

abbrev pub no_box : Refusal → ℕ → CaptionsTextBox
no_box r who = record { refusal = r; who = who; in_sample = false; from = 0; top = pos 0; left = pos 0; bottom = pos 0; right = pos 0 }

-- the text box in force: the numbers of its eight bytes, of entry e or of sample s
abbrev pub flat_spot : List ℕ → List ℕ → Spot → CaptionsTextBox
flat_spot e s (Sample b) = box_of true b (edges_at (bytes_at e s (Sample b)) 0)
flat_spot e s Entry = box_of false 26 (edges_at (bytes_at e s Entry) 0)
flat_spot e s (BoxEntry r) = no_box r 1
flat_spot e s (BoxSample r) = no_box r 2

-- a modifier of a kind, with its numbers and parts
abbrev pub modifier_of : ℕ → ℕ → ℕ → ℕ → ℕ → ℕ → ℕ → ℕ → ℕ → ℕ → CaptionsModifier
modifier_of k a b c d f e g h n = record { refusal = nothing; found = true; kind = k; first = a; second = b; third = c; fourth = d; from = f; end = e; alternative_from = g; alternative_end = h; next = n }

-- by the type of the box: `styl`, `hlit`, `hclr`, `krok`, `dlay`, `href`, `tbox`, `twrp`
abbrev pub flat_modifier : Modifier → ℕ → CaptionsModifier
flat_modifier (Styles c f) n = modifier_of 0x7374796C c 0 0 0 f 0 0 0 n
flat_modifier (Highlight a b) n = modifier_of 0x686C6974 a b 0 0 0 0 0 0 n
flat_modifier (Colour a b c d) n = modifier_of 0x68636C72 a b c d 0 0 0 0 n
flat_modifier (Karaoke t c f) n = modifier_of 0x6B726F6B t c 0 0 f 0 0 0 n
flat_modifier (Delay t) n = modifier_of 0x646C6179 t 0 0 0 0 0 0 0 n
flat_modifier (Link a b u v) n = modifier_of 0x68726566 a b 0 0 u.from u.end v.from v.end n
flat_modifier (TextBox f) n = modifier_of 0x74626F78 0 0 0 0 f 0 0 0 n
flat_modifier (Wrap w) n = modifier_of 0x74777270 w 0 0 0 0 0 0 0 n

-- no modifier, and why
abbrev pub no_modifier : Refusal → CaptionsModifier
no_modifier r = record { refusal = r; found = false; kind = 0; first = 0; second = 0; third = 0; fourth = 0; from = 0; end = 0; alternative_from = 0; alternative_end = 0; next = 0 }

-- a modifier of a sample, or a refusal, or neither at the end
abbrev pub flat_modified : Modified → CaptionsModifier
flat_modified (One m n) = flat_modifier m n
flat_modified (NotRead r) = no_modifier r
flat_modified NoMore = no_modifier nothing

-- what converting answers
abbrev pub no_conversion : ℕ → Refusal → CaptionsTx3gConverted
no_conversion who r =
    record {
      refusal = r;
      who = who;
      cues = 0;
      record_bytes = 0;
      pool_bytes = 0;
      t = 0;
      hlit = 0;
      retired_blinking = 0;
      hclr = 0;
      krok = 0;
      dlay = 0;
      href = 0;
      tbox = 0;
      twrp = 0;
    }

abbrev pub done_conversion : ℕ → ℕ → ℕ → ℕ → Counts → CaptionsTx3gConverted
done_conversion n r p t c =
    record {
      refusal = nothing;
      who = 0;
      cues = n;
      record_bytes = r;
      pool_bytes = p;
      t = t;
      hlit = c.hlit;
      retired_blinking = c.retired_blinking;
      hclr = c.hclr;
      krok = c.krok;
      dlay = c.dlay;
      href = c.href;
      tbox = c.tbox;
      twrp = c.twrp;
    }

abbrev pub flat_converted : Converted → CaptionsTx3gConverted
flat_converted (Ok x) = done_conversion x.cues x.records x.pool x.t x.dropped
flat_converted (ConvertEntry r) = no_conversion 1 r
flat_converted (ConvertTrack r) = no_conversion 4 r
flat_converted (ConvertRoom r) = no_conversion 6 r
