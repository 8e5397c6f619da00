-- The theorems of reading, from the crates that prove them.
use Rattle.code_points.proofs.CodePoints.{utf8-is}
use Rattle.code_points.proofs.CodePoints16.{utf16-is, count-is, counted_is}
use Rattle.wvtt_cues.proofs.Walk.{next-means}
use Rattle.wvtt_cues.proofs.Whole.{walk-is-whole}
use Rattle.wvtt_cues.proofs.Sound.{sample-whole, sample-sound}
use Rattle.wvtt_write.proofs.ReadBack.{sample-fine, sample-held}
use Rattle.tx3g_modifiers.proofs.Exactly.{next-means as next-modifier-means, exactly, never_blinks}
use Rattle.tx3g_style.proofs.Only.{only_one}
use Rattle.wvtt_entry.proofs.Held.{entry-holds}
use Rattle.wvtt_entry_write.proofs.ReadBack.{reads-back}
use Rattle.wvtt_entry_write.proofs.Answers.{room-law}
use Rattle.tx3g_read.proofs.Fonts.{entry-reads}
use Rattle.tx3g_read.proofs.Texts.{text-is}
use Rattle.tx3g_read.proofs.Blinking.{blinking-is}
use Rattle.tx3g_runs.proofs.Walk.{walk_begins, run_is, plain_is, walk_ends}
use Rattle.demands.specs.Reading.{ReadingMeans}

pub reading-means : ReadingMeans
reading-means = record {
  utf8 = utf8-is;
  utf16 = utf16-is;
  count = count-is;
  counted = counted_is;
  cues = next-means;
  walk = walk-is-whole;
  whole = sample-whole;
  sound = sample-sound;
  written = sample-fine;
  back = sample-held;
  modifiers = next-modifier-means;
  exactly = exactly;
  never_blinks = never_blinks;
  style = only_one;
  entry = entry-holds;
  entry_back = reads-back;
  entry_room = room-law;
  tx3g_entry = entry-reads;
  tx3g_text_is = text-is;
  blinking = blinking-is;
  runs_begin = walk_begins;
  runs = run_is;
  plain_run = plain_is;
  runs_end = walk_ends;
}
