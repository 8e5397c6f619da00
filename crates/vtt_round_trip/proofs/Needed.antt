-- No premise can be left out, by computation.
use Prim.Native.Nat.{ℕ}
use mathlib.Core.Path.{◌≡◌, refl, ap, subst⁻¹}
use mathlib.Core.List.Memᴰ
use mathlib.Core.List.{List, [], ◌∷◌}
use native.Mathlib.Omega.{arith}
use lib.ListN.{length, get_or}
use Rattle.base.specs.Choice.{within}
use Rattle.base.specs.First.{first_from, first}
use Rattle.verdict.specs.declared.Refusal.{Refusal}
use Rattle.verdict.specs.Verdict.{Fine, Refused}
use Rattle.verdict.specs.Judgement.{fault, each}
use Rattle.fields.specs.BigEndian.{be, bytes}
use Rattle.viable.specs.FirstBad.{judged_by}
use Rattle.utf8.specs.Forbidden.{not_in_line, not_in_payload}
use Rattle.utf8.specs.Strings.{CR, LF, starts_with, starts_with_any, has_any, ends_in, begins_line, ends_line}
use Rattle.utf8.specs.Utf8.{rows, follow_in, follow, judge, utf8}
use Rattle.text.specs.Rules.{identifier_text, payload_text, webvtt, configuration_text}
use Rattle.times.specs.Times.{tick, scale_allowed, timeline_allowed}
use Rattle.timeline.specs.Lists.{listed}
use Rattle.records.specs.Records.{count, source_id, start_ms, end_ms, text_offset, identifier_length, settings_length, payload_length, reserved, settings_offset, payload_offset, texts_end, piece, identifier_of, settings_of, payload_of}
use Rattle.cues.specs.Caption.{Caption, caption, long_texts, judge_texts, bad_times, judge_content, judge_caption}
use Rattle.cues.specs.List.{captions_of}
use Rattle.cues.specs.Judgement.{bad_value, past_pool, caption_of, start_before, judge_record, stood_earlier, judge_ids, judge_list}
use Rattle.records_write.specs.Records.{record_bytes}
use Rattle.decimal.specs.Decimal.{value_from, value}
use Rattle.timestamps.specs.Timestamps.{front, behind, digit, shaped, minutes_ms, hours_ms, time_of, two, three, time_text}
use Rattle.vtt_lines.specs.Lines.{lines_of, joined, filled, blocks_from, holds_arrow, some_arrow}
use Rattle.vtt_timing.specs.Timing.{blank, unblank, edge, trimmed_end, trimmed, after_word, timing_of}
use Rattle.vtt_blocks.specs.Kinds.{opens, names, plain_kind, later_kind, kind_of}
use Rattle.vtt_read.specs.Reading.{judge_kind, judge_blocks, cues_in, unmarked, bad_header, judge_lines, cues_of_lines, judge_file, file_cues}
use Rattle.vtt_write.specs.Writing.{times_text, timing_text, cue_text, file_of, file_bytes, write_room}
use Rattle.vtt_round_trip.specs.Premises.{ends, NoCR, SettingsBegin, SettingsEnd, Plain, Each}
use Rattle.vtt_round_trip.specs.Statements.{EmptyLineLost, ArrowLost, FirstLineLost, PayloadLost, SettingsBeginLost, SettingsEndLost}

-- ---- lists of no caption and of one

of_none : (P : Caption → Type 0) → Each P []
of_none P c m = absurd (Memᴰ.not-nil m)

of_one : (P : Caption → Type 0) (c : Caption) → P c → Each P (c ∷ [])
of_one P c h d m = subst⁻¹ P (Memᴰ.eq_of_singleton m) h

-- ---- what does not come back

faulty : (r : Refusal) → ¬ (Refused r ≡ Fine)
faulty r e = let z : ◌≡◌ {A = ℕ} 0 1 = cc in absurd (omega arith)

-- the first caption's settings, by their length, and its payload, by a byte of it
settings_size : List Caption → ℕ
settings_size [] = 0
settings_size (c ∷ cs) = length c.settings

payload_byte : List Caption → ℕ
payload_byte [] = 0
payload_byte (c ∷ cs) = get_or c.payload 1 0

-- ---- the six

each-lost : EmptyLineLost × ArrowLost × FirstLineLost × PayloadLost × SettingsBeginLost × SettingsEndLost
unfolding settings_size payload_byte within first_from first fault each be bytes judged_by not_in_line not_in_payload starts_with starts_with_any has_any ends_in begins_line ends_line rows follow_in follow judge utf8 identifier_text payload_text webvtt configuration_text tick scale_allowed timeline_allowed listed count source_id start_ms end_ms text_offset identifier_length settings_length payload_length reserved settings_offset payload_offset texts_end piece identifier_of settings_of payload_of long_texts judge_texts bad_times judge_content judge_caption bad_value past_pool caption_of start_before judge_record stood_earlier judge_ids judge_list record_bytes value_from value front behind digit shaped minutes_ms hours_ms time_of two three time_text lines_of joined filled blocks_from holds_arrow some_arrow blank unblank edge trimmed_end trimmed after_word timing_of opens names plain_kind later_kind kind_of judge_kind judge_blocks cues_in unmarked bad_header judge_lines cues_of_lines judge_file file_cues times_text timing_text cue_text file_of captions_of file_bytes write_room ends
each-lost = (
  (refl, refl, of_none Plain, record { size = 11; written = refl; lost = λ e. faulty (fault 19 3) e.0 }),
  (refl, refl, of_none Plain, record { size = 12; written = refl; lost = λ e. faulty (fault 19 1) e.0 }),
  (refl, refl, of_none Plain, record { size = 9; written = refl; lost = λ e. faulty (fault 19 1) e.0 }),
  (
    record { no_empty = refl; no_arrow = refl; first_taken = refl },
    of_one SettingsBegin (caption 0 1000 [] [] (0x61 ∷ CR ∷ 0x62 ∷ [])) refl,
    of_one SettingsEnd (caption 0 1000 [] [] (0x61 ∷ CR ∷ 0x62 ∷ [])) refl,
    record { size = 42; written = refl; lost = λ e. let z : ◌≡◌ {A = ℕ} LF CR = ap payload_byte e.1 in omega arith },
  ),
  (
    record { no_empty = refl; no_arrow = refl; first_taken = refl },
    of_one NoCR (caption 0 1000 [] (0x20 ∷ 0x61 ∷ []) []) refl,
    of_one SettingsEnd (caption 0 1000 [] (0x20 ∷ 0x61 ∷ []) []) refl,
    record { size = 41; written = refl; lost = λ e. let z : ◌≡◌ {A = ℕ} 1 2 = ap settings_size e.1 in omega arith },
  ),
  (
    record { no_empty = refl; no_arrow = refl; first_taken = refl },
    of_one NoCR (caption 0 1000 [] (0x61 ∷ 0x20 ∷ []) []) refl,
    of_one SettingsBegin (caption 0 1000 [] (0x61 ∷ 0x20 ∷ []) []) refl,
    record { size = 41; written = refl; lost = λ e. let z : ◌≡◌ {A = ℕ} 1 2 = ap settings_size e.1 in omega arith },
  ),
)

pub empty-line-lost : EmptyLineLost
empty-line-lost = each-lost.0

pub arrow-lost : ArrowLost
arrow-lost = each-lost.1

pub first-line-lost : FirstLineLost
first-line-lost = each-lost.2

pub payload-lost : PayloadLost
payload-lost = each-lost.3

pub settings-begin-lost : SettingsBeginLost
settings-begin-lost = each-lost.4

pub settings-end-lost : SettingsEndLost
settings-end-lost = each-lost.5
