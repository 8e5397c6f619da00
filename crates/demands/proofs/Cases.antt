-- The cases, by computation.
use mathlib.Core.Path.{refl}
use Rattle.base.specs.Choice.{within, same_list}
use Rattle.base.specs.First.{first_from, first}
use Rattle.base.specs.Over.{over, wrote}
use Rattle.verdict.specs.Judgement.{fault, bad_text, each}
use Rattle.fields.specs.BigEndian.{be, bytes}
use Rattle.characters.specs.Characters.{is_tail, firsts, is_high, is_low, utf16, first_units, mark, tx3g_text, character_count, characters_of}
use Rattle.viable.specs.FirstBad.{judged_by}
use Rattle.utf8.specs.Forbidden.{not_in_line, not_in_payload}
use Rattle.text.specs.Rules.{identifier_text, payload_text, label_text, webvtt, configuration_text}
use Rattle.utf8.specs.Strings.{starts_with, starts_with_any, has_any, ends_in, begins_line, ends_line}
use Rattle.utf8.specs.Utf8.{rows, follow_in, follow, judge, utf8, class_of, class_table}
use Rattle.times.specs.Times.{tick, quotient_up, back, scale_allowed, timeline_allowed}
use Rattle.timeline.specs.Cues.{runs, chosen, running_at, same_id, same_body}
use Rattle.timeline.specs.Lists.{listed}
use Rattle.timeline.specs.Packing.{edges, marks, insert, sorted, stretches, held_over, packed}
use Rattle.timeline.specs.Tracks.{blank, copy, total, begin_of, end_of, held_of, held_from, held_at}
use Rattle.timeline.specs.Unpacking.{no_cue, fresh, till, index_of, has_id, has_newer, goes_on, read_body, read_all, read_from, unpack}
use Rattle.boxes.specs.Boxes.{step_at, boxes_f, boxes_in, passed, times, among, judged, part}
use Rattle.boxes.specs.Written.{box_bytes, item_bytes, laid}
use Rattle.wvtt.specs.Kinds.{line, single}
use Rattle.wvtt.specs.Sample.{judge_id, judge_text, judge_body, in_cue, judge_cue, in_sample, judge_sample}
use Rattle.wvtt_cues.specs.Cues.{nowhere, placed, body_of, with_id, parts_of, text_of, held_by, cues_in, sample_cues, next_cue}
use Rattle.wvtt_cues.specs.Terms.{places_of}
use Rattle.wvtt_write.specs.Written.{text_items, cue_items, cue_bytes, cues_bytes, sample_bytes, pooled, texts_size, cue_size}
use Rattle.cues.specs.List.{body_of as body_of-List, cue_of, cues_of, captions_of}
use Rattle.records.specs.Records.{count, source_id, start_ms, end_ms, text_offset, identifier_length, settings_length, payload_length, reserved, settings_offset, payload_offset, texts_end, piece, identifier_of, settings_of, payload_of}
use Rattle.cues.specs.Caption.{long_texts, judge_texts, bad_times as bad_times-Caption, judge_content, judge_caption}
use Rattle.cues.specs.Judgement.{bad_value, past_pool, caption_of, start_before, judge_record, stood_earlier, judge_ids, judge_list}
use Rattle.table.specs.Table.{row_count, duration_of, size_of, offset_of, bytes_of, judge_size, judge_row, judge_row_by, judge_whole, judge_left, judge_rows}
use Rattle.track.specs.Track.{judge_track, sample_of, track_of}
use Rattle.pack.specs.Packing.{packed_track, row_bytes, table_bytes, samples_bytes, sizes_of, pack_room, packed_of}
use Rattle.records_write.specs.Records.{record_bytes, record_of, texts_of, pool_to, records_to, pool_of, records_of}
use Rattle.unpack.specs.Unpacking.{track_cues, track_ms, bad_times, judge_times, judge_end, judge_unpack, done_with, unpack_room, unpack_of}
use Rattle.decimal.specs.Decimal.{digits, decimal, value_from, value}
use Rattle.listing.specs.Listing.{number_text, pair_text, row_text, rows_text, word, refusal_text}
use Rattle.timestamps.specs.Timestamps.{front, behind as behind-Times, digit, shaped, minutes_ms, hours_ms, time_of, two, three, time_text}
use Rattle.vtt_lines.specs.Lines.{lines_of, joined, filled, blocks_from, holds_arrow, some_arrow}
use Rattle.vtt_timing.specs.Timing.{blank as blank-Timing, unblank, edge, trimmed_end, trimmed, after_word, timing_of}
use Rattle.vtt_blocks.specs.Kinds.{opens, names, plain_kind, later_kind, kind_of}
use Rattle.vtt_read.specs.Reading.{judge_kind, judge_blocks, cues_in as cues_in-Reading, unmarked, bad_header, judge_lines, cues_of_lines, judge_file, file_cues, cue_with, numbered_from, file_records, file_pool, read_room, read_of}
use Rattle.vtt_write.specs.Writing.{times_text, timing_text, cue_text, file_of, file_bytes, write_room, written_of}
use Rattle.input.specs.Line.{is_digit, top, before, behind, all_digits, written, line_of}
use Rattle.report.specs.Report.{list_text, usable, answer_text}
use Rattle.demands.specs.Cases.{row_bytes as row_bytes-here, rows_bytes, rows_pool, held_by as held_by-here, times_of, ask_packing, ask_unpacking, asked, cases, CasesHold}

pub cases-hold : CasesHold
unfolding within same_list first_from first over wrote fault bad_text each two three time_text times_text timing_text cue_text file_of captions_of file_bytes write_room written_of be bytes is_tail firsts is_high is_low utf16 first_units mark tx3g_text character_count characters_of judged_by not_in_line not_in_payload identifier_text payload_text label_text webvtt configuration_text starts_with starts_with_any has_any ends_in begins_line ends_line rows follow_in follow judge utf8 class_of class_table tick quotient_up back scale_allowed timeline_allowed runs chosen running_at same_id same_body listed edges marks insert sorted stretches held_over packed blank copy total begin_of end_of held_of held_from held_at no_cue fresh till index_of has_id has_newer goes_on read_body read_all read_from unpack step_at boxes_f boxes_in passed times among judged part box_bytes item_bytes laid line single judge_id judge_text judge_body in_cue judge_cue in_sample judge_sample nowhere placed body_of places_of with_id parts_of text_of held_by cues_in sample_cues next_cue text_items cue_items cue_bytes cues_bytes sample_bytes pooled texts_size cue_size body_of-List cue_of cues_of count source_id start_ms end_ms text_offset identifier_length settings_length payload_length reserved settings_offset payload_offset texts_end piece identifier_of settings_of payload_of bad_value past_pool caption_of start_before long_texts judge_texts bad_times-Caption judge_content judge_record stood_earlier judge_ids judge_list row_count duration_of size_of offset_of bytes_of judge_size judge_row judge_row_by judge_whole judge_left judge_rows judge_track sample_of track_of packed_track row_bytes table_bytes samples_bytes sizes_of pack_room packed_of record_bytes record_of texts_of pool_to records_to pool_of records_of track_cues track_ms bad_times judge_times judge_end judge_unpack done_with unpack_room unpack_of judge_caption front behind-Times digit shaped minutes_ms hours_ms time_of lines_of joined filled blocks_from holds_arrow some_arrow blank-Timing unblank edge trimmed_end trimmed after_word timing_of opens names plain_kind later_kind kind_of judge_kind judge_blocks cues_in-Reading unmarked bad_header judge_lines cues_of_lines judge_file file_cues cue_with numbered_from file_records file_pool read_room read_of digits decimal value_from value is_digit top before behind all_digits written line_of number_text pair_text row_text rows_text word refusal_text list_text usable answer_text row_bytes-here rows_bytes rows_pool held_by-here times_of ask_packing ask_unpacking asked cases
cases-hold = refl
