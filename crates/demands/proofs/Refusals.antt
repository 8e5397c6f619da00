-- Every refusal has a number of the table, and two places that say what they should.
use Prim.Native.Nat.{ℕ, zero, suc, ◌+◌, ◌-◌, ◌%◌, ◌≤◌, ◌<◌}
use mathlib.Core.Path.{◌≡◌, refl, sym, ap, ap₂, ◌∙◌, subst}
use mathlib.Core.Logic.{inl, inr, ◌≢◌, ⊎_elim}
use native.Mathlib.Omega.{arith}
use mathlib.Core.Bool.{Bool, true, false, not}
use mathlib.Core.Option.{Option, none, some}
use mathlib.Core.List.Memᴰ
use mathlib.Core.List.{List, [], ◌∷◌, ◌++◌, Memᴰ}
use lib.Dec.{ltb, leb, eqb}
use borrow.Author.Tests.{leb-true, eqb-true, eqb-false, not-true}
use lib.ListN.{length, drop, get_or, set}
use Rattle.base.specs.Choice.{pick, both, any_of}
use Rattle.base.proofs.Choice.{both_left, both_right}
use Rattle.base.specs.First.{first}
use Rattle.verdict.specs.Verdict.{Verdict, Fine, Refused}
use Rattle.verdict.specs.Judgement.{fault, bad_text, moved, ◌gives◌at◌, text_at, ◌then◌, each}
use Rattle.verdict.proofs.Judgement.{text-fine}
use Rattle.viable.specs.Judged.{Judged, Right, Bad as BadAt}
use Rattle.viable.specs.FirstBad.{FirstBad, Passes, judged_by, JudgedIs}
use Rattle.fields.specs.BigEndian.{be}
use Rattle.text.proofs.Rules.{empty-line}
use Rattle.text.specs.Rules.{identifier_text, payload_text, configuration_text, label_text}
use Rattle.text.specs.Beginnings.{identifier_begun, payload_begun, configuration_begun, label_begun}
use Rattle.times.specs.Times.{back, tick, scale_allowed, timeline_allowed}
use Rattle.timeline.specs.Cues.{Body, Cue, same_body}
use Rattle.timeline.specs.Tracks.{Sample}
use Rattle.timeline.specs.Unpacking.{Known, faulty, known, Unpacked as Listing, stopped, done, no_cue, fresh, till, index_of, has_id, has_newer, goes_on, by_index, if_named, read_body, on_known, read_all, on_read, read_from, unpack}
use Rattle.records.specs.Records.{count, start_ms, end_ms, identifier_length, settings_length, payload_length, identifier_of, settings_of, payload_of}
use Rattle.characters.specs.Characters.{tx3g_text, tx3g_begun, character_count, count_by, characters_of}
use Rattle.boxes.specs.declared.Step.{Step}
use Rattle.boxes.specs.declared.Step.TheVariants.{Box, Refused as Stopped, End}
use Rattle.boxes.proofs.Laws.{step-box, step-reads}
use Rattle.boxes.specs.Boxes.{Boxes, clean, broken, box, step_at, stopped_by, on_step, boxes_f, boxes_in, passed, judged, among, times, part}
use Rattle.bodies.specs.Body.{Body as BoxBody, At, Refused as NoBody, Nowhere}
use Rattle.bodies.specs.Bodies.{body_of, filled}
use Rattle.entry_head.specs.Head.{judge_head}
use Rattle.wvtt.specs.Sample.{judge_id, judge_text, judge_body, in_cue, end_cue, judge_cue, in_sample, end_counts, end_sample, judge_sample}
use Rattle.wvtt.specs.Kinds.{vttc, vtte, vsid, payl, line, single}
use Rattle.wvtt_cues.specs.declared.Parts.{Parts}
use Rattle.wvtt_cues.specs.Cues.{parts_of, if_whole, inner_of, cue_by, next_cue}
use Rattle.wvtt_entry.specs.Entry.{wvtt, vtt_c, vlab, judge_content, in_entry, end_entry, judge_entry}
use Rattle.cues.specs.Caption.{judge_caption, long_texts, judge_texts, bad_times as bad_caption_times, judge_content as judge_caption_content}
use Rattle.cues.specs.Judgement.{bad_value, past_pool, caption_of, start_before, judge_record, stood_earlier, twice_at, judge_ids, judge_list}
use Rattle.cues.specs.List.{cues_of}
use Rattle.table.specs.Table.{row_count, duration_of, size_of, offset_of, bytes_of, placed_at, judge_size, judge_row, judge_row_by, judge_whole, judge_left, judge_rows}
use Rattle.track.specs.Track.{track_of, judge_track}
use Rattle.timeline.specs.Checking.{Answer, accepted, wrong, short, check}
use Rattle.conform.specs.Conformance.{answered, track_verdict, of_track, unless_list, checked}
use Rattle.pack.specs.Packed.{Packed, Done, Refused as NotPacked}
use Rattle.pack.specs.Packing.{packed_track, table_bytes, samples_bytes, sizes_of, unless_faulty, pack_room, roomed, packed_of}
use Rattle.signed.specs.Signed.{ordered}
use Rattle.tx3g_contents.specs.Kinds.{styl, krok, tbox, twrp, ranged, known as known_kind, single as single_kind}
use Rattle.tx3g_contents.specs.Contents.{content_end}
use Rattle.tx3g_fonts.specs.Fonts.{font_at, font_id, font_among, has_font, fresh_font, judge_fonts}
use Rattle.tx3g_entry.specs.Entry.{tx3g, ftab, justified_entry, plain_entry, judge_fixed, nothing_more, fonts_of, in_entry as in_tx3g_entry, end_entry as end_tx3g_entry, judge_entry as judge_tx3g_entry, entry_boxes}
use Rattle.tx3g_rules.specs.Rules.{in_range, style_at, end_before, turn_at, time_before, style_fault, judge_style, turn_fault, judge_turn, box_fault, wrap_fault, range_fault, judge_records, judge_body as judge_modifier}
use Rattle.tx3g_sample.specs.Reading.{Reading, Good, BadEntry, BadSample}
use Rattle.tx3g_sample.specs.Sample.{text_end, counted, counted_at, characters_in, fonts_in, judge_text as judge_tx3g_text, in_sample as in_tx3g_sample, modifiers_of, judge_modifiers, judge_sample as judge_tx3g_sample, answer_of, read_sample, verdict_of}
use Rattle.records_write.specs.Records.{records_of, pool_of}
use Rattle.unpack.specs.Unpacked.{Unpacked, Done as Unpacks, Refused as NotUnpacked}
use Rattle.unpack.specs.Unpacking.{track_cues, track_ms, bad_times, judge_times, judge_end, judge_unpack, stops_at, answer_by, done_with, unpack_room, roomed as roomed_list, unpack_of}
use Rattle.vtt_lines.specs.Lines.{lines_of, joined, filled as filled_lines}
use Rattle.vtt_timing.proofs.Grammar.{timing-means}
use Rattle.vtt_read.specs.FileRead.{FileRead, Done as Reads, Refused as NotRead}
use Rattle.vtt_read.specs.Reading.{unmarked, judge_file, file_cues, file_records, file_pool, answer_by as file_by, read_room, roomed as roomed_file, read_of}
use Rattle.vtt_write.specs.FileWritten.{Done as FileDone, NoRoom}
use Rattle.vtt_write.specs.Writing.{file_bytes, by_both, write_room, lent as lent_file, written_of as file_written}
use Rattle.vtt_laws.proofs.Refused.{numbers, refused_why}
use Rattle.tx3g_modifiers.specs.Held.{One}
use Rattle.tx3g_modifiers.specs.Modifiers.{whole, modifier_of, next_modifier}
use Rattle.tx3g_style.specs.Styled.{BadSample as SampleOf}
use Rattle.tx3g_style.specs.Style.{in_force, styles_of, styled_by, style_of, fault_of}
use Rattle.wvtt_entry_write.specs.Written.{Done as WrittenDone, Refused as NotWritten}
use Rattle.wvtt_entry_write.specs.Writing.{entry_size, judge_label, judge_texts as judge_entry_texts, judge_written, unless_faulty as unless_written, room_of, lent, written_of}
use Rattle.tx3g_box.specs.TextBox.{boxes_of, spot_in, spot_by, spot_of}
use Rattle.table.specs.Parts.{table_of, content_of}
use Rattle.table_lasting.specs.Dropped.{Dropped, Done as Drops, Refused as NotDropped}
use Rattle.table_lasting.specs.Lasting.{lasting_of}
use Rattle.table_lasting.specs.Dropping.{judge_drop, sizes_of as sizes_of_parts, unless_faulty as unless_dropped, drop_room, roomed as roomed_parts, drop_of}
use Rattle.tx3g_payload_write.specs.Sample.{payload_in}
use Rattle.tx3g_stock.specs.Stock.{counts_of, judge_stock}
use Rattle.tx3g_convert.specs.Converted.{Converted, NoRoom as NoRoomLeft}
use Rattle.tx3g_convert.specs.Convert.{Told, told_of, has_text, counting, stock_cues, stock_ms, judge_told, judge_tolds, judge_cues, by_entry, by_track, done_with as done_conversion, convert_room, roomed as roomed_stock, convert_of}
use Rattle.tx3g_convert_laws.proofs.Samples.{no_told, length-told, told_at_lem}
use Rattle.profile.specs.Machine.{judge}
use Rattle.profile_judge.specs.Judgement.{outside, judge_profile}
use Rattle.demands.specs.Offsets.{body_at, Inside, InSample, InEntry, InWritten, InConfiguration, InPayload, InSettings, InTexts, InRecord, InFile, InTrack, InText, InTx3g, InStock, Never}
use Rattle.settings.specs.Read.{Read, Done as SettingsRead, Refused as NoSettings}
use Rattle.settings.specs.Reading.{words, read_words, unread, unless_faulty as unless_bad, read_settings}
use Rattle.settings.specs.Form.{written, writable}
use Rattle.settings.proofs.Readings.{refused-only}
use Rattle.settings_write.specs.Writing.{record_with, settings_room}
use Rattle.settings_flat.specs.declared.CaptionsSettings.{CaptionsSettings}
use Rattle.settings_flat.specs.Flat.{known as known_numbers, settings_of as settings_in, given_room, given_written}
use Rattle.demands.specs.Refusals.{InTable, Listed, SettingsListed, CheckListed, WriteListed, ConvertListed, dropping, packing, unpacking, reading, writing, of_settings, of_box, of_cue, of_modifier, RefusalsAre}
use Rattle.demands.proofs.Offsets.{offsets_are}

-- ---- judgements

-- a number of the table other than 6
abbrev other : ℕ → Bool
other n = both (both (leb 1 n) (leb n 21)) (both (not (eqb n 20)) (not (eqb n 6)))

in_table : (n : ℕ) → other n ≡ true → InTable n
in_table n h =
    let w = both_left (both (leb 1 n) (leb n 21)) (both (not (eqb n 20)) (not (eqb n 6))) h in
    let v = both_right (both (leb 1 n) (leb n 21)) (both (not (eqb n 20)) (not (eqb n 6))) h in
    (leb-true 1 n (both_left (leb 1 n) (leb n 21) w), leb-true n 21 (both_right (leb 1 n) (leb n 21) w), eqb-false n 20 (not-true (eqb n 20) (both_left (not (eqb n 20)) (not (eqb n 6)) v)))

not-six : (n : ℕ) → other n ≡ true → n ≢ 6
not-six n h =
    let v = both_right (both (leb 1 n) (leb n 21)) (both (not (eqb n 20)) (not (eqb n 6))) h in
    eqb-false n 6 (not-true (eqb n 6) (both_right (not (eqb n 20)) (not (eqb n 6)) v))

all_other : List ℕ → Bool
all_other [] = true
all_other (n ∷ ns) = both (other n) (all_other ns)

one-other : (n : ℕ) (ns : List ℕ) → all_other ns ≡ true → Memᴰ n ns → other n ≡ true
unfolding all_other
one-other n [] h m = absurd (Memᴰ.not-nil m)
one-other n (k ∷ ns) h m =
    ⊎_elim (λ e. ap other e ∙ both_left (other k) (all_other ns) h) (one-other n ns (both_right (other k) (all_other ns) h)) (Memᴰ.cases_cons m)

-- a box of s that begins at p: what its header says
AtBox : List ℕ → ℕ → ℕ → ℕ → ℕ → Type 0
AtBox s p k b n = (k ≡ be 4 s (p + 4)) × (b ≡ p + 8) × (n ≡ p + be 4 s p) × (n ≤ length s)

-- each box of a container is one
Standing : List ℕ → Boxes → Type 0
Standing s clean = Unit {0}
Standing s (broken r) = Unit {0}
Standing s (box p k b n rest) = AtBox s p k b n × Standing s rest

stand-on : (s : List ℕ) (from end : ℕ) (t : Step) (f : ℕ → Boxes) → end ≤ length s → step_at s from end ≡ t → ((n : ℕ) → Standing s (f n)) → Standing s (on_step t from f)
unfolding Standing AtBox
stand-on s from end (Box k b n) f l e rest =
    let w = step-box s from end k b n e in
    let r = step-reads s from end k b n e in
    ((r.0, w.header, r.1, omega (arith, w.inside)), rest n)
stand-on s from end (Stopped r) f l e rest = tt
stand-on s from end End f l e rest = tt

boxes-stand : (f : ℕ) (s : List ℕ) (from end : ℕ) → end ≤ length s → Standing s (boxes_f f s from end)
unfolding boxes_f Standing
boxes-stand zero s from end l = tt
boxes-stand (suc f) s from end l = stand-on s from end (step_at s from end) (λ n. boxes_f f s n end) l refl (λ n. boxes-stand f s n end l)

standing : (s : List ℕ) (from end : ℕ) → end ≤ length s → Standing s (boxes_in s from end)
unfolding boxes_in
standing s from end l = boxes-stand (suc end) s from end l

-- a text: 6 is its first bad byte
module _ (Says : ℕ → ℕ → Type 0) where
  judged-text : (p : ℕ) (j : Judged) → ((q : ℕ) → j ≡ BadAt q → Says p q) → Listed Says (text_at p j)
  unfolding bad_text
  judged-text p Right f = tt
  judged-text p (BadAt q) f = ((omega arith, omega arith, λ z. omega arith), λ z. absurd (z refl), λ z. f q refl)

  text-at-listed : (keeps begun : List ℕ → Bool) → JudgedIs keeps begun → (p : ℕ) (s : List ℕ) → ((q : ℕ) → FirstBad (Passes keeps) s q → Says p q) → Listed Says (text_at p (judged_by keeps begun s))
  text-at-listed keeps begun is p s f = judged-text p (judged_by keeps begun s) (λ q e. f q (((is s).1 q).0 e))

-- what unpacking says of its cues
KnownListed : Known → Type 0
KnownListed (faulty n) = other n ≡ true
KnownListed (known cs) = Unit {0}

UnpackedListed : Listing → Type 0
UnpackedListed (stopped n i) = other n ≡ true
UnpackedListed (done cs) = Unit {0}

read-body-listed : (b e : ℕ) (last earlier : List Body) (cs : List Cue) (y : Body) → KnownListed (read_body b e last earlier cs y)
unfolding read_body goes_on KnownListed
read-body-listed b e last earlier cs y = named y.id
  where
    on : (j : ℕ) (p q r : Bool) (ds : List Cue) → KnownListed (pick p (faulty 13) (pick q (faulty 14) (pick r (faulty 11) (known ds))))
    on j true q r ds = refl
    on j false true r ds = refl
    on j false false true ds = refl
    on j false false false ds = tt

    room : (p : Bool) (ds : List Cue) → KnownListed (pick p (known ds) (faulty 9))
    room true ds = tt
    room false ds = refl

    by_index_lem : (o : Option ℕ) → KnownListed (by_index b e last earlier cs y o)
    by_index_lem none = room (ltb (length cs) 1024) (cs ++ fresh b e y ∷ [])
    by_index_lem (some j) = on j (not (has_id y.id last)) (not (same_body (get_or cs j no_cue).body y)) (has_newer cs j earlier) (set cs j (till e (get_or cs j no_cue)))

    twice : (p : Bool) → KnownListed (pick p (faulty 12) (by_index b e last earlier cs y (index_of y.id cs)))
    twice true = refl
    twice false = by_index_lem (index_of y.id cs)

    named : (o : Option ℕ) → KnownListed (if_named o (pick (has_id y.id earlier) (faulty 12) (by_index b e last earlier cs y (index_of y.id cs))))
    named none = refl
    named (some n) = twice (has_id y.id earlier)

read-all-listed : (b e : ℕ) (last earlier : List Body) (cs : List Cue) (ys : List Body) → KnownListed (read_all b e last earlier cs ys)
unfolding read_all KnownListed
read-all-listed b e last earlier cs [] = tt
read-all-listed b e last earlier cs (y ∷ ys) = go (read_body b e last earlier cs y) (read-body-listed b e last earlier cs y) (λ ds. read-all-listed b e last (earlier ++ y ∷ []) ds ys)
  where
    go : (r : Known) → KnownListed r → ((ds : List Cue) → KnownListed (read_all b e last (earlier ++ y ∷ []) ds ys)) → KnownListed (on_known r (λ ds. read_all b e last (earlier ++ y ∷ []) ds ys))
    go (faulty n) h rest = h
    go (known ds) h rest = rest ds

read-from-listed : (b i : ℕ) (last : List Body) (cs : List Cue) (ss : List Sample) → UnpackedListed (read_from b i last cs ss)
unfolding read_from KnownListed UnpackedListed
read-from-listed b i last cs [] = tt
read-from-listed b i last cs (s ∷ ss) =
    go (read_all b (b + s.duration) last [] cs s.held) (read-all-listed b (b + s.duration) last [] cs s.held) (λ ds. read-from-listed (b + s.duration) (suc i) s.held ds ss)
  where
    go : (r : Known) → KnownListed r → ((ds : List Cue) → UnpackedListed (read_from (b + s.duration) (suc i) s.held ds ss)) → UnpackedListed (on_read r i (λ ds. read_from (b + s.duration) (suc i) s.held ds ss))
    go (faulty n) h rest = h
    go (known ds) h rest = rest ds

-- ---- whatever 6 says
module _ (Says : ℕ → ℕ → Type 0) where
  given : (b : Bool) (n p : ℕ) → other n ≡ true → Listed Says (b gives n at p)
  unfolding fault
  given true n p h = (in_table n h, λ z. refl, λ e. absurd (not-six n h e))
  given false n p h = tt

  next : (v w : Verdict) → Listed Says v → Listed Says w → Listed Says (v then w)
  next Fine w a b = b
  next (Refused r) w a b = a

  -- a fault, and then others
  more : (b : Bool) (n p : ℕ) (w : Verdict) → other n ≡ true → Listed Says w → Listed Says (b gives n at p then w)
  more b n p w h k = next (b gives n at p) w (given b n p h) k

  choice : (b : Bool) (v w : Verdict) → Listed Says v → Listed Says w → Listed Says (pick b v w)
  choice true v w a b = a
  choice false v w a b = b

  -- of two texts by their kind, the one that is there
  chosen : (b : Bool) (v w : Verdict) → (b ≡ true → Listed Says v) → Listed Says w → Listed Says (pick b v w)
  chosen true v w a b = a refl
  chosen false v w a b = b

  all : (f : ℕ → Verdict) (n : ℕ) → ((k : ℕ) → k < n → Listed Says (f k)) → Listed Says (each f n)
  unfolding each
  all f zero h = tt
  all f (suc n) h = next (each f n) (f n) (all f n (λ k l. h k (omega arith))) (h n (omega arith))

  -- ---- boxes

  step-listed : (s : List ℕ) (from end : ℕ) → Listed Says (stopped_by (step_at s from end))
  unfolding step_at
  step-listed s from end = go (leb end from) (ltb (end - from) 8) (ltb (be 4 s from) 8) (ltb (end - from) (be 4 s from)) (Box (be 4 s (from + 4)) (from + 8) (from + be 4 s from)) tt
    where
      go : (a b c d : Bool) (x : Step) → Listed Says (stopped_by x) → Listed Says (stopped_by (pick a End (pick b (Stopped (fault 1 from)) (pick c (Stopped (fault 2 from)) (pick d (Stopped (fault 1 from)) x)))))
      go true b c d x h = tt
      go false true c d x h = given true 1 from refl
      go false false true d x h = given true 2 from refl
      go false false false true x h = given true 1 from refl
      go false false false false x h = h

  onward : (t : Step) (from : ℕ) (f : ℕ → Boxes) → Listed Says (stopped_by t) → ((n : ℕ) → Listed Says (passed (f n))) → Listed Says (passed (on_step t from f))
  unfolding passed
  onward (Box k b n) from f h rest = rest n
  onward (Stopped r) from f h rest = h
  onward End from f h rest = tt

  boxes-f : (f : ℕ) (s : List ℕ) (from end : ℕ) → Listed Says (passed (boxes_f f s from end))
  unfolding boxes_f passed
  boxes-f zero s from end = tt
  boxes-f (suc f) s from end = onward (step_at s from end) from (λ n. boxes_f f s n end) (step-listed s from end) (λ n. boxes-f f s n end)

  boxes-listed : (s : List ℕ) (from end : ℕ) → Listed Says (passed (boxes_in s from end))
  unfolding boxes_in
  boxes-listed s from end = boxes-f (suc end) s from end

  judged-listed : (s : List ℕ) (inside : List ℕ → ℕ → ℕ → ℕ → ℕ → Verdict) (last : List ℕ → Verdict) → ((before : List ℕ) (p k b n : ℕ) → AtBox s p k b n → Listed Says (inside before p k b n))
      → ((kinds : List ℕ) → Listed Says (last kinds)) → (before : List ℕ) (bs : Boxes) → Standing s bs → Listed Says (passed bs) → Listed Says (judged inside last before bs)
  unfolding judged passed Standing
  judged-listed s inside last h k before clean l e = k before
  judged-listed s inside last h k before (broken r) l e = e
  judged-listed s inside last h k before (box p j b n rest) l e =
      next (inside before p j b n) _ (h before p j b n l.0) (judged-listed s inside last h k (j ∷ before) rest l.1 e)

  -- the body of a box, or the refused header before it
  BodyListed : BoxBody → Type 0
  BodyListed Nowhere = Unit {0}
  BodyListed (NoBody r) = Listed Says (Refused r)
  BodyListed (At b) = Unit {0}

  found-listed : (k : ℕ) (bs : Boxes) → Listed Says (passed bs) → BodyListed (body_of k bs)
  unfolding passed body_of BodyListed
  found-listed k clean h = tt
  found-listed k (broken r) h = h
  found-listed k (box p j b n rest) h = go (eqb j k) (found-listed k rest h)
    where
      go : (c : Bool) → BodyListed (body_of k rest) → BodyListed (pick c (At b) (body_of k rest))
      go true g = tt
      go false g = g

  filled-listed : (p e n : ℕ) → Listed Says (filled p e n)
  unfolding filled
  filled-listed p e n = more (ltb n e) 1 p _ refl (given (ltb e n) 2 p refl)

  head-listed : (e : List ℕ) (fixed kind : ℕ) → Listed Says (judge_head e fixed kind)
  unfolding judge_head
  head-listed e fixed kind =
      more (any_of (ltb (length e) fixed) (ltb (length e) (be 4 e 0))) 1 0 _ refl
      (given (any_of (ltb (be 4 e 0) fixed) (any_of (ltb (be 4 e 0) (length e)) (not (eqb (be 4 e 4) kind)))) 2 0 refl)

  ends : (cues empties : ℕ) → Listed Says (end_counts cues empties)
  ends cues empties = more (any_of (ltb 1 empties) (both (ltb 0 empties) (ltb 0 cues))) 5 0 _ refl (given (both (eqb cues 0) (eqb empties 0)) 4 0 refl)

  -- the walk over the cues of a sample
  cue-by-listed : (v : Verdict) (c : Parts) (n : ℕ) → Listed Says v → Listed Says (of_cue (cue_by (if_whole v c) n))
  cue-by-listed Fine c n h = tt
  cue-by-listed (Refused r) c n h = h

  next-cue-listed : (s : List ℕ) (bs : Boxes) → Listed Says (passed bs) → Listed Says (of_cue (next_cue s bs))
  unfolding next_cue passed
  next-cue-listed s clean h = tt
  next-cue-listed s (broken r) h = h
  next-cue-listed s (box p k b n rest) h = go (eqb k vttc) (next-cue-listed s rest h)
    where
      go : (c : Bool) → Listed Says (of_cue (next_cue s rest)) → Listed Says (of_cue (pick c (cue_by (inner_of s (boxes_in s b n)) n) (next_cue s rest)))
      go true g = cue-by-listed (passed (boxes_in s b n)) (parts_of s (boxes_in s b n)) n (boxes-listed s b n)
      go false g = g

  twice-listed : (o : Option ℕ) → Listed Says (twice_at o)
  twice-listed none = tt
  twice-listed (some i) = given true 12 i refl

  answered-listed : (v : Answer) → Listed Says (answered v)
  answered-listed accepted = tt
  answered-listed (wrong i) = given true 16 i refl
  answered-listed (short n) = given true 16 n refl

  -- ---- 3GPP text

  fonts-listed : (e : List ℕ) (p b n : ℕ) → Listed Says (judge_fonts e p b n)
  unfolding judge_fonts fresh_font
  fonts-listed e p b n =
      next (filled p (font_at e b (be 2 e b)) n) _ (filled-listed p (font_at e b (be 2 e b)) n)
      (more (ltb 256 (be 2 e b)) 9 p _ refl (all (fresh_font e p b) (be 2 e b) (λ k l. given (font_among e b k (font_id e b k)) 8 p refl)))

  fixed-listed : (e : List ℕ) → Listed Says (judge_fixed e)
  unfolding judge_fixed
  fixed-listed e = next (judge_head e 46 tx3g) _ (head-listed e 46 tx3g) (more (not (justified_entry e)) 8 0 _ refl (given (not (plain_entry e)) 7 0 refl))

  end-listed : (e : List ℕ) (t : BoxBody) → BodyListed t → Listed Says (end_tx3g_entry e t)
  unfolding BodyListed
  end-listed e Nowhere h = given true 4 0 refl
  end-listed e (NoBody r) h = h
  end-listed e (At b) h = given (not (has_font e b (be 2 e 38))) 8 0 refl

  tx3g-entry-listed : (e : List ℕ) → Listed Says (judge_tx3g_entry e)
  unfolding judge_tx3g_entry in_tx3g_entry entry_boxes fonts_of
  tx3g-entry-listed e =
      next (judge_fixed e) _ (fixed-listed e)
      (next (judged (in_tx3g_entry e) nothing_more [] (boxes_in e 46 (length e))) _
      (judged-listed e (in_tx3g_entry e) nothing_more (λ before p k b n l. choice (eqb k ftab) _ Fine (more (among ftab before) 3 p _ refl (fonts-listed e p b n)) tt) (λ kinds. tt) [] (boxes_in e 46 (length e)) (standing e 46 (length e) (omega arith)) (boxes-listed e 46 (length e)))
      (end-listed e (fonts_of e) (found-listed ftab (boxes_in e 46 (length e)) (boxes-listed e 46 (length e)))))

  records-listed : (fonts : ℕ → Bool) (c : ℕ) (s : List ℕ) (p k b : ℕ) → Listed Says (judge_records fonts c s p k b)
  unfolding judge_records judge_style style_fault judge_turn turn_fault box_fault wrap_fault range_fault
  records-listed fonts c s p k b =
      choice (eqb k styl) _ _
      (all (judge_style fonts c s p b) (be 2 s b) (λ i l. more (not (fonts (be 2 s (style_at b i + 4)))) 8 p _ refl (given (not (both (leb (end_before s b i) (be 2 s (style_at b i))) (in_range c s (style_at b i)))) 7 p refl)))
      (choice (eqb k krok) _ _
      (all (judge_turn c s p b) (be 2 s (b + 4)) (λ i l. given (not (both (leb (time_before s b i) (be 4 s (turn_at b i))) (in_range c s (turn_at b i + 4)))) 7 p refl))
      (choice (eqb k tbox) _ _ (given (not (ordered s b)) 7 p refl)
      (choice (eqb k twrp) _ _ (given (ltb 1 (be 1 s b)) 8 p refl)
      (choice (ranged k) _ Fine (given (not (in_range c s b)) 7 p refl) tt))))

  modifiers-listed : (fonts : ℕ → Bool) (c : ℕ) (s : List ℕ) (from : ℕ) → Listed Says (modifiers_of fonts c s from)
  unfolding modifiers_of in_tx3g_sample judge_modifier
  modifiers-listed fonts c s from =
      judged-listed s (in_tx3g_sample fonts c s) nothing_more
      (λ before p k b n l. more (both (single_kind k) (among k before)) 3 p _ refl
      (choice (known_kind k) _ Fine (next (filled p (content_end s k b) n) _ (filled-listed p (content_end s k b) n) (records-listed fonts c s p k b)) tt))
      (λ kinds. tt) [] (boxes_in s from (length s)) (standing s from (length s) (omega arith)) (boxes-listed s from (length s))

  reading-listed : (v w : Verdict) (n : ℕ) → Listed Says v → Listed Says w → Listed Says (verdict_of (answer_of v w n))
  reading-listed (Refused r) w n a b = a
  reading-listed Fine (Refused r) n a b = b
  reading-listed Fine Fine n a b = tt

  -- the walk over the modifiers of a sample
  next-modifier-listed : (s : List ℕ) (bs : Boxes) → Listed Says (passed bs) → Listed Says (of_modifier (next_modifier s bs))
  unfolding next_modifier passed
  next-modifier-listed s clean h = tt
  next-modifier-listed s (broken r) h = h
  next-modifier-listed s (box p k b n rest) h = go (whole s k b n) (next-modifier-listed s rest h)
    where
      go : (c : Bool) → Listed Says (of_modifier (next_modifier s rest)) → Listed Says (of_modifier (pick c (One (modifier_of s k b) n) (next_modifier s rest)))
      go true g = tt
      go false g = g

  stops-listed : (u : Listing) → UnpackedListed u → Listed Says (stops_at u)
  unfolding UnpackedListed fault
  stops-listed (stopped n i) h = given true n i h
  stops-listed (done cs) h = tt

  end-of-listed : (scale T : ℕ) (cs : List Cue) → Listed Says (judge_end scale T cs)
  unfolding judge_end judge_times
  end-of-listed scale T cs =
      next (each (judge_times scale cs) (length cs)) _ (all (judge_times scale cs) (length cs) (λ i l. given (bad_times scale (get_or cs i no_cue).start (get_or cs i no_cue).end) 10 i refl))
      (given (not (timeline_allowed scale T)) 10 (length cs) refl)

-- ---- texts

count-listed : (s : List ℕ) → Listed (InText s) (counted_at 0 (characters_of s))
unfolding characters_of bad_text
count-listed s = go (judged_by tx3g_text tx3g_begun s) refl
  where
    go : (j : Judged) → judged_by tx3g_text tx3g_begun s ≡ j → Listed (InText s) (counted_at 0 (count_by j (character_count s)))
    go Right e = tt
    go (BadAt q) e = ((omega arith, omega arith, λ z. omega arith), λ z. absurd (z refl), λ z. (refl, ((offsets_are.tx3g s).1 q).0 e))

-- ---- WebVTT

-- the text of a box that begins at p
text-listed : (Says : ℕ → ℕ → Type 0) (keeps begun : List ℕ → Bool) → JudgedIs keeps begun → (limit : ℕ) (s : List ℕ) (p b n : ℕ)
    → ((q : ℕ) → FirstBad (Passes keeps) (part s b n) q → Says p q) → Listed Says (judge_text keeps begun limit s p b n)
unfolding judge_text
text-listed Says keeps begun is limit s p b n f = more Says (ltb limit (n - b)) 9 p _ refl (text-at-listed Says keeps begun is p (part s b n) f)

-- what a box of s says, if its text is bad
module _ (s : List ℕ) (p k b n : ℕ) (l : AtBox s p k b n) where
  told : (keeps : List ℕ → Bool) (q : ℕ) → FirstBad (Passes keeps) (part s b n) q → FirstBad (Passes keeps) (body_at s p) q
  unfolding AtBox
  told keeps q f = subst (λ t. FirstBad (Passes keeps) t q) (ap₂ (part s) l.1 l.2) f

  fits : Inside s p
  unfolding AtBox
  fits = rw (← l.2) l.3

  typed : be 4 s (p + 4) ≡ k
  unfolding AtBox
  typed = sym l.0

body-listed : (s : List ℕ) (p k b n : ℕ) → AtBox s p k b n → Listed (InSample s) (judge_body s p k b n)
unfolding judge_body judge_id
body-listed s p k b n l =
    choice (InSample s) (eqb k vsid) _ _ (more (InSample s) (ltb (n - b) 4) 1 p _ refl (more (InSample s) (ltb 4 (n - b)) 2 p _ refl (given (InSample s) (leb 0x80000000 (be 4 s b)) 8 p refl)))
    (chosen (InSample s) (eqb k payl) _ _
    (λ e. text-listed (InSample s) payload_text payload_begun offsets_are.payload 4095 s p b n
    (λ q f. (fits s p k b n l, inl (typed s p k b n l ∙ eqb-true k payl e, told s p k b n l payload_text q f))))
    (chosen (InSample s) (line k) _ Fine
    (λ e. text-listed (InSample s) identifier_text identifier_begun offsets_are.identifier 255 s p b n
    (λ q f. (fits s p k b n l, inr (ap line (typed s p k b n l) ∙ e, told s p k b n l identifier_text q f)))) tt))

cue-listed : (s : List ℕ) (p b n : ℕ) → n ≤ length s → Listed (InSample s) (judge_cue s p b n)
unfolding judge_cue in_cue
cue-listed s p b n m =
    judged-listed (InSample s) s (in_cue s) (end_cue p) (λ before q k f e l. more (InSample s) (both (single k) (among k before)) 3 q _ refl (body-listed s q k f e l))
    (λ kinds. given (InSample s) (not (among payl kinds)) 4 p refl) [] (boxes_in s b n) (standing s b n m) (boxes-listed (InSample s) s b n)

profile-listed : (s : List ℕ) → Listed (InPayload s) (judge_profile s)
unfolding judge_profile
profile-listed s =
    more (InPayload s) (ltb 4095 (length s)) 9 0 _ refl
    (next (InPayload s) (text_at 0 (judged_by payload_text payload_begun s)) _
    (text-at-listed (InPayload s) payload_text payload_begun offsets_are.payload 0 s (λ q f. (refl, f))) (last (judge s)))
  where
    last : (j : Judged) → Listed (InPayload s) (outside j)
    last Right = tt
    last (BadAt q) = given (InPayload s) true 21 q refl

-- what is listed is listed with 20, too
with-settings : (Says : ℕ → ℕ → Type 0) (v : Verdict) → Listed Says v → SettingsListed Says v
with-settings Says Fine h = tt
with-settings Says (Refused r) h = (inl h.0, h.1, h.2)

settings-listed : (s : List ℕ) → SettingsListed (InSettings s) (of_settings (read_settings s))
unfolding read_settings fault
settings-listed s = go (ltb 255 (length s)) (judged_by identifier_text identifier_begun s) refl (text-at-listed (InSettings s) identifier_text identifier_begun offsets_are.identifier 0 s (λ q f. (refl, f)))
  where
    words-listed : (a : Read) → read_words (words 0 s) [] unread ≡ a → SettingsListed (InSettings s) (of_settings a)
    words-listed (SettingsRead x) e = tt
    words-listed (NoSettings w) e = let k = refused-only s w e in rw k.1 (inr refl, λ z. refl, λ z. absurd (omega arith))

    go : (t : Bool) (j : Judged) → judged_by identifier_text identifier_begun s ≡ j → Listed (InSettings s) (text_at 0 j)
        → SettingsListed (InSettings s) (of_settings (unless_bad (t gives 9 at 0 then text_at 0 j) (λ _. read_words (words 0 s) [] unread)))
    go true j e h = with-settings (InSettings s) (Refused (fault 9 0)) (given (InSettings s) true 9 0 refl)
    go false (BadAt q) e h = with-settings (InSettings s) (text_at 0 (BadAt q)) h
    go false Right e h = words-listed (read_words (words 0 s) [] unread) refl

given-listed : (x : CaptionsSettings) (region : List ℕ) (room : ℕ) → Listed Never (writing (given_written x region room))
unfolding given_written given_room settings_room
given-listed x region room = go (known_numbers x) (writable (record_with (settings_in x) region))
  where
    n : ℕ
    n = length (written (record_with (settings_in x) region))

    short : (t : Bool) → Listed Never (writing (pick t (NotWritten (fault 15 0)) (WrittenDone n)))
    short true = given Never true 15 0 refl
    short false = tt

    go : (t u : Bool) → Listed Never (writing (lent (pick t (pick u (WrittenDone n) (NotWritten (fault 8 0))) (NotWritten (fault 8 0))) room))
    go false u = given Never true 8 0 refl
    go true false = given Never true 8 0 refl
    go true true = short (ltb room n)

sample-listed : (s : List ℕ) → Listed (InSample s) (judge_sample s)
unfolding judge_sample in_sample AtBox
sample-listed s =
    judged-listed (InSample s) s (in_sample s) end_sample
    (λ before p k b n l. choice (InSample s) (eqb k vttc) _ _ (cue-listed s p b n l.3) (choice (InSample s) (eqb k vtte) _ Fine (boxes-listed (InSample s) s b n) tt))
    (λ kinds. ends (InSample s) (times vttc kinds) (times vtte kinds)) [] (boxes_in s 0 (length s)) (standing s 0 (length s) (omega arith)) (boxes-listed (InSample s) s 0 (length s))

entry_listed : (e : List ℕ) → Listed (InEntry e) (judge_entry e)
unfolding judge_entry in_entry judge_content
entry_listed e =
    next (InEntry e) (judge_head e 16 wvtt) _ (head-listed (InEntry e) e 16 wvtt)
    (judged-listed (InEntry e) e (in_entry e) end_entry
    (λ before p k b n l. more (InEntry e) (both (any_of (eqb k vtt_c) (eqb k vlab)) (among k before)) 3 p _ refl
    (chosen (InEntry e) (eqb k vtt_c) _ _
    (λ c. text-at-listed (InEntry e) configuration_text configuration_begun offsets_are.configuration p (part e b n)
    (λ q f. (fits e p k b n l, inl (typed e p k b n l ∙ eqb-true k vtt_c c, told e p k b n l configuration_text q f))))
    (chosen (InEntry e) (eqb k vlab) _ Fine
    (λ c. text-at-listed (InEntry e) label_text label_begun offsets_are.label p (part e b n)
    (λ q f. (fits e p k b n l, inr (typed e p k b n l ∙ eqb-true k vlab c, told e p k b n l label_text q f)))) tt)))
    (λ kinds. given (InEntry e) (not (among vtt_c kinds)) 4 0 refl) [] (boxes_in e 16 (length e)) (standing e 16 (length e) (omega arith)) (boxes-listed (InEntry e) e 16 (length e)))

-- ---- lists, tracks, the check

-- a verdict, and the next one where it finds nothing
after : (Says : ℕ → ℕ → Type 0) (v w : Verdict) → Listed Says v → (v ≡ Fine → Listed Says w) → Listed Says (v then w)
after Says Fine w a b = b refl
after Says (Refused r) w a b = a

texts-listed : (Says : ℕ → ℕ → Type 0) (identifier settings payload : List ℕ) (p : ℕ) → ((q : ℕ) → InTexts identifier settings payload q → Says p q)
    → Listed Says (judge_texts identifier settings payload p)
unfolding judge_texts
texts-listed Says identifier settings payload p told =
    let is = offsets_are.identifier in
    after Says (text_at p (judged_by identifier_text identifier_begun identifier)) _
    (text-at-listed Says identifier_text identifier_begun is p identifier (λ q f. told q (inl f)))
    (λ a. after Says (text_at p (judged_by identifier_text identifier_begun settings)) _
    (text-at-listed Says identifier_text identifier_begun is p settings (λ q f. told q (inr (inl (text-fine identifier_text identifier_begun p _ a, f)))))
    (λ b. text-at-listed Says payload_text payload_begun offsets_are.payload p payload
    (λ q f. told q (inr (inr (text-fine identifier_text identifier_begun p _ a, text-fine identifier_text identifier_begun p _ b, f))))))

list-listed : (scale T : ℕ) (records pool : List ℕ) → Listed (InRecord records pool) (judge_list scale T records pool)
unfolding judge_list judge_record judge_caption_content caption_of judge_ids
list-listed scale T records pool =
    more (InRecord records pool) (not (timeline_allowed scale T)) 10 0 _ refl (more (InRecord records pool) (ltb 0 (length records % 24)) 1 0 _ refl (more (InRecord records pool) (ltb 1024 (count records)) 9 0 _ refl
    (next (InRecord records pool) (each (judge_record scale T records pool) (count records)) _
    (all (InRecord records pool) (judge_record scale T records pool) (count records) (λ i l. more (InRecord records pool) (bad_value records i) 8 i _ refl
    (more (InRecord records pool) (long_texts (identifier_length records i) (settings_length records i) (payload_length records i)) 9 i _ refl (more (InRecord records pool) (past_pool records pool i) 1 i _ refl
    (next (InRecord records pool) (judge_texts (identifier_of records pool i) (settings_of records pool i) (payload_of records pool i) i) _
    (texts-listed (InRecord records pool) (identifier_of records pool i) (settings_of records pool i) (payload_of records pool i) i (λ q f. (l, f)))
    (more (InRecord records pool) (bad_caption_times scale T (start_ms records i) (end_ms records i)) 10 i _ refl (given (InRecord records pool) (ltb (start_ms records i) (start_before records i)) 11 i refl)))))))
    (twice-listed (InRecord records pool) (first (stood_earlier records) (count records))))))

placed-listed : (Says Worse : ℕ → ℕ → Type 0) (i : ℕ) (v : Verdict) → ((p q : ℕ) → Says p q → Worse i q) → Listed Says v → Listed Worse (placed_at i v)
unfolding moved
placed-listed Says Worse i Fine f h = tt
placed-listed Says Worse i (Refused r) f h = (h.0, h.1, λ e. f r.place r.offset (h.2 e))

size-listed : (Says : ℕ → ℕ → Type 0) (table samples : List ℕ) (i : ℕ) → Listed Says (judge_size table samples i)
unfolding judge_size
size-listed Says table samples i = more Says (eqb (size_of table i) 0) 4 i _ refl (given Says (ltb (length samples) (offset_of table (suc i))) 1 i refl)

row_listed : (Says : ℕ → ℕ → Type 0) (read : List ℕ → Verdict) (table samples : List ℕ) (i : ℕ) → Listed Says (placed_at i (read (bytes_of table samples i)))
    → Listed Says (judge_row_by read table samples i)
unfolding judge_row_by judge_row
row_listed Says read table samples i k = next Says (judge_row table samples i) _ (more Says (eqb (duration_of table i) 0) 10 i _ refl (size-listed Says table samples i)) k

rows-listed : (Says : ℕ → ℕ → Type 0) (row : ℕ → Verdict) (table samples : List ℕ) → ((i : ℕ) → i < row_count table → Listed Says (row i)) → Listed Says (judge_rows row table samples)
unfolding judge_rows judge_whole judge_left
rows-listed Says row table samples k =
    next Says (judge_whole table) _ (more Says (not (eqb (length table % 8) 0)) 1 0 _ refl (given Says (ltb 65536 (row_count table)) 9 0 refl))
    (next Says (each row (row_count table)) _ (all Says row (row_count table) k)
    (given Says (ltb (offset_of table (row_count table)) (length samples)) 2 (row_count table) refl))

track-listed : (table samples : List ℕ) → Listed (InTrack table samples) (judge_track table samples)
unfolding judge_track
track-listed table samples =
    rows-listed (InTrack table samples) (judge_row_by judge_sample table samples) table samples
    (λ i l. row_listed (InTrack table samples) judge_sample table samples i
    (placed-listed (InSample (bytes_of table samples i)) (InTrack table samples) i (judge_sample (bytes_of table samples i)) (λ p q b. (l, (p, b))) (sample-listed (bytes_of table samples i))))

check-listed : (scale T : ℕ) (records pool table samples : List ℕ) → CheckListed records pool table samples (checked scale T records pool table samples)
unfolding checked
check-listed scale T records pool table samples =
    go (judge_list scale T records pool) (track_verdict scale T records pool table samples) (list-listed scale T records pool)
    (next (InTrack table samples) (judge_track table samples) _ (track-listed table samples) (answered-listed (InTrack table samples) (check (cues_of scale records pool) (tick scale T) (track_of table samples))))
  where
    go : (v w : Verdict) → Listed (InRecord records pool) v → Listed (InTrack table samples) w → CheckListed records pool table samples (unless_list v (of_track w))
    go (Refused r) w h k = h
    go Fine (Refused r) h k = k
    go Fine Fine h k = tt

-- ---- packing and unpacking

pack-listed : (scale T : ℕ) (records pool : List ℕ) (table_room samples_room : ℕ) → Listed (InRecord records pool) (packing (packed_of scale T records pool table_room samples_room))
unfolding packed_of pack_room sizes_of fault
pack-listed scale T records pool table_room samples_room =
    let track = packed_track scale T records pool in
    list (judge_list scale T records pool) (list-listed scale T records pool) (length track) (length (table_bytes track)) (length (samples_bytes track))
  where
    room : (a b : Bool) (d : Packed) → Listed (InRecord records pool) (packing d) → Listed (InRecord records pool) (packing (pick a (NotPacked (fault 15 0)) (pick b (NotPacked (fault 15 1)) d)))
    room true b d k = given (InRecord records pool) true 15 0 refl
    room false true d k = given (InRecord records pool) true 15 1 refl
    room false false d k = k

    list : (v : Verdict) → Listed (InRecord records pool) v → (n t m : ℕ) → Listed (InRecord records pool) (packing (roomed table_room samples_room (unless_faulty v (Done n t m))))
    list (Refused r) h n t m = h
    list Fine h n t m = room (ltb table_room t) (ltb samples_room m) (Done n t m) tt

unpack-listed : (scale : ℕ) (table samples : List ℕ) (records_room pool_room : ℕ) → Listed (InTrack table samples) (unpacking (unpack_of scale table samples records_room pool_room))
unfolding unpack_of unpack_room judge_unpack done_with unpack fault
unpack-listed scale table samples records_room pool_room =
    let cs = track_cues table samples in
    list (judge_unpack scale table samples) (length (records_of scale cs)) (length (pool_of cs)) (track_ms scale table samples)
    (more (InTrack table samples) (not (scale_allowed scale)) 10 0 _ refl
    (next (InTrack table samples) (judge_track table samples) _ (track-listed table samples)
    (next (InTrack table samples) (stops_at (unpack (track_of table samples))) _ (stops-listed (InTrack table samples) (unpack (track_of table samples)) (read-from-listed 0 0 [] [] (track_of table samples)))
    (end-of-listed (InTrack table samples) scale (track_ms scale table samples) cs))))
  where
    room : (a b : Bool) (d : Unpacked) → Listed (InTrack table samples) (unpacking d) → Listed (InTrack table samples) (unpacking (pick a (NotUnpacked (fault 15 0)) (pick b (NotUnpacked (fault 15 1)) d)))
    room true b d k = given (InTrack table samples) true 15 0 refl
    room false true d k = given (InTrack table samples) true 15 1 refl
    room false false d k = k

    list : (v : Verdict) (n p T : ℕ) → Listed (InTrack table samples) v → Listed (InTrack table samples) (unpacking (roomed_list records_room pool_room (answer_by v (Unpacks n p T))))
    list (Refused r) n p T h = h
    list Fine n p T h = room (ltb records_room n) (ltb pool_room p) (Unpacks n p T) tt

-- ---- files

faults-listed : (file : List ℕ) → Listed (InFile file) (judge_file file)
unfolding all_other
faults-listed file = go (judge_file file) refl
  where
    go : (v : Verdict) → judge_file file ≡ v → Listed (InFile file) v
    go Fine e = tt
    go (Refused w) e =
        let lines = lines_of (unmarked file) in
        ⊎_elim (λ m. let o = one-other w.number numbers refl m.0 in (in_table w.number o, (λ z. m.1), λ z. absurd (not-six w.number o z)))
        (λ b. let t = b.timing in
        subst (Listed (InFile file)) b.texts
        (texts-listed (InFile file) (get_or lines (w.place - 2) []) t.settings (joined (filled_lines (drop w.place lines))) w.place
        (λ q f. (b.later, t, (timing-means (get_or lines (w.place - 1) []) t).0 b.line, f))))
        (refused_why file w e)

file-listed : (file : List ℕ) (records_room pool_room : ℕ) → Listed (InFile file) (reading (read_of file records_room pool_room))
unfolding read_of read_room fault
file-listed file records_room pool_room = list (judge_file file) (length (file_cues file)) (length (file_records file)) (length (file_pool file)) (faults-listed file)
  where
    room : (a b : Bool) (d : FileRead) → Listed (InFile file) (reading d) → Listed (InFile file) (reading (pick a (NotRead (fault 15 0)) (pick b (NotRead (fault 15 1)) d)))
    room true b d k = given (InFile file) true 15 0 refl
    room false true d k = given (InFile file) true 15 1 refl
    room false false d k = k

    list : (v : Verdict) (n r p : ℕ) → Listed (InFile file) v → Listed (InFile file) (reading (roomed_file records_room pool_room (file_by v (Reads n r p))))
    list (Refused w) n r p h = h
    list Fine n r p h = room (ltb records_room r) (ltb pool_room p) (Reads n r p) tt

-- ---- `tx3g` samples

tx3g-sample-listed : (e s : List ℕ) → Listed (InTx3g s) (judge_tx3g_sample e s)
unfolding judge_tx3g_sample judge_tx3g_text judge_modifiers counted
tx3g-sample-listed e s =
    next (InTx3g s) (judge_tx3g_text s) _ (more (InTx3g s) (ltb (length s) (text_end s)) 1 0 _ refl (count-listed (part s 2 (text_end s))))
    (modifiers-listed (InTx3g s) (fonts_in e (fonts_of e)) (characters_in s) s (text_end s))

read-listed : (e s : List ℕ) → Listed (InTx3g s) (verdict_of (read_sample e s))
unfolding read_sample
read-listed e s = reading-listed (InTx3g s) (judge_tx3g_entry e) (judge_tx3g_sample e s) (characters_in s) (tx3g-entry-listed (InTx3g s) e) (tx3g-sample-listed e s)

styled-listed : (e s : List ℕ) (k : ℕ) (r : Reading) → Listed (InTx3g s) (verdict_of r) → Listed (InTx3g s) (fault_of (styled_by e s k r))
unfolding fault styles_of BodyListed
styled-listed e s k (BadEntry r) h = h
styled-listed e s k (BadSample r) h = h
styled-listed e s k (Good n) h = go (ltb k n)
  where
    force : (t : BoxBody) → BodyListed (InTx3g s) t → Listed (InTx3g s) (fault_of (in_force e s k t))
    force Nowhere g = tt
    force (NoBody r) g = g
    force (At b) g = tt

    go : (c : Bool) → Listed (InTx3g s) (fault_of (pick c (in_force e s k (styles_of s)) (SampleOf (fault 7 0))))
    go true = force (styles_of s) (found-listed (InTx3g s) styl (boxes_in s (text_end s) (length s)) (boxes-listed (InTx3g s) s (text_end s) (length s)))
    go false = given (InTx3g s) true 7 0 refl

style-listed : (e s : List ℕ) (k : ℕ) → Listed (InTx3g s) (fault_of (style_of e s k))
unfolding style_of
style-listed e s k = styled-listed e s k (read_sample e s) (read-listed e s)

box-listed : (e s : List ℕ) → Listed (InTx3g s) (of_box (spot_of e s))
unfolding spot_of boxes_of BodyListed
box-listed e s = go (read_sample e s) (read-listed e s)
  where
    stands : (t : BoxBody) → BodyListed (InTx3g s) t → Listed (InTx3g s) (of_box (spot_in t))
    stands Nowhere g = tt
    stands (NoBody r) g = g
    stands (At b) g = tt

    go : (r : Reading) → Listed (InTx3g s) (verdict_of r) → Listed (InTx3g s) (of_box (spot_by s r))
    go (BadEntry r) h = h
    go (BadSample r) h = h
    go (Good n) h = stands (boxes_of s) (found-listed (InTx3g s) tbox (boxes_in s (text_end s) (length s)) (boxes-listed (InTx3g s) s (text_end s) (length s)))

-- ---- `tx3g` tracks

-- an empty text has no bad byte
empty_right : (q : ℕ) → FirstBad (Passes identifier_text) [] q → ⊥
empty_right q f = ⊎_elim (λ w. w.1 empty-line) (λ w. omega arith) f.then

module _ (Says : ℕ → ℕ → Type 0) (scale : ℕ) where
  told-listed : (text : Bool) (k b i : ℕ) (s : Told) → ((q : ℕ) → FirstBad (Passes payload_text) s.payload q → Says i q) → Listed Says (judge_told text scale k b i s)
  unfolding judge_caption judge_caption_content
  told-listed false k b i s f = tt
  told-listed true k b i s f =
      more Says (leb 1024 k) 9 i _ refl
      (more Says (long_texts (length {A = ℕ} []) (length {A = ℕ} []) (length s.payload)) 9 i _ refl
      (next Says (judge_texts [] [] s.payload i) _ (texts-listed Says [] [] s.payload i by-payload)
      (more Says (bad_caption_times scale 359999999 (back scale b) (back scale (b + s.duration))) 10 i _ refl (given Says (ltb (back scale b) 0) 11 i refl))))
    where
      by-payload : (q : ℕ) → InTexts [] [] s.payload q → Says i q
      by-payload q (inl w) = absurd (empty_right q w)
      by-payload q (inr (inl w)) = absurd (empty_right q w.1)
      by-payload q (inr (inr w)) = f q w.2

  tolds-listed : (k b i : ℕ) (ss : List Told) → ((j : ℕ) → j < length ss → (q : ℕ) → FirstBad (Passes payload_text) (get_or ss j no_told).payload q → Says (i + j) q) → Listed Says (judge_tolds scale k b i ss)
  unfolding judge_tolds
  tolds-listed k b i [] f = tt
  tolds-listed k b i (s ∷ ss) f =
      let z : i + 0 ≡ i = omega arith in
      next Says (judge_told (has_text s.payload) scale k b i s) _
      (told-listed (has_text s.payload) k b i s (λ q w. subst (λ (x : ℕ). Says x q) z (f 0 (omega arith) q w)))
      (tolds-listed (counting (has_text s.payload) k) (b + s.duration) (suc i) ss
      (λ j l q w. let y : i + suc j ≡ suc i + j = omega arith in subst (λ (x : ℕ). Says x q) y (f (suc j) (omega arith) q w)))

stock-listed : (scale : ℕ) (e table samples : List ℕ) → Listed (InStock e table samples) (judge_cues scale e table samples)
unfolding judge_cues judge_stock
stock-listed scale e table samples =
    let Says : ℕ → ℕ → Type 0 = InStock e table samples in
    next Says (judge_rows (judge_row_by (judge_tx3g_sample e) table samples) table samples) _
    (rows-listed Says (judge_row_by (judge_tx3g_sample e) table samples) table samples
    (λ i l. row_listed Says (judge_tx3g_sample e) table samples i
    (placed-listed (InTx3g (bytes_of table samples i)) Says i (judge_tx3g_sample e (bytes_of table samples i)) (λ p q w. (l, inl w.1)) (tx3g-sample-listed e (bytes_of table samples i)))))
    (next Says (judge_tolds scale 0 0 0 (told_of e table samples)) _
    (tolds-listed Says scale 0 0 0 (told_of e table samples)
    (λ j l q w. let h : j < row_count table = omega (arith, l, length-told e table samples) in
    let z : 0 + j ≡ j = omega arith in
    subst (λ (x : ℕ). Says x q) (sym z) (h, inr (subst (λ (t : Told). FirstBad (Passes payload_text) t.payload q) (told_at_lem e table samples j h) w))))
    (given Says (not (timeline_allowed scale (stock_ms scale e table samples))) 10 (length (stock_cues e table samples)) refl))

convert-listed : (scale : ℕ) (e table samples : List ℕ) (records_room pool_room : ℕ) → ConvertListed e table samples (convert_of scale e table samples records_room pool_room)
unfolding convert_of convert_room fault done_conversion
convert-listed scale e table samples a b =
    go (not (scale_allowed scale) gives 10 at 0) (judge_tx3g_entry e) (judge_cues scale e table samples) (done_conversion scale (stock_ms scale e table samples) (stock_cues e table samples) (counts_of table samples))
    (given (InStock e table samples) (not (scale_allowed scale)) 10 0 refl) (tx3g-entry-listed Never e) (stock-listed scale e table samples)
    (short (ltb a (length (records_of scale (stock_cues e table samples)))) (ltb b (length (pool_of (stock_cues e table samples)))) _ tt)
  where
    short : (x y : Bool) (c : Converted) → ConvertListed e table samples c → ConvertListed e table samples (pick x (NoRoomLeft (fault 15 0)) (pick y (NoRoomLeft (fault 15 1)) c))
    short true y c k = given Never true 15 0 refl
    short false true c k = given Never true 15 1 refl
    short false false c k = k

    go : (u v w : Verdict) (c : Converted) → Listed (InStock e table samples) u → Listed Never v → Listed (InStock e table samples) w → ConvertListed e table samples (roomed_stock a b c)
        → ConvertListed e table samples (roomed_stock a b (by_track u (by_entry v (by_track w c))))
    go (Refused r) v w c f g h k = f
    go Fine (Refused r) w c f g h k = g
    go Fine Fine (Refused r) c f g h k = h
    go Fine Fine Fine c f g h k = k

drop-listed : (table samples : List ℕ) (table_room samples_room : ℕ) → Listed Never (dropping (drop_of table samples table_room samples_room))
unfolding drop_of drop_room judge_drop sizes_of_parts fault
drop-listed table samples a b =
    go (judge_drop table samples) (rows-listed Never (judge_size table samples) table samples (λ i l. size-listed Never table samples i))
  where
    short : (x y : Bool) (d : Dropped) → Listed Never (dropping d) → Listed Never (dropping (pick x (NotDropped (fault 15 0)) (pick y (NotDropped (fault 15 1)) d)))
    short true y d k = given Never true 15 0 refl
    short false true d k = given Never true 15 1 refl
    short false false d k = k

    go : (v : Verdict) → Listed Never v → Listed Never (dropping (roomed_parts a b (unless_dropped v (sizes_of_parts (lasting_of table samples)))))
    go (Refused r) h = h
    go Fine h = short (ltb a (length (table_of (lasting_of table samples)))) (ltb b (length (content_of (lasting_of table samples)))) _ tt

-- ---- an entry that is written

written_listed : (c : List ℕ) (l : Option (List ℕ)) → Listed (InWritten c l) (judge_written c l)
unfolding judge_written judge_entry_texts
written_listed c l =
    more (InWritten c l) (ltb 4294967295 (entry_size c l)) 9 0 _ refl
    (after (InWritten c l) (text_at 0 (judged_by configuration_text configuration_begun c)) _
    (text-at-listed (InWritten c l) configuration_text configuration_begun offsets_are.configuration 0 c (λ q f. inl (refl, f)))
    (λ a. label l refl (text-fine configuration_text configuration_begun 0 c a)))
  where
    label : (m : Option (List ℕ)) → l ≡ m → Passes configuration_text c → Listed (InWritten c l) (judge_label m)
    label none e a = tt
    label (some t) e a = text-at-listed (InWritten c l) label_text label_begun offsets_are.label 1 t (λ q f. inr (refl, a, t, e, f))

write-listed : (c : List ℕ) (l : Option (List ℕ)) (room : ℕ) → Listed (InWritten c l) (writing (written_of c l room))
unfolding written_of room_of fault
write-listed c l room = go (judge_written c l) (written_listed c l)
  where
    short : (t : Bool) (n : ℕ) → Listed (InWritten c l) (writing (pick t (NotWritten (fault 15 0)) (WrittenDone n)))
    short true n = given (InWritten c l) true 15 0 refl
    short false n = tt

    go : (v : Verdict) → Listed (InWritten c l) v → Listed (InWritten c l) (writing (lent (unless_written v (entry_size c l)) room))
    go (Refused r) h = h
    go Fine h = short (ltb room (entry_size c l)) (entry_size c l)

-- ---- a file that is written

write-file-listed : (c records pool : List ℕ) (room : ℕ) → WriteListed c records pool (file_written c records pool room)
unfolding file_written write_room fault
write-file-listed c records pool room =
    go (text_at 0 (judged_by configuration_text configuration_begun c)) (judge_list 1000 359999999 records pool) (length (file_bytes c records pool))
    (text-at-listed (InConfiguration c) configuration_text configuration_begun offsets_are.configuration 0 c (λ q f. (refl, f))) (list-listed 1000 359999999 records pool)
  where
    short : (t : Bool) (n : ℕ) → WriteListed c records pool (pick t (NoRoom (fault 15 0)) (FileDone n))
    short true n = given Never true 15 0 refl
    short false n = tt

    go : (v w : Verdict) (n : ℕ) → Listed (InConfiguration c) v → Listed (InRecord records pool) w → WriteListed c records pool (lent_file room (by_both v w n))
    go (Refused r) w n h k = h
    go Fine (Refused r) n h k = k
    go Fine Fine n h k = short (ltb room n) n

-- ---- all of them

pub refusals-are : RefusalsAre
refusals-are = record {
  count = count-listed;
  step = step-listed Never;
  profile = profile-listed;
  settings = settings-listed;
  write_settings = given-listed;
  sample = sample-listed;
  cue = λ s from. next-cue-listed Never s (boxes_in s from (length s)) (boxes-listed Never s from (length s));
  entry = entry_listed;
  write_entry = write-listed;
  list = list-listed;
  track = track-listed;
  check = check-listed;
  pack = pack-listed;
  unpack = unpack-listed;
  file = file-listed;
  write_file = write-file-listed;
  convert = convert-listed;
  drop = drop-listed;
  tx3g_entry = tx3g-entry-listed Never;
  tx3g_sample = read-listed;
  modifier = λ s from. next-modifier-listed Never s (boxes_in s from (length s)) (boxes-listed Never s from (length s));
  style = style-listed;
  text_box = box-listed;
}
