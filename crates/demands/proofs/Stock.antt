-- Proofs of the demands on converting, and on dropping samples of duration 0.
use Rattle.std.proofs.Common.{Ok}
use Prim.Native.Nat.{ℕ, ◌≤◌, ◌<◌}
use mathlib.Core.Path.{◌≡◌, sym, ap, ap₂, ◌∙◌, subst}
use mathlib.Core.Bool.{Bool, true, false}
use mathlib.Core.List.{List}
use native.Mathlib.Omega.{arith}
use lib.Dec.{ltb}
use lib.ListN.{length, take, drop, get_or}
use borrow.Author.Tests.{lt-ltb, le-ltb}
use Rattle.base.specs.Choice.{pick}
use Rattle.base.proofs.Choice.{true-false}
use Rattle.base.proofs.Over.{take-over, drop-over}
use Rattle.verdict.specs.declared.Refusal.{Refusal}
use Rattle.verdict.specs.Judgement.{fault}
use Rattle.times.specs.Times.{back}
use Rattle.timeline.specs.Cues.{Cue}
use Rattle.timeline.specs.Tracks.{total, held_at}
use Rattle.timeline.specs.Unpacking.{no_cue}
use Rattle.cues.specs.Judgement.{judge_list}
use Rattle.records_write.specs.Records.{id_of, records_of, pool_of}
use Rattle.unpack_laws.proofs.Reading.{Fits, length-recs, count-recs, id-read, start-read, end_read, offset_read, identifier_is, settings_is, payload_is}
use Rattle.table.specs.Table.{row_count, bytes_of}
use Rattle.table.specs.Parts.{Part, table_of, content_of}
use Rattle.table.proofs.Parts.{length-table}
use Rattle.table_lasting.specs.Dropped.{Dropped, Done as Kept, Refused as NotDropped}
use Rattle.table_lasting.specs.Lasting.{lasting_of, track_by}
use Rattle.table_lasting.specs.Dropping.{drop_room, roomed as roomed_table, drop_of}
use Rattle.table_lasting.proofs.Answers.{DoneMeans, done-means}
use Rattle.table_lasting.proofs.Reading.{zero-gone-bytes, lasting-reads}
use Rattle.tx3g_payload.specs.Left.{only_breaks}
use Rattle.tx3g_payload.specs.Statements.{untagged, unescaped}
use Rattle.tx3g_payload.proofs.Back.{text-comes-back, empty-is}
use Rattle.tx3g_payload_write.specs.Sample.{characters_at, range_at, face_of, payload_in}
use Rattle.tx3g_stock.specs.declared.Counts.{Counts}
use Rattle.tx3g_convert.specs.Converted.{Converted, Done, BadEntry, BadTrack, NoRoom}
use Rattle.tx3g_convert.specs.Convert.{stock_cues, stock_ms, convert_room, roomed, convert_of}
use Rattle.tx3g_convert.proofs.Rooms.{DoneSo, done-so}
use Rattle.tx3g_convert_laws.specs.Statements.{CuesAre}
use Rattle.tx3g_convert_laws.proofs.Samples.{ticks-all, each-is-a-sample}
use Rattle.tx3g_convert_laws.proofs.Fine.{few, fits, converted-fine}
use Rattle.demands.specs.Calls.{ConvertCall, DropCall}
use Rattle.demands.specs.Unpacking.{text_bytes}
use Rattle.demands.specs.Stock.{CueOfSample, StockList, ConvertWrites, ConvertedIsFine, ConvertTells, ConvertRoomTells, RefusedConvertKeeps, NothingChanges, DropChangesNothing, DropTells, DropRoomTells, RefusedDropKeeps}
use Rattle.demands.proofs.Unpacking.{dense}

-- ---- a conversion that is done

done-apart : {X : Type 0} (q : Refusal) (n r p t : ℕ) (c : Counts) → NoRoom q ≡ Done n r p t c → X
done-apart q n r p t c k = let z : ◌≡◌ {A = ℕ} 0 1 = cc in absurd (omega arith)

-- where there is room, the answer is that of the room
room-done : (a b : ℕ) (x : Converted) (n r p t : ℕ) (c : Counts) → roomed a b x ≡ Done n r p t c → x ≡ Done n r p t c
room-done a b (Ok z) n r p t c e = by (ltb a z.records) (ltb b z.pool) e
  where
    by : (x y : Bool) → pick x (NoRoom (fault 15 0)) (pick y (NoRoom (fault 15 1)) (Done z.cues z.records z.pool z.t z.dropped)) ≡ Done n r p t c → Done z.cues z.records z.pool z.t z.dropped ≡ Done n r p t c
    by true y k = done-apart (fault 15 0) n r p t c k
    by false true k = done-apart (fault 15 1) n r p t c k
    by false false k = k
room-done a b (BadEntry q) n r p t c e = e
room-done a b (BadTrack q) n r p t c e = e
room-done a b (NoRoom q) n r p t c e = e

module _ (scale : ℕ) (entry table samples records pool records_after pool_after : List ℕ) (n r p T : ℕ) (c : Counts)
    (call : ConvertCall scale entry table samples records pool records_after pool_after (Done n r p T c)) where
  abbrev cues : List Cue
  cues = stock_cues entry table samples

  pub room-is : convert_room scale entry table samples ≡ Done n r p T c
  unfolding convert_of
  room-is = room-done (length records) (length pool) (convert_room scale entry table samples) n r p T c (sym call.answers)

  so : DoneSo scale entry table samples n r p T c
  so = done-so scale entry table samples n r p T c room-is

  pub records-are : take r records_after ≡ records_of scale cues
  records-are = ap (take r) call.records_hold ∙ take-over (records_of scale cues) records r so.records

  pub pool-is : take p pool_after ≡ pool_of cues
  pool-is = ap (take p) call.pool_holds ∙ take-over (pool_of cues) pool p so.pool

  kept : (drop r records_after ≡ drop r records) × (drop p pool_after ≡ drop p pool)
  kept = (ap (drop r) call.records_hold ∙ drop-over (records_of scale cues) records r so.records, ap (drop p) call.pool_holds ∙ drop-over (pool_of cues) pool p so.pool)

  at_most : length cues ≤ 1024
  at_most = few scale entry table samples n r p T c room-is

  fit : (k : ℕ) → k < length cues → Fits scale (get_or cues k no_cue)
  fit = fits scale entry table samples n r p T c room-is

  are : CuesAre entry table samples
  are = each-is-a-sample entry table samples

  cue-is : (k : ℕ) → k < length cues → CueOfSample scale entry table samples (records_of scale cues) (pool_of cues) k (are.sample_of k)
  unfolding payload_in
  cue-is k h =
      let w = are.each k h in
      let s : List ℕ = bytes_of table samples (are.sample_of k) in
      let q = payload_is scale cues at_most fit k h ∙ w.payload in
      record {
        sample = w.sample;
        id = id-read scale cues at_most fit k h ∙ ap id_of w.id;
        start = start-read scale cues at_most fit k h ∙ ap (back scale) w.start;
        end = end_read scale cues at_most fit k h ∙ ap (back scale) w.end;
        identifier = identifier_is scale cues at_most fit k h ∙ w.identifier;
        settings = settings_is scale cues at_most fit k h ∙ w.settings;
        payload = q;
        text = ap (λ (x : List ℕ). unescaped 0 (untagged false x)) q ∙ text-comes-back (range_at s) (face_of entry s) (characters_at s);
      }

  all_are : (i : ℕ) → i < row_count table → only_breaks (characters_at (bytes_of table samples i)) ≡ false → (k : ℕ) × (k < length cues) × (are.sample_of k ≡ i)
  unfolding payload_in
  all_are i l h =
      let s : List ℕ = bytes_of table samples i in
      are.all i l (λ e. true-false (only_breaks (characters_at s)) ((empty-is (range_at s) (face_of entry s) (characters_at s)).1 e) h)

  list_of : StockList scale entry table samples (records_of scale cues) (pool_of cues) n r p T
  unfolding pool_of stock_ms
  list_of =
      let m = count-recs scale cues at_most fit in
      let s = so.cues in
      record {
        few = omega (arith, at_most, s);
        records_bytes = (sym so.records, omega (arith, so.records, s, length-recs scale cues at_most fit));
        pool_bytes = (sym so.pool, so.pool ∙ dense scale cues at_most fit (length cues) (omega arith) ∙ ap (text_bytes (records_of scale cues)) (sym s));
        many = m ∙ sym s;
        offset = λ k h. offset_read scale cues at_most fit k (omega (arith, h, s)) ∙ dense scale cues at_most fit k (omega (arith, h, s));
        sample_of = are.sample_of;
        cue = λ k h. cue-is k (omega (arith, h, s));
        ordered = λ j k l h. are.ordered j k l (omega (arith, h, s));
        all = λ i l h. let w = all_are i l h in (w.0, omega (arith, w.1, s), w.2);
        timeline = so.total ∙ ap (back scale) (ticks-all entry table samples);
      }

pub convert-writes : ConvertWrites
convert-writes scale entry table samples records pool records_after pool_after n r p T c call =
    let k = kept scale entry table samples records pool records_after pool_after n r p T c call in (
      subst (λ (x : List ℕ). StockList scale entry table samples x (take p pool_after) n r p T) (sym (records-are scale entry table samples records pool records_after pool_after n r p T c call))
          (subst (λ (x : List ℕ). StockList scale entry table samples (records_of scale (stock_cues entry table samples)) x n r p T) (sym (pool-is scale entry table samples records pool records_after pool_after n r p T c call))
          (list_of scale entry table samples records pool records_after pool_after n r p T c call)),
      k.0,
      k.1,
      (so scale entry table samples records pool records_after pool_after n r p T c call).counts,
    )

pub converted-is-fine : ConvertedIsFine
converted-is-fine scale entry table samples records pool records_after pool_after n r p T c call =
    let w = converted-fine scale entry table samples n r p T c (room-is scale entry table samples records pool records_after pool_after n r p T c call) in
    let a = records-are scale entry table samples records pool records_after pool_after n r p T c call in
    let b = pool-is scale entry table samples records pool records_after pool_after n r p T c call in
    (ap₂ (judge_list scale T) a b ∙ w.0, λ other l h. ap₂ (judge_list other T) a b ∙ w.1 other l h)

convert-tells : (u : Converted) (a b : ℕ) (answer : Converted) → answer ≡ roomed a b u → ConvertTells u a b answer
convert-tells (Ok x) a b answer e = ((λ h k. e ∙ rw (le-ltb a x.records h, le-ltb b x.pool k)), (λ h. e ∙ rw (lt-ltb a x.records h)), λ h k. e ∙ rw (le-ltb a x.records h, lt-ltb b x.pool k))
convert-tells (BadEntry q) a b answer e = e
convert-tells (BadTrack q) a b answer e = e
convert-tells (NoRoom q) a b answer e = e

pub convert-room-tells : ConvertRoomTells
unfolding convert_of
convert-room-tells scale entry table samples records pool records_after pool_after answer call = convert-tells (convert_room scale entry table samples) (length records) (length pool) answer call.answers

pub refused-convert-keeps : RefusedConvertKeeps
refused-convert-keeps scale entry table samples records pool records_after pool_after (Ok x) call = tt
refused-convert-keeps scale entry table samples records pool records_after pool_after (BadEntry q) call = (call.records_hold, call.pool_holds)
refused-convert-keeps scale entry table samples records pool records_after pool_after (BadTrack q) call = (call.records_hold, call.pool_holds)
refused-convert-keeps scale entry table samples records pool records_after pool_after (NoRoom q) call = (call.records_hold, call.pool_holds)

-- ---- dropping that is done

module _ (table samples rows content rows_after content_after : List ℕ) (n t b : ℕ) (bytes : (i : ℕ) → get_or table i 0 < 256) (call : DropCall table samples rows content rows_after content_after (Kept n t b)) where
  abbrev last : List Part
  last = lasting_of table samples

  means : DoneMeans table samples n t b
  means = done-means table samples (length rows) (length content) n t b (sym call.answers)

  rows_are : take t rows_after ≡ table_of last
  rows_are = ap (take t) call.rows_hold ∙ take-over (table_of last) rows t means.table_is

  content-is : take b content_after ≡ content_of last
  content-is = ap (take b) call.content_holds ∙ take-over (content_of last) content b means.bytes_are

  nothing : NothingChanges table samples (table_of last) (content_of last)
  nothing =
      let w = zero-gone-bytes table samples bytes in
      let l = lasting-reads table samples bytes means.fine in
      record {
        same_time = λ read. ap (λ (ps : List Part). total (track_by read ps)) w.0 ∙ (w.1 read).0;
        same_held = λ read tick. ap (λ (ps : List Part). held_at (track_by read ps) tick) w.0 ∙ (w.1 read).1 tick;
        lasting = l.1;
        reads = l.2;
      }

rows_of : (ps : List Part) → row_count (table_of ps) ≡ length ps
unfolding row_count
rows_of ps = omega (arith, length-table ps)

pub drop-changes-nothing : DropChangesNothing
drop-changes-nothing table samples rows content rows_after content_after n t b bytes call =
    let r = rows_are table samples rows content rows_after content_after n t b bytes call in
    let c = content-is table samples rows content rows_after content_after n t b bytes call in
    let m = means table samples rows content rows_after content_after n t b bytes call in (
      subst (λ (x : List ℕ). NothingChanges table samples x (take b content_after)) (sym r)
          (subst (λ (x : List ℕ). NothingChanges table samples (table_of (lasting_of table samples)) x) (sym c) (nothing table samples rows content rows_after content_after n t b bytes call)),
      ap row_count r ∙ rows_of (lasting_of table samples) ∙ sym m.samples_are,
      ap (drop t) call.rows_hold ∙ drop-over (table_of (lasting_of table samples)) rows t m.table_is,
      ap (drop b) call.content_holds ∙ drop-over (content_of (lasting_of table samples)) content b m.bytes_are,
    )

drop-tells : (u : Dropped) (x y : ℕ) (answer : Dropped) → answer ≡ roomed_table x y u → DropTells u x y answer
drop-tells (NotDropped r) x y answer e = e
drop-tells (Ok z) x y answer e = ((λ h k. e ∙ rw (le-ltb x z.table h, le-ltb y z.bytes k)), (λ h. e ∙ rw (lt-ltb x z.table h)), λ h k. e ∙ rw (le-ltb x z.table h, lt-ltb y z.bytes k))

pub drop-room-tells : DropRoomTells
unfolding drop_of
drop-room-tells table samples rows content rows_after content_after answer call = drop-tells (drop_room table samples) (length rows) (length content) answer call.answers

pub refused-drop-keeps : RefusedDropKeeps
refused-drop-keeps table samples rows content rows_after content_after r call = (call.rows_hold, call.content_holds)
