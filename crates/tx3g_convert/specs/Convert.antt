-- The conversion of a `tx3g` track into dense cue records and pool. Document 02, K9.
use Rattle.std.specs.Prelude.{Ok}
use Rattle.std.specs.Prelude.{ℕ, suc, ◌+◌, List, [], ◌∷◌, Bool, true, false, not, leb, ltb, length}
use Rattle.std.proofs.Math.Option.{some}
use Rattle.base.specs.Choice.{pick, keep}
use Rattle.base.specs.Over.{over}
use Rattle.verdict.specs.Verdict.{Verdict, Fine, Refused}
use Rattle.verdict.specs.Judgement.{fault, ◌gives◌at◌, ◌then◌}
use Rattle.times.specs.Times.{back, scale_allowed, timeline_allowed}
use Rattle.timeline.specs.Lists.{listed}
use Rattle.timeline.specs.Cues.{Cue}
use Rattle.cues.specs.Caption.{caption, judge_caption}
use Rattle.table.specs.Table.{row_count, duration_of, bytes_of}
use Rattle.records_write.specs.Records.{records_of, pool_of}
use Rattle.tx3g_entry.specs.Entry.{judge_entry}
use Rattle.tx3g_stock.specs.declared.Counts.{Counts}
use Rattle.tx3g_stock.specs.Stock.{judge_stock, counts_of}
use Rattle.tx3g_payload_write.specs.Sample.{payload_in}
use Rattle.tx3g_convert.specs.Converted.{Converted, Done, BadEntry, BadTrack, NoRoom}

-- ---- the cues

-- a sample by its duration in ticks and its payload, which is empty where no text is left
pub record Told : Type 0 where
  pub duration : ℕ
  pub payload : List ℕ

unfoldable pub told_at : List ℕ → List ℕ → List ℕ → ℕ → Told
told_at e table samples i = record { duration = duration_of table i; payload = payload_in e (bytes_of table samples i) }

-- the samples of a track
unfoldable pub told_of : List ℕ → List ℕ → List ℕ → List Told
unfolding told_at
told_of e table samples = listed (told_at e table samples) (row_count table)

-- any text is left
abbrev pub has_text : List ℕ → Bool
has_text [] = false
has_text (b ∷ s) = true

abbrev pub counting : Bool → ℕ → ℕ
counting true k = suc k
counting false k = k

-- the cue of a sample that begins at tick b: over its own time, with ID k and no other text
unfoldable pub cue_of : ℕ → ℕ → Told → Cue
cue_of k b s = record { start = b; end = b + s.duration; body = record { id = some k; identifier = []; settings = []; payload = s.payload } }

-- the cues of the samples from tick b on, IDs counted from k
unfoldable pub cues_from : ℕ → ℕ → List Told → List Cue
unfolding cue_of
cues_from k b [] = []
cues_from k b (s ∷ ss) = keep (has_text s.payload) (cue_of k b s) (cues_from (counting (has_text s.payload) k) (b + s.duration) ss)

-- the sum of the durations
unfoldable pub ticks_of : List Told → ℕ
ticks_of [] = 0
ticks_of (s ∷ ss) = s.duration + ticks_of ss

-- the cues of a track
unfoldable pub stock_cues : List ℕ → List ℕ → List ℕ → List Cue
unfolding cues_from
stock_cues e table samples = cues_from 0 0 (told_of e table samples)

-- T in ms
unfoldable pub stock_ms : ℕ → List ℕ → List ℕ → List ℕ → ℕ
unfolding ticks_of
stock_ms scale e table samples = back scale (ticks_of (told_of e table samples))

-- ---- the order of faults

-- sample i, which begins at tick b, after k cues: the 1,025th cue (9), then the cue as packing judges a record (9, 6, 10); starts never fall, so 11 does not come
abbrev pub judge_told : Bool → ℕ → ℕ → ℕ → ℕ → Told → Verdict
judge_told false scale k b i s = Fine
judge_told true scale k b i s = leb 1024 k gives 9 at i then judge_caption scale 359999999 0 (caption (back scale b) (back scale (b + s.duration)) [] [] s.payload) i

unfoldable pub judge_tolds : ℕ → ℕ → ℕ → ℕ → List Told → Verdict
judge_tolds scale k b i [] = Fine
judge_tolds scale k b i (s ∷ ss) =
    judge_told (has_text s.payload) scale k b i s
    then judge_tolds scale (counting (has_text s.payload) k) (b + s.duration) (suc i) ss

-- the track, its cues, then T (10, place the cue count)
unfoldable pub judge_cues : ℕ → List ℕ → List ℕ → List ℕ → Verdict
unfolding judge_tolds
judge_cues scale e table samples =
    judge_stock e table samples
    then judge_tolds scale 0 0 0 (told_of e table samples)
    then not (timeline_allowed scale (stock_ms scale e table samples)) gives 10 at length (stock_cues e table samples)

-- ---- the answer

-- whose fault it is: the entry's, or else the track's, the scale among it
abbrev pub by_entry : Verdict → Converted → Converted
by_entry Fine c = c
by_entry (Refused r) c = BadEntry r

abbrev pub by_track : Verdict → Converted → Converted
by_track Fine c = c
by_track (Refused r) c = BadTrack r

-- the lengths of a list's records and pool, T, and the counts
unfoldable pub done_with : ℕ → ℕ → List Cue → Counts → Converted
done_with scale T cs counts = Done (length cs) (length (records_of scale cs)) (length (pool_of cs)) T counts

-- the room that converting needs, which is its answer where there is enough: scale (10), entry, track, cues, T
unfoldable pub convert_room : ℕ → List ℕ → List ℕ → List ℕ → Converted
unfolding judge_cues done_with
convert_room scale e table samples =
    by_track (not (scale_allowed scale) gives 10 at 0)
    (by_entry (judge_entry e)
    (by_track (judge_cues scale e table samples)
    (done_with scale (stock_ms scale e table samples) (stock_cues e table samples) (counts_of table samples))))

-- 15: the records do not fit (place 0), the pool does not (place 1)
abbrev pub roomed : ℕ → ℕ → Converted → Converted
roomed records pool (Ok x) = pick (ltb records x.records) (NoRoom (fault 15 0)) (pick (ltb pool x.pool) (NoRoom (fault 15 1)) (Done x.cues x.records x.pool x.t x.dropped))
roomed records pool (BadEntry r) = BadEntry r
roomed records pool (BadTrack r) = BadTrack r
roomed records pool (NoRoom r) = NoRoom r

-- the answer, by the room that there is for records and pool
unfoldable pub convert_of : ℕ → List ℕ → List ℕ → List ℕ → ℕ → ℕ → Converted
unfolding convert_room
convert_of scale e table samples records pool = roomed records pool (convert_room scale e table samples)

-- an output: the bytes over its front on success, else as it was
abbrev pub out_of : Converted → List ℕ → List ℕ → List ℕ
out_of (Ok x) new old = over new old
out_of (BadEntry r) new old = old
out_of (BadTrack r) new old = old
out_of (NoRoom r) new old = old
