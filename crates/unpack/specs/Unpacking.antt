-- Unpacking. Document 01, 'Tracks and packing' and 'Numbers given back'.
use Rattle.std.specs.Prelude.{Ok}
use Rattle.std.specs.Prelude.{ℕ, Bool, not, List, [], leb, ltb, length, get_or}
use Rattle.base.specs.Choice.{any_of, pick}
use Rattle.base.specs.Over.{over}
use Rattle.verdict.specs.Verdict.{Verdict, Fine, Refused}
use Rattle.verdict.specs.Judgement.{fault, refuse, ◌gives◌at◌, ◌then◌, each}
use Rattle.times.specs.Times.{back, scale_allowed, timeline_allowed}
use Rattle.timeline.specs.Cues.{Cue}
use Rattle.timeline.specs.Tracks.{total}
use Rattle.timeline.specs.Unpacking.{Unpacked as Listing, stopped, done, unpack, no_cue}
use Rattle.records_write.specs.Records.{records_of, pool_of}
use Rattle.track.specs.Track.{judge_track, track_of}
use Rattle.unpack.specs.Unpacked.{Unpacked, Done, Refused as Stopped}

-- cue by cue in each sample 17, 12, 13, 14, 11, 9, place the sample
abbrev pub stops_at : Listing → Verdict
stops_at (stopped n i) = refuse n i
stops_at (done cs) = Fine

abbrev pub list_in : Listing → List Cue
list_in (stopped n i) = []
list_in (done cs) = cs

-- the cues of a track, joined over neighbouring samples, in order of first appearance
unfoldable pub track_cues : List ℕ → List ℕ → List Cue
track_cues table samples = list_in (unpack (track_of table samples))

-- T in ms
unfoldable pub track_ms : ℕ → List ℕ → List ℕ → ℕ
track_ms scale table samples = back scale (total (track_of table samples))

-- a time above the largest, or a start not below its end, in ms
unfoldable pub bad_times : ℕ → ℕ → ℕ → Bool
bad_times scale b e = any_of (ltb 359999999 (back scale b)) (any_of (ltb 359999999 (back scale e)) (leb (back scale e) (back scale b)))

-- 10, place the record
unfoldable pub judge_times : ℕ → List Cue → ℕ → Verdict
judge_times scale cs i = bad_times scale (get_or cs i no_cue).start (get_or cs i no_cue).end gives 10 at i

-- times of each record, then T (10, place the record count)
unfoldable pub judge_end : ℕ → ℕ → List Cue → Verdict
judge_end scale T cs = each (judge_times scale cs) (length cs) then not (timeline_allowed scale T) gives 10 at length cs

-- scale (10), the track, the cues in its samples, times
unfoldable pub judge_unpack : ℕ → List ℕ → List ℕ → Verdict
judge_unpack scale table samples =
    not (scale_allowed scale) gives 10 at 0
    then judge_track table samples
    then stops_at (unpack (track_of table samples))
    then judge_end scale (track_ms scale table samples) (track_cues table samples)

abbrev pub answer_by : Verdict → Unpacked → Unpacked
answer_by Fine u = u
answer_by (Refused r) u = Stopped r

-- the lengths of a list's records and pool, and T
unfoldable pub done_with : ℕ → ℕ → List Cue → Unpacked
done_with scale T cs = Done (length (records_of scale cs)) (length (pool_of cs)) T

-- the room that unpacking needs, which is its answer where there is enough
unfoldable pub unpack_room : ℕ → List ℕ → List ℕ → Unpacked
unfolding judge_unpack done_with
unpack_room scale table samples = answer_by (judge_unpack scale table samples) (done_with scale (track_ms scale table samples) (track_cues table samples))

-- 15: the records do not fit (place 0), the pool does not (place 1)
abbrev pub roomed : ℕ → ℕ → Unpacked → Unpacked
roomed records pool (Ok x) = pick (ltb records x.records) (Stopped (fault 15 0)) (pick (ltb pool x.pool) (Stopped (fault 15 1)) (Done x.records x.pool x.t))
roomed records pool (Stopped r) = Stopped r

-- the answer, by the room that there is for records and pool
unfoldable pub unpack_of : ℕ → List ℕ → List ℕ → ℕ → ℕ → Unpacked
unfolding unpack_room
unpack_of scale table samples records pool = roomed records pool (unpack_room scale table samples)

-- an output: the bytes over its front on success, else as it was
abbrev pub out_of : Unpacked → List ℕ → List ℕ → List ℕ
out_of (Ok x) new old = over new old
out_of (Stopped r) new old = old
