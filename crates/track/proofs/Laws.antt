-- Laws of specs/Track.antt.
use Prim.Native.Nat.{ℕ, ◌<◌}
use mathlib.Core.Path.{◌≡◌}
use mathlib.Core.List.{List}
use Rattle.verdict.specs.Verdict.{Fine}
use Rattle.wvtt.specs.Sample.{judge_sample}
use Rattle.table.specs.Table.{row_count, duration_of}
use Rattle.table.proofs.Laws.{readable-iff}
use Rattle.track.specs.Track.{judge_track, Readable, FineIff}

pub fine-iff : FineIff
unfolding judge_track
fine-iff table samples = readable-iff judge_sample table samples

-- no fault in a track: it is readable and every duration is positive
pub fine-readable : (table samples : List ℕ) → judge_track table samples ≡ Fine → Readable table samples × ((i : ℕ) → i < row_count table → 0 < duration_of table i)
fine-readable table samples e = (fine-iff table samples).0 e

pub readable-fine : (table samples : List ℕ) → Readable table samples → ((i : ℕ) → i < row_count table → 0 < duration_of table i) → judge_track table samples ≡ Fine
readable-fine table samples r p = (fine-iff table samples).1 (r, p)
