-- The samples of a track: how many there are, and that their durations are those of the table.
use Prim.Native.Nat.{ℕ, ◌<◌}
use mathlib.Core.Path.{◌≡◌, ap}
use mathlib.Core.List.{List}
use native.Mathlib.Omega.{arith}
use lib.ListN.{length}
use Rattle.verdict.specs.Verdict.{Fine}
use Rattle.timeline.specs.Tracks.{Sample, Positive}
use Rattle.timeline.proofs.Listing.{length-listed, mem-listed, listed-mem}
use Rattle.table.specs.Table.{row_count, duration_of}
use Rattle.track.specs.Track.{sample_of, track_of, judge_track}
use Rattle.track.proofs.Laws.{fine-readable}

module _ (table samples : List ℕ) where
  pub length-track : length (track_of table samples) ≡ row_count table
  unfolding track_of
  length-track = length-listed (sample_of table samples) (row_count table)

  -- positive durations in the table are positive durations of the samples
  pub rows-positive : ((i : ℕ) → i < row_count table → 0 < duration_of table i) → Positive (track_of table samples)
  unfolding track_of sample_of
  rows-positive p s m =
      let w = mem-listed (sample_of table samples) (row_count table) s m in
      omega (arith, p w.0 w.1, ap (λ (x : Sample). x.duration) w.2)

  pub positive-rows : Positive (track_of table samples) → (i : ℕ) → i < row_count table → 0 < duration_of table i
  unfolding track_of sample_of
  positive-rows p i l = p (sample_of table samples i) (listed-mem (sample_of table samples) (row_count table) i l)

  pub track-positive : judge_track table samples ≡ Fine → Positive (track_of table samples)
  track-positive e = rows-positive (fine-readable table samples e).1
