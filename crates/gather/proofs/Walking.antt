-- The cues of a sample, and the samples of a track.
use Prim.Native.Nat.{ℕ, suc, ◌+◌, ◌-◌, ◌≤◌, ◌<◌}
use mathlib.Core.Path.{◌≡◌, refl, sym, ap, ◌∙◌}
use mathlib.Core.List.{List, [], ◌∷◌}
use native.Mathlib.Omega.{arith}
use native.Mathlib.Numerals.{add-one}
use lib.ListN.{length, drop, drop_of_length-le, length-drop}
use lib.Seq.{length-take-le}
use Rattle.verdict.specs.Verdict.{Fine}
use Rattle.boxes.specs.Boxes.{part}
use Rattle.timeline.specs.Lists.{listed}
use Rattle.timeline.specs.Cues.{Body, Cue}
use Rattle.timeline.specs.Tracks.{total}
use Rattle.timeline.specs.Unpacking.{stopped, done, unpack}
use Rattle.timeline.specs.Joining.{Taking, refused, going, take_body, on_taking, all_taken, on_sample, unpack_from}
use Rattle.timeline.proofs.Listing.{length-listed, listed-from}
use Rattle.timeline.proofs.Holding.{total-snoc}
use Rattle.wvtt_cues.specs.Cues.{sample_cues}
use Rattle.wvtt_cues.specs.Walk.{held_from}
use Rattle.rows.specs.Table.{Good}
use native.Mathlib.Nat.{not-suc-le-zero}
use Rattle.table.specs.Table.{row_count, duration_of, size_of, offset_of}
use Rattle.track.specs.Track.{judge_track, sample_of, track_of}
use Rattle.table.proofs.Laws.{bytes-at, laid-inside}
use Rattle.track.proofs.Laws.{fine-readable}

-- ---- the cues of a sample

pub length_part : (s : List ℕ) (at end : ℕ) → at ≤ end → end ≤ length s → length (part s at end) ≡ end - at
unfolding part
length_part s at end h k = length-take-le (end - at) (drop at s) (rw length-drop (omega arith))

pub all_held : (s : List ℕ) → held_from s 0 ≡ sample_cues s
unfolding held_from sample_cues
all_held s = refl

module _ (b e : ℕ) (cs : List Cue) (k : ℕ) (held : List Body) (A : Taking) (left : all_taken b e cs k held ≡ A) where
  pub take-end : held ≡ [] → going cs k ≡ A
  unfolding all_taken
  take-end h = sym (ap (all_taken b e cs k) h) ∙ left

  module _ (y : Body) (ys : List Body) (h : held ≡ y ∷ ys) where
    pub take_more : (cs2 : List Cue) (k2 : ℕ) → going cs2 k2 ≡ take_body b e cs k y → all_taken b e cs2 k2 ys ≡ A
    unfolding all_taken
    take_more cs2 k2 q = ap (λ (t : Taking). on_taking t (λ c2 j2. all_taken b e c2 j2 ys)) q ∙ sym (ap (all_taken b e cs k) h) ∙ left

    pub take-stop : (m : ℕ) → refused m ≡ take_body b e cs k y → refused m ≡ A
    unfolding all_taken
    take-stop m q = ap (λ (t : Taking). on_taking t (λ c2 j2. all_taken b e c2 j2 ys)) q ∙ sym (ap (all_taken b e cs k) h) ∙ left

-- ---- the samples of a track

module _ (table samples : List ℕ) where
  -- the ticks before sample i
  unfoldable pub ticks_to : ℕ → ℕ
  ticks_to i = total (listed (sample_of table samples) i)

  pub ticks-more : (i d : ℕ) → d ≡ duration_of table i → ticks_to i + d ≡ ticks_to (i + 1)
  unfolding ticks_to listed sample_of
  ticks-more i d e = rw (add-one, e) (sym (total-snoc (listed (sample_of table samples) i) (sample_of table samples i)))

  pub ticks-all : ticks_to (row_count table) ≡ total (track_of table samples)
  unfolding ticks_to track_of
  ticks-all = refl

  -- the bytes of sample i
  pub row_inside : judge_track table samples ≡ Fine → (i : ℕ) → i < row_count table → offset_of table (suc i) ≤ length samples
  row_inside f i h = laid-inside table samples (fine-readable table samples f).0.laid i h

  pub rows-most : judge_track table samples ≡ Fine → row_count table ≤ 65536
  rows-most f = (fine-readable table samples f).0.laid.count

  module _ (b : ℕ) (i : ℕ) (cs : List Cue) (left : unpack_from b i cs (drop i (track_of table samples)) ≡ unpack (track_of table samples)) where
    pub track-end : row_count table ≤ i → done cs ≡ unpack (track_of table samples)
    unfolding unpack_from track_of
    track-end h = sym (ap (unpack_from b i cs) (drop_of_length-le (listed (sample_of table samples) (row_count table)) {i = i} (omega (arith, length-listed (sample_of table samples) (row_count table))))) ∙ left

    module _ (h : i < row_count table) (d at size : ℕ) (ed : d ≡ duration_of table i) (ea : at ≡ offset_of table i) (es : size ≡ size_of table i) where
      here : on_sample (all_taken b (b + d) cs 0 (sample_cues (part samples at (at + size)))) i (λ cs2. unpack_from (b + d) (suc i) cs2 (drop (suc i) (track_of table samples)))
          ≡ unpack (track_of table samples)
      unfolding unpack_from track_of sample_of
      here =
          rw (ed, ← bytes-at table samples i at size ea es)
          (sym (ap (unpack_from b i cs) (listed-from (sample_of table samples) (row_count table) i h)) ∙ left)

      pub track-more : (cs2 : List Cue) (k2 : ℕ) → going cs2 k2 ≡ all_taken b (b + d) cs 0 (sample_cues (part samples at (at + size)))
          → unpack_from (b + d) (i + 1) cs2 (drop (i + 1) (track_of table samples)) ≡ unpack (track_of table samples)
      track-more cs2 k2 q =
          rw add-one (ap (λ (t : Taking). on_sample t i (λ c2. unpack_from (b + d) (suc i) c2 (drop (suc i) (track_of table samples)))) q ∙ here)

      pub track-stop : (m : ℕ) → refused m ≡ all_taken b (b + d) cs 0 (sample_cues (part samples at (at + size))) → stopped m i ≡ unpack (track_of table samples)
      track-stop m q = ap (λ (t : Taking). on_sample t i (λ c2. unpack_from (b + d) (suc i) c2 (drop (suc i) (track_of table samples)))) q ∙ here

-- no rows
pub good_none : (l : ℕ) (tab : List ℕ) → Good l tab 0
good_none l tab = record { placed = λ i h. absurd (not-suc-le-zero h); apart = λ i j a h. absurd (not-suc-le-zero h) }
