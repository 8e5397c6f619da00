-- Reading a table and samples that were written gives the samples back, and finds no fault in them.
use Prim.Native.Nat.{ℕ, zero, suc, ◌≤◌, ◌<◌}
use mathlib.Core.Path.{◌≡◌, refl, sym, ap, ap₂, ◌∙◌, subst}
use mathlib.Core.List.{List, [], ◌∷◌, map, Memᴰ}
use native.Mathlib.Omega.{arith}
use lib.ListN.{length, get_or, length-map, get_or-map}
use lib.Seq.{ext_get_or}
use Rattle.verdict.specs.Verdict.{Fine}
use Rattle.timeline.specs.Lists.{listed}
use Rattle.timeline.specs.Tracks.{Sample, blank}
use Rattle.timeline.proofs.Indexed.{index-mem}
use Rattle.timeline.proofs.Listing.{length-listed, listed_at}
use Rattle.wvtt.specs.Sample.{judge_sample}
use Rattle.wvtt.specs.Sound.{AllSound}
use Rattle.wvtt_cues.specs.Cues.{sample_cues}
use Rattle.wvtt_write.specs.Written.{sample_bytes, cues_bytes}
use Rattle.wvtt_write.proofs.ReadBack.{sample-fine, sample-held}
use Rattle.table.specs.Table.{row_count, duration_of, bytes_of, Laid}
use Rattle.table.specs.Parts.{Part, table_of, content_of}
use Rattle.table.proofs.Parts.{Short, row_count_lem, duration-is, bytes_are, written-laid}
use Rattle.track.specs.Track.{sample_of, track_of, judge_track, Readable}
use Rattle.track.proofs.Laws.{readable-fine}
use Rattle.cuts.specs.Cuts.{or_empty}
use Rattle.pack.specs.Packing.{row_bytes, table_bytes, samples_bytes}
use Rattle.pack.proofs.Laws.{sample-length}

-- a sample that can be written: duration and size have 4 bytes, and its cues are sound
pub record Writable (s : Sample) : Type 0 where
  pub lasts : 0 < s.duration
  pub short : s.duration < 4294967296
  pub sound : AllSound s.held
  pub small : length (sample_bytes s.held) < 4294967296

same-sample : (x y : Sample) → x.duration ≡ y.duration → x.held ≡ y.held → x ≡ y
same-sample x y p q = λ i. record { duration = p i; held = q i }

some_size : (n : ℕ) → 0 < or_empty n
some_size zero = omega arith
some_size (suc n) = omega arith

-- a sample by its duration and bytes
abbrev part_of : Sample → Part
part_of s = record { duration = s.duration; content = sample_bytes s.held }

table_is : (l : List Sample) → table_of (map part_of l) ≡ table_bytes l
unfolding table_of table_bytes row_bytes
table_is [] = refl
table_is (s ∷ l) = rw (table_is l)

samples_are : (l : List Sample) → content_of (map part_of l) ≡ samples_bytes l
unfolding content_of samples_bytes
samples_are [] = refl
samples_are (s ∷ l) = rw (samples_are l)

module _ (l : List Sample) (ok : (s : Sample) → Memᴰ s l → Writable s) where
  at : (i : ℕ) → i < length l → Writable (get_or l i blank)
  at i h = ok (get_or l i blank) (index-mem l i blank h)

  part_at : (i : ℕ) → get_or (map part_of l) i (part_of blank) ≡ part_of (get_or l i blank)
  part_at i = get_or-map part_of l i blank

  short : (i : ℕ) → i < length (map part_of l) → Short (get_or (map part_of l) i (part_of blank))
  short i h = let w = at i (omega (arith, length-map l part_of)) in rw (part_at i) (w.short, w.small)

  count : row_count (table_bytes l) ≡ length l
  count = ap row_count (sym (table_is l)) ∙ row_count_lem (part_of blank) (map part_of l) short ∙ length-map l part_of

  duration : (i : ℕ) → i < length l → duration_of (table_bytes l) i ≡ (get_or l i blank).duration
  duration i h =
      ap (λ (x : List ℕ). duration_of x i) (sym (table_is l))
      ∙ duration-is (part_of blank) (map part_of l) short i (omega (arith, length-map l part_of))
      ∙ ap (λ (p : Part). p.duration) (part_at i)

  bytes : (i : ℕ) → i < length l → bytes_of (table_bytes l) (samples_bytes l) i ≡ sample_bytes (get_or l i blank).held
  bytes i h =
      ap₂ (λ (x y : List ℕ). bytes_of x y i) (sym (table_is l)) (sym (samples_are l))
      ∙ bytes_are (part_of blank) (map part_of l) short i (omega (arith, length-map l part_of))
      ∙ ap (λ (p : Part). p.content) (part_at i)

  -- the samples come back
  pub comes_back : track_of (table_bytes l) (samples_bytes l) ≡ l
  unfolding track_of sample_of
  comes_back =
      ap (listed (sample_of (table_bytes l) (samples_bytes l))) count
      ∙ ext_get_or blank (listed (sample_of (table_bytes l) (samples_bytes l)) (length l)) l (length-listed (sample_of (table_bytes l) (samples_bytes l)) (length l))
      (λ i h. one i (omega (arith, length-listed (sample_of (table_bytes l) (samples_bytes l)) (length l))))
    where
      one : (i : ℕ) → i < length l → get_or (listed (sample_of (table_bytes l) (samples_bytes l)) (length l)) i blank ≡ get_or l i blank
      one i h =
          listed_at (sample_of (table_bytes l) (samples_bytes l)) (length l) i blank h
          ∙ same-sample (sample_of (table_bytes l) (samples_bytes l) i) (get_or l i blank) (duration i h) (ap sample_cues (bytes i h) ∙ sample-held (get_or l i blank).held (at i h).sound)

  laid : length l ≤ 65536 → Laid (table_of (map part_of l)) (content_of (map part_of l))
  laid few =
      written-laid (part_of blank) (map part_of l) short (omega (arith, length-map l part_of))
      (λ i h. rw (part_at i) (omega (arith, sample-length (get_or l i blank).held, some_size (length (cues_bytes (get_or l i blank).held)))))

  -- demand 3's readable track, with no fault
  pub written-readable : length l ≤ 65536 → Readable (table_bytes l) (samples_bytes l)
  written-readable few =
      record {
        laid = subst (λ (x : List ℕ). Laid x (samples_bytes l)) (table_is l) (subst (λ (y : List ℕ). Laid (table_of (map part_of l)) y) (samples_are l) (laid few));
        reads = λ i h. let k : i < length l = omega (arith, count) in ap judge_sample (bytes i k) ∙ sample-fine (get_or l i blank).held (at i k).sound;
      }

  pub written-fine : length l ≤ 65536 → judge_track (table_bytes l) (samples_bytes l) ≡ Fine
  written-fine few =
      readable-fine (table_bytes l) (samples_bytes l) (written-readable few)
      (λ i h. let k : i < length l = omega (arith, count) in omega (arith, duration i k, (at i k).lasts))
