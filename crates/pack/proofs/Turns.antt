-- The track by its cuts: one sample more at each, and its end.
use Prim.Native.Nat.{ℕ, zero, suc, ◌+◌, ◌-◌, ◌*◌, ◌≤◌, ◌<◌}
use mathlib.Core.Path.{◌≡◌, refl, sym, ap, ap₂, ◌∙◌, subst}
use mathlib.Core.List.{List, [], ◌∷◌, ◌++◌, append-nil, Memᴰ}
use native.Mathlib.Omega.{arith}
use native.Mathlib.Numerals.{add-one}
use lib.ListN.{length, take, drop, get_or, length-append, take-append-drop}
use lib.Seq.{take-suc, take_all, length-take-le}
use Rattle.base.specs.Over.{over, wrote}
use Rattle.base.proofs.Over.{over-wrote}
use Rattle.fields.specs.BigEndian.{bytes}
use Rattle.times.specs.Times.{tick}
use Rattle.times.proofs.Laws.{tick-mono}
use Rattle.timeline.specs.Lists.{listed}
use Rattle.timeline.specs.Cues.{Body}
use Rattle.timeline.specs.Tracks.{Sample, blank}
use Rattle.timeline.specs.Packing.{edges, marks, sorted, stretches, held_over, packed}
use Rattle.timeline.proofs.Packed.{over-is, edges-append}
use Rattle.timeline.specs.Nearest.{nearest}
use Rattle.timeline.proofs.Nearest.{nearest-le}
use Rattle.timeline.proofs.Fewest.{count-stretches}
use Rattle.timeline.proofs.Indexed.{stretch-at}
use Rattle.wvtt_write.specs.Written.{sample_bytes}
use Rattle.records.specs.Records.{count, start_ms, end_ms}
use Rattle.cues.specs.List.{cue_of, cues_of, Sound}
use Rattle.cues.proofs.Sound.{starts}
use Rattle.cuts.specs.Cuts.{start_tick, end_tick, ticks_to, cuts_of, cues_size, or_empty, bytes_to, Timed, CutAt}
use Rattle.cuts.proofs.Laws.{cut-goes, cut_below}
use Rattle.pack.specs.Packing.{packed_track, row_bytes, table_bytes, samples_bytes}
use Rattle.pack.specs.Writing.{shown, Inside}
use Rattle.pack.proofs.Laws.{shown-length, sample-length, table-append, samples-append, length-table}

-- as many samples as cuts, but one
pub length-stretches : (h : ℕ → ℕ → List Body) (l : List ℕ) → 0 < length l → suc (length (stretches h l)) ≡ length l
length-stretches h [] p = absurd (omega arith)
length-stretches h (b ∷ r) p = ap suc (count-stretches h b r)

-- a sample of a begin and an end
unfoldable pub sample : ℕ → ℕ → List Body → Sample
sample b e held = record { duration = e - b; held = held }

module _ (scale : ℕ) (recs pool : List ℕ) where
  edges_are : (n : ℕ) → edges (listed (cue_of scale recs pool) n) ≡ ticks_to scale recs n
  unfolding listed edges ticks_to cue_of start_tick end_tick
  edges_are zero = refl
  edges_are (suc k) =
      edges-append (listed (cue_of scale recs pool) k) (cue_of scale recs pool k ∷ [])
      ∙ ap (λ (l : List ℕ). l ++ tick scale (start_ms recs k) ∷ tick scale (end_ms recs k) ∷ []) (edges_are k)

module _ (scale T : ℕ) (recs pool : List ℕ) where
  -- a sound list is timed, and its texts stand in the pool
  pub sound-timed : Sound scale T recs pool → Timed scale (tick scale T) recs (count recs)
  unfolding start_tick end_tick count
  sound-timed s = record {
    whole = omega arith;
    few = s.few;
    ordered = λ i j l m. tick-mono scale (start_ms recs i) (start_ms recs j) (never-falls i j l m);
    lasts = λ i l. (s.records i l).ticks;
    ends = λ i l. tick-mono scale (end_ms recs i) T (s.records i l).ends;
  }
    where
      never-falls : (i j : ℕ) → i ≤ j → j < count recs → start_ms recs i ≤ start_ms recs j
      never-falls i j l m = let e : j ≡ i + (j - i) = omega arith in rw e (starts scale T recs pool s (j - i) i (omega arith))

  pub sound-inside : Sound scale T recs pool → Inside recs pool (count recs)
  sound-inside s i l = (s.records i l).inside

  track-is : packed_track scale T recs pool ≡ stretches (held_over (cues_of scale recs pool)) (cuts_of scale (tick scale T) recs (count recs))
  unfolding packed_track packed marks cuts_of cues_of
  track-is = ap (λ (l : List ℕ). stretches (held_over (cues_of scale recs pool)) (sorted (0 ∷ tick scale T ∷ l))) (edges_are scale recs pool (count recs))

  held-is : (b : ℕ) → b < nearest (tick scale T) b (ticks_to scale recs (count recs))
      → held_over (cues_of scale recs pool) b (nearest (tick scale T) b (ticks_to scale recs (count recs))) ≡ shown scale recs pool b (count recs)
  unfolding shown cues_of
  held-is b h =
      over-is (cues_of scale recs pool) b (nearest (tick scale T) b (ticks_to scale recs (count recs))) h
      (λ t lo hi m. omega (arith, nearest-le (tick scale T) b t (ticks_to scale recs (count recs)) (subst (Memᴰ t) (edges_are scale recs pool (count recs)) m) lo))

  -- as many samples as cuts, but one
  pub length-track : (i : ℕ) → suc i ≡ length (cuts_of scale (tick scale T) recs (count recs)) → length (packed_track scale T recs pool) ≡ i
  length-track i e =
      let l = length-stretches (held_over (cues_of scale recs pool)) (cuts_of scale (tick scale T) recs (count recs)) (omega arith) in
      omega (arith, ap length track-is)

  -- one sample more
  pub take_more : Sound scale T recs pool → (i b : ℕ) → CutAt scale (tick scale T) recs (count recs) i b → b < tick scale T
      → (i < length (packed_track scale T recs pool))
      × (take (i + 1) (packed_track scale T recs pool)
      ≡ take i (packed_track scale T recs pool) ++ sample b (nearest (tick scale T) b (ticks_to scale recs (count recs))) (shown scale recs pool b (count recs)) ∷ [])
  unfolding sample
  take_more s i b c h =
      let g = cut-goes scale (tick scale T) recs (count recs) (sound-timed s) i b c h in
      let more : suc i < length (cuts_of scale (tick scale T) recs (count recs)) = omega (arith, g.0.there) in
      let n = length-stretches (held_over (cues_of scale recs pool)) (cuts_of scale (tick scale T) recs (count recs)) (omega arith) in
      let l : i < length (stretches (held_over (cues_of scale recs pool)) (cuts_of scale (tick scale T) recs (count recs))) = omega arith in
      let e : get_or (cuts_of scale (tick scale T) recs (count recs)) (suc i) 0 ≡ nearest (tick scale T) b (ticks_to scale recs (count recs)) = sym (g.0.is ∙ ap (λ (k : ℕ). get_or (cuts_of scale (tick scale T) recs (count recs)) k 0) (add-one i)) in
      let d = stretch-at (held_over (cues_of scale recs pool)) (cuts_of scale (tick scale T) recs (count recs)) i more in (
        omega (arith, ap length track-is),
        rw (track-is, add-one)
            (take-suc (stretches (held_over (cues_of scale recs pool)) (cuts_of scale (tick scale T) recs (count recs))) i blank l
            ∙ ap (λ (x : Sample). take i (stretches (held_over (cues_of scale recs pool)) (cuts_of scale (tick scale T) recs (count recs))) ++ x ∷ [])
            (d ∙ rw (← c.is, e, held-is b g.1))),
      )

  -- the bytes of a stretch's sample
  pub stretch-length : Sound scale T recs pool → (b : ℕ) → length (sample_bytes (shown scale recs pool b (count recs))) ≡ or_empty (cues_size scale recs b (count recs))
  stretch-length s b = sample-length (shown scale recs pool b (count recs)) ∙ ap or_empty (shown-length scale recs pool b (count recs) (sound-inside s))

  module _ (s : Sound scale T recs pool) (i b : ℕ) (c : CutAt scale (tick scale T) recs (count recs) i b) (h : b < tick scale T) where
    next-sample : Sample
    next-sample = sample b (nearest (tick scale T) b (ticks_to scale recs (count recs))) (shown scale recs pool b (count recs))

    table_more : table_bytes (take (i + 1) (packed_track scale T recs pool)) ≡ table_bytes (take i (packed_track scale T recs pool)) ++ row_bytes next-sample
    unfolding next-sample table_bytes
    table_more =
        ap table_bytes (take_more s i b c h).1 ∙ table-append (take i (packed_track scale T recs pool)) (next-sample ∷ [])
        ∙ ap (λ (l : List ℕ). table_bytes (take i (packed_track scale T recs pool)) ++ l) (append-nil (row_bytes next-sample))

    samples-more : samples_bytes (take (i + 1) (packed_track scale T recs pool)) ≡ samples_bytes (take i (packed_track scale T recs pool)) ++ sample_bytes (shown scale recs pool b (count recs))
    unfolding next-sample samples_bytes sample
    samples-more =
        ap samples_bytes (take_more s i b c h).1 ∙ samples-append (take i (packed_track scale T recs pool)) (next-sample ∷ [])
        ∙ ap (λ (l : List ℕ). samples_bytes (take i (packed_track scale T recs pool)) ++ l) (append-nil (sample_bytes (shown scale recs pool b (count recs))))

    -- the place behind one sample more
    pub behind : length (samples_bytes (take (i + 1) (packed_track scale T recs pool))) ≡ length (samples_bytes (take i (packed_track scale T recs pool))) + or_empty (cues_size scale recs b (count recs))
    behind = ap length samples-more ∙ length-append (samples_bytes (take i (packed_track scale T recs pool))) (sample_bytes (shown scale recs pool b (count recs))) ∙ ap (λ (k : ℕ). length (samples_bytes (take i (packed_track scale T recs pool))) + k) (stretch-length s b)

    -- room for the whole is room for one sample more
    pub table-room : i * 8 + 8 ≤ length (table_bytes (packed_track scale T recs pool))
    table-room = omega (arith, length-table (packed_track scale T recs pool), (take_more s i b c h).0)

    pub samples-room : length (samples_bytes (take i (packed_track scale T recs pool))) + or_empty (cues_size scale recs b (count recs)) ≤ length (samples_bytes (packed_track scale T recs pool))
    samples-room =
        omega (
          arith,
          behind,
          ap (λ (l : List Sample). length (samples_bytes l)) (take-append-drop (i + 1) (packed_track scale T recs pool)),
          ap length (samples-append (take (i + 1) (packed_track scale T recs pool)) (drop (i + 1) (packed_track scale T recs pool))),
          length-append (samples_bytes (take (i + 1) (packed_track scale T recs pool))) (samples_bytes (drop (i + 1) (packed_track scale T recs pool))),
        )

    -- one sample more is written
    pub row_written : (d₀ d e : List ℕ) (next size : ℕ) → d ≡ over (table_bytes (take i (packed_track scale T recs pool))) d₀ → next ≡ nearest (tick scale T) b (ticks_to scale recs (count recs))
        → size ≡ or_empty (cues_size scale recs b (count recs)) → e ≡ wrote d (i * 8) (bytes 4 (next - b) ++ bytes 4 size) → e ≡ over (table_bytes (take (i + 1) (packed_track scale T recs pool))) d₀
    unfolding row_bytes next-sample sample
    row_written d₀ d e next size p q r w =
        let n : length (table_bytes (take i (packed_track scale T recs pool))) ≡ i * 8 =
        length-table (take i (packed_track scale T recs pool)) ∙ ap (λ (k : ℕ). k * 8) (length-take-le i (packed_track scale T recs pool) (omega (arith, (take_more s i b c h).0))) in
        w ∙ ap (λ (x : List ℕ). wrote x (i * 8) (bytes 4 (next - b) ++ bytes 4 size)) p
        ∙ over-wrote (table_bytes (take i (packed_track scale T recs pool))) d₀ (bytes 4 (next - b) ++ bytes 4 size) (i * 8) (sym n)
        ∙ ap (λ (x : List ℕ). over x d₀)
        (ap (λ (x : List ℕ). table_bytes (take i (packed_track scale T recs pool)) ++ x) (ap₂ (λ (x y : ℕ). bytes 4 (x - b) ++ bytes 4 y) q (r ∙ sym (stretch-length s b))) ∙ sym table_more)

    pub sample-written : (d₀ d e : List ℕ) (at : ℕ) → d ≡ over (samples_bytes (take i (packed_track scale T recs pool))) d₀ → at ≡ length (samples_bytes (take i (packed_track scale T recs pool)))
        → e ≡ wrote d at (sample_bytes (shown scale recs pool b (count recs))) → e ≡ over (samples_bytes (take (i + 1) (packed_track scale T recs pool))) d₀
    sample-written d₀ d e at p q w =
        w ∙ ap (λ (x : List ℕ). wrote x at (sample_bytes (shown scale recs pool b (count recs)))) p
        ∙ over-wrote (samples_bytes (take i (packed_track scale T recs pool))) d₀ (sample_bytes (shown scale recs pool b (count recs))) at q
        ∙ ap (λ (x : List ℕ). over x d₀) (sym samples-more)

  -- the bytes that are measured are those of the samples
  pub bytes_are : Sound scale T recs pool → (i : ℕ) → i < length (cuts_of scale (tick scale T) recs (count recs)) → length (samples_bytes (take i (packed_track scale T recs pool))) ≡ bytes_to scale (tick scale T) recs (count recs) i
  unfolding bytes_to samples_bytes
  bytes_are s zero l = refl
  bytes_are s (suc i) l =
      let c : CutAt scale (tick scale T) recs (count recs) i (get_or (cuts_of scale (tick scale T) recs (count recs)) i 0) = record { there = omega arith; is = refl } in
      let h = cut_below scale (tick scale T) recs (count recs) (sound-timed s) i l in
      ap (λ (k : ℕ). length (samples_bytes (take k (packed_track scale T recs pool)))) (sym (add-one i))
      ∙ behind s i (get_or (cuts_of scale (tick scale T) recs (count recs)) i 0) c h
      ∙ ap (λ (k : ℕ). k + or_empty (cues_size scale recs (get_or (cuts_of scale (tick scale T) recs (count recs)) i 0) (count recs))) (bytes_are s i (omega arith))

  -- at the last cut the track is whole
  pub take_whole : Sound scale T recs pool → (i : ℕ) → suc i ≡ length (cuts_of scale (tick scale T) recs (count recs)) → take i (packed_track scale T recs pool) ≡ packed_track scale T recs pool
  take_whole s i e = take_all i (packed_track scale T recs pool) (omega (arith, length-track i e))

  -- what is measured is what will be written
  pub measured : Sound scale T recs pool → (end n k total : ℕ) → end ≡ tick scale T → n ≡ count recs → suc k ≡ length (cuts_of scale end recs n) → total ≡ bytes_to scale end recs n k
      → (length (packed_track scale T recs pool) ≡ k) × (length (table_bytes (packed_track scale T recs pool)) ≡ k * 8) × (length (samples_bytes (packed_track scale T recs pool)) ≡ total)
  measured s end n k total p q e f =
      let cuts : suc k ≡ length (cuts_of scale (tick scale T) recs (count recs)) = e ∙ ap₂ (λ (x y : ℕ). length (cuts_of scale x recs y)) p q in
      let l = length-track k cuts in (
        l,
        omega (arith, l, length-table (packed_track scale T recs pool)),
        ap (λ (x : List Sample). length (samples_bytes x)) (sym (take_whole s k cuts)) ∙ bytes_are s k (omega arith) ∙ sym (f ∙ ap₂ (λ (x y : ℕ). bytes_to scale x recs y k) p q),
      )
