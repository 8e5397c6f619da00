-- What packing writes for a list without fault: it reads back as the packed track, with no fault in it.
use Prim.Native.Nat.{ℕ, zero, suc, ◌+◌, ◌*◌, ◌≤◌, ◌<◌}
use mathlib.Core.Path.{◌≡◌, refl, sym, ap, ◌∙◌, subst}
use mathlib.Core.Logic.{inl, inr}
use mathlib.Core.Bool.{Bool}
use mathlib.Core.Option.{Option, some}
use mathlib.Core.List.Memᴰ
use mathlib.Core.List.{List, [], ◌∷◌, Memᴰ}
use native.Mathlib.Omega.{arith}
use lib.ListN.{length, length-append}
use Rattle.base.proofs.Choice.{by-test}
use Rattle.verdict.specs.Verdict.{Fine}
use Rattle.times.specs.Times.{tick}
use Rattle.timeline.specs.Cues.{Body, Cue, chosen}
use Rattle.timeline.specs.Tracks.{Sample, total}
use Rattle.timeline.specs.Packing.{packed, stretches, held_over, sorted, marks}
use Rattle.timeline.proofs.Running.{chosen-mem}
use Rattle.timeline.proofs.Packed.{packed-right}
use Rattle.timeline.proofs.Fewest.{at_most}
use Rattle.timeline.proofs.Listing.{mem-listed}
use Rattle.wvtt.specs.Sound.{Sound as SoundBody}
use Rattle.wvtt_write.specs.Written.{cue_bytes, cues_bytes, sample_bytes, cue_size, texts_size, any_size}
use Rattle.wvtt_write.proofs.Laws.{length-cue}
use Rattle.wvtt.specs.Sound.{AllSound}
use Rattle.records.specs.Records.{count, source_id}
use Rattle.cues.specs.Judgement.{judge_list}
use Rattle.cues.specs.List.{body_of, cue_of, cues_of, SoundRecord, Sound}
use Rattle.cues.proofs.Sound.{fine-sound, fine-proper, length-cues}
use Rattle.track.specs.Track.{judge_track}
use Rattle.cuts.specs.Cuts.{or_empty}
use Rattle.pack.specs.Packing.{packed_track, table_bytes, samples_bytes}
use Rattle.pack.specs.Statements.{PackedIsRight, SamplesMost, ReadsBack, PackedReadable}
use Rattle.pack.proofs.Laws.{body-lengths, sample-length}
use Rattle.pack.proofs.ReadBack.{Writable, comes_back, written-readable, written-fine}

-- a sound cue with an ID
abbrev Fit : Body → Type 0
Fit y = SoundBody y × ((n : ℕ) × (y.id ≡ some n))

same_id_lem : {x y : ℕ} → ◌≡◌ {A = Option ℕ} (some x) (some y) → x ≡ y
same_id_lem q = cc

-- a record without fault gives one
record-fit : (scale T : ℕ) (recs pool : List ℕ) (i : ℕ) → SoundRecord scale T recs pool i → Fit (body_of recs pool i)
unfolding body_of
record-fit scale T recs pool i s =
    let l = body-lengths recs pool i s.inside in (
      record {
        id_below = λ n e. omega (arith, same_id_lem e, s.id_below);
        identifier_most = omega (arith, l.0, s.identifier_most);
        settings_most = omega (arith, l.1, s.settings_most);
        payload_most = omega (arith, l.2, s.payload_most);
        identifier_right = s.identifier_right;
        settings_right = s.settings_right;
        payload_right = s.payload_right;
      },
      (source_id recs i, refl),
    )

all_sound : (ys : List Body) → ((y : Body) → Memᴰ y ys → Fit y) → AllSound ys
unfolding AllSound
all_sound [] h = tt
all_sound (y ∷ ys) h = ((h y (Memᴰ.head refl)).0, all_sound ys (λ x m. h x (Memᴰ.tail m)))

any-most : (n : ℕ) → any_size n ≤ n + 8
any-most zero = omega arith
any-most (suc n) = omega arith

cue-most : (y : Body) → Fit y → length (cue_bytes y) ≤ 4649
unfolding cue_size texts_size
cue-most y f =
    omega (arith, length-cue y f.1.0 f.1.1, any-most (length y.identifier), any-most (length y.settings), f.0.identifier_most, f.0.settings_most, f.0.payload_most)

cues_most : (ys : List Body) → ((y : Body) → Memᴰ y ys → Fit y) → length (cues_bytes ys) ≤ length ys * 4649
unfolding cues_bytes
cues_most [] h = omega arith
cues_most (y ∷ ys) h =
    omega (arith, length-append (cue_bytes y) (cues_bytes ys), cue-most y (h y (Memᴰ.head refl)), cues_most ys (λ x m. h x (Memᴰ.tail m)))

or_most : (n : ℕ) → or_empty n ≤ n + 8
or_most zero = omega arith
or_most (suc n) = omega arith

chosen-most : (p : Cue → Bool) (cs : List Cue) → length (chosen p cs) ≤ length cs
unfolding chosen
chosen-most p [] = omega arith
chosen-most p (c ∷ cs) = by-test (p c) (λ e. rw e (omega (arith, chosen-most p cs))) (λ e. rw e (omega (arith, chosen-most p cs)))

held-few : (cs : List Cue) (b e : ℕ) → length (held_over cs b e) ≤ length cs
unfolding held_over
held-few cs b e = chosen-most _ cs

-- what holds of each stretch holds of each sample
stretch-held : (P : List Body → Type 0) (h : ℕ → ℕ → List Body) → ((b e : ℕ) → P (h b e)) → (l : List ℕ) (s : Sample) → Memᴰ s (stretches h l) → P s.held
unfolding stretches
stretch-held P h k [] s m = absurd (Memᴰ.not-nil m)
stretch-held P h k (b ∷ []) s m = absurd (Memᴰ.not-nil m)
stretch-held P h k (b ∷ e ∷ r) s m =
    elim (Memᴰ.cases_cons m) [
      | inl q ↦ subst P (sym (ap (λ (x : Sample). x.held) q)) (k b e)
      | inr j ↦ stretch-held P h k (e ∷ r) s j
    ]

total-most : (l : List Sample) (s : Sample) → Memᴰ s l → s.duration ≤ total l
unfolding total
total-most [] s m = absurd (Memᴰ.not-nil m)
total-most (x ∷ l) s m =
    elim (Memᴰ.cases_cons m) [
      | inl q ↦ omega (arith, ap (λ (z : Sample). z.duration) q)
      | inr j ↦ omega (arith, total-most l s j)
    ]

pub packed-is-right : PackedIsRight
unfolding packed_track
packed-is-right scale T recs pool fine = packed-right (cues_of scale recs pool) (tick scale T) (fine-proper scale T recs pool fine)

pub samples-most : SamplesMost
unfolding packed_track
samples-most scale T recs pool fine = omega (arith, at_most (cues_of scale recs pool) (tick scale T), length-cues scale T recs pool)

module _ (scale T : ℕ) (recs pool : List ℕ) (fine : judge_list scale T recs pool ≡ Fine) where
  sound : Sound scale T recs pool
  sound = fine-sound scale T recs pool fine

  held-fit : (b e : ℕ) (y : Body) → Memᴰ y (held_over (cues_of scale recs pool) b e) → Fit y
  unfolding held_over cues_of cue_of
  held-fit b e y m =
      let w = chosen-mem _ (cues_of scale recs pool) y m in
      let v = mem-listed (cue_of scale recs pool) (count recs) w.0 w.1 in
      subst Fit (sym (w.3 ∙ ap (λ (x : Cue). x.body) v.2)) (record-fit scale T recs pool v.0 (sound.records v.0 v.1))

  pub durations-sum : total (packed_track scale T recs pool) ≡ tick scale T
  durations-sum = (packed-is-right scale T recs pool fine).sums

  pub samples-few : length (packed_track scale T recs pool) ≤ 2049
  samples-few = omega (arith, samples-most scale T recs pool fine, sound.few)

  held_writes : (b e : ℕ) → AllSound (held_over (cues_of scale recs pool) b e) × (length (sample_bytes (held_over (cues_of scale recs pool) b e)) < 4294967296)
  held_writes b e = (
    all_sound (held_over (cues_of scale recs pool) b e) (held-fit b e),
    omega (arith, sample-length (held_over (cues_of scale recs pool) b e), or_most (length (cues_bytes (held_over (cues_of scale recs pool) b e))), cues_most (held_over (cues_of scale recs pool) b e) (held-fit b e), held-few (cues_of scale recs pool) b e, length-cues scale T recs pool, sound.few),
  )

  writable : (s : Sample) → Memᴰ s (packed_track scale T recs pool) → Writable s
  unfolding packed_track packed
  writable s m =
      let w = stretch-held (λ ys. AllSound ys × (length (sample_bytes ys) < 4294967296)) (held_over (cues_of scale recs pool)) held_writes (sorted (marks (cues_of scale recs pool) (tick scale T))) s m in
      record {
        lasts = (packed-is-right scale T recs pool fine).positive s m;
        short = omega (arith, total-most (packed_track scale T recs pool) s m, durations-sum, sound.limits.tick_most);
        sound = w.0;
        small = w.1;
      }

  pub packed-fine : judge_track (table_bytes (packed_track scale T recs pool)) (samples_bytes (packed_track scale T recs pool)) ≡ Fine
  packed-fine = written-fine (packed_track scale T recs pool) writable (omega (arith, samples-few))

pub reads-back : ReadsBack
unfolding packed_track
reads-back scale T recs pool fine = comes_back (packed_track scale T recs pool) (writable scale T recs pool fine)

pub packed-readable : PackedReadable
packed-readable scale T recs pool fine =
    written-readable (packed_track scale T recs pool) (writable scale T recs pool fine) (omega (arith, samples-few scale T recs pool fine))
