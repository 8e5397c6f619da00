-- What packing's answers mean.
use Prim.Native.Nat.{ℕ, ◌≤◌}
use mathlib.Core.Path.{◌≡◌, refl, sym, ◌∙◌}
use mathlib.Core.List.{List}
use native.Mathlib.Omega.{arith}
use lib.ListN.{length}
use borrow.Author.Tests.{lt-ltb, le-ltb}
use Rattle.base.proofs.Choice.{either}
use Rattle.verdict.specs.declared.Refusal.{Refusal}
use Rattle.verdict.specs.Verdict.{Verdict, Fine, Refused as Faulty}
use Rattle.verdict.specs.Judgement.{fault}
use Rattle.cues.specs.Judgement.{judge_list}
use Rattle.pack.specs.Packed.{Done, Refused}
use Rattle.pack.specs.Packing.{packed_track, table_bytes, samples_bytes, sizes_of, packed_of}
use Rattle.pack.specs.Statements.{Packs, TableTooLong, SamplesTooLong}
use Rattle.pack.proofs.Laws.{fine-packed, faulty-packed, same_sizes}

pub packs : Packs
unfolding sizes_of
packs scale T recs pool a b f h k =
    fine-packed scale T recs pool a b f
    ∙ rw (le-ltb a (length (table_bytes (packed_track scale T recs pool))) h, le-ltb b (length (samples_bytes (packed_track scale T recs pool))) k)

pub table-too-long : TableTooLong
unfolding sizes_of
table-too-long scale T recs pool a b f h = fine-packed scale T recs pool a b f ∙ rw (lt-ltb a (length (table_bytes (packed_track scale T recs pool))) h)

pub samples-too-long : SamplesTooLong
unfolding sizes_of
samples-too-long scale T recs pool a b f h k =
    fine-packed scale T recs pool a b f
    ∙ rw (le-ltb a (length (table_bytes (packed_track scale T recs pool))) h, lt-ltb b (length (samples_bytes (packed_track scale T recs pool))) k)

module _ (scale T : ℕ) (recs pool : List ℕ) (a b : ℕ) where
  -- done: no fault, there is room, and the numbers are those of the packed track
  pub record DoneMeans (n t m : ℕ) : Type 0 where
    pub fine : judge_list scale T recs pool ≡ Fine
    pub table_fits : length (table_bytes (packed_track scale T recs pool)) ≤ a
    pub samples-fit : length (samples_bytes (packed_track scale T recs pool)) ≤ b
    pub samples_are : n ≡ length (packed_track scale T recs pool)
    pub table_is : t ≡ length (table_bytes (packed_track scale T recs pool))
    pub bytes_are : m ≡ length (samples_bytes (packed_track scale T recs pool))

  pub done-means : (n t m : ℕ) → packed_of scale T recs pool a b ≡ Done n t m → DoneMeans n t m
  done-means n t m e = go (judge_list scale T recs pool) refl
    where
      apart : (r : Refusal) → packed_of scale T recs pool a b ≡ Refused r → ◌≡◌ {A = ℕ} 0 1
      apart r q = cc

      go : (v : Verdict) → judge_list scale T recs pool ≡ v → DoneMeans n t m
      go (Faulty r) f = absurd (omega (arith, apart r (faulty-packed scale T recs pool a b r f)))
      go Fine f =
          either (length (table_bytes (packed_track scale T recs pool))) a
          (λ h. either (length (samples_bytes (packed_track scale T recs pool))) b
          (λ k. let w = same_sizes (sym e ∙ packs scale T recs pool a b f h k) in record { fine = f; table_fits = h; samples-fit = k; samples_are = w.0; table_is = w.1; bytes_are = w.2 })
          (λ k. absurd (omega (arith, apart (fault 15 1) (samples-too-long scale T recs pool a b f h k)))))
          (λ h. absurd (omega (arith, apart (fault 15 0) (table-too-long scale T recs pool a b f h))))
