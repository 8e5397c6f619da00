-- What the answers of dropping mean.
use Rattle.std.proofs.Common.{Ok}
use Prim.Native.Nat.{ℕ}
use mathlib.Core.Path.{◌≡◌, refl, sym, ap, ◌∙◌}
use mathlib.Core.Bool.{Bool, true, false}
use mathlib.Core.List.{List}
use native.Mathlib.Omega.{arith}
use lib.Dec.{ltb}
use lib.ListN.{length}
use borrow.Author.Tests.{le-ltb}
use Rattle.base.specs.Choice.{pick}
use Rattle.verdict.specs.declared.Refusal.{Refusal}
use Rattle.verdict.specs.Verdict.{Verdict, Fine, Refused as Faulty}
use Rattle.verdict.specs.Judgement.{fault}
use Rattle.table.specs.Table.{judge_whole, judge_rows}
use Rattle.table.specs.Parts.{table_of, content_of}
use Rattle.table_lasting.specs.Dropped.{Dropped, Done, Refused}
use Rattle.table_lasting.specs.Lasting.{lasting_of}
use Rattle.table_lasting.specs.Dropping.{judge_drop, sizes_of, unless_faulty, drop_room, roomed, drop_of, out_of}
use Rattle.table_lasting.specs.Statements.{Drops}

module _ (table samples : List ℕ) where
  pub whole-refused : (r : Refusal) → judge_whole table ≡ Faulty r → Refused r ≡ drop_room table samples
  unfolding drop_room judge_drop judge_rows
  whole-refused r f = rw f

  pub room-refused : (a b : ℕ) (d : Dropped) (r : Refusal) → d ≡ drop_room table samples → d ≡ Refused r → (d ≡ drop_of table samples a b) × ((x y : List ℕ) → y ≡ out_of d x y)
  unfolding drop_of
  room-refused a b d r e q = (q ∙ ap (roomed a b) (sym q ∙ e), λ x y. ap (λ (z : Dropped). out_of z x y) (sym q))

  pub room-told : (a b : ℕ) (d : Dropped) (n t m : ℕ) → d ≡ drop_room table samples → d ≡ Done n t m → drop_of table samples a b ≡ roomed a b (Done n t m)
  unfolding drop_of
  room-told a b d n t m e q = ap (roomed a b) (sym e ∙ q)

  -- the numbers of an answer
  abbrev samples_in : Dropped → ℕ
  samples_in (Ok x) = x.samples
  samples_in (Refused r) = 0

  abbrev table_in : Dropped → ℕ
  table_in (Ok x) = x.table
  table_in (Refused r) = 0

  abbrev bytes_in : Dropped → ℕ
  bytes_in (Ok x) = x.bytes
  bytes_in (Refused r) = 0

  -- done: there is no fault, and the numbers are those of the samples that last
  pub record DoneMeans (n t m : ℕ) : Type 0 where
    pub fine : judge_drop table samples ≡ Fine
    pub samples_are : n ≡ length (lasting_of table samples)
    pub table_is : t ≡ length (table_of (lasting_of table samples))
    pub bytes_are : m ≡ length (content_of (lasting_of table samples))

  pub room-means : (n t m : ℕ) → drop_room table samples ≡ Done n t m → DoneMeans n t m
  unfolding drop_room sizes_of
  room-means n t m e = go (judge_drop table samples) refl
    where
      go : (v : Verdict) → judge_drop table samples ≡ v → DoneMeans n t m
      go (Faulty r) f = let k : unless_faulty (Faulty r) (sizes_of (lasting_of table samples)) ≡ Done n t m = ap (λ (v : Verdict). unless_faulty v (sizes_of (lasting_of table samples))) (sym f) ∙ e in
          let z : ◌≡◌ {A = ℕ} 0 1 = cc in absurd (omega arith)
      go Fine f = let k : sizes_of (lasting_of table samples) ≡ Done n t m = ap (λ (v : Verdict). unless_faulty v (sizes_of (lasting_of table samples))) (sym f) ∙ e in
          record { fine = f; samples_are = sym (ap samples_in k); table_is = sym (ap table_in k); bytes_are = sym (ap bytes_in k) }

  pub done-means : (a b n t m : ℕ) → drop_of table samples a b ≡ Done n t m → DoneMeans n t m
  unfolding drop_of
  done-means a b n t m e = room-means n t m (go (drop_room table samples) refl)
    where
      apart : {X : Type 0} (r : Refusal) → Refused r ≡ Done n t m → X
      apart r k = let z : ◌≡◌ {A = ℕ} 0 1 = cc in absurd (omega arith)

      by : (x y : Bool) (d : Dropped) → pick x (Refused (fault 15 0)) (pick y (Refused (fault 15 1)) d) ≡ Done n t m → d ≡ Done n t m
      by true y d k = apart (fault 15 0) k
      by false true d k = apart (fault 15 1) k
      by false false d k = k

      go : (d : Dropped) → drop_room table samples ≡ d → drop_room table samples ≡ Done n t m
      go (Refused r) f = apart r (sym (ap (roomed a b) f) ∙ e)
      go (Ok w) f = f ∙ by (ltb a w.table) (ltb b w.bytes) (Done w.samples w.table w.bytes) (sym (ap (roomed a b) f) ∙ e)

pub drops : Drops
unfolding drop_of drop_room sizes_of
drops table samples a b f h k = rw (f, le-ltb a (length (table_of (lasting_of table samples))) h, le-ltb b (length (content_of (lasting_of table samples))) k)
