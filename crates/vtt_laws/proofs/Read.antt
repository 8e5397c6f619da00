-- What an answer that is done says: no fault in the file, the lengths of what was read, and room for it.
use Rattle.std.proofs.Common.{Ok}
use Prim.Native.Nat.{ℕ, ◌≤◌}
use mathlib.Core.Path.{◌≡◌, refl, ap, sym}
use mathlib.Core.Bool.{Bool, true, false}
use mathlib.Core.List.{List}
use native.Mathlib.Omega.{arith}
use borrow.Author.Tests.{ltb-false}
use lib.Dec.{ltb}
use lib.ListN.{length}
use Rattle.base.specs.Choice.{pick}
use Rattle.verdict.specs.Verdict.{Verdict, Fine, Refused as Faulty}
use Rattle.verdict.specs.Judgement.{fault}
use Rattle.vtt_read.specs.FileRead.{FileRead, Done, Refused}
use Rattle.vtt_read.specs.Reading.{judge_file, file_cues, file_records, file_pool, answer_by, read_room, roomed, read_of}

pub record ReadSo (file : List ℕ) (a b n r p : ℕ) : Type 0 where
  pub fine : judge_file file ≡ Fine
  pub cues : n ≡ length (file_cues file)
  pub records : r ≡ length (file_records file)
  pub pool : p ≡ length (file_pool file)
  pub records-room : r ≤ a
  pub pool-room : p ≤ b

-- the three numbers of an answer
cues_in : FileRead → ℕ
cues_in (Ok x) = x.cues
cues_in (Refused w) = 0

records_in : FileRead → ℕ
records_in (Ok x) = x.records
records_in (Refused w) = 0

pool_in : FileRead → ℕ
pool_in (Ok x) = x.pool
pool_in (Refused w) = 0

answered : (v : Verdict) (u : FileRead) (n r p : ℕ) → answer_by v u ≡ Done n r p → (v ≡ Fine) × (u ≡ Done n r p)
answered Fine u n r p e = (refl, e)
answered (Faulty w) u n r p e = let z : ◌≡◌ {A = ℕ} 0 1 = cc in absurd (omega arith)

chosen : (x y : Bool) (n r p m s q : ℕ) → pick x (Refused (fault 15 0)) (pick y (Refused (fault 15 1)) (Done m s q)) ≡ Done n r p → (x ≡ false) × (y ≡ false) × (Done m s q ≡ Done n r p)
chosen true y n r p m s q e = let z : ◌≡◌ {A = ℕ} 0 1 = cc in absurd (omega arith)
chosen false true n r p m s q e = let z : ◌≡◌ {A = ℕ} 0 1 = cc in absurd (omega arith)
chosen false false n r p m s q e = (refl, refl, e)

-- an answer that is done is the room that is needed, and there is as much
fits : (a b : ℕ) (u : FileRead) (n r p : ℕ) → roomed a b u ≡ Done n r p → (u ≡ Done n r p) × (r ≤ a) × (p ≤ b)
unfolding records_in pool_in
fits a b (Ok x) n r p e =
    let w = chosen (ltb a x.records) (ltb b x.pool) n r p x.cues x.records x.pool e in
    (w.2, omega (arith, ltb-false a x.records w.0, ap records_in w.2), omega (arith, ltb-false b x.pool w.1, ap pool_in w.2))
fits a b (Refused w) n r p e = let z : ◌≡◌ {A = ℕ} 0 1 = cc in absurd (omega arith)

pub read-so : (file : List ℕ) (a b n r p : ℕ) → read_of file a b ≡ Done n r p → ReadSo file a b n r p
unfolding read_of read_room cues_in records_in pool_in
read-so file a b n r p e =
    let f = fits a b (read_room file) n r p e in
    let w = answered (judge_file file) (Done (length (file_cues file)) (length (file_records file)) (length (file_pool file))) n r p f.0 in
    record {
      fine = w.0;
      cues = sym (ap cues_in w.1);
      records = sym (ap records_in w.1);
      pool = sym (ap pool_in w.1);
      records-room = f.1;
      pool-room = f.2;
    }
