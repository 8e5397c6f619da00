-- The end of the file: the room, and what is written.
use Prim.Native.Nat.{ℕ, ◌*◌, ◌≤◌}
use mathlib.Core.Path.{◌≡◌, refl, sym, ap, ◌∙◌}
use mathlib.Core.Bool.{false}
use mathlib.Core.List.{List, []}
use Rattle.std.proofs.Common.{Ok}
use native.Mathlib.Omega.{arith}
use lib.ListN.{length, drop, length-drop}
use Rattle.verdict.specs.declared.Refusal.{Refusal}
use Rattle.verdict.specs.Verdict.{Verdict, Fine, Refused}
use Rattle.records_write.specs.Records.{records_of, pool_of, pool_to}
use Rattle.records_write.proofs.Laws.{length-records}
use Rattle.vtt_lines.specs.Lines.{blocks_from}
use Rattle.vtt_lines.proofs.Lines.{lines_end}
use Rattle.vtt_read.specs.declared.State.{State}
use Rattle.vtt_read.specs.FileRead.{FileRead, Done, Refused as Stopped}
use Rattle.vtt_read.specs.Reading.{judge_blocks, cues_in, judge_file, file_cues, file_records, file_pool, answer_by, read_room, roomed, read_of, out_of}
use Rattle.vtt_read.specs.Steps.{list_of, left_of, Stands, Ready}
use Rattle.vtt_read.proofs.Lists.{length_from}

pub room-refused : (s : List ℕ) (r : Refusal) → judge_file s ≡ Refused r → Stopped r ≡ read_room s
unfolding read_room
room-refused s r e = rw e

module _ (s : List ℕ) (st : State) (d : Stands s st) (h : length s ≤ st.at) where
  none_left : left_of s st ≡ []
  unfolding blocks_from
  none_left = ap (blocks_from false st.line) (lines_end s st.at h)

  file-fine : judge_file s ≡ Fine
  unfolding judge_blocks
  file-fine = d.verdict ∙ ap (judge_blocks st.count st.before) none_left

  pub all-counted : st.count ≡ length (file_cues s)
  unfolding cues_in
  all-counted =
      let e : drop st.count (file_cues s) ≡ [] = sym d.cues ∙ ap cues_in none_left in
      omega (arith, d.counted, ap length e, length-drop st.count (file_cues s))

  list-long : st.count ≡ length (list_of s)
  list-long = all-counted ∙ sym (length_from 0 (file_cues s))

  pub room-done : Done st.count (st.count * 24) st.size ≡ read_room s
  unfolding read_room file_records file_pool records_of pool_of
  room-done =
      let r : length (records_of 1000 (list_of s)) ≡ st.count * 24 = length-records 1000 (list_of s) (length (list_of s)) ∙ ap (λ (n : ℕ). n * 24) (sym list-long) in
      let p : length (pool_of (list_of s)) ≡ st.size = ap (λ (n : ℕ). length (pool_to (list_of s) n)) (sym list-long) ∙ sym d.sized in
      rw (file-fine, ← all-counted, r, p)

-- room depends on the lengths alone
pub ready_on : (s records pool records₁ pool₁ : List ℕ) → length records₁ ≡ length records → length pool₁ ≡ length pool → Ready s records pool → Ready s records₁ pool₁
ready_on s records pool records₁ pool₁ a b r = record { fine = r.fine; records_fit = omega (arith, a, r.records_fit); pool_fits = omega (arith, b, r.pool_fits) }

-- a refusal is the answer whatever the room, and leaves the outputs
pub stays-refused : (s : List ℕ) (x : FileRead) (r : Refusal) → x ≡ read_room s → x ≡ Stopped r → ((a b : ℕ) → x ≡ read_of s a b) × ((new old : List ℕ) → old ≡ out_of x new old)
unfolding read_of
stays-refused s x r e f = ((λ a b. f ∙ sym (ap (roomed a b) (sym e ∙ f))), (λ new old. sym (ap (λ (y : FileRead). out_of y new old) f)))

-- answers that are the same have the same lengths
abbrev cues_in_list : FileRead → ℕ
cues_in_list (Ok x) = x.cues
cues_in_list (Stopped r) = 0

abbrev records_in_list : FileRead → ℕ
records_in_list (Ok x) = x.records
records_in_list (Stopped r) = 0

abbrev pool_in_list : FileRead → ℕ
pool_in_list (Ok x) = x.pool
pool_in_list (Stopped r) = 0

pub same_lengths : {n a b m c d : ℕ} → Done n a b ≡ Done m c d → (n ≡ m) × (a ≡ c) × (b ≡ d)
same_lengths e = (ap cues_in_list e, ap records_in_list e, ap pool_in_list e)

-- an answer says that the file has no fault, and how long its outputs are
pub done-ready : (s : List ℕ) (n a b : ℕ) → read_room s ≡ Done n a b → (judge_file s ≡ Fine) × (length (file_cues s) ≡ n) × (length (file_records s) ≡ a) × (length (file_pool s) ≡ b)
unfolding read_room
done-ready s n a b e = go (judge_file s) refl e
  where
    go : (v : Verdict) → judge_file s ≡ v → answer_by v (Done (length (file_cues s)) (length (file_records s)) (length (file_pool s))) ≡ Done n a b
        → (judge_file s ≡ Fine) × (length (file_cues s) ≡ n) × (length (file_records s) ≡ a) × (length (file_pool s) ≡ b)
    go Fine f g = let w = same_lengths g in (f, w.0, w.1, w.2)
    go (Refused r) f g = let z : ◌≡◌ {A = ℕ} 0 1 = cc in absurd (omega (arith, z))
