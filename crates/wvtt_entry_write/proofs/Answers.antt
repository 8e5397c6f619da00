-- Laws of the answers; the room law of specs/Statements.antt.
use Prim.Native.Nat.{ℕ, ◌≤◌, ◌<◌}
use mathlib.Core.Path.{◌≡◌, refl, sym, ap, ◌∙◌}
use mathlib.Core.List.{List}
use mathlib.Core.Bool.{Bool, true, false}
use mathlib.Core.Option.{Option}
use native.Mathlib.Omega.{arith}
use lib.Dec.{ltb}
use borrow.Author.Tests.{lt-ltb, le-ltb, ltb-false}
use Rattle.verdict.specs.declared.Refusal.{Refusal}
use Rattle.verdict.specs.Verdict.{Verdict, Fine, Refused as Faulty}
use Rattle.verdict.specs.Judgement.{fault, ◌gives◌at◌, ◌then◌}
use Rattle.verdict.proofs.Judgement.{both-fine, not-given}
use Rattle.wvtt_entry_write.specs.Written.{Written, Done, Refused}
use Rattle.wvtt_entry_write.specs.Writing.{entry_size, judge_texts, judge_written, unless_faulty, room_of, written_of, after}
use Rattle.wvtt_entry_write.specs.Terms.{sized}
use Rattle.wvtt_entry_write.specs.Statements.{RoomLaw}
use Rattle.wvtt_entry_write.proofs.Laws.{length-entry}

-- ---- the room

over-large : (b : Bool) (v : Verdict) (n : ℕ) (w : Written) (r : Refusal) → w ≡ unless_faulty (b gives 9 at 0) n → w ≡ Refused r → w ≡ unless_faulty (b gives 9 at 0 then v) n
over-large true v n w r e h = e
over-large false v n w r e h = let z : ◌≡◌ {A = ℕ} 0 1 = cc in absurd (omega arith)

not-large : (b : Bool) (v : Verdict) (n m : ℕ) → unless_faulty (b gives 9 at 0) n ≡ Done m → unless_faulty v m ≡ unless_faulty (b gives 9 at 0 then v) n
not-large true v n m e = let z : ◌≡◌ {A = ℕ} 0 1 = cc in absurd (omega arith)
not-large false v n m e = let z : n ≡ m = cc in rw z

module _ (c : List ℕ) (l : Option (List ℕ)) where
  pub room-large : (w : Written) (r : Refusal) → w ≡ sized (entry_size c l) → w ≡ Refused r → w ≡ room_of c l
  unfolding room_of judge_written
  room-large w r e h = over-large (ltb 4294967295 (entry_size c l)) (judge_texts c l) (entry_size c l) w r e h

  pub room-fine : (n : ℕ) (w : Written) (v : Verdict) → w ≡ sized (entry_size c l) → w ≡ Done n → v ≡ judge_texts c l → v ≡ Fine → Done n ≡ room_of c l
  unfolding room_of judge_written
  room-fine n w v e h t q = ap (λ (x : Verdict). unless_faulty x n) (sym q ∙ t) ∙ not-large (ltb 4294967295 (entry_size c l)) (judge_texts c l) (entry_size c l) n (sym e ∙ h)

  pub room-bad : (n : ℕ) (w : Written) (v : Verdict) (r : Refusal) → w ≡ sized (entry_size c l) → w ≡ Done n → v ≡ judge_texts c l → v ≡ Faulty r → Refused r ≡ room_of c l
  unfolding room_of judge_written
  room-bad n w v r e h t q = ap (λ (x : Verdict). unless_faulty x n) (sym q ∙ t) ∙ not-large (ltb 4294967295 (entry_size c l)) (judge_texts c l) (entry_size c l) n (sym e ∙ h)

  -- a size that is answered is the entry's, and 4 bytes hold it
  done-fine : (v : Verdict) (n m : ℕ) → unless_faulty v n ≡ Done m → (v ≡ Fine) × (m ≡ n)
  done-fine Fine n m e = (refl, cc)
  done-fine (Faulty r) n m e = let z : ◌≡◌ {A = ℕ} 0 1 = cc in absurd (omega arith)

  pub size_fits : judge_written c l ≡ Fine → entry_size c l ≤ 4294967295
  unfolding judge_written
  size_fits h =
      let w = both-fine (ltb 4294967295 (entry_size c l) gives 9 at 0) (judge_texts c l) h in
      ltb-false 4294967295 (entry_size c l) (not-given (ltb 4294967295 (entry_size c l)) 9 0 w.0)

  pub room-done : (n : ℕ) → room_of c l ≡ Done n → (n ≡ entry_size c l) × (n ≤ 4294967295)
  unfolding room_of
  room-done n e =
      let w = done-fine (judge_written c l) (entry_size c l) n e in
      let k = size_fits w.0 in
      (w.1, omega (arith, w.1))

  -- ---- the whole answer

  pub written-refused : (room : ℕ) (w : Written) (r : Refusal) → w ≡ room_of c l → w ≡ Refused r → w ≡ written_of c l room
  unfolding written_of
  written-refused room w r e h = rw (← e, h)

  pub written-short : (n room : ℕ) → room_of c l ≡ Done n → room < n → written_of c l room ≡ Refused (fault 15 0)
  unfolding written_of
  written-short n room e h = rw (e, lt-ltb room n h)

  pub written-done : (n room : ℕ) → room_of c l ≡ Done n → n ≤ room → written_of c l room ≡ Done n
  unfolding written_of
  written-done n room e h = rw (e, le-ltb room n h)

pub after-refused : (w : Written) (r : Refusal) (p d : List ℕ) → w ≡ Refused r → d ≡ after w p d
after-refused w r p d e = rw e

-- the room law
pub room-law : RoomLaw
unfolding room_of
room-law c l index =
    record {
      needs = λ h. rw (h, length-entry c l index);
      fits = written-done c l;
      short = written-short c l;
      refused = λ r room h. let e : room_of c l ≡ Refused r = rw h in (e, sym (written-refused c l room (Refused r) r (sym e) refl));
    }
