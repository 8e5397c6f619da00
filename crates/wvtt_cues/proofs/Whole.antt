-- The walk over a sample without fault refuses nothing.
use Prim.Native.Nat.{ℕ, zero, suc, ◌-◌, ◌<◌}
use mathlib.Core.Path.{◌≡◌, refl, sym, subst}
use mathlib.Core.List.{List, [], ◌∷◌}
use mathlib.Core.Bool.{true}
use native.Mathlib.Omega.{arith}
use native.Mathlib.Nat.{not-suc-le-zero}
use lib.Dec.{eqb}
use lib.ListN.{length}
use borrow.Author.Tests.{eqb-true, eqb-false}
use Rattle.base.proofs.Choice.{by-test}
use Rattle.verdict.specs.Verdict.{Fine}
use Rattle.verdict.proofs.Judgement.{both-fine}
use Rattle.boxes.specs.declared.Step.{Step}
use Rattle.boxes.specs.declared.Step.TheVariants.{Box, Refused as Stopped, End as Ended}
use Rattle.boxes.specs.Boxes.{step_at, boxes_in, judged, passed}
use Rattle.boxes.proofs.Laws.{step-box, boxes-at, boxes-box}
use Rattle.wvtt.specs.Kinds.{vttc}
use Rattle.wvtt.specs.Sample.{judge_cue, in_sample, end_sample, judge_sample}
use Rattle.wvtt_cues.specs.Cues.{parts_of, if_whole, cue_by, next_cue}
use Rattle.wvtt_cues.specs.Walk.{Onward, WalkIsWhole}
use Rattle.wvtt_cues.proofs.Laws.{next-stop, next-found, next-other}
use Rattle.wvtt_cues.proofs.Sound.{cue-whole}

module _ (s : List ℕ) where
  -- a box without fault, and those behind it
  box-fine : (from k b n : ℕ) (before : List ℕ) → step_at s from (length s) ≡ Box k b n → judged (in_sample s) end_sample before (boxes_in s from (length s)) ≡ Fine
      → (in_sample s before from k b n ≡ Fine) × (judged (in_sample s) end_sample (k ∷ before) (boxes_in s n (length s)) ≡ Fine)
  unfolding judged
  box-fine from k b n before e h = both-fine (in_sample s before from k b n) _ (rw (boxes-box s from (length s) k b n e) at h)

  no-refusal : (from : ℕ) (before : List ℕ) (r : _) → step_at s from (length s) ≡ Stopped r → judged (in_sample s) end_sample before (boxes_in s from (length s)) ≡ Fine → ⊥
  unfolding judged
  no-refusal from before r e h = let q = rw (boxes-at s from (length s), e) at h in let z : ◌≡◌ {A = ℕ} 0 1 = cc in absurd (omega arith)

  cue-fine : (from k b n : ℕ) (before : List ℕ) → eqb k vttc ≡ true → in_sample s before from k b n ≡ Fine → judge_cue s from b n ≡ Fine
  unfolding in_sample
  cue-fine from k b n before q h = rw q at h

  whole-cue : (b n : ℕ) (before : List ℕ) → passed (boxes_in s b n) ≡ Fine → judged (in_sample s) end_sample before (boxes_in s n (length s)) ≡ Fine
      → Onward s (cue_by (if_whole (passed (boxes_in s b n)) (parts_of s (boxes_in s b n))) n)
  whole-cue b n before p h = rw p (before, h)

  goes-f : (f from : ℕ) (before : List ℕ) → length s - from < f → judged (in_sample s) end_sample before (boxes_in s from (length s)) ≡ Fine → Onward s (next_cue s (boxes_in s from (length s)))
  goes-f zero from before l h = absurd (not-suc-le-zero l)
  goes-f (suc f) from before l h = go (step_at s from (length s)) refl (λ n ks a q. goes-f f n ks a q)
    where
      go : (t : Step) → step_at s from (length s) ≡ t
          → ((n : ℕ) (ks : List ℕ) → length s - n < f → judged (in_sample s) end_sample ks (boxes_in s n (length s)) ≡ Fine → Onward s (next_cue s (boxes_in s n (length s))))
          → Onward s (next_cue s (boxes_in s from (length s)))
      go (Box k b n) e rest =
          let w = step-box s from (length s) k b n e in
          let v = box-fine from k b n before e h in
          by-test (eqb k vttc)
          (λ q. subst (Onward s) (sym (next-found s from (length s) k b n e (eqb-true k vttc q))) (whole-cue b n (k ∷ before) (cue-whole s from b n (cue-fine from k b n before q v.0)) v.1))
          (λ q. subst (Onward s) (next-other s from (length s) k b n e (eqb-false k vttc q)) (rest n (k ∷ before) (omega arith) v.1))
      go (Stopped r) e rest = absurd (no-refusal from before r e h)
      go Ended e rest = subst (Onward s) (sym (next-stop s from (length s) Ended e tt)) tt

pub walk-is-whole : WalkIsWhole
unfolding judge_sample
walk-is-whole = record {
  begins = λ s h. ([], h);
  goes = λ s from w. goes-f s (suc (length s - from)) from w.0 (omega arith) w.1;
}
