-- Each answer of the check is given exactly if what it says is so.
use Prim.Native.Nat.{ℕ}
use mathlib.Core.Path.{◌≡◌, refl, sym, ap, ◌∙◌}
use mathlib.Core.Logic.{◌↔◌}
use mathlib.Core.List.{List}
use native.Mathlib.Omega.{arith}
use Rattle.verdict.specs.Verdict.{Fine}
use Rattle.verdict.specs.declared.Refusal.{Refusal}
use Rattle.verdict.specs.Judgement.{refuse, fault}
use Rattle.times.specs.Times.{tick}
use Rattle.timeline.specs.Checking.{Answer, accepted, wrong, short, check, Means}
use Rattle.timeline.proofs.Answers.{answers}
use Rattle.cues.specs.Judgement.{judge_list}
use Rattle.cues.specs.List.{cues_of}
use Rattle.cues.proofs.Sound.{fine-proper}
use Rattle.track.specs.Track.{track_of, judge_track}
use Rattle.track.proofs.Samples.{length-track, track-positive}
use Rattle.conform.specs.Conformance.{answered, conformance, AtPlace, AnswersExactly}

same_place : (i j : ℕ) → refuse 16 i ≡ refuse 16 j → i ≡ j
unfolding fault
same_place i j e = let q : fault 16 i ≡ fault 16 j = cc in ap (λ (r : Refusal). r.place) q

module _ (scale T : ℕ) (records pool table samples : List ℕ) (fine : judge_list scale T records pool ≡ Fine) (reads : judge_track table samples ≡ Fine) where
  -- a list and a track without fault leave the answer
  answer-is : conformance scale T records pool table samples ≡ answered (check (cues_of scale records pool) (tick scale T) (track_of table samples))
  unfolding conformance
  answer-is = rw (fine, reads)

  means : (v : Answer) → (check (cues_of scale records pool) (tick scale T) (track_of table samples) ≡ v) ↔ Means (cues_of scale records pool) (tick scale T) (track_of table samples) v
  means v = answers (cues_of scale records pool) (tick scale T) (track_of table samples) (fine-proper scale T records pool fine) (track-positive table samples reads) v

  -- the answer behind a verdict
  told : (u v : Answer) → Means (cues_of scale records pool) (tick scale T) (track_of table samples) u → AtPlace table v → answered u ≡ answered v → u ≡ v
  told accepted accepted m p e = refl
  told accepted (wrong i) m p e = let z : ◌≡◌ {A = ℕ} 0 1 = cc in absurd (omega arith)
  told accepted (short n) m p e = let z : ◌≡◌ {A = ℕ} 0 1 = cc in absurd (omega arith)
  told (wrong j) accepted m p e = let z : ◌≡◌ {A = ℕ} 0 1 = cc in absurd (omega arith)
  told (wrong j) (wrong i) m p e = ap wrong (same_place j i e)
  told (wrong j) (short n) m p e = absurd (omega (arith, same_place j n e, m.0, length-track table samples))
  told (short k) accepted m p e = let z : ◌≡◌ {A = ℕ} 0 1 = cc in absurd (omega arith)
  told (short k) (wrong i) m p e = absurd (omega (arith, same_place k i e, m.0, length-track table samples))
  told (short k) (short n) m p e = ap short (same_place k n e)

pub answers-exactly : AnswersExactly
answers-exactly scale T records pool table samples fine reads v p =
    let c = check (cues_of scale records pool) (tick scale T) (track_of table samples) in
    let a = answer-is scale T records pool table samples fine reads in
    let m = means scale T records pool table samples fine reads in (
      (λ q. (m v).0 (told scale T records pool table samples fine reads c v ((m c).0 refl) p (sym a ∙ q))),
      λ w. a ∙ ap answered ((m v).1 w),
    )
