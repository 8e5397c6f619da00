-- Proofs of the demands on the tag profile.
use Prim.Native.Nat.{ℕ, ◌≤◌, ◌<◌}
use mathlib.Core.Path.{◌≡◌, refl, sym, ap, ◌∙◌, subst, subst⁻¹}
use mathlib.Core.Bool.{Bool, true, false}
use mathlib.Core.List.{List}
use native.Mathlib.Omega.{arith}
use lib.Dec.{eqb, ltb}
use lib.ListN.{length, take, drop, length-take}
use borrow.Author.Tests.{lt-ltb, le-ltb, ltb-true, ltb-false}
use Rattle.base.specs.Choice.{pick}
use Rattle.viable.specs.Judged.{Judged, Right, Bad}
use Rattle.viable.specs.FirstBad.{bytes, FirstBad, Passes, judged_by}
use Rattle.verdict.specs.Verdict.{Verdict, Fine, Refused}
use Rattle.verdict.specs.Judgement.{fault, bad_text}
use Rattle.text.specs.Rules.{payload_text}
use Rattle.text.specs.Beginnings.{payload_begun}
use Rattle.records.specs.Records.{piece, payload_offset, payload_length, payload_of}
use Rattle.records_write.specs.Records.{records_of, pool_of}
use Rattle.cues.proofs.Sound.{fine-sound}
use Rattle.profile.specs.Grammar.{Profile}
use Rattle.profile.specs.Machine.{judge}
use Rattle.profile.proofs.Theorems.{profile-judged}
use Rattle.profile_judge.specs.Judgement.{judge_profile}
use Rattle.profile_stock.proofs.Cues.{stock-cues-within}
use Rattle.tx3g_stock.specs.declared.Counts.{Counts}
use Rattle.tx3g_convert.specs.Converted.{Done}
use Rattle.tx3g_convert.specs.Convert.{stock_cues}
use Rattle.demands.specs.Calls.{ConvertCall}
use Rattle.demands.specs.Profile.{Answer, within, long, bad, outside, verdict_of, Means, ProfileAnswers, ConvertedWithin}
use Rattle.demands.proofs.Offsets.{offsets_are}
use Rattle.demands.proofs.Stock.{room-is, records-are, pool-is, convert-writes, converted-is-fine}

module _ (s : List ℕ) where
  -- the answer where it is so
  given : (a : Answer) → Means s a → judge_profile s ≡ verdict_of a
  unfolding judge_profile
  given within m = rw (le-ltb 4095 (length s) m.0, (offsets_are.payload s).0.1 m.1, (profile-judged s).0.1 m.2)
  given long m = rw (lt-ltb 4095 (length s) m)
  given (bad q) m = rw (le-ltb 4095 (length s) m.0, ((offsets_are.payload s).1 q).1 m.1)
  given (outside q) m = rw (le-ltb 4095 (length s) m.0, (offsets_are.payload s).0.1 m.1, ((profile-judged s).1 q).1 m.2)

  -- one of them is so
  some-answer : (t : Bool) (j k : Judged) → ltb 4095 (length s) ≡ t → judged_by payload_text payload_begun s ≡ j → judge s ≡ k → (a : Answer) × Means s a
  some-answer true j k e f g = (long, ltb-true 4095 (length s) e)
  some-answer false (Bad q) k e f g = (bad q, (ltb-false 4095 (length s) e, ((offsets_are.payload s).1 q).0 f))
  some-answer false Right (Bad q) e f g = (outside q, (ltb-false 4095 (length s) e, (offsets_are.payload s).0.0 f, ((profile-judged s).1 q).0 g))
  some-answer false Right Right e f g = (within, (ltb-false 4095 (length s) e, (offsets_are.payload s).0.0 f, (profile-judged s).0.0 g))

-- a verdict tells its answer
told : Verdict → Answer
told Fine = within
told (Refused r) = pick (eqb r.number 9) long (pick (eqb r.number 6) (bad r.offset) (outside r.place))

told_back : (a : Answer) → told (verdict_of a) ≡ a
unfolding told fault bad_text
told_back within = refl
told_back long = refl
told_back (bad q) = refl
told_back (outside q) = refl

pub profile-answers : ProfileAnswers
profile-answers s =
    let b = some-answer s (ltb 4095 (length s)) (judged_by payload_text payload_begun s) (judge s) refl refl refl in
    let e = given s b.0 b.1 in
    ((b.0, e), λ a. (λ h. subst (Means s) (sym (told_back b.0) ∙ ap told (sym e ∙ h) ∙ told_back a) b.1, given s a))

payload-short : (recs pool : List ℕ) (k : ℕ) → length (payload_of recs pool k) ≤ payload_length recs k
unfolding payload_of piece
payload-short recs pool k = rw (length-take (payload_length recs k) (drop (payload_offset recs k) pool)) (omega arith)

pub converted-within : ConvertedWithin
converted-within scale entry table samples records pool records_after pool_after n r p T c b call k h =
    let e = records-are scale entry table samples records pool records_after pool_after n r p T c call in
    let f = pool-is scale entry table samples records pool records_after pool_after n r p T c call in
    let w = stock-cues-within scale entry table samples n r p T c b (room-is scale entry table samples records pool records_after pool_after n r p T c call) k h in
    let fine = (converted-is-fine scale entry table samples records pool records_after pool_after n r p T c call).0 in
    let many = (convert-writes scale entry table samples records pool records_after pool_after n r p T c call).0.many in
    let sound = (fine-sound scale T (take r records_after) (take p pool_after) fine).records k (omega (arith, many)) in
    given (payload_of (take r records_after) (take p pool_after) k) within
    (omega (arith, sound.payload_most, payload-short (take r records_after) (take p pool_after) k), sound.payload_right, rw (e, f) w)
