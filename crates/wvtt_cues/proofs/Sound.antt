-- A sample without fault holds the cues of all its `vttc` boxes; they are within the limits, and their texts follow their rules.
use Prim.Native.Nat.{ℕ, ◌-◌, ◌≤◌, ◌<◌}
use mathlib.Core.Path.{◌≡◌, refl}
use mathlib.Core.List.{List, [], ◌∷◌}
use mathlib.Core.Bool.{Bool, true, false}
use mathlib.Core.Option.{none, some}
use native.Mathlib.Omega.{arith}
use lib.Dec.{eqb, ltb, leb}
use lib.ListN.{length, length-take}
use borrow.Author.Tests.{ltb-false, leb-false, eqb-true}
use Rattle.base.specs.Choice.{pick, both}
use Rattle.base.proofs.Choice.{by-test}
use Rattle.verdict.specs.Verdict.{Verdict, Fine}
use Rattle.verdict.specs.Judgement.{◌gives◌at◌}
use Rattle.verdict.proofs.Judgement.{both-fine, not-given, text-fine}
use Rattle.fields.specs.BigEndian.{be}
use Rattle.text.specs.Rules.{identifier_text, payload_text}
use Rattle.text.proofs.Rules.{empty-line, empty-payload}
use Rattle.text.specs.Beginnings.{identifier_begun, payload_begun}
use Rattle.boxes.specs.Boxes.{Boxes, clean, broken, box, boxes_in, passed, judged, among, part}
use Rattle.wvtt.specs.Kinds.{vttc, vsid, iden, sttg, payl, line, single}
use Rattle.wvtt.specs.Sample.{judge_id, judge_text, judge_body, in_cue, end_cue, judge_cue, in_sample, end_sample, judge_sample}
use Rattle.wvtt.specs.Sound.{Sound, AllSound}
use Rattle.boxes.specs.declared.Part.{Part}
use Rattle.wvtt_cues.specs.Cues.{nowhere, placed, body_of, with_id, parts_of, text_of, held_by, cues_in, sample_cues}
use Rattle.wvtt_cues.specs.Walk.{every_cue, SampleWhole, SampleSound}

-- a box of a cue without fault has a body without fault
body-fine : (s before : List ℕ) (p k b n : ℕ) → in_cue s before p k b n ≡ Fine → judge_body s p k b n ≡ Fine
unfolding in_cue
body-fine s before p k b n e = (both-fine (both (single k) (among k before) gives 3 at p) _ e).1

-- what holds of each body of a kind that has no fault, holds of the part that is found
found-fine : (P : Part → Type 0) (s : List ℕ) (k : ℕ) (last : List ℕ → Verdict) → ((p b n : ℕ) → judge_body s p k b n ≡ Fine → P (record { from = b; end = n }))
    → (bs : Boxes) (before : List ℕ) (x : Part) → judged (in_cue s) last before bs ≡ Fine → P x → P (body_of k x bs)
unfolding body_of placed judged
found-fine P s k last f clean before x e h = h
found-fine P s k last f (broken r) before x e h = h
found-fine P s k last f (box p j b n rest) before x e h =
    let w = both-fine (in_cue s before p j b n) _ e in
    found-fine P s k last f rest (j ∷ before) (pick (eqb j k) (record { from = b; end = n }) x) w.1
    (by-test (eqb j k)
    (λ q. put true q (f p b n (rw (eqb-true j k q) at (body-fine s before p j b n w.0))))
    (λ q. put false q h))
  where
    put : (c : Bool) → eqb j k ≡ c → P (pick c (record { from = b; end = n }) x) → P (pick (eqb j k) (record { from = b; end = n }) x)
    put c q t = rw q t

-- a text within its limit that follows its rule
TextFine : (List ℕ → Bool) → ℕ → List ℕ → Type 0
TextFine rule limit t = (length t ≤ limit) × (rule t ≡ true)

limited : (rule begun : List ℕ → Bool) (limit : ℕ) (s : List ℕ) (p b n : ℕ) → judge_text rule begun limit s p b n ≡ Fine → TextFine rule limit (part s b n)
unfolding judge_text TextFine part
limited rule begun limit s p b n e =
    let w = both-fine (ltb limit (n - b) gives 9 at p) _ e in
    let l = ltb-false limit (n - b) (not-given (ltb limit (n - b)) 9 p w.0) in
    (rw length-take (omega arith), text-fine rule begun p (part s b n) w.1)

-- an ID below 2^31, where there is one
IdFine : List ℕ → Part → Type 0
IdFine s x = eqb (x.end - x.from) 4 ≡ true → be 4 s x.from < 2147483648

id-fine : (s : List ℕ) (p b n : ℕ) → judge_id s p b n ≡ Fine → IdFine s (record { from = b; end = n })
unfolding judge_id IdFine
id-fine s p b n e q =
    let w = both-fine (ltb (n - b) 4 gives 1 at p) _ e in
    let v = both-fine (ltb 4 (n - b) gives 2 at p) _ w.1 in
    leb-false 2147483648 (be 4 s b) (not-given (leb 2147483648 (be 4 s b)) 8 p v.1)

no_text : (s : List ℕ) → text_of s nowhere ≡ []
unfolding text_of nowhere part
no_text s = refl

module _ (s : List ℕ) (p b n : ℕ) (e : judge_cue s p b n ≡ Fine) where
  found-text : (rule begun : List ℕ → Bool) (limit k : ℕ) → rule [] ≡ true → ((q f m : ℕ) → judge_body s q k f m ≡ Fine → judge_text rule begun limit s q f m ≡ Fine)
      → TextFine rule limit (text_of s (body_of k nowhere (boxes_in s b n)))
  unfolding judge_cue TextFine text_of
  found-text rule begun limit k r f =
      found-fine (λ x. TextFine rule limit (text_of s x)) s k (end_cue p) (λ q g m h. limited rule begun limit s q g m (f q g m h)) (boxes_in s b n) [] nowhere e
      (rw (no_text s) (omega arith, r))

  found-id : IdFine s (body_of vsid nowhere (boxes_in s b n))
  unfolding judge_cue judge_body IdFine nowhere
  found-id =
      found-fine (IdFine s) s vsid (end_cue p) (λ q g m h. id-fine s q g m h) (boxes_in s b n) [] nowhere e
      (λ z. let i : ◌≡◌ {A = ℕ} 0 1 = cc in absurd (omega arith))

some_id : (s : List ℕ) (v : Part) (c : Bool) → eqb (v.end - v.from) 4 ≡ c → IdFine s v → (n : ℕ) → pick c (some (pick c (be 4 s v.from) 0)) none ≡ some n → n < 2147483648
unfolding IdFine
some_id s v true q h n e = let z : be 4 s v.from ≡ n = cc in omega (arith, h q)
some_id s v false q h n e = let i : ◌≡◌ {A = ℕ} 0 1 = cc in absurd (omega arith)

cue-sound : (s : List ℕ) (p b n : ℕ) → judge_cue s p b n ≡ Fine → Sound (held_by s (parts_of s (boxes_in s b n)))
unfolding held_by parts_of with_id judge_body line TextFine
cue-sound s p b n e =
    let v = body_of vsid nowhere (boxes_in s b n) in
    let i = found-text s p b n e identifier_text identifier_begun 255 iden empty-line (λ q f m h. h) in
    let g = found-text s p b n e identifier_text identifier_begun 255 sttg empty-line (λ q f m h. h) in
    let t = found-text s p b n e payload_text payload_begun 4095 payl empty-payload (λ q f m h. h) in
    record {
      id_below = some_id s v (eqb (v.end - v.from) 4) refl (found-id s p b n e);
      identifier_most = i.0;
      settings_most = g.0;
      payload_most = t.0;
      identifier_right = i.1;
      settings_right = g.1;
      payload_right = t.1;
    }

-- boxes that are judged without fault are whole
judged-whole : (inside : List ℕ → ℕ → ℕ → ℕ → ℕ → Verdict) (last : List ℕ → Verdict) (before : List ℕ) (bs : Boxes) → judged inside last before bs ≡ Fine → passed bs ≡ Fine
unfolding judged passed
judged-whole inside last before clean e = refl
judged-whole inside last before (broken r) e = e
judged-whole inside last before (box p k b n rest) e = judged-whole inside last (k ∷ before) rest (both-fine (inside before p k b n) _ e).1

pub cue-whole : (s : List ℕ) (p b n : ℕ) → judge_cue s p b n ≡ Fine → passed (boxes_in s b n) ≡ Fine
unfolding judge_cue
cue-whole s p b n e = judged-whole (in_cue s) (end_cue p) [] (boxes_in s b n) e

-- so a sample without fault holds the cues of all its `vttc` boxes
cues-whole : (s : List ℕ) (last : List ℕ → Verdict) (bs : Boxes) (before : List ℕ) → judged (in_sample s) last before bs ≡ Fine → cues_in s bs ≡ every_cue s bs
unfolding cues_in every_cue judged in_sample
cues-whole s last clean before e = refl
cues-whole s last (broken r) before e = refl
cues-whole s last (box p k b n rest) before e =
    let w = both-fine (in_sample s before p k b n) _ e in
    let tail = cues-whole s last rest (k ∷ before) w.1 in
    by-test (eqb k vttc) (λ q. let h : judge_cue s p b n ≡ Fine = rw q at w.0 in rw (q, cue-whole s p b n h, tail)) (λ q. rw q tail)

pub sample-whole : SampleWhole
unfolding judge_sample sample_cues
sample-whole s e = cues-whole s end_sample (boxes_in s 0 (length s)) [] e

cues-sound : (s : List ℕ) (last : List ℕ → Verdict) (bs : Boxes) (before : List ℕ) → judged (in_sample s) last before bs ≡ Fine → AllSound (cues_in s bs)
unfolding cues_in judged AllSound in_sample
cues-sound s last clean before e = tt
cues-sound s last (broken r) before e = tt
cues-sound s last (box p k b n rest) before e =
    let w = both-fine (in_sample s before p k b n) _ e in
    let tail = cues-sound s last rest (k ∷ before) w.1 in
    by-test (eqb k vttc) (λ q. let h : judge_cue s p b n ≡ Fine = rw q at w.0 in rw (q, cue-whole s p b n h) (cue-sound s p b n h, tail)) (λ q. rw q tail)

pub sample-sound : SampleSound
unfolding judge_sample sample_cues
sample-sound s e = cues-sound s end_sample (boxes_in s 0 (length s)) [] e
