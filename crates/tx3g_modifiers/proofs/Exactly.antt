-- The modifiers handed out are exactly the modifier boxes but `blnk` of a sample without fault, from left to right.
use Prim.Native.Nat.{ℕ, zero, suc, ◌-◌, ◌<◌}
use mathlib.Core.Path.{◌≡◌, refl, sym, ap, ◌∙◌}
use mathlib.Core.List.{List, [], ◌∷◌}
use mathlib.Core.Bool.{Bool, true, false}
use native.Mathlib.Omega.{arith}
use native.Mathlib.Nat.{not-suc-le-zero}
use lib.ListN.{length}
use borrow.Author.Tests.{eq-eqb}
use Rattle.base.specs.Choice.{pick, keep}
use Rattle.verdict.specs.Verdict.{Verdict, Fine, Refused}
use Rattle.verdict.proofs.Judgement.{both-fine}
use Rattle.boxes.specs.declared.Step.{Step}
use Rattle.boxes.specs.declared.Step.TheVariants.{Box, Refused as Stopped, End as Ended}
use Rattle.boxes.specs.Boxes.{step_at, Boxes, clean, broken, box, on_step, boxes_in, place_of, judged}
use Rattle.boxes.proofs.Laws.{step-box, step-reads, boxes-at, boxes-box}
use Rattle.tx3g_contents.specs.Contents.{content_end}
use Rattle.tx3g_entry.specs.Entry.{nothing_more, fonts_of}
use Rattle.tx3g_sample.specs.Sample.{text_end, in_sample, modifiers_of, fonts_in, judge_modifiers}
use Rattle.tx3g_sample.proofs.Laws.{read-good, box-filled}
use Rattle.tx3g_modifiers.specs.declared.Modifier.{Modifier}
use Rattle.tx3g_modifiers.specs.Held.{One, Refused as Broken, End}
use Rattle.tx3g_modifiers.specs.Modifiers.{handed, whole, modifier_of, next_modifier, modifiers_in, handed_in}
use Rattle.tx3g_modifiers.specs.Exactly.{NextMeans, Exactly, NeverBlinks}
use Rattle.tx3g_modifiers.proofs.Laws.{ended, handed-known, whole-kind, whole-other}

-- no modifier is handed out: there is none
none_left : (s : List ℕ) (bs : Boxes) (v : Verdict) → next_modifier s bs ≡ ended v → modifiers_in s bs ≡ []
unfolding next_modifier modifiers_in
none_left s clean v h = refl
none_left s (broken r) v h = refl
none_left s (box p k b n rest) v h = go (whole s k b n) v h (λ q. none_left s rest v q)
  where
    go : (t : Bool) (u : Verdict) → pick t (One (modifier_of s k b) n) (next_modifier s rest) ≡ ended u → (next_modifier s rest ≡ ended u → modifiers_in s rest ≡ [])
        → keep t (modifier_of s k b) (modifiers_in s rest) ≡ []
    go true Fine q f = let z : ◌≡◌ {A = ℕ} 0 1 = cc in absurd (omega arith)
    go true (Refused r) q f = let z : ◌≡◌ {A = ℕ} 0 1 = cc in absurd (omega arith)
    go false u q f = f q

one_same : (m m' : Modifier) (n n' : ℕ) → One m n ≡ One m' n' → (m ≡ m') × (n ≡ n')
one_same m m' n n' e = let z : (m, n) ≡ (m', n') = cc in (ap (λ (p : Modifier × ℕ). p.0) z, ap (λ (p : Modifier × ℕ). p.1) z)

-- a modifier handed out from `at` on: the box that says it, and that it is the first, with the others from the place after it on
record Found (s : List ℕ) (end at : ℕ) (m : Modifier) (n : ℕ) : Type 0 where
  number : ℕ
  kind : ℕ
  body : ℕ
  stands : step_at s (place_of s at number) end ≡ Box kind body n
  fills : whole s kind body n ≡ true
  says : m ≡ modifier_of s kind body
  first : modifiers_in s (boxes_in s at end) ≡ m ∷ modifiers_in s (boxes_in s n end)

module _ (s : List ℕ) (end : ℕ) (m : Modifier) (n : ℕ) where
  found_in : (f at : ℕ) → end - at < f → next_modifier s (boxes_in s at end) ≡ One m n → Found s end at m n
  unfolding next_modifier modifiers_in place_of
  found_in zero at l h = absurd (not-suc-le-zero l)
  found_in (suc f) at l h = go (step_at s at end) refl (rw (boxes-at s at end) at h) (λ i x y. found_in f i x y)
    where
      go : (t : Step) → step_at s at end ≡ t → next_modifier s (on_step t at (λ i. boxes_in s i end)) ≡ One m n
          → ((i : ℕ) → end - i < f → next_modifier s (boxes_in s i end) ≡ One m n → Found s end i m n) → Found s end at m n
      go (Box k b i) e q rest = here (whole s k b i) refl q
        where
          here : (t : Bool) → whole s k b i ≡ t → pick t (One (modifier_of s k b) i) (next_modifier s (boxes_in s i end)) ≡ One m n → Found s end at m n
          here true x u =
              let w = one_same (modifier_of s k b) m i n u in
              record {
                number = 0;
                kind = k;
                body = b;
                stands = e ∙ ap (Box k b) w.1;
                fills = rw (← w.1) x;
                says = sym w.0;
                first = rw (boxes-box s at end k b i e, modifiers_in, x, w.0, w.1);
              }
          here false x u =
              let w = step-box s at end k b i e in
              let r = rest i (omega arith) u in
              record {
                number = suc r.number;
                kind = r.kind;
                body = r.body;
                stands = rw (← (step-reads s at end k b i e).1) r.stands;
                fills = r.fills;
                says = r.says;
                first = rw (boxes-box s at end k b i e, modifiers_in, x) r.first;
              }
      go (Stopped r) e q rest = let z : ◌≡◌ {A = ℕ} 0 1 = cc in absurd (omega arith)
      go Ended e q rest = let z : ◌≡◌ {A = ℕ} 0 1 = cc in absurd (omega arith)

  found : (at : ℕ) → next_modifier s (boxes_in s at end) ≡ One m n → Found s end at m n
  found at h = found_in (suc (end - at)) at (omega arith) h

pub next-means : NextMeans
next-means s from (One m n) e = (found s (length s) m n from (sym e)).first
next-means s from (Broken r) e = none_left s (boxes_in s from (length s)) (Refused r) (sym e)
next-means s from End e = none_left s (boxes_in s from (length s)) Fine (sym e)

pub never_blinks : NeverBlinks
never_blinks s from m n e =
    let w = found s (length s) m n from (sym e) in
    let p = place_of s from w.number in
    let h = step-reads s p (length s) w.kind w.body n w.stands in
    let l = step-box s p (length s) w.kind w.body n w.stands in (
      w.number,
      record {
        other = rw (← h.0) (handed-known w.kind (whole-kind s w.kind w.body n w.fills)).1;
        says = w.says ∙ rw (h.0, l.header);
        ends = h.1;
      },
    )

whole-handed : (s : List ℕ) (k b n : ℕ) → handed k ≡ true → content_end s k b ≡ n → whole s k b n ≡ true
unfolding whole
whole-handed s k b n e q = rw (e, eq-eqb (content_end s k b) n q)

-- boxes without fault: each that is handed out is whole
filled-all : (fonts : ℕ → Bool) (c : ℕ) (s before : List ℕ) (bs : Boxes) → judged (in_sample fonts c s) nothing_more before bs ≡ Fine → modifiers_in s bs ≡ handed_in s bs
unfolding modifiers_in handed_in judged
filled-all fonts c s before clean h = refl
filled-all fonts c s before (broken r) h = refl
filled-all fonts c s before (box p k b n rest) h =
    let w = both-fine (in_sample fonts c s before p k b n) (judged (in_sample fonts c s) nothing_more (k ∷ before) rest) h in
    same (handed k) refl w.0 (filled-all fonts c s (k ∷ before) rest w.1)
  where
    same : (t : Bool) → handed k ≡ t → in_sample fonts c s before p k b n ≡ Fine → modifiers_in s rest ≡ handed_in s rest
        → keep (whole s k b n) (modifier_of s k b) (modifiers_in s rest) ≡ keep (handed k) (modifier_of s k b) (handed_in s rest)
    same true e q r = rw (whole-handed s k b n e (box-filled fonts c s before p k b n (handed-known k e).0 q), e, r)
    same false e q r = rw (whole-other s k b n e, e, r)

-- a sample without fault: the modifiers from the end of its text on are its modifier boxes but `blnk`
all-handed : (e s : List ℕ) (n : ℕ) → judge_modifiers e n s ≡ Fine → modifiers_in s (boxes_in s (text_end s) (length s)) ≡ handed_in s (boxes_in s (text_end s) (length s))
unfolding judge_modifiers modifiers_of
all-handed e s n q = filled-all (fonts_in e (fonts_of e)) n s [] (boxes_in s (text_end s) (length s)) q

pub exactly : Exactly
exactly e s n h = all-handed e s n (read-good e s n h).modifiers
