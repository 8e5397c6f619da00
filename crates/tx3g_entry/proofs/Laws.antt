-- What a sample entry without fault says: it has the fixed bytes, and its fonts lie within it.
use Prim.Native.Nat.{ℕ, ◌≤◌}
use mathlib.Core.Path.{◌≡◌, refl, ◌∙◌}
use mathlib.Core.List.{List, []}
use mathlib.Core.Bool.{not}
use native.Mathlib.Omega.{arith}
use lib.ListN.{length}
use Rattle.verdict.specs.Verdict.{Verdict, Fine, Refused}
use Rattle.verdict.specs.Judgement.{◌gives◌at◌, ◌then◌}
use Rattle.verdict.proofs.Judgement.{both-fine}
use Rattle.fields.specs.BigEndian.{be}
use Rattle.boxes.specs.Boxes.{judged, among}
use Rattle.bodies.specs.Body.{Body, At, Refused as Stopped, Nowhere}
use Rattle.bodies.proofs.Laws.{judged-found, NoBody}
use Rattle.entry_head.specs.Head.{judge_head}
use Rattle.entry_head.proofs.Laws.{head_fixed}
use Rattle.tx3g_fonts.specs.Fonts.{font_at, judge_fonts}
use Rattle.tx3g_fonts.proofs.Laws.{fonts-fine}
use Rattle.tx3g_entry.specs.Entry.{tx3g, ftab, judge_fixed, justified_entry, plain_entry, in_entry, nothing_more, entry_boxes, fonts_of, end_entry, judge_entry}

pub fixed-fine : (e : List ℕ) → judge_fixed e ≡ Fine → 46 ≤ length e
unfolding judge_fixed
fixed-fine e h = head_fixed e 46 tx3g (both-fine (judge_head e 46 tx3g) (not (justified_entry e) gives 8 at 0 then not (plain_entry e) gives 7 at 0) h).0

-- the fonts of boxes without fault
pub boxes-fine : (e : List ℕ) (b : ℕ) → judged (in_entry e) nothing_more [] (entry_boxes e) ≡ Fine → fonts_of e ≡ At b → font_at e b (be 2 e b) ≤ length e
unfolding fonts_of in_entry entry_boxes
boxes-fine e b h q =
    let j = judged-found (in_entry e) nothing_more e (length e) ftab b 46 [] h q in
    let f : (among ftab j.kinds gives 3 at j.place then judge_fonts e j.place b j.next) ≡ Fine = j.fine in
    let g = fonts-fine e b j.place j.next (both-fine (among ftab j.kinds gives 3 at j.place) (judge_fonts e j.place b j.next) f).1 in
    rw g j.lies.inside

-- an entry without fault: where its fonts stand
pub record Good (e : List ℕ) : Type 0 where
  pub long : 46 ≤ length e
  pub fonts : ℕ
  pub found : fonts_of e ≡ At fonts
  pub lie : font_at e fonts (be 2 e fonts) ≤ length e

end-fine : (e : List ℕ) (t : Body) → end_entry e t ≡ Fine → (b : ℕ) × (t ≡ At b)
end-fine e Nowhere h = let z : ◌≡◌ {A = ℕ} 0 1 = cc in absurd (omega arith)
end-fine e (Stopped r) h = let z : ◌≡◌ {A = ℕ} 0 1 = cc in absurd (omega arith)
end-fine e (At b) h = (b, refl)

pub entry-fine : (e : List ℕ) → judge_entry e ≡ Fine → Good e
unfolding judge_entry
entry-fine e h =
    let w = both-fine (judge_fixed e) (judged (in_entry e) nothing_more [] (entry_boxes e) then end_entry e (fonts_of e)) h in
    let v = both-fine (judged (in_entry e) nothing_more [] (entry_boxes e)) (end_entry e (fonts_of e)) w.1 in
    let q = end-fine e (fonts_of e) v.1 in
    record { long = fixed-fine e w.0; fonts = q.0; found = q.1; lie = boxes-fine e q.0 v.0 q.1 }

-- nothing more is judged
pub then-nothing : (v : Verdict) → v ≡ v then Fine
then-nothing Fine = refl
then-nothing (Refused r) = refl

-- wherever the fonts of an entry without fault are found, they lie within it
pub fonts-lie : (e : List ℕ) (b : ℕ) → judge_entry e ≡ Fine → fonts_of e ≡ At b → font_at e b (be 2 e b) ≤ length e
unfolding judge_entry
fonts-lie e b h q =
    let w = both-fine (judge_fixed e) (judged (in_entry e) nothing_more [] (entry_boxes e) then end_entry e (fonts_of e)) h in
    boxes-fine e b (both-fine (judged (in_entry e) nothing_more [] (entry_boxes e)) (end_entry e (fonts_of e)) w.1).0 q

-- and they are found
pub fonts-there : {X : Type 0} (e : List ℕ) (t : Body) → judge_entry e ≡ Fine → t ≡ fonts_of e → NoBody t → X
fonts-there e t h q n = absurd (go t (q ∙ (entry-fine e h).found) n)
  where
    go : {b : ℕ} (u : Body) → u ≡ At b → NoBody u → ⊥
    go (At c) p m = m
    go (Stopped r) p m = let z : ◌≡◌ {A = ℕ} 0 1 = cc in absurd (omega arith)
    go Nowhere p m = let z : ◌≡◌ {A = ℕ} 0 1 = cc in absurd (omega arith)
