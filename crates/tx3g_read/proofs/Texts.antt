-- The text of a sample without fault is what its encoding says.
use Prim.Native.Nat.{ℕ, zero, suc, ◌+◌, ◌-◌, ◌≤◌}
use mathlib.Core.Path.{◌≡◌, refl, sym, ap, ◌∙◌}
use mathlib.Core.Bool.{Bool, true, false}
use mathlib.Core.List.{List, [], ◌∷◌}
use native.Mathlib.Omega.{arith}
use native.Mathlib.Nat.{zero-add, suc-add}
use lib.Dec.{ltb}
use lib.ListN.{length, take, drop, length-take, length-drop}
use lib.Seq.{take-nil, drop-drop}
use Rattle.base.specs.Choice.{pick}
use Rattle.verdict.specs.Verdict.{Fine}
use Rattle.verdict.specs.Judgement.{◌gives◌at◌}
use Rattle.verdict.proofs.Judgement.{both-fine}
use Rattle.viable.specs.Judged.{Judged, Right, Bad as BadAt}
use Rattle.viable.specs.FirstBad.{judged_by}
use Rattle.utf8.specs.Strings.{starts_with}
use Rattle.characters.specs.Counted.{Counted, Characters, Bad}
use Rattle.characters.specs.Characters.{utf16, first_units, mark, tx3g_text, tx3g_begun, character_count, count_by, characters_of}
use Rattle.characters.proofs.Counts.{mark-length, counted-text, count-units, count-firsts}
use Rattle.characters.proofs.Begun.{text-marked, text-other}
use Rattle.boxes.specs.Boxes.{part}
use Rattle.tx3g_sample.specs.Sample.{text_end, counted, counted_at, count_of, characters_in, judge_text}
use Rattle.tx3g_sample.proofs.Laws.{read-good, text-fine, count_past}
use Rattle.tx3g_read.specs.Sample.{marked, text_of}
use Rattle.tx3g_read.specs.Statements.{Encodes, TextIs}

-- the part behind the mark
drop-take : (a n : ℕ) (l : List ℕ) → drop a (take (a + n) l) ≡ take n (drop a l)
drop-take zero n l = rw zero-add
drop-take (suc a) n [] = simp suc-add (sym (take-nil n))
drop-take (suc a) n (x ∷ xs) = simp suc-add (drop-take a n xs)

behind-mark : (s : List ℕ) (end : ℕ) → 4 ≤ end → drop 2 (part s 2 end) ≡ part s 4 end
unfolding part
behind-mark s end h =
    let e : end - 2 ≡ 2 + (end - 4) = omega arith in
    ap (λ (k : ℕ). drop 2 (take k (drop 2 s))) e ∙ drop-take 2 (end - 4) (drop 2 s) ∙ ap (take (end - 4)) (drop-drop 2 2 s)

length_part : (s : List ℕ) (end : ℕ) → 2 ≤ end → end ≤ length s → length (part s 2 end) ≡ end - 2
unfolding part
length_part s end l u = rw (length-take, length-drop) (omega arith)

-- a text without fault, and its characters
count-is : (j : Judged) (k m : ℕ) → count_by j k ≡ Characters m → k ≡ m
count-is Right k m e = cc
count-is (BadAt q) k m e = let z : ◌≡◌ {A = ℕ} 0 1 = cc in absurd (omega arith)

text-counted : (s : List ℕ) → judge_text s ≡ Fine → (tx3g_text (part s 2 (text_end s)) ≡ true) × (character_count (part s 2 (text_end s)) ≡ characters_in s)
unfolding judge_text counted characters_in characters_of
text-counted s h = go (counted s) refl (both-fine (ltb (length s) (text_end s) gives 1 at 0) (counted_at 0 (counted s)) h).1
  where
    go : (t : Counted) → counted s ≡ t → counted_at 0 t ≡ Fine → (tx3g_text (part s 2 (text_end s)) ≡ true) × (character_count (part s 2 (text_end s)) ≡ characters_in s)
    go (Characters m) e w = (counted-text (part s 2 (text_end s)) m e, count-is (judged_by tx3g_text tx3g_begun (part s 2 (text_end s))) _ m e ∙ sym (ap count_of e))
    go (Bad q) e w = let z : ◌≡◌ {A = ℕ} 0 1 = cc in absurd (omega arith)

-- a text of n characters, by whether it begins with the mark
encodes : (s : List ℕ) (end n : ℕ) (m : Bool) → starts_with mark (part s 2 end) ≡ m → 2 ≤ end → end ≤ length s → tx3g_text (part s 2 end) ≡ true → character_count (part s 2 end) ≡ n
    → (pick m 4 2 ≤ end) × Encodes m (part s (pick m 4 2) end) n
encodes s end n true e l u t c =
    let w = mark-length (part s 2 end) e in
    let k : length (part s 2 end) ≡ end - 2 = length_part s end l u in
    let h : 4 ≤ end = omega (arith, w, k) in
    let b = behind-mark s end h in
    (h, (ap (utf16 false) (sym b) ∙ sym (text-marked (part s 2 end) e) ∙ t, ap first_units (sym b) ∙ count-units (part s 2 end) e ∙ c))
encodes s end n false e l u t c = (l, (sym (text-other (part s 2 end) e) ∙ t, count-firsts (part s 2 end) e ∙ c))

pub text-is : TextIs
unfolding text_of marked counted characters_in
text-is e s n h =
    let r = read-good e s n h in
    let q = text-counted s r.text in
    let w = encodes s (text_end s) n (starts_with mark (part s 2 (text_end s))) refl (count_past s) (text-fine s r.text) q.0 (q.1 ∙ r.count) in
    (w.0, text-fine s r.text, w.1)
