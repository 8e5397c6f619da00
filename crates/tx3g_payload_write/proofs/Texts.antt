-- The text of a sample without fault is the bytes of its characters.
use Prim.Native.Nat.{ℕ, zero, suc, ◌+◌, ◌-◌, ◌≤◌, ◌<◌}
use mathlib.Core.Path.{◌≡◌, refl, sym, ap, ◌∙◌, subst}
use mathlib.Core.Logic.{◌⊎◌, inl, inr}
use mathlib.Core.Bool.{Bool, true, false}
use mathlib.Core.List.{List, [], ◌∷◌, ◌++◌}
use native.Mathlib.Omega.{arith}
use lib.Dec.{ltb, eqb}
use lib.ListN.{length, take, drop, get_or, length-take}
use lib.Seq.{get_or-drop, drop-drop, take-nil}
use borrow.Author.Tests.{lt-ltb}
use Rattle.base.proofs.Choice.{by-test, true-false}
use Rattle.base.proofs.Tests.{both-no}
use Rattle.viable.specs.FirstBad.{bytes}
use Rattle.utf8.specs.Strings.{starts_with}
use Rattle.characters.specs.Counted.{Counted, Characters, Bad}
use Rattle.viable.specs.Judged.{Judged, Right, Bad as BadAt}
use Rattle.viable.specs.FirstBad.{judged_by}
use Rattle.characters.specs.Characters.{firsts, mark, tx3g_text, tx3g_begun, character_count, count_by, characters_of}
use Rattle.code_points.specs.CodePoints.{scalars, encode, encode16, joined}
use Rattle.code_points.proofs.CodePoints16.{counted_is}
use Rattle.verdict.specs.Verdict.{Fine}
use Rattle.verdict.specs.Judgement.{◌gives◌at◌}
use Rattle.verdict.proofs.Judgement.{both-fine}
use Rattle.boxes.specs.Boxes.{part}
use Rattle.tx3g_entry.specs.Entry.{judge_entry}
use Rattle.tx3g_sample.specs.Reading.{Good}
use Rattle.tx3g_sample.specs.Sample.{text_end, counted, counted_at, count_of, characters_in, judge_text, judge_modifiers, judge_sample, read_sample}
use Rattle.tx3g_sample.proofs.Laws.{count_past}
use Rattle.tx3g_read.specs.declared.Text.{Text}
use Rattle.tx3g_read.specs.Sample.{marked, text_of}
use Rattle.tx3g_payload.specs.Points.{points8, points16, points_of}
use Rattle.tx3g_payload.proofs.Points.{read_all, read-all16}
use Rattle.tx3g_payload_write.specs.Sample.{characters_at}
use Rattle.tx3g_payload_write.specs.Terms.{points_by, Spelled}
use Rattle.tx3g_payload_write.proofs.Characters.{spelled}

-- what a slice holds is bytes
bytes_take : (n : ℕ) (l : List ℕ) → ((j : ℕ) → get_or l j 0 < 256) → bytes (take n l) ≡ true
unfolding bytes
bytes_take zero l h = refl
bytes_take (suc n) [] h = refl
bytes_take (suc n) (b ∷ l) h = rw (lt-ltb b 256 (h 0)) (bytes_take n l (λ j. h (suc j)))

pub part_bytes : (s : List ℕ) (a e : ℕ) → ((j : ℕ) → get_or s j 0 < 256) → bytes (part s a e) ≡ true
unfolding part
part_bytes s a e h = bytes_take (e - a) (drop a s) (λ j. rw (get_or-drop a s j 0) (h (a + j)))

-- a text without fault has its characters counted
count-so : (c : Counted) → counted_at 0 c ≡ Fine → c ≡ Characters (count_of c)
count-so (Characters n) h = refl
count-so (Bad q) h = let z : ◌≡◌ {A = ℕ} 0 1 = cc in absurd (omega arith)

pub counted-so : (s : List ℕ) → judge_text s ≡ Fine → characters_of (part s 2 (text_end s)) ≡ Characters (characters_in s)
unfolding judge_text counted characters_in
counted-so s h = count-so (counted s) (both-fine (ltb (length s) (text_end s) gives 1 at 0) (counted_at 0 (counted s)) h).1

-- a walk over the text of n characters
pub record Walked (s : List ℕ) (n : ℕ) (u : Bool) (t : List ℕ) : Type 0 where
  pub spells : Spelled u t
  pub points : points_by u t ≡ characters_at s
  pub many : length (points_by u t) ≡ n

-- without the mark
drop-two : (n : ℕ) (l : List ℕ) → drop 2 (take n l) ≡ take (n - 2) (drop 2 l)
drop-two zero l = refl
drop-two (suc n) [] = sym (take-nil (suc n - 2))
drop-two (suc zero) (x ∷ l) = refl
drop-two (suc (suc n)) (x ∷ []) = sym (take-nil (suc (suc n) - 2))
drop-two (suc (suc n)) (x ∷ y ∷ l) = let z : suc (suc n) - 2 ≡ n = omega arith in rw z

unmark : (s : List ℕ) (e : ℕ) → drop 2 (part s 2 e) ≡ part s 4 e
unfolding part
unmark s e =
    let z : e - 2 - 2 ≡ e - 4 = omega arith in
    drop-two (e - 2) (drop 2 s) ∙ (ap (λ (x : List ℕ). take (e - 2 - 2) x) (drop-drop 2 2 s) ∙ ap (λ (k : ℕ). take k (drop 4 s)) z)

starts-mark : (s : List ℕ) → starts_with mark (mark ++ s) ≡ true
unfolding starts_with mark
starts-mark s = refl

behind-mark : (s : List ℕ) → drop 2 (mark ++ s) ≡ s
unfolding mark
behind-mark s = refl

module _ (s : List ℕ) (n : ℕ) (cs : List ℕ) (right : scalars cs ≡ true) (size : length cs ≡ n) where
  by_8 : part s 2 (text_end s) ≡ joined encode cs → Walked s n (text_of s).utf16 (part s (text_of s).from (text_of s).end)
  unfolding text_of marked characters_at points_of
  by_8 e =
      let r = read_all cs right in
      let m : starts_with mark (part s 2 (text_end s)) ≡ false = ap (starts_with mark) e ∙ r.1 in
      let p : points8 (part s 2 (text_end s)) ≡ cs = ap points8 e ∙ r.0 in
      rw m
      (record { spells = subst (Spelled false) (sym e) (spelled false cs right); points = rw m; many = ap length p ∙ size })

  by-16 : part s 2 (text_end s) ≡ mark ++ joined encode16 cs → Walked s n (text_of s).utf16 (part s (text_of s).from (text_of s).end)
  unfolding text_of marked characters_at points_of
  by-16 e =
      let m : starts_with mark (part s 2 (text_end s)) ≡ true = ap (starts_with mark) e ∙ starts-mark (joined encode16 cs) in
      let d : part s 4 (text_end s) ≡ joined encode16 cs = sym (unmark s (text_end s)) ∙ (ap (λ (x : List ℕ). drop 2 x) e ∙ behind-mark (joined encode16 cs)) in
      let p : points16 (part s 4 (text_end s)) ≡ cs = ap points16 d ∙ read-all16 cs right in
      rw m
      (record { spells = subst (Spelled true) (sym d) (spelled true cs right); points = rw m (ap points16 (sym (unmark s (text_end s)))); many = ap length p ∙ size })

pub text-walked : (s : List ℕ) (n : ℕ) (f : Text) → ((j : ℕ) → get_or s j 0 < 256) → judge_text s ≡ Fine → characters_in s ≡ n → f ≡ text_of s → Walked s n f.utf16 (part s f.from f.end)
text-walked s n f h t c q =
    let w = counted_is (part s 2 (text_end s)) n (part_bytes s 2 (text_end s) h) (counted-so s t ∙ ap Characters c) in
    subst (λ (x : Text). Walked s n x.utf16 (part s x.from x.end)) (sym q) (go w.0 w.1 w.2 w.3)
  where
    go : (cs : List ℕ) → scalars cs ≡ true → length cs ≡ n → (part s 2 (text_end s) ≡ joined encode cs) ⊎ (part s 2 (text_end s) ≡ mark ++ joined encode16 cs)
        → Walked s n (text_of s).utf16 (part s (text_of s).from (text_of s).end)
    go cs r l (inl e) = by_8 s n cs r l e
    go cs r l (inr e) = by-16 s n cs r l e

-- it lies within the sample
starts-long : (s : List ℕ) → starts_with mark s ≡ true → 2 ≤ length s
unfolding starts_with mark
starts-long [] h = let z : ◌≡◌ {A = Bool} false true = h in true-false false z refl
starts-long (a ∷ []) h = true-false _ h (both-no (eqb a 0xFE))
starts-long (a ∷ b ∷ s) h = omega arith

part_length : (s : List ℕ) (a e : ℕ) → length (part s a e) ≤ e - a
unfolding part
part_length s a e = rw (length-take (e - a) (drop a s)) (omega arith)

pub text-within : (s : List ℕ) (f : Text) → text_end s ≤ length s → f ≡ text_of s → (f.from ≤ f.end) × (f.end ≤ length s)
unfolding text_of marked
text-within s f l e =
    rw e
    (by-test (starts_with mark (part s 2 (text_end s)))
    (λ m. let k = starts-long (part s 2 (text_end s)) m in let j = part_length s 2 (text_end s) in rw m (omega (arith, k, j), l))
    (λ m. rw m (count_past s, l)))

-- a sample without fault beside its entry
pub text-of-fine : (e s : List ℕ) → judge_sample e s ≡ Fine → judge_text s ≡ Fine
unfolding judge_sample
text-of-fine e s h = (both-fine (judge_text s) (judge_modifiers e (characters_in s) s) h).0

good-of-fine : (e s : List ℕ) → judge_entry e ≡ Fine → judge_sample e s ≡ Fine → read_sample e s ≡ Good (characters_in s)
unfolding read_sample
good-of-fine e s g h = rw (g, h)

same_count : (m n : ℕ) → Characters m ≡ Characters n → m ≡ n
same_count m n e = cc

counted-part : (s : List ℕ) (end : ℕ) → end ≡ text_end s → judge_text s ≡ Fine → characters_of (take (end - 2) (drop 2 s)) ≡ Characters (characters_in s)
unfolding part
counted-part s end p h = ap (λ (x : ℕ). characters_of (take (x - 2) (drop 2 s))) p ∙ counted-so s h

pub sample-good : (e s : List ℕ) (end n : ℕ) → judge_entry e ≡ Fine → judge_sample e s ≡ Fine → end ≡ text_end s → characters_of (take (end - 2) (drop 2 s)) ≡ Characters n → read_sample e s ≡ Good n
sample-good e s end n g h p q =
    good-of-fine e s g h ∙ ap Good (same_count (characters_in s) n (sym (counted-part s end p (text-of-fine e s h)) ∙ q))

pub sample-counted : (e s : List ℕ) (end q : ℕ) {X : Type 0} → judge_sample e s ≡ Fine → end ≡ text_end s → characters_of (take (end - 2) (drop 2 s)) ≡ Bad q → X
sample-counted e s end q h p b = let c = sym (counted-part s end p (text-of-fine e s h)) ∙ b in let z : ◌≡◌ {A = ℕ} 0 1 = cc in absurd (omega arith)

-- where its text ends, as it is found
pub text-ends : (s : List ℕ) (f : Text) → f ≡ text_of s → f.end ≡ text_end s
unfolding text_of
text-ends s f e = ap (λ (x : Text). x.end) e

-- a text of UTF-8 has as many characters as bytes that begin one
count-told : (j : Judged) (m n : ℕ) → count_by j m ≡ Characters n → m ≡ n
count-told Right m n e = cc
count-told (BadAt q) m n e = let z : ◌≡◌ {A = ℕ} 0 1 = cc in absurd (omega arith)

pub plain-count : (t : List ℕ) (n : ℕ) → starts_with mark t ≡ false → characters_of t ≡ Characters n → firsts t ≡ n
unfolding characters_of character_count
plain-count t n m e = sym (rw m) ∙ count-told (judged_by tx3g_text tx3g_begun t) (character_count t) n e

pub sample-firsts : (e s : List ℕ) (f : Text) (n : ℕ) → judge_entry e ≡ Fine → judge_sample e s ≡ Fine → f ≡ text_of s → f.utf16 ≡ false → n ≡ firsts (take (f.end - 2) (drop 2 s)) → read_sample e s ≡ Good n
unfolding text_of marked part
sample-firsts e s f n g h q u c =
    let t : List ℕ = part s 2 (text_end s) in
    let m : starts_with mark t ≡ false = sym (ap (λ (x : Text). x.utf16) q) ∙ u in
    let k : firsts t ≡ characters_in s = plain-count t (characters_in s) m (counted-so s (text-of-fine e s h)) in
    good-of-fine e s g h ∙ ap Good (sym k ∙ (ap (λ (x : ℕ). firsts (take (x - 2) (drop 2 s))) (sym (text-ends s f q)) ∙ sym c))
