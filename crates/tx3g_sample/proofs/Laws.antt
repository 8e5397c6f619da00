-- What a sample without fault says: its text and its modifier boxes are fine.
use Prim.Native.Nat.{ℕ, ◌≤◌, ◌<◌}
use mathlib.Core.Path.{◌≡◌, refl}
use mathlib.Core.List.{List, []}
use mathlib.Core.Bool.{Bool, true}
use native.Mathlib.Omega.{arith}
use lib.Dec.{ltb}
use lib.ListN.{length}
use borrow.Author.Tests.{ltb-false, lt-ltb, le-ltb}
use Rattle.verdict.specs.Verdict.{Verdict, Fine, Refused}
use Rattle.verdict.specs.Judgement.{bad_text, ◌gives◌at◌, ◌then◌, refuse}
use Rattle.verdict.proofs.Judgement.{both-fine}
use Rattle.characters.specs.Counted.{Counted, Characters, Bad}
use Rattle.verdict.specs.declared.Refusal.{Refusal}
use Rattle.bodies.specs.Body.{At, Refused as Stopped}
use Rattle.bodies.specs.Bodies.{body_of, filled}
use Rattle.bodies.proofs.Filled.{fine-false, filled-fine}
use Rattle.bodies.proofs.Laws.{judged-found, judged-whole}
use Rattle.base.specs.Choice.{pick, both}
use Rattle.boxes.specs.Boxes.{boxes_in, among}
use Rattle.tx3g_contents.specs.Kinds.{single, known}
use Rattle.tx3g_contents.specs.Contents.{content_end}
use Rattle.tx3g_rules.specs.Rules.{judge_records, judge_body}
use Rattle.tx3g_fonts.specs.Fonts.{has_font}
use Rattle.tx3g_entry.specs.Entry.{nothing_more, fonts_of, judge_entry}
use Rattle.tx3g_sample.specs.Reading.{Good}
use Rattle.tx3g_sample.specs.Text.{Whole, Bad as BadText}
use Rattle.tx3g_sample.specs.Sample.{text_end, counted, counted_at, count_of, characters_in, judge_text, in_sample, modifiers_of, fonts_in, judge_modifiers, judge_sample, answer_of, read_sample}
use Rattle.tx3g_sample.specs.Terms.{text_read}
use Rattle.tx3g_sample.proofs.Errors.{err_by}

-- the text past the bytes
pub text-past : (s : List ℕ) → length s < text_end s → judge_text s ≡ refuse 1 0
unfolding judge_text
text-past s h = rw (lt-ltb (length s) (text_end s) h)

-- and how one within the bytes is counted
pub text-counted : (s : List ℕ) → text_end s ≤ length s → err_by (bad_text 0) (counted s) ≡ text_read (judge_text s) (characters_in s)
unfolding judge_text characters_in
text-counted s h = rw (le-ltb (length s) (text_end s) h) (go (counted s))
  where
    go : (t : Counted) → err_by (bad_text 0) t ≡ text_read (counted_at 0 t) (count_of t)
    go (Characters n) = refl
    go (Bad q) = refl

pub text-fine : (s : List ℕ) → judge_text s ≡ Fine → text_end s ≤ length s
unfolding judge_text
text-fine s h =
    let w = both-fine (ltb (length s) (text_end s) gives 1 at 0) (counted_at 0 (counted s)) h in
    ltb-false (length s) (text_end s) (fine-false (ltb (length s) (text_end s)) 1 0 w.0)

pub count_past : (s : List ℕ) → 2 ≤ text_end s
unfolding text_end
count_past s = omega arith

-- a text that is read says that it is fine, or how it is not
whole : (v : Verdict) (m n : ℕ) → Whole n ≡ text_read v m → (v ≡ Fine) × (m ≡ n)
whole Fine m n e = (refl, cc)
whole (Refused r) m n e = let z : ◌≡◌ {A = ℕ} 0 1 = cc in absurd (omega arith)

not-whole : (v : Verdict) (m : ℕ) (r : Refusal) → BadText r ≡ text_read v m → v ≡ Refused r
not-whole Fine m r e = let z : ◌≡◌ {A = ℕ} 0 1 = cc in absurd (omega arith)
not-whole (Refused q) m r e = cc

pub text-whole : (s : List ℕ) (n : ℕ) → Whole n ≡ text_read (judge_text s) (characters_in s) → (judge_text s ≡ Fine) × (characters_in s ≡ n)
text-whole s n e = whole (judge_text s) (characters_in s) n e

pub text-refused : (s : List ℕ) (r : Refusal) → BadText r ≡ text_read (judge_text s) (characters_in s) → judge_text s ≡ Refused r
text-refused s r e = not-whole (judge_text s) (characters_in s) r e

-- a reading without fault
pub record Read (e s : List ℕ) (n : ℕ) : Type 0 where
  pub entry : judge_entry e ≡ Fine
  pub text : judge_text s ≡ Fine
  pub modifiers : judge_modifiers e n s ≡ Fine
  pub count : characters_in s ≡ n

answer-good : (u v : Verdict) (m n : ℕ) → answer_of u v m ≡ Good n → (u ≡ Fine) × (v ≡ Fine) × (m ≡ n)
answer-good (Refused r) v m n e = let z : ◌≡◌ {A = ℕ} 0 1 = cc in absurd (omega arith)
answer-good Fine (Refused r) m n e = let z : ◌≡◌ {A = ℕ} 0 1 = cc in absurd (omega arith)
answer-good Fine Fine m n e = (refl, refl, cc)

pub read-good : (e s : List ℕ) (n : ℕ) → read_sample e s ≡ Good n → Read e s n
unfolding read_sample judge_sample
read-good e s n h =
    let w = answer-good (judge_entry e) (judge_text s then judge_modifiers e (characters_in s) s) (characters_in s) n h in
    let v = both-fine (judge_text s) (judge_modifiers e (characters_in s) s) w.1 in
    record { entry = w.0; text = v.0; modifiers = rw (← w.2) v.1; count = w.2 }

-- the modifier boxes, with the fonts where they are found
pub modifiers-at : (e : List ℕ) (c : ℕ) (s : List ℕ) (b q : ℕ) → fonts_of e ≡ At b → q ≡ text_end s → modifiers_of (has_font e b) c s q ≡ judge_modifiers e c s
unfolding judge_modifiers
modifiers-at e c s b q h w = rw (h, w)

-- a modifier box without fault: its content fills it
pub box-filled : (fonts : ℕ → Bool) (c : ℕ) (s before : List ℕ) (p k b n : ℕ) → known k ≡ true → in_sample fonts c s before p k b n ≡ Fine → content_end s k b ≡ n
unfolding in_sample judge_body
box-filled fonts c s before p k b n e h =
    let u = (both-fine (both (single k) (among k before) gives 3 at p) (pick (known k) (judge_body fonts c s p k b n) Fine) h).1 in
    let v : (filled p (content_end s k b) n then judge_records fonts c s p k b) ≡ Fine = rw e at u in
    filled-fine p (content_end s k b) n (both-fine (filled p (content_end s k b) n) (judge_records fonts c s p k b) v).0

-- where the body of a modifier box of a sample without fault is found, its content lies within the sample
pub content-lies : (e : List ℕ) (c : ℕ) (s : List ℕ) (k b : ℕ) → known k ≡ true → judge_modifiers e c s ≡ Fine → body_of k (boxes_in s (text_end s) (length s)) ≡ At b → content_end s k b ≤ length s
unfolding judge_modifiers modifiers_of
content-lies e c s k b h m q =
    let j = judged-found (in_sample (fonts_in e (fonts_of e)) c s) nothing_more s (length s) k b (text_end s) [] m q in
    rw (box-filled (fonts_in e (fonts_of e)) c s j.kinds j.place k b j.next h j.fine) j.lies.inside

-- and no header among them is refused
pub boxes-whole : (e : List ℕ) (c : ℕ) (s : List ℕ) (k : ℕ) (r : Refusal) → judge_modifiers e c s ≡ Fine → body_of k (boxes_in s (text_end s) (length s)) ≡ Stopped r → ⊥
unfolding judge_modifiers modifiers_of
boxes-whole e c s k r m q = judged-whole (in_sample (fonts_in e (fonts_of e)) c s) nothing_more k r (boxes_in s (text_end s) (length s)) [] m q

-- a sample without fault has its byte count
pub read-long : (e s : List ℕ) (n : ℕ) → read_sample e s ≡ Good n → 2 ≤ length s
read-long e s n h = let w = text-fine s (read-good e s n h).text in let k = count_past s in omega arith

-- and its values are fine
pub records-fine : (e : List ℕ) (c : ℕ) (s : List ℕ) (k b : ℕ) → known k ≡ true → judge_modifiers e c s ≡ Fine → body_of k (boxes_in s (text_end s) (length s)) ≡ At b
    → (p : ℕ) × (judge_records (fonts_in e (fonts_of e)) c s p k b ≡ Fine)
unfolding judge_modifiers modifiers_of in_sample judge_body
records-fine e c s k b h m q =
    let j = judged-found (in_sample (fonts_in e (fonts_of e)) c s) nothing_more s (length s) k b (text_end s) [] m q in
    let u = (both-fine (both (single k) (among k j.kinds) gives 3 at j.place) (pick (known k) (judge_body (fonts_in e (fonts_of e)) c s j.place k b j.next) Fine) j.fine).1 in
    let v : (filled j.place (content_end s k b) j.next then judge_records (fonts_in e (fonts_of e)) c s j.place k b) ≡ Fine = rw h at u in
    (j.place, (both-fine (filled j.place (content_end s k b) j.next) (judge_records (fonts_in e (fonts_of e)) c s j.place k b) v).1)
