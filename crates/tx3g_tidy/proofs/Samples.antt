-- A sample whose text is tidy.
use Prim.Native.Nat.{ℕ, ◌+◌, ◌-◌, ◌≤◌, ◌<◌}
use mathlib.Core.Path.{◌≡◌, refl, sym, ap, ◌∙◌, subst}
use mathlib.Core.Bool.{true, false, not}
use mathlib.Core.List.{List, [], ◌∷◌}
use native.Mathlib.Omega.{arith}
use borrow.Author.Tests.{eqb-true, not-true}
use lib.Dec.{eqb}
use lib.ListN.{length, take, drop, get_or, length-take, length-drop}
use Rattle.base.specs.Choice.{pick}
use Rattle.base.proofs.Choice.{both_left, both_right, by-test, either, true-false}
use Rattle.fields.proofs.BigEndian.{be-fits}
use Rattle.verdict.specs.Verdict.{Fine}
use Rattle.boxes.specs.Boxes.{part}
use Rattle.utf8.specs.Strings.{starts_with}
use Rattle.text.specs.Rules.{payload_text}
use Rattle.characters.specs.Characters.{mark, firsts}
use Rattle.code_points.specs.CodePoints.{encode, joined}
use Rattle.tx3g_entry.specs.Entry.{judge_entry}
use Rattle.tx3g_sample.specs.Reading.{Good}
use Rattle.tx3g_sample.specs.Sample.{text_end, characters_in, judge_text, judge_sample, read_sample}
use Rattle.tx3g_sample.proofs.Laws.{text-fine, count_past, read-good}
use Rattle.tx3g_read.specs.declared.Text.{Text}
use Rattle.tx3g_read.specs.Sample.{marked, text_of}
use Rattle.tx3g_payload.specs.Points.{points8}
use Rattle.tx3g_payload.specs.Left.{text_left}
use Rattle.tx3g_payload.specs.Payload.{escape}
use Rattle.tx3g_payload.specs.Statements.{has_zero}
use Rattle.tx3g_payload.proofs.Rule.{only_zero}
use Rattle.tx3g_payload_write.specs.Sample.{characters_at, range_at, face_of, payload_in}
use Rattle.tx3g_payload_write.proofs.Texts.{Walked, text-walked, text-of-fine, text-ends, counted-so, plain-count}
use Rattle.tx3g_tidy.specs.Tidy.{tidy, tidy_in, Single}
use Rattle.tx3g_tidy.specs.Escapes.{shown, extras}
use Rattle.tx3g_tidy.proofs.Marks.{stay_none}
use Rattle.tx3g_tidy.proofs.Standing.{Standing, points-stand}
use Rattle.tx3g_tidy.proofs.Places.{joined-long}
use Rattle.tx3g_tidy.proofs.Escapes.{shown-joined, shown-length}

no_bytes : (cs : List ℕ) → length cs ≡ 0 → length (joined encode cs) ≡ 0
unfolding joined
no_bytes [] h = refl
no_bytes (c ∷ cs) h = absurd (omega arith)

-- the text of a sample
abbrev pub text_in : List ℕ → List ℕ
text_in s = part s 2 (text_end s)

module _ (s : List ℕ) (fine : judge_text s ≡ Fine) where
  pub lies : (2 ≤ text_end s) × (text_end s ≤ length s)
  lies = (count_past s, text-fine s fine)

  pub size : length (text_in s) ≡ text_end s - 2
  unfolding part
  size = omega (arith, lies, length-take (text_end s - 2) (drop 2 s), length-drop 2 s)

  -- of UTF-8, the bytes that begin a character are counted
  pub counted-8 : starts_with mark (text_in s) ≡ false → firsts (text_in s) ≡ characters_in s
  counted-8 m = plain-count (text_in s) (characters_in s) m (counted-so s fine)

  module _ (byte : (j : ℕ) → get_or s j 0 < 256) (h : tidy_in s ≡ true) where
    unmarked : starts_with mark (text_in s) ≡ false
    unfolding tidy_in
    unmarked = not-true (starts_with mark (text_in s)) (both_left (not (starts_with mark (text_in s))) (tidy (text_in s)) h)

    pub walked : Walked s (characters_in s) false (text_in s)
    unfolding text_of marked
    walked = rw unmarked at (text-walked s (characters_in s) (text_of s) byte fine refl refl)

    pub standing : Standing (text_in s)
    unfolding tidy_in
    standing = points-stand (text_in s) walked.spells (both_right (not (starts_with mark (text_in s))) (tidy (text_in s)) h)

    -- at least one character, and no more than bytes
    pub some : 0 < characters_in s
    unfolding tidy_in
    some =
        either (characters_in s) 0
        (λ z. let none = no_bytes (points8 (text_in s)) (omega (arith, z, walked.many)) in
        let empty = stay_none (text_in s) (sym (ap length walked.spells.bytes_are) ∙ none) in
        true-false (tidy (text_in s)) (both_right (not (starts_with mark (text_in s))) (tidy (text_in s)) h) (sym empty))
        (λ z. z)

    pub few : characters_in s ≤ 65535
    unfolding text_end
    few = omega (arith, walked.many, joined-long (points8 (text_in s)), ap length walked.spells.bytes_are, size, be-fits 2 s 0 byte)

    pub stays : text_left (characters_at s) ≡ characters_at s
    stays = rw walked.points at standing.left

    pub as_long : length (joined escape (characters_at s)) ≡ text_end s - 2 + extras (text_in s)
    as_long =
        ap (λ (x : List ℕ). length (joined escape x)) (sym walked.points)
        ∙ (ap length (shown-joined (points8 (text_in s)))
        ∙ (ap (λ (x : List ℕ). length (joined shown x)) walked.spells.bytes_are ∙ (shown-length (text_in s) ∙ ap (λ (k : ℕ). k + extras (text_in s)) size)))

    pub whole_length : (e : List ℕ) (r x y : ℕ) → length (payload_in e s) ≡ r + length (joined escape (characters_at s)) → x ≡ text_end s → y ≡ extras (take (x - 2) (drop 2 s))
        → r + (x - 2) + y ≡ pick (tidy_in s) (length (payload_in e s)) 0
    unfolding part
    whole_length e r x y q z f = rw h (omega (arith, q, as_long, z, f ∙ ap (λ (k : ℕ). extras (take (k - 2) (drop 2 s))) z))

    -- the payload keeps its rule
    pub keeps : (e : List ℕ) → payload_text (payload_in e s) ≡ true
    unfolding payload_in
    keeps e =
        let right = rw walked.points at walked.spells.right in
        let zero : has_zero (characters_at s) ≡ false = rw walked.points at standing.no_zero in
        only_zero (range_at s) (face_of e s) (characters_at s) right ∙ ap not zero

pub tidy-rule : (e s : List ℕ) → ((j : ℕ) → get_or s j 0 < 256) → judge_sample e s ≡ Fine → tidy_in s ≡ true → payload_text (payload_in e s) ≡ true
tidy-rule e s byte fine h = keeps s (text-of-fine e s fine) byte h e

-- as its text is found
module _ (s : List ℕ) (f : Text) (found : f ≡ text_of s) where
  mark-found : starts_with mark (text_in s) ≡ f.utf16
  unfolding text_of marked
  mark-found = sym (ap (λ (x : Text). x.utf16) found)

  pub untidy-16 : f.utf16 ≡ true → 0 ≡ pick (tidy_in s) (characters_in s) 0
  unfolding tidy_in
  untidy-16 u = rw (mark-found ∙ u)

  module _ (u : f.utf16 ≡ false) where
    text-found : take (f.end - 2) (drop 2 s) ≡ text_in s
    unfolding part
    text-found = ap (λ (k : ℕ). take (k - 2) (drop 2 s)) (text-ends s f found)

    found-8 : tidy_in s ≡ tidy (take (f.end - 2) (drop 2 s))
    unfolding tidy_in
    found-8 = rw (mark-found ∙ u) (ap tidy (sym text-found))

    pub untidy-8 : tidy (take (f.end - 2) (drop 2 s)) ≡ false → 0 ≡ pick (tidy_in s) (characters_in s) 0
    untidy-8 h = rw (found-8 ∙ h)

    pub count-found : judge_text s ≡ Fine → tidy (take (f.end - 2) (drop 2 s)) ≡ true → (n : ℕ) → n ≡ firsts (take (f.end - 2) (drop 2 s)) → n ≡ pick (tidy_in s) (characters_in s) 0
    count-found fine h n e = rw (found-8 ∙ h) (e ∙ (ap firsts text-found ∙ counted-8 s fine (mark-found ∙ u)))

  pub found-lies : judge_text s ≡ Fine → (2 ≤ f.end) × (f.end ≤ length s)
  found-lies fine = let l = lies s fine in omega (arith, l, text-ends s f found)

-- what is counted says whether the text is tidy
module _ (s : List ℕ) (fine : judge_text s ≡ Fine) (byte : (j : ℕ) → get_or s j 0 < 256) (n : ℕ) (e : n ≡ pick (tidy_in s) (characters_in s) 0) where
  pub none-counted : n ≡ 0 → tidy_in s ≡ false
  none-counted z = by-test (tidy_in s) (λ h. let k : n ≡ characters_in s = e ∙ rw h in absurd (omega (arith, k, z, some s fine byte h))) (λ h. h)

  pub some-counted : ¬ (n ≡ 0) → (tidy_in s ≡ true) × (n ≡ characters_in s)
  some-counted z = by-test (tidy_in s) (λ h. (h, e ∙ rw h)) (λ h. absurd (z (e ∙ rw h)))

pub good-is : (e s : List ℕ) (n : ℕ) → judge_entry e ≡ Fine → judge_sample e s ≡ Fine → n ≡ characters_in s → read_sample e s ≡ Good n
unfolding read_sample
good-is e s n g h c = rw (g, h, c)

-- a sample that is read
module _ (e s : List ℕ) (n : ℕ) (good : read_sample e s ≡ Good n) (byte : (j : ℕ) → get_or s j 0 < 256) (h : tidy_in s ≡ true) where
  pub good-walked : Walked s n false (text_in s)
  good-walked = let r = read-good e s n good in subst (λ (k : ℕ). Walked s k false (text_in s)) r.count (walked s r.text byte h)

  pub good-many : length (characters_at s) ≡ n
  good-many = sym (ap length good-walked.points) ∙ good-walked.many

  pub good-few : n ≤ 65535
  good-few = let r = read-good e s n good in omega (arith, r.count, few s r.text byte h)

  pub good-stays : text_left (characters_at s) ≡ characters_at s
  good-stays = stays s (read-good e s n good).text byte h

  module _ (end : ℕ) (ends : end ≡ text_end s) where
    pub good-text : Walked s n false (take (end - 2) (drop 2 s))
    unfolding part
    good-text = rw ends good-walked

    -- where there are as many characters as bytes, each is one byte
    pub good-single : eqb n (end - 2) ≡ true → Single (take (end - 2) (drop 2 s))
    unfolding part
    good-single q =
        let w = good-text in
        record { spells = w.spells; many = w.many ∙ (eqb-true n (end - 2) q ∙ sym (rw ends (size s (read-good e s n good).text))) }

  pub good-lies : (2 ≤ text_end s) × (text_end s ≤ length s)
  good-lies = lies s (read-good e s n good).text
