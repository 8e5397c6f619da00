-- The words of a text by places in it, and the marks of the names that were read.
use Prim.Native.Nat.{ℕ, zero, suc, ◌+◌, ◌-◌, ◌≤◌, ◌<◌}
use mathlib.Core.Path.{◌≡◌, refl, sym, ap, ◌∙◌}
use mathlib.Core.Logic.{◌⊎◌, inl, inr}
use mathlib.Core.Bool.{Bool, true, false}
use mathlib.Core.List.{List, [], ◌∷◌}
use native.Mathlib.Omega.{arith}
use lib.Dec.{eqb}
use lib.Bits.{bit_or}
use lib.ListN.{length, take, drop, get_or, set, length-set, drop_of_length-le}
use lib.Seq.{drop-cons, get_or-set_same, get_or-set_other}
use borrow.Author.Tests.{eqb-true, eqb-false, eq-eqb, le-ltb}
use Rattle.base.specs.Choice.{pick, both, any_of}
use Rattle.base.proofs.Choice.{by-test, both_left, both_right}
use Rattle.base.proofs.Tests.{one-of-yes}
use Rattle.viable.specs.Judged.{Judged}
use Rattle.viable.specs.FirstBad.{judged_by}
use Rattle.verdict.specs.declared.Refusal.{Refusal}
use Rattle.verdict.specs.Verdict.{Verdict, Fine, Refused as Faulty}
use Rattle.verdict.specs.Judgement.{fault, text_at}
use Rattle.text.specs.Beginnings.{identifier_begun}
use Rattle.text.specs.Rules.{identifier_text}
use Rattle.text.proofs.Rules.{empty-line}
use Rattle.timestamps.specs.Timestamps.{front, behind}
use Rattle.timestamps.proofs.Runs.{all-front, front-behind, behind-begins}
use Rattle.vtt_timing.specs.Timing.{blank, unblank}
use Rattle.vtt_timing.proofs.Laws.{run_end, run_more, front-part, behind-part}
use Rattle.ascii.proofs.Blocks.{or-none}
use Rattle.settings.specs.Word.{Word}
use Rattle.settings.specs.declared.Reading.{Reading}
use Rattle.settings.specs.Read.{Read, Done, Refused}
use Rattle.settings.specs.Reading.{words, parsed, name_in, has, amiss, taken, unless_amiss, read_words, unread, read_settings}
use Rattle.settings.proofs.Readings.{read-fine}
use Rattle.settings.proofs.Ruled.{read_right}
use Rattle.settings.proofs.Splitting.{words-blank, words-word, begins-solid, ends-apart}

-- ---- words by places

-- blanks are passed
pub words-skip : (s : List ℕ) (p j : ℕ) → j ≡ run_end blank s p → words p (drop p s) ≡ words j (drop j s)
words-skip s p j e =
    ap (words p) (sym (front-behind blank (drop p s)))
    ∙ words-blank (front blank (drop p s)) (behind blank (drop p s)) p (all-front blank (drop p s))
    ∙ ap (λ (n : ℕ). words n (behind blank (drop p s))) (sym e)
    ∙ ap (words j) (behind-part blank s p j e)

-- the byte at which a run ends is none of it
pub run-fails : (p : ℕ → Bool) (s : List ℕ) (i j : ℕ) → j ≡ run_end p s i → j < length s → p (get_or s j 0) ≡ false
run-fails p s i j e h = go (behind-begins p (drop i s))
  where
    there : behind p (drop i s) ≡ get_or s j 0 ∷ drop (suc j) s
    there = behind-part p s i j e ∙ drop-cons s j 0 h

    go : (behind p (drop i s) ≡ []) ⊎ ((x : ℕ) × (r : List ℕ) × (behind p (drop i s) ≡ x ∷ r) × (p x ≡ false)) → p (get_or s j 0) ≡ false
    go (inl q) = let w = there in let z : ◌≡◌ {A = ℕ} 0 1 = cc in absurd (omega arith)
    go (inr (x, r, q, f)) = let w = there in let z : get_or s j 0 ≡ x = cc in rw z f

-- a word is taken
module _ (s : List ℕ) (i e : ℕ) (h : i < length s) (k : blank (get_or s i 0) ≡ false) (is : e ≡ run_end unblank s i) where
  some_word : 1 ≤ length (front unblank (drop i s))
  some_word = begins-solid (drop i s) (get_or s i 0) (drop (suc i) s) (drop-cons s i 0 h) k

  pub word-ends : i < e
  word-ends = omega (arith, is, some_word)

  pub words-next : words i (drop i s) ≡ (i, take (e - i) (drop i s)) ∷ words e (drop e s)
  words-next =
      ap (words i) (sym (front-behind unblank (drop i s)))
      ∙ words-word (front unblank (drop i s)) (behind unblank (drop i s)) i (all-front unblank (drop i s)) some_word (ends-apart (drop i s))
      ∙ ap (λ (n : ℕ). (i, front unblank (drop i s)) ∷ words n (behind unblank (drop i s))) (sym is)
      ∙ ap (λ (x : List ℕ). (i, front unblank (drop i s)) ∷ words e x) (behind-part unblank s i e is)
      ∙ ap (λ (x : List ℕ). (i, x) ∷ words e (drop e s)) (front-part unblank s i e is)

-- ---- the loop

-- what is left to read from place i on gives the whole answer
pub record Going (s marks : List ℕ) (x : Reading) (i : ℕ) : Type 0 where
  pub inside : i ≤ length s
  pub solid : i < length s → blank (get_or s i 0) ≡ false
  pub seven : length marks ≡ 7
  pub names : List ℕ
  pub marked : (j : ℕ) → j < 7 → get_or marks j 0 ≡ pick (any_of (eqb j 6) (has j names)) 1 0
  pub rest : read_words (words i (drop i s)) names x ≡ read_words (words 0 s) [] unread

none-marked : (j : ℕ) → j < 7 → ◌≡◌ {A = ℕ} (get_or (0 ∷ 0 ∷ 0 ∷ 0 ∷ 0 ∷ 0 ∷ 1 ∷ []) j 0) (pick (any_of (eqb j 6) (has j [])) 1 0)
unfolding has
none-marked zero h = refl
none-marked (suc zero) h = refl
none-marked (suc (suc zero)) h = refl
none-marked (suc (suc (suc zero))) h = refl
none-marked (suc (suc (suc (suc zero)))) h = refl
none-marked (suc (suc (suc (suc (suc zero))))) h = refl
none-marked (suc (suc (suc (suc (suc (suc zero)))))) h = refl
none-marked (suc (suc (suc (suc (suc (suc (suc j))))))) h = absurd (omega arith)

-- a name more is marked
marks-set : (marks : List ℕ) (k n m : ℕ) (names : List ℕ) → k ≡ m → get_or marks n 0 ≡ pick (any_of (eqb n 6) (has n names)) 1 0 → k < length marks → get_or (set marks k 1) n 0 ≡ pick (any_of (eqb n 6) (has n (m ∷ names))) 1 0
unfolding has
marks-set marks k n m names e h l =
    by-test (eqb n m)
    (λ t. let q : n ≡ k = eqb-true n m t ∙ sym e in rw (t, one-of-yes (eqb n 6), q) (get_or-set_same marks k 1 0 l))
    (λ f. rw f (get_or-set_other marks k n 1 0 (λ q. eqb-false n m f (q ∙ e)) ∙ h))

module _ (s : List ℕ) where
  pub begins : (x : Reading) (i : ℕ) → x ≡ unread → i ≡ run_end blank s 0 → i ≤ length s → Going s (0 ∷ 0 ∷ 0 ∷ 0 ∷ 0 ∷ 0 ∷ 1 ∷ []) x i
  begins x i e q h =
      record {
        inside = h;
        solid = run-fails blank s 0 i q;
        seven = refl;
        names = [];
        marked = none-marked;
        rest = ap (read_words (words i (drop i s)) []) e ∙ ap (λ (ws : List (ℕ × List ℕ)). read_words ws [] unread) (sym (words-skip s 0 i q));
      }

  pub ends : (marks : List ℕ) (x : Reading) (i : ℕ) → length s ≤ i → Going s marks x i → Done x ≡ read_words (words 0 s) [] unread
  unfolding read_words words
  ends marks x i h g = rw (drop_of_length-le s h) at g.rest

  -- the word from i to e, and its name k
  module _ (marks : List ℕ) (x : Reading) (i e k : ℕ) (t : Word) (g : Going s marks x i) (h : i < length s)
      (is : e ≡ run_end unblank s i) (read : t ≡ parsed i (take (e - i) (drop i s))) (name : k ≡ name_in t) (few : k ≤ 6) where
    next : unless_amiss (amiss t g.names) i (λ _. read_words (words e (drop e s)) (name_in t ∷ g.names) (taken t x)) ≡ read_words (words 0 s) [] unread
    unfolding read_words
    next = rw read (sym (ap (λ (ws : List (ℕ × List ℕ)). read_words ws g.names x) (words-next s i e h (g.solid h) is)) ∙ g.rest)

    is-marked : get_or marks k 0 ≡ pick (amiss t g.names) 1 0
    unfolding amiss
    is-marked = g.marked k (omega arith) ∙ rw name

    pub refuses : get_or marks k 0 ≡ 1 → Refused (fault 20 i) ≡ read_words (words 0 s) [] unread
    refuses m = by-test (amiss t g.names)
        (λ a. rw a at next)
        (λ a. let z : ◌≡◌ {A = ℕ} 1 0 = sym m ∙ is-marked ∙ rw a in absurd (omega arith))

    pub goes_on : (get_or marks k 0 ≡ 1 → ⊥) → (y : Reading) (j : ℕ) → y ≡ taken t x → j ≡ run_end blank s e → j ≤ length s → Going s (set marks k 1) y j
    goes_on m y j q r l = by-test (amiss t g.names)
        (λ a. absurd (m (is-marked ∙ rw a)))
        (λ a. record {
          inside = l;
          solid = run-fails blank s e j r;
          seven = length-set marks k 1 ∙ g.seven;
          names = name_in t ∷ g.names;
          marked = marks-more;
          rest = ap (read_words (words j (drop j s)) (name_in t ∷ g.names)) q ∙ ap (λ (ws : List (ℕ × List ℕ)). read_words ws (name_in t ∷ g.names) (taken t x)) (sym (words-skip s e j r)) ∙ rw a at next;
        })
      where
        marks-more : (n : ℕ) → n < 7 → get_or (set marks k 1) n 0 ≡ pick (any_of (eqb n 6) (has n (name_in t ∷ g.names))) 1 0
        marks-more n b = marks-set marks k n (name_in t) g.names name (g.marked n b) (omega (arith, g.seven))

-- ---- the rule of a line is judged before, and need not be where no region is read

module _ (s : List ℕ) (few : length s ≤ 255) where
  pub judged-good : (j : Judged) (v : Verdict) (a : Read) → j ≡ judged_by identifier_text identifier_begun s → v ≡ text_at 0 j → v ≡ Fine → a ≡ read_words (words 0 s) [] unread → a ≡ read_settings s
  unfolding read_settings
  judged-good j v a d e f g = rw (le-ltb 255 (length s) few, ← d, ← e, f) g

  pub judged-faulty : (j : Judged) (v : Verdict) (why : Refusal) → j ≡ judged_by identifier_text identifier_begun s → v ≡ text_at 0 j → v ≡ Faulty why → Refused why ≡ read_settings s
  unfolding read_settings
  judged-faulty j v why d e f = rw (le-ltb 255 (length s) few, ← d, ← e, f)

  pub plainly-read : (x : Reading) → read_words (words 0 s) [] unread ≡ Done x → x.end ≡ 0 → Done x ≡ read_settings s
  plainly-read x e z =
      let n : x.end - x.from ≡ 0 = omega arith in
      let i : identifier_text (take (x.end - x.from) (drop x.from s)) ≡ true = rw n empty-line in
      sym (read-fine s few (read_right s x e i) ∙ e)

-- ---- runs, more bytes at a time

-- marks that are joined to 0 are 0 each
pub both-none : (a b : ℕ) → bit_or a b ≡ 0 → (a ≡ 0) × (b ≡ 0)
both-none a b e =
    let t : both (eqb a 0) (eqb b 0) ≡ true = sym (or-none a b) ∙ eq-eqb (bit_or a b) 0 e in
    (eqb-true a 0 (both_left (eqb a 0) (eqb b 0) t), eqb-true b 0 (both_right (eqb a 0) (eqb b 0) t))

-- the run goes on by a byte
pub run_on : (p : ℕ → Bool) (s : List ℕ) (at k : ℕ) → at + k < length s → p (get_or s (at + k) 0) ≡ true → run_end p s (at + k) ≡ run_end p s at → run_end p s (at + (k + 1)) ≡ run_end p s at
run_on p s at k h e q =
    let n : at + (k + 1) ≡ at + k + 1 = omega arith in
    ap (run_end p s) n ∙ run_more p s (at + k) h e ∙ q
