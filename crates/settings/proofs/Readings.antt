-- Reading gives what the grammar says, and refuses at the first wrong setting; and the theorems on the fixed form.
use Prim.Native.Nat.{ℕ, zero, suc, ◌+◌, ◌-◌, ◌≤◌, ◌<◌}
use mathlib.Core.Path.{◌≡◌, refl, sym, ap, ◌∙◌, subst}
use mathlib.Core.Logic.{◌⊎◌, inl, inr}
use mathlib.Core.Bool.{true, false}
use mathlib.Core.List.{List, [], ◌∷◌, ◌++◌, map, append-nil, append_assoc}
use native.Mathlib.Omega.{arith}
use native.Mathlib.Nat.{zero-add}
use lib.Dec.{eqb, leb}
use lib.ListN.{length, take, drop, length-append}
use lib.Seq.{drop-append-add, take_at}
use borrow.Author.Tests.{le-ltb, lt-ltb, leb-true}
use Rattle.base.proofs.Choice.{by-test, either, true-false, both_right}
use Rattle.viable.specs.FirstBad.{judged_by, stops_at}
use Rattle.verdict.specs.declared.Refusal.{Refusal}
use Rattle.verdict.specs.Judgement.{fault, bad_text}
use Rattle.text.specs.Rules.{identifier_text}
use Rattle.text.specs.Beginnings.{identifier_begun}
use Rattle.timestamps.specs.Timestamps.{All}
use Rattle.vtt_timing.specs.Timing.{blank, unblank}
use Rattle.vtt_timing.proofs.Grammar.{blank-unblank}
use Rattle.settings.specs.Word.{Word, Malformed}
use Rattle.settings.specs.declared.Reading.{Reading}
use Rattle.settings.specs.Read.{Read, Done, Refused}
use Rattle.settings.specs.Words.{REGION}
use Rattle.settings.specs.Grammar.{Setting, vertical, line, position, size, align, region, Says, is_vertical, is_line, is_aligned_line, is_position, is_aligned_position, is_size, is_align, is_region, Apart, Text, blanks, setting, name_of, Among, Once, placed, record_of, SettingsText, Ended, WrongAt}
use Rattle.settings.specs.Reading.{words, parsed, name_in, has, amiss, taken, unless_amiss, read_words, unread, read_settings, said}
use Rattle.settings.specs.Form.{written, settings_allowed, region_allowed, writable}
use Rattle.settings.specs.Statements.{ReadsAre, WrongsAre, ReadsAs, ReadsAsIs, RegionInside, ReadsBack, WritableIs, Shortest}
use Rattle.settings.proofs.Splitting.{words_append, words-split, words-word, words-none, Split, split}
use Rattle.settings.proofs.Form.{written-says, written-line, says_some}
use Rattle.settings.proofs.Shortest.{says-longer, says-writable}
use Rattle.settings.proofs.Said.{coded, says-read, Spoken, spoken, says-unblank}
use Rattle.settings.proofs.Names.{onto, among-onto, onto-among, once_last, once-text, text-once, record-onto, has-among, among-has}

-- ---- a word that is taken

coded-name : (p : ℕ) (t : Setting) → name_in (coded p t) ≡ name_of t
coded-name p (vertical v) = refl
coded-name p (line l a) = refl
coded-name p (position q a) = refl
coded-name p (size n) = refl
coded-name p (align a) = refl
coded-name p (region w) = refl

-- the name of a setting is none of what is malformed
name-read : (t : Setting) → eqb (name_of t) 6 ≡ false
name-read (vertical v) = refl
name-read (line l a) = refl
name-read (position q a) = refl
name-read (size n) = refl
name-read (align a) = refl
name-read (region w) = refl

module _ (p : ℕ) (t : Setting) (m : List Setting) where
  amiss-is : amiss (coded p t) (map name_of m) ≡ has (name_of t) (map name_of m)
  unfolding amiss
  amiss-is = rw (coded-name p t, name-read t)

malformed-amiss : (names : List ℕ) → amiss Malformed names ≡ true
unfolding amiss
malformed-amiss names = refl

-- the name of a region stands where it is read
region-there : (pre w rest : List ℕ) → take (length pre + 7 + length w - (length pre + 7)) (drop (length pre + 7) (pre ++ ((REGION ++ w) ++ rest))) ≡ w
region-there pre w rest =
    let e : length pre + 7 + length w - (length pre + 7) ≡ length w = omega arith in
    rw (e, drop-append-add pre ((REGION ++ w) ++ rest) 7) (take_at w rest (length w) refl)

-- what is said with one setting more
said-taken : (pre rest : List ℕ) (x : Reading) (t : Setting) (w : List ℕ) → Says t w → said (pre ++ (w ++ rest)) (taken (coded (length pre) t) x) ≡ placed t (said (pre ++ (w ++ rest)) x)
said-taken pre rest x t w (is_vertical v m) = refl
said-taken pre rest x t w (is_line h) = refl
said-taken pre rest x t w (is_aligned_line a h) = refl
said-taken pre rest x t w (is_position h) = refl
said-taken pre rest x t w (is_aligned_position a m h) = refl
said-taken pre rest x t w (is_size h) = refl
said-taken pre rest x t w (is_align a) = refl
said-taken pre rest x t w (is_region v h k) = ap (λ (n : List ℕ). record { settings = x.settings; region = n }) (region-there pre v rest)

-- a word that says a setting of a new name is taken
taken_next : (p : ℕ) (t : Setting) (w : List ℕ) (ws : List (ℕ × List ℕ)) (m : List Setting) (x : Reading) → Says t w → (Among (name_of t) m → ⊥)
    → read_words ((p, w) ∷ ws) (map name_of m) x ≡ read_words ws (name_of t ∷ map name_of m) (taken (coded p t) x)
unfolding read_words
taken_next p t w ws m x h f =
    by-test (has (name_of t) (map name_of m))
    (λ a. absurd (f (has-among (name_of t) m a)))
    (λ a. rw (says-read p t w h, amiss-is p t m, a, coded-name p t))

-- a word that says none, or one of a name that was read, is refused
refused-next : (p : ℕ) (w : List ℕ) (ws : List (ℕ × List ℕ)) (m : List Setting) (x : Reading) → ((t : Setting) → Says t w → Among (name_of t) m) → read_words ((p, w) ∷ ws) (map name_of m) x ≡ Refused (fault 20 p)
unfolding read_words
refused-next p w ws m x f = go (spoken p w)
  where
    amiss-so : (q : Word) → parsed p w ≡ q → amiss q (map name_of m) ≡ true
        → unless_amiss (amiss (parsed p w) (map name_of m)) p (λ _. read_words ws (name_in (parsed p w) ∷ map name_of m) (taken (parsed p w) x)) ≡ Refused (fault 20 p)
    amiss-so q e a = rw (e, a)

    go : Spoken p w → unless_amiss (amiss (parsed p w) (map name_of m)) p (λ _. read_words ws (name_in (parsed p w) ∷ map name_of m) (taken (parsed p w) x)) ≡ Refused (fault 20 p)
    go (inl e) = amiss-so Malformed e (malformed-amiss (map name_of m))
    go (inr (t, h, e)) = amiss-so (coded p t) e (amiss-is p t m ∙ among-has (name_of t) m (f t h))

-- ---- what stands before a word

ended-blanks : (b : List ℕ) → All blank b → Ended b
ended-blanks [] h = tt
ended-blanks (x ∷ []) h = h.0
ended-blanks (x ∷ y ∷ b) h = ended-blanks (y ∷ b) h.1

ended-append : (a b : List ℕ) → 1 ≤ length b → Ended b → Ended (a ++ b)
ended-append [] b h k = k
ended-append (x ∷ []) [] h k = absurd (omega arith)
ended-append (x ∷ []) (y ∷ b) h k = k
ended-append (x ∷ y ∷ a) b h k = ended-append (y ∷ a) b h k

apart-front : (a b : List ℕ) → Apart (a ++ b) → Apart a
apart-front [] b h = tt
apart-front (x ∷ a) b h = h

-- blanks stand before a word that is apart
apart_some : (a w b : List ℕ) → Apart (a ++ (w ++ b)) → All unblank w → 1 ≤ length w → 1 ≤ length a
apart_some [] [] b h k l = l
apart_some [] (x ∷ w) b h k l = true-false (unblank x) k.0 (blank-unblank x h)
apart_some (x ∷ a) w b h k l = omega arith

module _ (s : List ℕ) where
  -- the text up to a place, and from there on
  abbrev At : List ℕ → List ℕ → Type 0
  At pre rest = s ≡ pre ++ rest

  past : (pre b w rest : List ℕ) → At pre (b ++ (w ++ rest)) → At ((pre ++ b) ++ w) rest
  past pre b w rest e = e ∙ sym (append_assoc pre b (w ++ rest)) ∙ sym (append_assoc (pre ++ b) w rest)

  length-past : (pre b w : List ℕ) → length ((pre ++ b) ++ w) ≡ length pre + length b + length w
  length-past pre b w = length-append (pre ++ b) w ∙ ap (λ (n : ℕ). n + length w) (length-append pre b)

  said-next : (pre b w rest : List ℕ) (m : List Setting) (x : Reading) (t : Setting) → At pre (b ++ (w ++ rest)) → Says t w → said s x ≡ record_of m
      → said s (taken (coded (length pre + length b) t) x) ≡ record_of (t ∷ m)
  unfolding record_of
  said-next pre b w rest m x t e h q =
      let f : s ≡ (pre ++ b) ++ (w ++ rest) = e ∙ sym (append_assoc pre b (w ++ rest)) in
      let g = said-taken (pre ++ b) rest x t w h in
      ap (λ (n : ℕ). said s (taken (coded n t) x)) (sym (length-append pre b))
      ∙ subst (λ (y : List ℕ). said y (taken (coded (length (pre ++ b)) t) x) ≡ placed t (said y x)) (sym f) g
      ∙ ap (placed t) q

  -- the region's name stands in the text
  abbrev Inside : Reading → Type 0
  Inside x = (x.from ≤ x.end) × (x.end ≤ length s)

  inside-next : (pre b w rest : List ℕ) (x : Reading) (t : Setting) → At pre (b ++ (w ++ rest)) → Says t w → Inside x → Inside (taken (coded (length pre + length b) t) x)
  inside-next pre b w rest x t e (is_vertical v m) h = h
  inside-next pre b w rest x t e (is_line l) h = h
  inside-next pre b w rest x t e (is_aligned_line a l) h = h
  inside-next pre b w rest x t e (is_position p) h = h
  inside-next pre b w rest x t e (is_aligned_position a m p) h = h
  inside-next pre b w rest x t e (is_size p) h = h
  inside-next pre b w rest x t e (is_align a) h = h
  inside-next pre b w rest x t e (is_region v n k) h =
      (omega arith, omega (arith, ap length e, length-append pre (b ++ ((REGION ++ v) ++ rest)), length-append b ((REGION ++ v) ++ rest), length-append v rest))

  -- ---- a text of the grammar is read

  complete : (ts : List Setting) (text : List ℕ) → Text ts text → (pre tail : List ℕ) (m : List Setting) (x : Reading) (more : List (ℕ × List ℕ)) → At pre (text ++ tail) → Once (onto ts m) → said s x ≡ record_of m
      → (y : Reading) × (read_words (words (length pre) text ++ more) (map name_of m) x ≡ read_words more (map name_of (onto ts m)) y) × (said s y ≡ record_of (onto ts m))
  complete ts text (blanks b h) pre tail m x more e o q = (x, ap (λ (ws : List (ℕ × List ℕ)). read_words (ws ++ more) (map name_of m) x) (words-none b (length pre) h), q)
  complete ts text (setting {t = t} {ts = us} b w r hb hs ha ht) pre tail m x more e o q =
      let f : At pre (b ++ (w ++ (r ++ tail))) = e ∙ ap (λ (y : List ℕ). pre ++ y) (append_assoc b (w ++ r) tail ∙ ap (λ (y : List ℕ). b ++ y) (append_assoc w r tail)) in
      let p = length pre + length b in
      let c = complete us r ht ((pre ++ b) ++ w) tail (t ∷ m) (taken (coded p t) x) more (past pre b w (r ++ tail) f) o (said-next pre b w (r ++ tail) m x t f hs q) in
      (c.0, goes_on c.0 c.1, c.2)
    where
      goes_on : (y : Reading)
          → read_words (words (length ((pre ++ b) ++ w)) r ++ more) (name_of t ∷ map name_of m) (taken (coded (length pre + length b) t) x) ≡ read_words more (map name_of (onto us (t ∷ m))) y
          → read_words (words (length pre) (b ++ (w ++ r)) ++ more) (map name_of m) x ≡ read_words more (map name_of (onto us (t ∷ m))) y
      goes_on y k =
          ap (λ (ws : List (ℕ × List ℕ)). read_words (ws ++ more) (map name_of m) x) (words-split b w r (length pre) hb (says-unblank hs) (says_some w hs) ha)
          ∙ taken_next (length pre + length b) t w (words (length pre + length b + length w) r ++ more) m x hs (once_last us (t ∷ m) o).0
          ∙ ap (λ (n : ℕ). read_words (words n r ++ more) (name_of t ∷ map name_of m) (taken (coded (length pre + length b) t) x)) (sym (length-past pre b w))
          ∙ k

  -- ---- what is read is a text of the grammar, or there is a first wrong word

  -- settings are read to the end
  pub record Whole (pre rest : List ℕ) (m : List Setting) (x : Reading) : Type 0 where
    pub settings : List Setting
    pub good : Text settings rest
    pub once : Once (onto settings m)
    pub gives : Reading
    pub reads : read_words (words (length pre) rest) (map name_of m) x ≡ Done gives
    pub says : said s gives ≡ record_of (onto settings m)
    pub inside : Inside gives

  -- or up to a wrong word
  pub record Broken (pre rest : List ℕ) (m : List Setting) (x : Reading) : Type 0 where
    pub settings : List Setting
    pub before : List ℕ
    pub word : List ℕ
    pub behind : List ℕ
    pub text : rest ≡ before ++ (word ++ behind)
    pub begins : Ended before
    pub some : 1 ≤ length word
    pub solid : All unblank word
    pub ends : Apart behind
    pub good : Text settings before
    pub once : Once (onto settings m)
    pub wrong : (t : Setting) → Says t word → Among (name_of t) (onto settings m)
    pub reads : read_words (words (length pre) rest) (map name_of m) x ≡ Refused (fault 20 (length pre + length before))

  -- two settings that one word says have one name
  one_name : (t u : Setting) (w : List ℕ) → Says t w → Says u w → name_of t ≡ name_of u
  one_name t u w h k = sym (coded-name 0 t) ∙ ap name_in (sym (says-read 0 t w h) ∙ says-read 0 u w k) ∙ coded-name 0 u

  -- the first word is wrong
  broken-here : (pre b w r : List ℕ) (m : List Setting) (x : Reading) → All blank b → All unblank w → 1 ≤ length w → Apart r → Once m → ((t : Setting) → Says t w → Among (name_of t) m) → Broken pre (b ++ (w ++ r)) m x
  broken-here pre b w r m x hb hw l ha o f =
      record {
        settings = [];
        before = b;
        word = w;
        behind = r;
        text = refl;
        begins = ended-blanks b hb;
        some = l;
        solid = hw;
        ends = ha;
        good = blanks b hb;
        once = o;
        wrong = f;
        reads = ap (λ (ws : List (ℕ × List ℕ)). read_words ws (map name_of m) x) (words-split b w r (length pre) hb hw l ha) ∙ refused-next (length pre + length b) w (words (length pre + length b + length w) r) m x f;
      }

  module _ (pre b w r : List ℕ) (m : List Setting) (x : Reading) (t : Setting) (hb : All blank b) (h : Says t w) (ha : Apart r) (new : Among (name_of t) m → ⊥) where
    -- what is read with it
    y : Reading
    y = taken (coded (length pre + length b) t) x

    -- a setting is read, and then the rest
    reads_on : (answer : Read) → read_words (words (length ((pre ++ b) ++ w)) r) (name_of t ∷ map name_of m) y ≡ answer → read_words (words (length pre) (b ++ (w ++ r))) (map name_of m) x ≡ answer
    unfolding y
    reads_on answer k =
        ap (λ (ws : List (ℕ × List ℕ)). read_words ws (map name_of m) x) (words-split b w r (length pre) hb (says-unblank h) (says_some w h) ha)
        ∙ taken_next (length pre + length b) t w (words (length pre + length b + length w) r) m x h new
        ∙ ap (λ (n : ℕ). read_words (words n r) (name_of t ∷ map name_of m) (taken (coded (length pre + length b) t) x)) (sym (length-past pre b w))
        ∙ k

    whole-on : Whole ((pre ++ b) ++ w) r (t ∷ m) y → Whole pre (b ++ (w ++ r)) m x
    whole-on k =
        record {
          settings = t ∷ k.settings;
          good = setting b w r hb h ha k.good;
          once = k.once;
          gives = k.gives;
          reads = reads_on (Done k.gives) k.reads;
          says = k.says;
          inside = k.inside;
        }

    broken-on : Broken ((pre ++ b) ++ w) r (t ∷ m) y → Broken pre (b ++ (w ++ r)) m x
    broken-on k =
        let a : Apart (k.before ++ (k.word ++ k.behind)) = subst Apart k.text ha in
        let e : length ((pre ++ b) ++ w) + length k.before ≡ length pre + length (b ++ (w ++ k.before)) =
        omega (arith, length-past pre b w, length-append b (w ++ k.before), length-append w k.before) in
        record {
          settings = t ∷ k.settings;
          before = b ++ (w ++ k.before);
          word = k.word;
          behind = k.behind;
          text = ap (λ (z : List ℕ). b ++ (w ++ z)) k.text ∙ sym (append_assoc b (w ++ k.before) (k.word ++ k.behind) ∙ ap (λ (z : List ℕ). b ++ z) (append_assoc w k.before (k.word ++ k.behind)));
          begins = ended-append b (w ++ k.before) (omega (arith, length-append w k.before, says_some w h)) (ended-append w k.before (apart_some k.before k.word k.behind a k.solid k.some) k.begins);
          some = k.some;
          solid = k.solid;
          ends = k.ends;
          good = setting b w k.before hb h (apart-front k.before (k.word ++ k.behind) a) k.good;
          once = k.once;
          wrong = k.wrong;
          reads = reads_on (Refused (fault 20 (length pre + length (b ++ (w ++ k.before))))) (k.reads ∙ ap (λ (n : ℕ). Refused (fault 20 n)) e);
        }

  -- the first word, and then the rest
  step : (pre b w r : List ℕ) (m : List Setting) (x : Reading) → All blank b → All unblank w → 1 ≤ length w → Apart r → At pre (b ++ (w ++ r)) → Once m → said s x ≡ record_of m → Inside x
      → ((m' : List Setting) (x' : Reading) → Once m' → said s x' ≡ record_of m' → Inside x' → Whole ((pre ++ b) ++ w) r m' x' ⊎ Broken ((pre ++ b) ++ w) r m' x')
      → Whole pre (b ++ (w ++ r)) m x ⊎ Broken pre (b ++ (w ++ r)) m x
  unfolding y
  step pre b w r m x hb hw l ha e o q i rest = go (spoken (length pre + length b) w)
    where
      go : Spoken (length pre + length b) w → Whole pre (b ++ (w ++ r)) m x ⊎ Broken pre (b ++ (w ++ r)) m x
      go (inl d) = inr (broken-here pre b w r m x hb hw l ha o (λ t h. never t (sym d ∙ says-read (length pre + length b) t w h)))
        where
          never : (t : Setting) → Malformed ≡ coded (length pre + length b) t → Among (name_of t) m
          never t f = true-false (eqb (name_of t) 6) (ap (λ (k : ℕ). eqb k 6) (sym (ap name_in f ∙ coded-name (length pre + length b) t))) (name-read t)
      go (inr (t, h, d)) =
          by-test (has (name_of t) (map name_of m))
          (λ a. inr (broken-here pre b w r m x hb hw l ha o (λ u k. subst (λ (n : ℕ). Among n m) (one_name t u w h k) (has-among (name_of t) m a))))
          (λ a. let new : Among (name_of t) m → ⊥ = λ c. true-false (has (name_of t) (map name_of m)) (among-has (name_of t) m c) a in
          onward new (rest (t ∷ m) (taken (coded (length pre + length b) t) x) (new, o) (said-next pre b w r m x t e h q) (inside-next pre b w r x t e h i)))
        where
          onward : (Among (name_of t) m → ⊥) → Whole ((pre ++ b) ++ w) r (t ∷ m) (taken (coded (length pre + length b) t) x) ⊎ Broken ((pre ++ b) ++ w) r (t ∷ m) (taken (coded (length pre + length b) t) x)
              → Whole pre (b ++ (w ++ r)) m x ⊎ Broken pre (b ++ (w ++ r)) m x
          onward new (inl k) = inl (whole-on pre b w r m x t hb h ha new k)
          onward new (inr k) = inr (broken-on pre b w r m x t hb h ha new k)

  blanks-only : (pre rest : List ℕ) (m : List Setting) (x : Reading) → All blank rest → Once m → said s x ≡ record_of m → Inside x → Whole pre rest m x
  unfolding read_words
  blanks-only pre rest m x h o q i =
      record {
        settings = [];
        good = blanks rest h;
        once = o;
        gives = x;
        reads = ap (λ (ws : List (ℕ × List ℕ)). read_words ws (map name_of m) x) (words-none rest (length pre) h);
        says = q;
        inside = i;
      }

  -- there is a word, so that less is left behind it
  shorter : (rest : List ℕ) (c : Split rest) → length c.rest < length rest
  shorter rest c = omega (arith, ap length c.is, length-append c.blanks (c.word ++ c.rest), length-append c.word c.rest, c.some)

  run : (n : ℕ) (pre rest : List ℕ) (m : List Setting) (x : Reading) → length rest < n → At pre rest → Once m → said s x ≡ record_of m → Inside x → Whole pre rest m x ⊎ Broken pre rest m x
  run zero pre rest m x l e o q i = absurd (omega arith)
  run (suc n) pre rest m x l e o q i = first (split rest) (λ c m' x'. run n ((pre ++ c.blanks) ++ c.word) c.rest m' x' (omega (arith, shorter rest c)) (past pre c.blanks c.word c.rest (e ∙ ap (λ (z : List ℕ). pre ++ z) c.is)))
    where
      first : All blank rest ⊎ Split rest
          → ((c : Split rest) (m' : List Setting) (x' : Reading) → Once m' → said s x' ≡ record_of m' → Inside x' → Whole ((pre ++ c.blanks) ++ c.word) c.rest m' x' ⊎ Broken ((pre ++ c.blanks) ++ c.word) c.rest m' x')
          → Whole pre rest m x ⊎ Broken pre rest m x
      first (inl h) f = inl (blanks-only pre rest m x h o q i)
      first (inr c) f =
          subst (λ (z : List ℕ). Whole pre z m x ⊎ Broken pre z m x) (sym c.is)
          (step pre c.blanks c.word c.rest m x c.all-blank c.solid c.some c.apart (e ∙ ap (λ (z : List ℕ). pre ++ z) c.is) o q i (f c))

  unsaid : said s unread ≡ record_of []
  unfolding record_of
  unsaid = refl

  outcome : Whole [] s [] unread ⊎ Broken [] s [] unread
  outcome = run (suc (length s)) [] s [] unread (omega arith) refl tt unsaid (omega arith, omega arith)

-- ---- the theorems

done-one : (x y : Reading) → Done x ≡ Done y → x ≡ y
done-one x y e = cc

never_both : {X : Type 0} (x : Reading) (r : Refusal) (a : Read) → a ≡ Done x → a ≡ Refused r → X
never_both x r a e f = let z : ◌≡◌ {A = ℕ} 0 1 = cc in absurd (omega arith)

refused-one : (w v : Refusal) → Refused w ≡ Refused v → w ≡ v
refused-one w v e = cc

placed_at : (n p q : ℕ) (a : Read) → a ≡ Refused (fault n p) → a ≡ Refused (fault n q) → p ≡ q
unfolding fault
placed_at n p q a e f = ap at_place (sym e ∙ f)
  where
    at_place : Read → ℕ
    at_place (Done x) = 0
    at_place (Refused r) = r.place

pub reads-are : ReadsAre
unfolding read_words
reads-are s r = (to, from)
  where
    to : (x : Reading) × (read_words (words 0 s) [] unread ≡ Done x) × (said s x ≡ r) → SettingsText s r
    to (x, e, q) = go (outcome s)
      where
        go : Whole s [] s [] unread ⊎ Broken s [] s [] unread → SettingsText s r
        go (inl k) =
            let o = once-text k.settings k.once in
            let g = done-one k.gives x (sym k.reads ∙ e) in
            (k.settings, k.good, o, sym (record-onto k.settings o) ∙ sym k.says ∙ ap (said s) g ∙ q)
        go (inr k) = never_both x _ (read_words (words 0 s) [] unread) e k.reads

    from : SettingsText s r → (x : Reading) × (read_words (words 0 s) [] unread ≡ Done x) × (said s x ≡ r)
    from (ts, h, o, q) =
        let c = complete s ts s h [] [] [] unread [] (sym (append-nil s)) (text-once ts o) (unsaid s) in
        (c.0, ap (λ (ws : List (ℕ × List ℕ)). read_words ws [] unread) (sym (append-nil (words 0 s))) ∙ c.1, c.2 ∙ record-onto ts o ∙ q)

among-text : (n : ℕ) (ts : List Setting) → Among n (onto ts []) → Among n ts
among-text n ts h = go (among-onto n ts [] h)
  where
    go : Among n ts ⊎ ⊥ → Among n ts
    go (inl a) = a
    go (inr b) = absurd b

-- the words are refused by no other number
pub refused-only : (s : List ℕ) (w : Refusal) → read_words (words 0 s) [] unread ≡ Refused w → (q : ℕ) × (w ≡ fault 20 q)
refused-only s w e = go (outcome s)
  where
    go : Whole s [] s [] unread ⊎ Broken s [] s [] unread → (q : ℕ) × (w ≡ fault 20 q)
    go (inl k) = never_both k.gives w (read_words (words 0 s) [] unread) k.reads e
    go (inr k) = (length {A = ℕ} [] + length k.before, refused-one w _ (sym e ∙ k.reads))

pub wrongs-are : WrongsAre
wrongs-are s q = (to, from)
  where
    to : read_words (words 0 s) [] unread ≡ Refused (fault 20 q) → WrongAt s q
    to e = go (outcome s)
      where
        go : Whole s [] s [] unread ⊎ Broken s [] s [] unread → WrongAt s q
        go (inl k) = never_both k.gives _ (read_words (words 0 s) [] unread) k.reads e
        go (inr k) =
            record {
              before = k.before;
              word = k.word;
              behind = k.behind;
              text = k.text;
              place = sym (zero-add (length k.before)) ∙ placed_at 20 _ q (read_words (words 0 s) [] unread) k.reads e;
              begins = k.begins;
              some = k.some;
              solid = k.solid;
              ends = k.ends;
              settings = k.settings;
              good = k.good;
              once = once-text k.settings k.once;
              wrong = λ t h. among-text (name_of t) k.settings (k.wrong t h);
            }

    from : WrongAt s q → read_words (words 0 s) [] unread ≡ Refused (fault 20 q)
    from w =
        let more = words (length w.before) (w.word ++ w.behind) in
        let c = complete s w.settings w.before w.good [] (w.word ++ w.behind) [] unread more w.text (text-once w.settings w.once) (unsaid s) in
        let ws = words_append w.before (w.word ++ w.behind) 0 w.begins in
        ap (λ (z : List ℕ). read_words (words 0 z) [] unread) w.text
        ∙ ap (λ (z : List (ℕ × List ℕ)). read_words z [] unread) (ws ∙ ap (λ (n : ℕ). words 0 w.before ++ words n (w.word ++ w.behind)) (zero-add (length w.before)))
        ∙ c.1
        ∙ ap (λ (z : List (ℕ × List ℕ)). read_words z (map name_of (onto w.settings [])) c.0) (words-word w.word w.behind (length w.before) w.solid w.some w.ends)
        ∙ refused-next (length w.before) w.word (words (length w.before + length w.word) w.behind) (onto w.settings []) c.0 (λ t h. onto-among (name_of t) w.settings [] (w.wrong t h))
        ∙ ap (λ (n : ℕ). Refused (fault 20 n)) w.place

-- the limit and the rule are judged before
pub read-fine : (s : List ℕ) → length s ≤ 255 → identifier_text s ≡ true → read_settings s ≡ read_words (words 0 s) [] unread
unfolding read_settings judged_by
read-fine s l i = rw (le-ltb 255 (length s) l, i)

read-long : (s : List ℕ) → 255 < length s → read_settings s ≡ Refused (fault 9 0)
unfolding read_settings
read-long s l = rw (lt-ltb 255 (length s) l)

read-bad : (s : List ℕ) → length s ≤ 255 → identifier_text s ≡ false → read_settings s ≡ Refused (bad_text 0 (stops_at identifier_begun s))
unfolding read_settings judged_by
read-bad s l i = rw (le-ltb 255 (length s) l, i)

pub reads-as-is : ReadsAsIs
reads-as-is s r = (to, from)
  where
    to : ReadsAs s r → (length s ≤ 255) × (identifier_text s ≡ true) × SettingsText s r
    to (x, e, q) =
        either (length s) 255
        (λ l. by-test (identifier_text s)
        (λ i. (l, i, (reads-are s r).0 (x, sym (read-fine s l i) ∙ e, q)))
        (λ i. never_both x _ (read_settings s) e (read-bad s l i)))
        (λ l. never_both x _ (read_settings s) e (read-long s l))

    from : (length s ≤ 255) × (identifier_text s ≡ true) × SettingsText s r → ReadsAs s r
    from (l, i, t) = let c = (reads-are s r).1 t in (c.0, read-fine s l i ∙ c.1, c.2)

pub region-inside : RegionInside
region-inside s x e =
    let k = (reads-as-is s (said s x)).0 (x, e, refl) in
    go (sym (read-fine s k.0 k.1) ∙ e) (outcome s)
  where
    go : read_words (words 0 s) [] unread ≡ Done x → Whole s [] s [] unread ⊎ Broken s [] s [] unread → (x.from ≤ x.end) × (x.end ≤ length s)
    go d (inl w) = subst (Inside s) (done-one w.gives x (sym w.reads ∙ d)) w.inside
    go d (inr b) = never_both x _ (read_words (words 0 s) [] unread) d b.reads

pub reads-back : ReadsBack
unfolding writable
reads-back r w =
    let l = both_right (region_allowed r.region) (leb (length (written r)) 255) (both_right (settings_allowed r.settings) _ w) in
    (reads-as-is (written r) r).1 (leb-true (length (written r)) 255 l, written-line r w, written-says r w)

pub writable-is : WritableIs
writable-is r = (
  λ f s h. let k = (reads-as-is s r).0 h in true-false (writable r) (says-writable r s k.2 k.1 k.0) f,
  λ f. by-test (writable r) (λ t. absurd (f (written r) (reads-back r t))) (λ e. e),
)

pub shortest : Shortest
shortest r s h = says-longer r s ((reads-as-is s r).0 h).2
