-- Text, spans and content: what each turn of their readers adds.
use Prim.Native.Nat.{ℕ, ◌+◌, ◌-◌, ◌≤◌, ◌<◌}
use mathlib.Core.Path.{◌≡◌, refl, sym, ap, ◌∙◌}
use mathlib.Core.Logic.{inl, inr}
use mathlib.Core.Bool.{Bool, true, false}
use mathlib.Core.Option.{some}
use mathlib.Core.List.{List, [], ◌∷◌}
use native.Mathlib.Omega.{arith}
use native.Mathlib.Numerals.{add-one}
use lib.Dec.{eqb, leb}
use lib.ListN.{length, get_or}
use borrow.Author.Tests.{ne_eqb, eqb-true, lt-ltb, lt-leb, le-ltb, leb-true, leb-false}
use Rattle.base.proofs.Choice.{by-test, either}
use Rattle.viable.specs.FirstBad.{judged_by}
use Rattle.verdict.specs.declared.Refusal.{Refusal}
use Rattle.verdict.specs.Verdict.{Verdict, Fine, Refused}
use Rattle.verdict.specs.Judgement.{text_at}
use Rattle.text.specs.Rules.{payload_text}
use Rattle.text.specs.Beginnings.{payload_begun}
use Rattle.profile_judge.specs.Judgement.{outside, judge_profile}
use Rattle.viable.specs.Judged.{Judged, Right, Bad as BadAt}
use Rattle.profile.specs.Machine.{Kind, And, Less, More, Point, Blank, Break, Other, Beyond}
use Rattle.profile.specs.declared.Tag.{Tag}
use Rattle.profile.specs.Spot.{Spot, Past, Bad}
use Rattle.profile.specs.Grammar.{besides, one_of, plain_byte, is_ruby}
use Rattle.profile.specs.Machine.{kind, at, Text, Lt, on_text, step, judge}
use Rattle.profile.specs.Readings.{from, Reads, Anywhere, goes_on, Around, texted}
use Rattle.profile.proofs.ByteKinds.{never, plain_kind, plain_is}
use Rattle.profile.proofs.Readings.{from_end, from-yes, from-dead, from_step, from-whole, r-dead, r-then, r-bad, r-map, byte_step, on-byte}
use Rattle.profile_words.proofs.Laws.{amps}
use Rattle.profile_times.specs.Stamped.{Time, Amiss}
use Rattle.profile_times.specs.Terms.{TimeIs}
use Rattle.profile_tags.specs.Named.{Found, Wrong as Misnamed}
use Rattle.profile_judge.specs.Part.{Part, On, Wrong}
use Rattle.profile_tags.specs.Terms.{Here, lesses, StartIs, closes}
use Rattle.profile_judge.specs.Terms.{part_of, Marked, PlainIs, MarkIs, Timely, in_text, TextIs, Further, Room, texts, less_at, SpanIs, ended, ContentIs}

-- ---- one byte of text

plain-on : (k : Kind) (st : List Tag) (low : ℕ) → plain_kind k ≡ true → on_text k st low ≡ some (at Text st low)
plain-on And st low h = never h
plain-on Less st low h = never h
plain-on More st low h = refl
plain-on Point st low h = refl
plain-on Blank st low h = refl
plain-on Break st low h = refl
plain-on Other st low h = refl
plain-on Beyond st low h = never h

pub is_plain : (b : ℕ) → b < 256 → (b ≡ 60 → ⊥) → (b ≡ 38 → ⊥) → plain_byte b ≡ true
unfolding besides one_of
is_plain b h l a = rw (lt-ltb b 256 h, ne_eqb b 38 a, ne_eqb b 60 l)

-- one more byte of plain text
pub plain_more : (s : List ℕ) (p i : ℕ) → i < length s → plain_byte (get_or s i 0) ≡ true → Reads Around s p (Past i) texted texted → Reads Around s p (Past (i + 1)) texted texted
unfolding step
plain_more s p i h l r = on-byte Around s p i texted texted texted r h (λ x. plain-on (kind (get_or s i 0)) x.0 x.1 (sym (plain_is (get_or s i 0)) ∙ l))

-- all of it
pub plain-whole : (s : List ℕ) → Reads Around s 0 (Past (length s)) texted texted → Right ≡ judge s
plain-whole s r = sym (from-whole s ∙ r.leads ([], 0) ∙ from-yes s (length s) (at Text [] 0) (omega arith) refl)

pub plain-less : (s : List ℕ) (p : ℕ) → get_or s p 0 ≡ 60 → Marked s p
unfolding besides one_of
plain-less s p e h = rw e

pub plain-and : (s : List ℕ) (p : ℕ) → get_or s p 0 ≡ 38 → Marked s p
unfolding besides one_of
plain-and s p e h = rw e

-- what is not plain and no & is <
pub marked-less : (s : List ℕ) (p : ℕ) → p < length s → get_or s p 0 < 256 → Marked s p → (get_or s p 0 ≡ 38 → ⊥) → get_or s p 0 ≡ 60
unfolding besides one_of
marked-less s p h f m a =
    by-test (eqb (get_or s p 0) 60) (λ e. eqb-true (get_or s p 0) 60 e)
    (λ e. never (sym (rw (lt-ltb (get_or s p 0) 256 f, ne_eqb (get_or s p 0) 38 a, e) at (m h))))

-- ---- an escape or a timestamp

module _ (s : List ℕ) (p low : ℕ) (h : p < length s) where
  pub mark-escape : get_or s p 0 ≡ 38 → (r : Spot) → Reads Anywhere s (p + 1) r amps goes_on → TextIs s p low (part_of r low) × Further p (part_of r low)
  unfolding step kind
  mark-escape e r k = go r k (byte_step (List Tag) s p r 38 (in_text low) (λ st. amps (Text, st, low)) (in_text low) h e (λ st. refl) (r-map Anywhere (List Tag) (λ st. (Text, st, low)) s (p + 1) r amps goes_on k))
    where
      go : (r : Spot) → Reads Anywhere s (p + 1) r amps goes_on → Reads (List Tag) s p r (in_text low) (in_text low) → TextIs s p low (part_of r low) × Further p (part_of r low)
      go (Past n) k l = (l, omega (arith, k.bounds.0))
      go (Bad q) k l = (l, tt)

  pub mark-time : get_or s p 0 ≡ 60 → (n v : ℕ) → TimeIs s (p + 1) low (Time n v) → TextIs s p low (On n (v + 1)) × Further p (On n (v + 1))
  unfolding step kind
  mark-time e n v k = (byte_step (List Tag) s p (Past n) 60 (in_text low) (λ st. at Lt st low) (in_text (v + 1)) h e (λ st. refl) (rw (add-one v) k.1), omega (arith, k.1.bounds.0))

  pub mark-amiss : get_or s p 0 ≡ 60 → (q : ℕ) → TimeIs s (p + 1) low (Amiss q) → TextIs s p low (Wrong q)
  unfolding step kind
  mark-amiss e q k = byte_step (List Tag) s p (Bad q) 60 (in_text low) (λ st. at Lt st low) (in_text low) h e (λ st. refl) (r-bad (List Tag) s (p + 1) q (λ st. at Lt st low) (λ st. at Lt st low) (in_text low) k)

-- ---- text

pub plain-text : (s : List ℕ) (p n low : ℕ) → PlainIs s p n → Reads (List Tag) s p (Past n) (in_text low) (in_text low)
plain-text s p n low k = r-map Around (List Tag) (λ st. (st, low)) s p (Past n) texted texted k.0

module _ (s : List ℕ) (p i low least : ℕ) (k : Reads (List Tag) s p (Past i) (in_text low) (in_text least)) where
  pub text-then : (r : Part) → TextIs s i least r → TextIs s p low r
  text-then (On n up) l = r-then (List Tag) s p i (Past n) (in_text low) (in_text least) (in_text up) k l
  text-then (Wrong q) l = r-then (List Tag) s p i (Bad q) (in_text low) (in_text least) (in_text low) k (r-bad (List Tag) s i q (in_text least) (in_text least) (in_text low) l)

-- ---- content

module _ (s : List ℕ) (p left : ℕ) (ruby : Bool) (low : ℕ) where
  -- content behind what was read
  pub then-content : (n up : ℕ) (r : Part) → Reads (Room left ruby) s p (Past n) (texts left ruby low) (texts left ruby up) → ContentIs s n left ruby up r → ContentIs s p left ruby low r
  then-content n up (On m v) k c = (omega (arith, k.bounds.0, c.0), c.1, λ x. k.leads x ∙ c.2 x)
  then-content n up (Wrong q) k c = λ x. k.leads x ∙ c x

  pub content-more : (i n least up : ℕ) → Reads (Room left ruby) s p (Past i) (texts left ruby low) (texts left ruby least) → TextIs s i least (On n up)
      → Reads (Room left ruby) s p (Past n) (texts left ruby low) (texts left ruby up)
  content-more i n least up k l =
      r-then (Room left ruby) s p i (Past n) (texts left ruby low) (texts left ruby least) (texts left ruby up) k
      (r-map (List Tag) (Room left ruby) (λ x. x.0) s i (Past n) (in_text least) (in_text up) l)

  pub content-wrong : (q : ℕ) → TextIs s p low (Wrong q) → ContentIs s p left ruby low (Wrong q)
  content-wrong q k = λ x. k.leads x.0

  -- the end
  pub content-whole : p ≡ length s → left ≡ 16 → ContentIs s p left ruby low (On p low)
  content-whole h e = (omega arith, omega arith, λ x. go x.0 x.1)
    where
      go : (st : List Tag) → length st + left ≡ 16 → from s p (at Text st low) ≡ ended s p st low
      go [] z = from-yes s p (at Text [] low) (omega arith) refl
      go (t ∷ st) z = absurd (omega arith)

  pub content-early : p ≡ length s → (left ≡ 16 → ⊥) → ContentIs s p left ruby low (Wrong (length s))
  content-early h e = λ x. go x.0 x.1
    where
      go : (st : List Tag) → length st + left ≡ 16 → from s p (at Text st low) ≡ BadAt (length s)
      go [] z = absurd (e (omega arith))
      go (t ∷ st) z = from_end s p (at Text (t ∷ st) low) (omega arith) refl ∙ ap BadAt h

  -- behind <
  module _ (h : p < length s) (e : get_or s p 0 ≡ 60) where
    less : (st : List Tag) → from s p (at Text st low) ≡ from s (p + 1) (at Lt st low)
    unfolding step kind
    less st = from_step s p (at Text st low) (at Lt st low) h (rw e)

    pub content-cut : p + 1 ≡ length s → ContentIs s p left ruby low (Wrong (length s))
    content-cut l = λ x. less x.0 ∙ (from_end s (p + 1) (at Lt x.0 low) (omega arith) refl ∙ ap BadAt l)

    pub content-span : (n up : ℕ) → SpanIs s (p + 1) left ruby low (On n up) → Reads (Room left ruby) s p (Past n) (texts left ruby low) (texts left ruby up)
    content-span n up k = record { bounds = (omega (arith, k.bounds.0), k.bounds.1); leads = λ x. less x.0 ∙ k.leads x }

    pub content-torn : (q : ℕ) → SpanIs s (p + 1) left ruby low (Wrong q) → ContentIs s p left ruby low (Wrong q)
    content-torn q k = λ x. less x.0 ∙ k.leads x

    -- behind </
    module _ (l : p + 1 < length s) (b : get_or s (p + 1) 0 ≡ 47) where
      pub content-close : (left ≡ 16 → ⊥) → ContentIs s p left ruby low (On (p + 2) low)
      unfolding step
      content-close z = (omega arith, omega arith, λ x. less x.0 ∙ go x.0 x.1)
        where
          go : (st : List Tag) → length st + left ≡ 16 → from s (p + 1) (at Lt st low) ≡ ended s (p + 2) st low
          go [] q = absurd (z (omega arith))
          go (t ∷ st) q =
              let two : p + 1 + 1 ≡ p + 2 = omega arith in
              from_step s (p + 1) (at Lt (t ∷ st) low) (closes t (st, low)) l (rw b) ∙ ap (λ (n : ℕ). from s n (closes t (st, low))) two

      pub content-none : left ≡ 16 → ContentIs s p left ruby low (Wrong (p + 1))
      unfolding step
      content-none z = λ x. less x.0 ∙ go x.0 x.1
        where
          go : (st : List Tag) → length st + left ≡ 16 → from s (p + 1) (at Lt st low) ≡ BadAt (p + 1)
          go [] q = from-dead s (p + 1) (at Lt [] low) l (rw b)
          go (t ∷ st) q = absurd (omega arith)

-- the text ends before a tag could stand
pub content-short : (s : List ℕ) (p left : ℕ) (ruby : Bool) (low : ℕ) → p ≤ length s → length s - p < 2 → MarkIs s p false → (p ≡ length s → left ≡ 16 → ⊥)
    → ContentIs s p left ruby low (Wrong (length s))
content-short s p left ruby low a b m n =
    either (length s) p
    (λ h. let e : p ≡ length s = omega arith in content-early s p left ruby low e (n e))
    (λ h. content-cut s p left ruby low h (m.0 h) (omega arith))

-- ---- a span

pub span-full : (s : List ℕ) (p left : ℕ) (ruby : Bool) (low : ℕ) → p < length s → 57 < get_or s p 0 → left ≡ 0 → SpanIs s p left ruby low (Wrong p)
unfolding step
span-full s p left ruby low h b z =
    r-dead (Room left ruby) s p (less_at left ruby low) (less_at left ruby low) h
    (λ x. let w = x.1 in rw (ne_eqb (get_or s p 0) 47 (λ q. omega arith), lt-leb (get_or s p 0) 57 b, le-ltb (length x.0) 16 (omega arith)))

module _ (s : List ℕ) (p left : ℕ) (ruby : Bool) (low : ℕ) (z : (left ≡ 0 → ⊥)) where
  here : Room left ruby → Here ruby
  here x = (x.0, low, (let w = x.1 in omega (arith, z)), x.2)

  pub span-misnamed : (q : ℕ) → StartIs s p ruby (Misnamed q) → SpanIs s p left ruby low (Wrong q)
  unfolding here
  span-misnamed q k = r-map (Here ruby) (Room left ruby) here s p (Bad q) (lesses ruby) (lesses ruby) k

  module _ (n : ℕ) (t : Tag) (k : StartIs s p ruby (Found n t)) (rb : Bool) (e : rb ≡ is_ruby t) where
    inner : Room left ruby → Room (left - 1) rb
    inner x = (t ∷ x.0, (let w = x.1 in omega (arith, z)), sym e)

    opening : Reads (Room left ruby) s p (Past n) (less_at left ruby low) (λ x. at Text (t ∷ x.0) low)
    unfolding here
    opening = r-map (Here ruby) (Room left ruby) here s p (Past n) (lesses ruby) (λ h. at Text (t ∷ h.0) h.1) k

    pub span-torn : (q : ℕ) → ContentIs s n (left - 1) rb low (Wrong q) → SpanIs s p left ruby low (Wrong q)
    unfolding inner
    span-torn q c = record { bounds = tt; leads = λ x. opening.leads x ∙ c (inner x) }

    pub span-closed : (m up : ℕ) → ContentIs s n (left - 1) rb low (On m up) → (r : Spot) → Reads Around s m r (closes t) texted → SpanIs s p left ruby low (part_of r up)
    unfolding inner
    span-closed m up c r l = go r l
      where
        to : Reads (Room left ruby) s p (Past m) (less_at left ruby low) (λ x. closes t (x.0, up))
        to = record { bounds = (omega (arith, opening.bounds.0, c.0), c.1); leads = λ x. opening.leads x ∙ c.2 (inner x) }

        go : (r : Spot) → Reads Around s m r (closes t) texted → SpanIs s p left ruby low (part_of r up)
        go (Past v) l = r-then (Room left ruby) s p m (Past v) (less_at left ruby low) (λ x. closes t (x.0, up)) (texts left ruby up) to (r-map Around (Room left ruby) (λ x. (x.0, up)) s m (Past v) (closes t) texted l)
        go (Bad q) l = record { bounds = tt; leads = λ x. to.leads x ∙ l.leads (x.0, up) }

-- ---- the whole

pub whole-right : (s : List ℕ) (n up : ℕ) → ContentIs s 0 16 false 0 (On n up) → Right ≡ judge s
whole-right s n up c = sym (from-whole s ∙ c.2 ([], refl, refl))

pub whole-wrong : (s : List ℕ) (q : ℕ) → ContentIs s 0 16 false 0 (Wrong q) → BadAt q ≡ judge s
whole-wrong s q c = sym (from-whole s ∙ c ([], refl, refl))

-- ---- whether an escape or a timestamp begins

pub mark-timely : (s : List ℕ) (p : ℕ) → (get_or s p 0 ≡ 38 → ⊥) → MarkIs s p true → (get_or s p 0 ≡ 60) × Timely s (p + 1)
mark-timely s p n m = elim m.1 [ inl e ↦ absurd (n e) | inr k ↦ k ]

pub mark-last-is : (s : List ℕ) (p : ℕ) → p + 1 ≡ length s → get_or s p 0 < 256 → Marked s p → MarkIs s p (eqb (get_or s p 0) 38)
mark-last-is s p h f m =
    by-test (eqb (get_or s p 0) 38)
    (λ t. rw t (omega arith, inl (eqb-true (get_or s p 0) 38 t)))
    (λ t. rw t (λ x. marked-less s p x f m (λ e. never (sym t ∙ rw e)), λ x. absurd (omega arith)))

pub mark-time-is : (s : List ℕ) (p : ℕ) → p + 1 < length s → get_or s p 0 < 256 → Marked s p → (get_or s p 0 ≡ 38 → ⊥) → (get_or s (p + 1) 0 ≡ 47 → ⊥) → MarkIs s p (leb (get_or s (p + 1) 0) 57)
mark-time-is s p h f m a n =
    let e = marked-less s p (omega arith) f m a in
    by-test (leb (get_or s (p + 1) 0) 57)
    (λ t. rw t (omega arith, inr (e, (h, leb-true (get_or s (p + 1) 0) 57 t, n))))
    (λ t. rw t (λ x. e, λ x. inr (leb-false (get_or s (p + 1) 0) 57 t)))

-- what stands behind the < where text stops, and is no /, is above the digits
pub tag-letter : (s : List ℕ) (n : ℕ) → MarkIs s n false → n + 1 < length s → (get_or s (n + 1) 0 ≡ 47 → ⊥) → 57 < get_or s (n + 1) 0
tag-letter s n m h b = elim (m.1 h) [ inl e ↦ absurd (b e) | inr k ↦ k ]

-- ---- the payload rule before

module _ (s : List ℕ) (h : length s ≤ 4095) (j : Judged) (v : Verdict) where
  pub text-first : (r : Refusal) → j ≡ judged_by payload_text payload_begun s → v ≡ text_at 0 j → v ≡ Refused r → v ≡ judge_profile s
  unfolding judge_profile
  text-first r e d q = rw (le-ltb 4095 (length s) h, sym e, sym d, q)

  pub tags-last : (k : Judged) (w : Verdict) → j ≡ judged_by payload_text payload_begun s → v ≡ text_at 0 j → v ≡ Fine → k ≡ judge s → w ≡ outside k → w ≡ judge_profile s
  unfolding judge_profile
  tags-last k w e d q z y = rw (le-ltb 4095 (length s) h, sym e, sym d, q, sym z) y
