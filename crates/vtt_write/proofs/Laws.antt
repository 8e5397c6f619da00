-- Laws of what is written: lengths, and cues one behind the other.
use Prim.Native.Nat.{ℕ, zero, suc, ◌+◌, ◌-◌, ◌/◌, ◌<◌, ◌≤◌}
use mathlib.Core.Path.{◌≡◌, refl, sym, ap, ◌∙◌}
use mathlib.Core.Logic.{by_cases}
use mathlib.Core.List.{List, [], ◌∷◌, ◌++◌, map, map-append, append_assoc}
use native.Mathlib.Omega.{arith}
use native.Mathlib.Decide.{dec_lt}
use native.Mathlib.Nat.{zero-add}
use native.Mathlib.Numerals.{add-one}
use lib.ListN.{length, take, drop, set, length-append}
use lib.Seq.{sets}
use Rattle.base.specs.Over.{over, wrote}
use Rattle.base.proofs.Over.{wrote-nil, wrote-over, sets-wrote, length-wrote, in_two, in_three, then-byte, byte-then}
use Rattle.utf8.specs.Strings.{LF}
use Rattle.utf8.specs.Forbidden.{arrow}
use Rattle.timeline.specs.Lists.{listed}
use Rattle.records.specs.Records.{count, text_offset, settings_offset, payload_offset, texts_end, identifier_length, settings_length, payload_length, start_ms, end_ms}
use Rattle.cues.specs.Caption.{Caption, caption}
use Rattle.cues.specs.Judgement.{caption_of}
use Rattle.cues.specs.List.{Sound, captions_of}
use Rattle.records.proofs.Laws.{parts_are, text-lengths}
use Rattle.timestamps.specs.Timestamps.{time_text}
use Rattle.timestamps.proofs.Written.{length-time}
use Rattle.vtt_lines.specs.Lines.{Line, joined}
use Rattle.vtt_write.specs.Writing.{line_text, spaced, times_text, timing_text, cue_text, file_of, file_bytes}
use Rattle.vtt_write.specs.Steps.{line_size, cue_size, gap, gap_size, cues_to, size_to}

-- ---- a text with its line end or its space

pub line-none : (s : List ℕ) → length s ≡ 0 → (line_text s ≡ []) × (spaced s ≡ [])
line-none [] h = (refl, refl)
line-none (b ∷ s) h = absurd (omega arith)

pub line-some : (s : List ℕ) → (length s ≡ 0 → ⊥) → (line_text s ≡ s ++ LF ∷ []) × (spaced s ≡ 0x20 ∷ s)
line-some [] h = absurd (h refl)
line-some (b ∷ s) h = (refl, refl)

pub size_none : (n : ℕ) → n ≡ 0 → line_size n ≡ 0
size_none n h = ap line_size h

pub size-some : (n : ℕ) → (n ≡ 0 → ⊥) → line_size n ≡ n + 1
size-some zero h = absurd (h refl)
size-some (suc n) h = omega arith

pub length-line : (s : List ℕ) → length (line_text s) ≡ line_size (length s)
length-line [] = refl
length-line (b ∷ s) = length-append (b ∷ s) (LF ∷ []) ∙ omega arith

pub length-spaced : (s : List ℕ) → length (spaced s) ≡ line_size (length s)
length-spaced [] = refl
length-spaced (b ∷ s) = refl

-- ---- as they are written

pub nothing_written : (d s : List ℕ) (at : ℕ) → length s ≡ 0 → (at ≡ at + line_size (length s)) × (d ≡ wrote d at (line_text s)) × (d ≡ wrote d at (spaced s))
nothing_written d s at h =
    let n = line-none s h in
    (omega (arith, size_none (length s) h), wrote-nil d at ∙ ap (wrote d at) (sym n.0), wrote-nil d at ∙ ap (wrote d at) (sym n.1))

pub line-written : (d d₁ s : List ℕ) (at p : ℕ) → (length s ≡ 0 → ⊥) → p ≡ at + length s → d₁ ≡ wrote d at s → at + line_size (length s) ≤ length d
    → (p + 1 ≡ at + line_size (length s)) × (set d₁ p LF ≡ wrote d at (line_text s))
line-written d d₁ s at p h q e l =
    let n = size-some (length s) h in
    (omega arith, then-byte d d₁ s at p LF e q (omega arith) ∙ ap (wrote d at) (sym (line-some s h).0))

pub spaced-written : (d d₁ s : List ℕ) (at p : ℕ) → (length s ≡ 0 → ⊥) → p ≡ at + 1 + length s → d₁ ≡ wrote (set d at 0x20) (at + 1) s → at + line_size (length s) ≤ length d
    → (p ≡ at + line_size (length s)) × (d₁ ≡ wrote d at (spaced s))
spaced-written d d₁ s at p h q e l =
    let n = size-some (length s) h in
    (omega arith, byte-then d d₁ s at (at + 1) 0x20 e refl (omega arith) ∙ ap (wrote d at) (sym (line-some s h).1))

-- ---- a cue

pub length-times : (a b : ℕ) → length (times_text a b) ≡ 29
unfolding times_text
length-times a b = simp length-append

times-some : (a b : ℕ) (s : List ℕ) → length (times_text a b ++ s) ≡ 0 → ⊥
times-some a b s h = omega (arith, length-append (times_text a b) s, length-times a b)

pub timing-line : (c : Caption) → line_text (timing_text c) ≡ times_text c.start c.end ++ spaced c.settings ++ LF ∷ []
unfolding timing_text
timing-line c = (line-some (times_text c.start c.end ++ spaced c.settings) (times-some c.start c.end (spaced c.settings))).0

pub length-timing : (a b : ℕ) (s : List ℕ) → length (times_text a b ++ spaced s ++ LF ∷ []) ≡ 30 + line_size (length s)
length-timing a b s =
    length-append (times_text a b ++ spaced s) (LF ∷ [])
    ∙ omega (arith, length-append (times_text a b) (spaced s), length-times a b, length-spaced s)

pub length-cue : (c : Caption) → length (cue_text c) ≡ cue_size (length c.identifier) (length c.settings) (length c.payload)
unfolding cue_text cue_size
length-cue c =
    length-append (line_text c.identifier) (line_text (timing_text c) ++ line_text c.payload)
    ∙ omega (arith, length-append (line_text (timing_text c)) (line_text c.payload), length-line c.identifier, length-line c.payload, ap length (timing-line c), length-timing c.start c.end c.settings)

-- ` --> ` behind the first time
arrow-sets : (d : List ℕ) (at : ℕ) → set (set (set (set (set d (at + 12) 0x20) (at + 13) 0x2D) (at + 14) 0x2D) (at + 15) 0x3E) (at + 16) 0x20 ≡ sets d (at + 12) (0x20 ∷ arrow ++ 0x20 ∷ [])
arrow-sets d at =
    let a : at + 13 ≡ suc (at + 12) = omega arith in
    let b : at + 14 ≡ suc (suc (at + 12)) = omega arith in
    let c : at + 15 ≡ suc (suc (suc (at + 12))) = omega arith in
    let e : at + 16 ≡ suc (suc (suc (suc (at + 12)))) = omega arith in
    rw (a, b, c, e)

pub times-written : (d d₁ d₂ : List ℕ) (at a b : ℕ) → at + 29 ≤ length d → d₁ ≡ wrote d at (time_text a)
    → d₂ ≡ wrote (set (set (set (set (set d₁ (at + 12) 0x20) (at + 13) 0x2D) (at + 14) 0x2D) (at + 15) 0x3E) (at + 16) 0x20) (at + 17) (time_text b) → d₂ ≡ wrote d at (times_text a b)
unfolding times_text
times-written d d₁ d₂ at a b h e f =
    let l : length d₁ ≡ length d = ap length e ∙ length-wrote d at (time_text a) (omega (arith, length-time a)) in
    let t : List ℕ = 0x20 ∷ arrow ++ 0x20 ∷ [] in
    let m = in_two d d₁ (sets d₁ (at + 12) t) (time_text a) t at (at + 12) e (sets-wrote d₁ (at + 12) t (omega arith)) (omega (arith, length-time a)) (omega arith) in
    in_two d (sets d₁ (at + 12) t) d₂ (time_text a ++ t) (time_text b) at (at + 17) m (f ∙ ap (λ (x : List ℕ). wrote x (at + 17) (time_text b)) (arrow-sets d₁ at))
    (omega (arith, length-append (time_text a) t, length-time a)) (omega arith)

pub timing-written : (d d₁ d₂ s : List ℕ) (at p a b : ℕ) → at + (30 + line_size (length s)) ≤ length d → d₁ ≡ wrote d at (times_text a b) → d₂ ≡ wrote d₁ (at + 29) (spaced s)
    → p ≡ at + 29 + line_size (length s) → (p + 1 ≡ at + (30 + line_size (length s))) × (set d₂ p LF ≡ wrote d at (times_text a b ++ spaced s ++ LF ∷ []))
timing-written d d₁ d₂ s at p a b h e f q =
    let m = in_two d d₁ d₂ (times_text a b) (spaced s) at (at + 29) e f (omega (arith, length-times a b)) (omega arith) in
    (omega arith, then-byte d d₂ (times_text a b ++ spaced s) at p LF m (omega (arith, length-append (times_text a b) (spaced s), length-times a b, length-spaced s)) (omega arith))

pub cue-written : (d d₁ d₂ d₃ : List ℕ) (c : Caption) (at p q : ℕ) → at + cue_size (length c.identifier) (length c.settings) (length c.payload) ≤ length d
    → d₁ ≡ wrote d at (line_text c.identifier) → d₂ ≡ wrote d₁ p (times_text c.start c.end ++ spaced c.settings ++ LF ∷ []) → d₃ ≡ wrote d₂ q (line_text c.payload)
    → p ≡ at + line_size (length c.identifier) → q ≡ p + (30 + line_size (length c.settings)) → d₃ ≡ wrote d at (cue_text c)
unfolding cue_text cue_size
cue-written d d₁ d₂ d₃ c at p q h e f g r s =
    let l = length-timing c.start c.end c.settings in
    let n = length-line c.identifier in
    in_three d d₁ d₂ d₃ (line_text c.identifier) _ (line_text c.payload) at p q e f g (omega arith) (omega arith) (omega arith)
    ∙ ap (λ (x : List ℕ). wrote d at (line_text c.identifier ++ (x ++ line_text c.payload))) (sym (timing-line c))

-- ---- cues one behind the other

join_last : (ls : List Line) (k l : Line) → joined (ls ++ k ∷ [] ++ l ∷ []) ≡ joined (ls ++ k ∷ []) ++ LF ∷ l
unfolding joined
join_last [] k l = refl
join_last (a ∷ []) k l = ap (λ (x : List ℕ). a ++ LF ∷ x) (join_last [] k l) ∙ sym (append_assoc a (LF ∷ k) (LF ∷ l))
join_last (a ∷ b ∷ ls) k l = ap (λ (x : List ℕ). a ++ LF ∷ x) (join_last (b ∷ ls) k l) ∙ sym (append_assoc a (LF ∷ joined (b ∷ ls ++ k ∷ [])) (LF ∷ l))

mapped : (f : ℕ → Caption) (k : ℕ) → map cue_text (listed f (suc k)) ≡ map cue_text (listed f k) ++ cue_text (f k) ∷ []
unfolding listed
mapped f k = map-append cue_text (listed f k) (f k ∷ [])

pub cues-none : (recs pool : List ℕ) → cues_to recs pool 0 ≡ []
unfolding cues_to listed joined
cues-none recs pool = refl

pub cues-more : (recs pool : List ℕ) (k : ℕ) → cues_to recs pool (suc k) ≡ cues_to recs pool k ++ (gap k ++ cue_text (caption_of recs pool k))
unfolding cues_to joined listed
cues-more recs pool zero = refl
cues-more recs pool (suc k) =
    let f = caption_of recs pool in
    ap joined (mapped f (suc k) ∙ ap (λ (x : List Line). x ++ cue_text (f (suc k)) ∷ []) (mapped f k))
    ∙ join_last (map cue_text (listed f k)) (cue_text (f k)) (cue_text (f (suc k)))
    ∙ ap (λ (x : List Line). joined x ++ LF ∷ cue_text (f (suc k))) (sym (mapped f k))

-- a record's cue has the length that its fields say
pub length-pooled : (recs pool : List ℕ) (i : ℕ) → Sound 1000 359999999 recs pool → i < count recs
    → length (cue_text (caption_of recs pool i)) ≡ cue_size (identifier_length recs i) (settings_length recs i) (payload_length recs i)
unfolding caption_of
length-pooled recs pool i s h =
    let l = text-lengths recs pool i (s.records i h).inside in
    length-cue (caption_of recs pool i) ∙ rw (l.0, l.1, l.2)

pub length-gap : (k : ℕ) → length (gap k) ≡ gap_size k
length-gap zero = refl
length-gap (suc k) = refl

pub length-cues : (recs pool : List ℕ) → Sound 1000 359999999 recs pool → (k : ℕ) → k ≤ count recs → length (cues_to recs pool k) ≡ size_to recs k
unfolding size_to
length-cues recs pool s zero h = ap length (cues-none recs pool)
length-cues recs pool s (suc k) h =
    ap length (cues-more recs pool k)
    ∙ length-append (cues_to recs pool k) (gap k ++ cue_text (caption_of recs pool k))
    ∙ omega (arith, length-append (gap k) (cue_text (caption_of recs pool k)), length-gap k, length-pooled recs pool k s (omega arith), length-cues recs pool s k (omega arith))

-- ---- the lengths that are added

pub cue-first : (n i s p a b e : ℕ) → a ≡ line_size i → b ≡ line_size s → e ≡ line_size p → n ≡ 0 → a + (30 + b) + e ≡ gap_size n + cue_size i s p
unfolding cue_size
cue-first n i s p a b e x y z h = rw (h, x, y, z) (sym (zero-add (line_size i + (30 + line_size s) + line_size p)))

pub cue-later : (n i s p a b e : ℕ) → a ≡ line_size i → b ≡ line_size s → e ≡ line_size p → (n ≡ 0 → ⊥) → 1 + (a + (30 + b) + e) ≡ gap_size n + cue_size i s p
unfolding cue_size
cue-later zero i s p a b e x y z h = absurd (h refl)
cue-later (suc n) i s p a b e x y z h = rw (x, y, z)

pub size-start : (recs : List ℕ) → 0 ≡ size_to recs 0
unfolding size_to
size-start recs = refl

pub size-more : (recs : List ℕ) (k a b : ℕ) → a ≡ size_to recs k → b ≡ gap_size k + cue_size (identifier_length recs k) (settings_length recs k) (payload_length recs k) → a + b ≡ size_to recs (k + 1)
unfolding size_to
size-more recs k a b e f = rw (add-one k, e, f)

pub whole-count : (recs : List ℕ) → length recs / 24 ≡ count recs
unfolding count
whole-count recs = refl

pub size-within : (recs : List ℕ) (i n : ℕ) → i < n → size_to recs i + (gap_size i + cue_size (identifier_length recs i) (settings_length recs i) (payload_length recs i)) ≤ size_to recs n
unfolding size_to
size-within recs i zero h = absurd (omega arith)
size-within recs i (suc n) h = by_cases (dec_lt i n) (λ l. omega (arith, size-within recs i n l)) (λ l. same (omega arith))
  where
    same : i ≡ n → size_to recs i + (gap_size i + cue_size (identifier_length recs i) (settings_length recs i) (payload_length recs i)) ≤ size_to recs (suc n)
    same e = rw e (omega arith)

-- ---- a record's cue

-- the parts of the pool are its texts
module _ (recs pool : List ℕ) (i a b e l : ℕ) (p : a ≡ text_offset recs i) (q : b ≡ settings_offset recs i) (r : e ≡ payload_offset recs i) (s : l ≡ texts_end recs i) where
  pub pooled-is : (start end : ℕ) → start ≡ start_ms recs i → end ≡ end_ms recs i
      → caption start end (take (b - a) (drop a pool)) (take (e - b) (drop b pool)) (take (l - e) (drop e pool)) ≡ caption_of recs pool i
  unfolding caption_of
  pooled-is start end t u = let w = parts_are recs pool i a b e l p q r s in rw (w.0, w.1, w.2, t, u)

  pub pooled-size : Sound 1000 359999999 recs pool → i < count recs
      → cue_size (length (take (b - a) (drop a pool))) (length (take (e - b) (drop b pool))) (length (take (l - e) (drop e pool))) ≡ cue_size (identifier_length recs i) (settings_length recs i) (payload_length recs i)
  unfolding caption_of
  pooled-size d h =
      let t = text-lengths recs pool i (d.records i h).inside in
      let x = pooled-is (start_ms recs i) (end_ms recs i) refl refl in
      ap (λ (c : Caption). cue_size (length c.identifier) (length c.settings) (length c.payload)) x ∙ rw (t.0, t.1, t.2)

pub first-written : (d d₁ a : List ℕ) (at p i n : ℕ) → i ≡ 0 → p ≡ at + n → d₁ ≡ wrote d at a → (p ≡ at + (gap_size i + n)) × (d₁ ≡ wrote d at (gap i ++ a))
first-written d d₁ a at p zero n h q e = (omega arith, e)
first-written d d₁ a at p (suc i) n h q e = absurd (omega arith)

pub next-written : (d d₁ a : List ℕ) (at p i n : ℕ) → (i ≡ 0 → ⊥) → p ≡ at + 1 + n → at + 1 ≤ length d → d₁ ≡ wrote (set d at LF) (at + 1) a → (p ≡ at + (gap_size i + n)) × (d₁ ≡ wrote d at (gap i ++ a))
next-written d d₁ a at p zero n h q l e = absurd (h refl)
next-written d d₁ a at p (suc i) n h q l e = (omega arith, byte-then d d₁ a at (at + 1) LF e refl l)

pub gap-later : (i : ℕ) → (i ≡ 0 → ⊥) → gap_size i ≡ 1
gap-later zero h = absurd (h refl)
gap-later (suc i) h = refl

-- ---- all cues

pub cues-start : (d recs pool : List ℕ) (at : ℕ) → d ≡ wrote d at (cues_to recs pool 0)
cues-start d recs pool at = wrote-nil d at ∙ ap (wrote d at) (sym (cues-none recs pool))

pub cues-on : (d d₁ d₂ recs pool : List ℕ) (at p i : ℕ) → Sound 1000 359999999 recs pool → i < count recs → at + size_to recs (count recs) ≤ length d → p ≡ at + size_to recs i
    → d₁ ≡ wrote d at (cues_to recs pool i) → d₂ ≡ wrote d₁ p (gap i ++ cue_text (caption_of recs pool i)) → d₂ ≡ wrote d at (cues_to recs pool (i + 1))
cues-on d d₁ d₂ recs pool at p i s h l q e f =
    let n = length-cues recs pool s i (omega arith) in
    in_two d d₁ d₂ (cues_to recs pool i) (gap i ++ cue_text (caption_of recs pool i)) at p e f (omega arith) (omega (arith, size-within recs i (count recs) h))
    ∙ ap (wrote d at) (sym (ap (cues_to recs pool) (add-one i) ∙ cues-more recs pool i))

-- ---- the file

-- its parts, with all cues
file-is : (c recs pool : List ℕ) → file_bytes c recs pool ≡ c ++ LF ∷ [] ++ LF ∷ [] ++ cues_to recs pool (count recs)
unfolding file_bytes file_of captions_of cues_to
file-is c recs pool = sym (append_assoc (c ++ LF ∷ []) (LF ∷ []) (cues_to recs pool (count recs)) ∙ append_assoc c (LF ∷ []) (LF ∷ cues_to recs pool (count recs)))

pub length-file : (c recs pool : List ℕ) → Sound 1000 359999999 recs pool → length (file_bytes c recs pool) ≡ length c + 2 + size_to recs (count recs)
length-file c recs pool s =
    let t = cues_to recs pool (count recs) in
    ap length (file-is c recs pool) ∙ simp length-append (omega (arith, length-cues recs pool s (count recs) (omega arith)))

pub file-written : (d d₁ d₂ c recs pool : List ℕ) (n : ℕ) → n ≡ 0 + length c → n + 2 ≤ length d → d₁ ≡ wrote d 0 c
    → d₂ ≡ wrote (set (set d₁ n LF) (n + 1) LF) (n + 2) (cues_to recs pool (count recs)) → d₂ ≡ over (file_bytes c recs pool) d
file-written d d₁ d₂ c recs pool n q h e f =
    let one = then-byte d d₁ c 0 n LF e q (omega arith) in
    let two = then-byte d (set d₁ n LF) (c ++ LF ∷ []) 0 (n + 1) LF one (omega (arith, length-append c (LF ∷ []))) (omega arith) in
    in_two d (set (set d₁ n LF) (n + 1) LF) d₂ (c ++ LF ∷ [] ++ LF ∷ []) (cues_to recs pool (count recs)) 0 (n + 2) two f
    (omega (arith, length-append (c ++ LF ∷ []) (LF ∷ []), length-append c (LF ∷ []))) h
    ∙ wrote-over d _ ∙ ap (λ (x : List ℕ). over x d) (sym (file-is c recs pool))
