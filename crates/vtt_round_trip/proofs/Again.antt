-- The cues that are read of a file keep the premises behind `WEBVTT`, and their records and pool come back.
use Prim.Native.Nat.{ℕ, suc, ◌<◌, ◌≤◌}
use mathlib.Core.Path.{◌≡◌, refl, ap, ◌∙◌, subst, subst⁻¹}
use mathlib.Core.Logic.{⊎_elim}
use mathlib.Core.Bool.{Bool, true, false, not}
use mathlib.Core.Option.{Option, none, some}
use mathlib.Core.List.Memᴰ
use mathlib.Core.List.{List, [], ◌∷◌}
use native.Mathlib.Omega.{arith}
use borrow.Author.Tests.{not-true}
use lib.Dec.{eqb}
use lib.ListN.{length, get_or}
use lib.Seq.{ext_get_or}
use Rattle.base.specs.Choice.{pick, both, any_of, within}
use Rattle.base.proofs.Choice.{by-test}
use Rattle.utf8.specs.Strings.{CR, LF, starts_with, starts_with_any, has_any, ends_in, ends_line}
use Rattle.utf8.specs.Utf8.{rows, follow_in, follow, judge, utf8}
use Rattle.text.specs.Rules.{webvtt, configuration_text}
use Rattle.text.specs.Beginnings.{configuration_begun}
use Rattle.timeline.proofs.Listing.{length-listed, listed_at}
use Rattle.verdict.proofs.Judgement.{text-right}
use Rattle.records.specs.Records.{count}
use Rattle.cues.specs.Caption.{Caption, caption}
use Rattle.cues.specs.List.{captions_of}
use Rattle.cues.specs.Judgement.{caption_of}
use Rattle.cues.proofs.Sound.{sound-fine}
use Rattle.records_write.specs.Records.{records_of, pool_of}
use Rattle.timestamps.specs.Timestamps.{All, behind}
use Rattle.timestamps.proofs.Runs.{all_append}
use Rattle.vtt_lines.specs.Lines.{Line, onto, crlf, line_end, lines_of, joined, filled, Block, blocks_from, holds_arrow, some_arrow}
use Rattle.vtt_lines.proofs.Lines.{no_cr, lines_other}
use Rattle.vtt_timing.specs.Timing.{blank, edge, begins, unless_edge, trimmed_end, trimmed, Timing, timing_of}
use Rattle.vtt_timing.proofs.Grammar.{timing-means}
use Rattle.vtt_blocks.specs.Kinds.{Kind, cue, untimed, note, style, other, NOTE, STYLE, REGION, opens, names, timed, plain_kind, later_kind, kind_of}
use Rattle.vtt_blocks.proofs.Blocks.{block}
use Rattle.vtt_read.specs.Reading.{with_cue, cues_in, unmarked, cues_of_lines, numbered_from, file_cues, file_records, file_pool}
use Rattle.vtt_write.specs.FileWritten.{Done}
use Rattle.vtt_write.specs.Writing.{file_bytes, write_room}
use Rattle.vtt_laws.proofs.Sound.{Sounds, file-sound}
use Rattle.vtt_laws.proofs.Records.{nothing, start-at, end-at, identifier-at, settings-at, payload-at, records-many, records-sound}
use Rattle.vtt_round_trip.specs.Premises.{Without, ends, Header, Plain, Each, Premises}
use Rattle.vtt_round_trip.specs.Statements.{ReadIsPlain, ListsComeBack}
use Rattle.vtt_round_trip.proofs.Records.{cues-come-back}

-- ---- lines hold no CR

abbrev not_cr : ℕ → Bool
not_cr b = not (eqb b CR)

-- none of the lines holds a CR
abbrev CRFree : List Line → Type 0
CRFree [] = Unit {0}
CRFree (l ∷ ls) = All not_cr l × CRFree ls

free-onto : (b : ℕ) (ls : List Line) → not_cr b ≡ true → CRFree ls → CRFree (onto b ls)
free-onto b [] h k = ((h, tt), tt)
free-onto b (l ∷ ls) h k = ((h, k.0), k.1)

free-end : (x y : Bool) (b : ℕ) (ls : List Line) → y ≡ true → CRFree ls → CRFree (pick x ls (pick y ([] ∷ ls) (onto b ls)))
free-end true y b ls h k = k
free-end false y b ls h k = rw h (tt, k)

lines-free : (s : List ℕ) → CRFree (lines_of s)
unfolding lines_of
lines-free [] = tt
lines-free (b ∷ s) =
    let r = lines-free s in
    by-test (line_end b)
    (λ e. free-end (crlf b s) (line_end b) b (lines_of s) e r)
    (λ e. subst⁻¹ CRFree (lines_other b s e) (free-onto b (lines_of s) (rw (no_cr b e)) r))

filled-free : (ls : List Line) → CRFree ls → CRFree (filled ls)
unfolding filled
filled-free [] h = tt
filled-free ([] ∷ ls) h = tt
filled-free ((b ∷ l) ∷ ls) h = (h.0, filled-free ls h.1)

joined_free : (ls : List Line) → CRFree ls → All not_cr (joined ls)
unfolding joined
joined_free [] h = tt
joined_free (l ∷ []) h = h.0
joined_free (l ∷ m ∷ ls) h = all_append not_cr l (LF ∷ joined (m ∷ ls)) h.0 (refl, joined_free (m ∷ ls) h.1)

without : (s : List ℕ) → All not_cr s → Without (CR ∷ []) s
unfolding has_any starts_with_any starts_with
without [] h = refl
without (b ∷ s) h = rw (not-true (eqb b CR) h.0) (without s h.1)

-- ---- trimmed settings

behind-begins : (p : ℕ → Bool) (s : List ℕ) → begins p (behind p s) ≡ false
unfolding behind
behind-begins p [] = refl
behind-begins p (b ∷ s) = by-test (p b) (λ e. rw e (behind-begins p s)) (λ e. rw e e)

unless-begins : (b : ℕ) (s : List ℕ) → edge b ≡ false → begins edge (unless_edge b s) ≡ false
unless-begins b [] h = rw h h
unless-begins b (c ∷ s) h = h

trim-begins : (s : List ℕ) → begins edge s ≡ false → begins edge (trimmed_end s) ≡ false
unfolding trimmed_end
trim-begins [] h = refl
trim-begins (b ∷ s) h = unless-begins b (trimmed_end s) h

unless-ends : (b : ℕ) (s : List ℕ) → ends edge s ≡ false → ends edge (unless_edge b s) ≡ false
unfolding ends
unless-ends b [] h = by-test (edge b) (λ e. rw e) (λ e. rw e e)
unless-ends b (c ∷ s) h = h

trim-ends : (s : List ℕ) → ends edge (trimmed_end s) ≡ false
unfolding trimmed_end ends
trim-ends [] = refl
trim-ends (b ∷ s) = unless-ends b (trimmed_end s) (trim-ends s)

-- they neither begin nor end with an edge
abbrev Trimmed : List ℕ → Type 0
Trimmed s = (begins edge s ≡ false) × (ends edge s ≡ false)

trimmed-so : (s : List ℕ) → Trimmed (trimmed s)
unfolding trimmed
trimmed-so s = (trim-begins (behind edge s) (behind-begins edge s), trim-ends (behind edge s))

settings-so : (l : Line) (t : Timing) → timing_of l ≡ some t → Trimmed t.settings
settings-so l t e = let w = (timing-means l t).0 e in subst Trimmed w.settings_is (trimmed-so w.rest)

-- ---- blocks

-- a cue, if it is one, is plain
abbrev PlainIn : Kind → Type 0
PlainIn (cue t c) = Plain c
PlainIn (untimed t) = Unit {0}
PlainIn note = Unit {0}
PlainIn style = Unit {0}
PlainIn other = Unit {0}

timed-plain : (n : ℕ) (i l : Line) (o : Option Timing) (ls : List Line) → timing_of l ≡ o → CRFree ls → PlainIn (timed n i o ls)
timed-plain n i l none ls e h = tt
timed-plain n i l (some t) ls e h =
    let w = settings-so l t e in
    record { no_cr = without (joined ls) (joined_free ls h); settings_begin = w.0; settings_end = w.1 }

no-cue : (x y : Bool) → PlainIn (pick x style (pick y note other))
no-cue true y = tt
no-cue false true = tt
no-cue false false = tt

plain-plain : (l : Line) (ls : List Line) → PlainIn (plain_kind l ls)
unfolding plain_kind
plain-plain l ls = no-cue (any_of (names STYLE l) (names REGION l)) (both (opens NOTE l) (not (some_arrow (l ∷ ls))))

-- either of two kinds
either-plain : (x : Bool) (a b : Kind) → PlainIn a → PlainIn b → PlainIn (pick x a b)
either-plain true a b h k = h
either-plain false a b h k = k

later-plain : (n : ℕ) (l : Line) (ls : List Line) → CRFree ls → PlainIn (later_kind n l ls)
unfolding later_kind
later-plain n l [] h = plain-plain l []
later-plain n l (m ∷ ls) h =
    either-plain (holds_arrow m) (timed (suc n) l (timing_of m) ls) (plain_kind l (m ∷ ls)) (timed-plain (suc n) l m (timing_of m) ls refl h.1) (plain-plain l (m ∷ ls))

kind-plain : (b : Block) → CRFree b.rest → PlainIn (kind_of b)
unfolding kind_of
kind-plain b h =
    either-plain (holds_arrow b.first) (timed b.line [] (timing_of b.first) b.rest) (later_kind b.line b.first b.rest)
    (timed-plain b.line [] b.first (timing_of b.first) b.rest refl h) (later-plain b.line b.first b.rest h)

with-plain : (K : Kind) (cs : List Caption) → PlainIn K → Each Plain cs → Each Plain (with_cue K cs)
with-plain (cue t c) cs h k = λ d m. ⊎_elim (λ q. subst⁻¹ Plain q h) (λ q. k d q) (Memᴰ.cases_cons m)
with-plain (untimed t) cs h k = k
with-plain note cs h k = k
with-plain style cs h k = k
with-plain other cs h k = k

blocks-plain : (inside : Bool) (n : ℕ) (ls : List Line) → CRFree ls → Each Plain (cues_in (blocks_from inside n ls))
unfolding blocks_from cues_in
blocks-plain inside n [] h = λ c m. absurd (Memᴰ.not-nil m)
blocks-plain inside n ([] ∷ ls) h = blocks-plain false (suc n) ls h.1
blocks-plain true n ((b ∷ l) ∷ ls) h = blocks-plain true (suc n) ls h.1
blocks-plain false n ((b ∷ l) ∷ ls) h =
    let f = block n (b ∷ l) (filled ls) in
    with-plain (kind_of f) (cues_in (blocks_from true (suc n) ls)) (kind-plain f (filled-free ls h.1)) (blocks-plain true (suc n) ls h.1)

-- ---- the file

lines-plain : (ls : List Line) → CRFree ls → Each Plain (cues_of_lines ls)
unfolding cues_of_lines
lines-plain [] h = λ c m. absurd (Memᴰ.not-nil m)
lines-plain (l ∷ ls) h = blocks-plain true 2 ls h.1

-- `WEBVTT` alone
webvtt-header : Header webvtt
unfolding webvtt lines_of filled starts_with starts_with_any has_any opens blank
webvtt-header = record { no_empty = refl; no_arrow = refl; first_taken = refl }

webvtt-right : configuration_text webvtt ≡ true
unfolding configuration_text webvtt starts_with ends_in ends_line within rows follow_in follow judge utf8
webvtt-right = refl

pub read-is-plain : ReadIsPlain
unfolding file_cues
read-is-plain file = record { header = webvtt-header; plain = lines-plain (lines_of (unmarked file)) (lines-free (unmarked file)) }

-- ---- the list

same-caption : (a b : ℕ) (i s p : List ℕ) (c : Caption) → a ≡ c.start → b ≡ c.end → i ≡ c.identifier → s ≡ c.settings → p ≡ c.payload → caption a b i s p ≡ c
same-caption a b i s p c h k l m n = rw (h, k, l, m, n)

module _ (cs : List Caption) (sound : Sounds 0 cs) (few : length cs ≤ 1024) where
  abbrev records : List ℕ
  records = records_of 1000 (numbered_from 0 cs)

  abbrev pool : List ℕ
  pool = pool_of (numbered_from 0 cs)

  as_many : length (captions_of records pool) ≡ length cs
  unfolding captions_of
  as_many = length-listed (caption_of records pool) (count records) ∙ records-many cs sound few

  caption-is : (i : ℕ) → i < length cs → get_or (captions_of records pool) i nothing ≡ get_or cs i nothing
  unfolding captions_of caption_of
  caption-is i h =
      let l : i < count records = omega (arith, records-many cs sound few) in
      listed_at (caption_of records pool) (count records) i nothing l
      ∙ same-caption _ _ _ _ _ (get_or cs i nothing) (start-at cs sound few i h) (end-at cs sound few i h) (identifier-at cs sound few i h)
      (settings-at cs sound few i h) (payload-at cs sound few i h)

  -- the captions of the records are those that were written
  captions-are : captions_of records pool ≡ cs
  captions-are = ext_get_or nothing (captions_of records pool) cs as_many (λ i h. caption-is i (omega (arith, as_many)))

  -- and writing finds no fault in them
  list_written : (n : ℕ) × (write_room webvtt records pool ≡ Done n)
  unfolding write_room
  list_written =
      let n = length (file_bytes webvtt records pool) in
      (n, rw (text-right configuration_text configuration_begun 0 webvtt webvtt-right, sound-fine 1000 359999999 records pool (records-sound cs sound few)))

pub lists-come-back : ListsComeBack
unfolding file_records file_pool
lists-come-back file e =
    let cs = file_cues file in
    let w = file-sound file e in
    let r = records_of 1000 (numbered_from 0 cs) in
    let p = pool_of (numbered_from 0 cs) in
    let same = captions-are cs w.0 w.1 in
    let d = list_written cs w.0 w.1 in
    let back = cues-come-back webvtt r p d.0 d.1 (subst⁻¹ (Premises webvtt) same (read-is-plain file)) in
    let q : file_cues (file_bytes webvtt r p) ≡ cs = back.1 ∙ same in
    (d.0, d.1, back.0, q, ap (λ (x : List Caption). records_of 1000 (numbered_from 0 x)) q, ap (λ (x : List Caption). pool_of (numbered_from 0 x)) q)
