-- Captions written as records with IDs from 0: the records give them back, and packing finds no fault in them.
use Prim.Native.Nat.{ℕ, zero, suc, ◌+◌, ◌*◌, ◌<◌, ◌≤◌}
use mathlib.Core.Path.{◌≡◌, refl, sym, ap, ◌∙◌, subst, subst⁻¹}
use mathlib.Core.Option.{Option, some}
use mathlib.Core.List.{List, [], ◌∷◌}
use native.Mathlib.Omega.{arith}
use native.Mathlib.Nat.{zero-add, add-zero, not-suc-le-zero}
use lib.ListN.{length, get_or}
use Rattle.times.specs.Times.{tick, back}
use Rattle.times.proofs.Laws.{back-tick}
use Rattle.timeline.specs.Cues.{Cue}
use Rattle.timeline.specs.Unpacking.{no_cue}
use Rattle.records.specs.Records.{count, source_id, start_ms, end_ms, identifier_of, settings_of, payload_of}
use Rattle.cues.specs.Caption.{Caption, caption, SoundCaption}
use Rattle.cues.specs.List.{Sound}
use Rattle.records_write.specs.Records.{id_of, records_of, pool_of}
use Rattle.unpack_laws.proofs.Written.{Right, AllRight, written-sound}
use Rattle.unpack_laws.proofs.Reading.{Fits, length-recs, count-recs, id-read, start-read, end_read, identifier_is, settings_is, payload_is}
use Rattle.vtt_read.specs.Reading.{cue_with, numbered_from}
use Rattle.vtt_laws.proofs.Sound.{Sounds}

-- ---- with IDs from k

pub length_from : (k : ℕ) (cs : List Caption) → length (numbered_from k cs) ≡ length cs
unfolding numbered_from
length_from k [] = refl
length_from k (c ∷ cs) = ap suc (length_from (suc k) cs)

at_from : (k : ℕ) (cs : List Caption) (i : ℕ) (d : Caption) → i < length cs → get_or (numbered_from k cs) i no_cue ≡ cue_with (k + i) (get_or cs i d)
unfolding numbered_from
at_from k [] i d h = absurd (not-suc-le-zero h)
at_from k (c ∷ cs) zero d h = ap (λ (j : ℕ). cue_with j c) (sym (add-zero k))
at_from k (c ∷ cs) (suc i) d h =
    let e : suc k + i ≡ k + suc i = omega arith in
    at_from (suc k) cs i d (omega arith) ∙ ap (λ (j : ℕ). cue_with j (get_or cs i d)) e

same : (x y : ℕ) → ◌≡◌ {A = Option ℕ} (some x) (some y) → x ≡ y
same x y q = cc

cue-fits : (id before : ℕ) (c : Caption) → id < 1024 → SoundCaption 1000 359999999 before c → Fits 1000 (cue_with id c)
unfolding cue_with
cue-fits id before c h s = record {
  named = (id, refl);
  sound = record {
    id_below = λ n e. omega (arith, same id n e);
    identifier_most = s.identifier_most;
    settings_most = s.settings_most;
    payload_most = s.payload_most;
    identifier_right = s.identifier_right;
    settings_right = s.settings_right;
    payload_right = s.payload_right;
  };
  start-most = omega (arith, back-tick 1000 c.start (omega arith), s.lasts, s.ends);
  end-most = omega (arith, back-tick 1000 c.end (omega arith), s.ends);
}

cue-right : (id before : ℕ) (c : Caption) → id < 1024 → SoundCaption 1000 359999999 before c → Right 1000 1000 359999999 (cue_with id c)
unfolding cue_with tick
cue-right id before c h s =
    let x = back-tick 1000 c.start (omega arith) in
    let y = back-tick 1000 c.end (omega arith) in
    record { fits = cue-fits id before c h s; lasts = omega (arith, s.lasts); ends = omega (arith, s.ends); ticks = omega (arith, s.lasts) }

-- ---- sound captions, by index

-- no caption
abbrev pub nothing : Caption
nothing = caption 0 0 [] [] []

-- the start of the caption before number i, `before` for the first
abbrev start_of : ℕ → List Caption → ℕ → ℕ
start_of before cs zero = before
start_of before cs (suc i) = (get_or cs i nothing).start

start-on : (before : ℕ) (c : Caption) (cs : List Caption) (i : ℕ) → start_of c.start cs i ≡ start_of before (c ∷ cs) (suc i)
start-on before c cs zero = refl
start-on before c cs (suc i) = refl

sound-at : (before : ℕ) (cs : List Caption) → Sounds before cs → (i : ℕ) → i < length cs → SoundCaption 1000 359999999 (start_of before cs i) (get_or cs i nothing)
sound-at before [] s i h = absurd (not-suc-le-zero h)
sound-at before (c ∷ cs) s zero h = s.0
sound-at before (c ∷ cs) s (suc i) h =
    subst (λ (k : ℕ). SoundCaption 1000 359999999 k (get_or cs i nothing)) (start-on before c cs i) (sound-at c.start cs s.1 i (omega arith))

-- ---- their records

module _ (cs : List Caption) (sound : Sounds 0 cs) (few : length cs ≤ 1024) where
  -- the captions, with IDs from 0
  abbrev pub counted : List Cue
  counted = numbered_from 0 cs

  counted-at : (i : ℕ) → i < length cs → get_or counted i no_cue ≡ cue_with i (get_or cs i nothing)
  counted-at i h = at_from 0 cs i nothing h ∙ ap (λ (j : ℕ). cue_with j (get_or cs i nothing)) (zero-add i)

  pub counted-fits : (i : ℕ) → i < length counted → Fits 1000 (get_or counted i no_cue)
  counted-fits i l =
      let h : i < length cs = omega (arith, l, length_from 0 cs) in
      subst⁻¹ (Fits 1000) (counted-at i h) (cue-fits i (start_of 0 cs i) (get_or cs i nothing) (omega arith) (sound-at 0 cs sound i h))

  pub counted-few : length counted ≤ 1024
  counted-few = omega (arith, length_from 0 cs, few)

  -- the records give the captions back
  module _ (i : ℕ) (h : i < length cs) where
    there : i < length counted
    there = omega (arith, length_from 0 cs, h)

    pub id-at : source_id (records_of 1000 counted) i ≡ i
    unfolding cue_with
    id-at = id-read 1000 counted counted-few counted-fits i there ∙ ap (λ (x : Cue). id_of x.body.id) (counted-at i h)

    pub start-at : start_ms (records_of 1000 counted) i ≡ (get_or cs i nothing).start
    unfolding cue_with
    start-at = start-read 1000 counted counted-few counted-fits i there ∙ ap (λ (x : Cue). back 1000 x.start) (counted-at i h) ∙ back-tick 1000 (get_or cs i nothing).start (omega arith)

    pub end-at : end_ms (records_of 1000 counted) i ≡ (get_or cs i nothing).end
    unfolding cue_with
    end-at = end_read 1000 counted counted-few counted-fits i there ∙ ap (λ (x : Cue). back 1000 x.end) (counted-at i h) ∙ back-tick 1000 (get_or cs i nothing).end (omega arith)

    pub identifier-at : identifier_of (records_of 1000 counted) (pool_of counted) i ≡ (get_or cs i nothing).identifier
    unfolding cue_with
    identifier-at = identifier_is 1000 counted counted-few counted-fits i there ∙ ap (λ (x : Cue). x.body.identifier) (counted-at i h)

    pub settings-at : settings_of (records_of 1000 counted) (pool_of counted) i ≡ (get_or cs i nothing).settings
    unfolding cue_with
    settings-at = settings_is 1000 counted counted-few counted-fits i there ∙ ap (λ (x : Cue). x.body.settings) (counted-at i h)

    pub payload-at : payload_of (records_of 1000 counted) (pool_of counted) i ≡ (get_or cs i nothing).payload
    unfolding cue_with
    payload-at = payload_is 1000 counted counted-few counted-fits i there ∙ ap (λ (x : Cue). x.body.payload) (counted-at i h)

  -- ---- packing finds no fault in them

  pub records-many : count (records_of 1000 counted) ≡ length cs
  records-many = count-recs 1000 counted counted-few counted-fits ∙ length_from 0 cs

  pub records-length : length (records_of 1000 counted) ≡ length cs * 24
  records-length = length-recs 1000 counted counted-few counted-fits ∙ ap (λ (n : ℕ). n * 24) (length_from 0 cs)

  all_right : AllRight 1000 1000 359999999 counted
  unfolding tick cue_with
  all_right = record {
    limits = record { some_scale = omega arith; scale_most = omega arith; some_time = omega arith; time_most = omega arith; some_tick = omega arith; tick_most = omega arith };
    few = counted-few;
    right = λ i l. let h : i < length cs = omega (arith, l, length_from 0 cs) in subst⁻¹ (Right 1000 1000 359999999) (counted-at i h) (cue-right i (start_of 0 cs i) (get_or cs i nothing) (omega arith) (sound-at 0 cs sound i h));
    follows = λ i l.
        let h : suc i < length cs = omega (arith, l, length_from 0 cs) in
        let k : i < length cs = omega arith in
        let s = (sound-at 0 cs sound (suc i) h).follows in
        omega (arith, ap (λ (x : Cue). back 1000 x.start) (counted-at i k), ap (λ (x : Cue). back 1000 x.start) (counted-at (suc i) h), back-tick 1000 (get_or cs i nothing).start (omega arith), back-tick 1000 (get_or cs (suc i) nothing).start (omega arith));
    distinct = λ j i l h e.
        let k : i < length cs = omega (arith, h, length_from 0 cs) in
        omega (arith, e, ap (λ (x : Cue). id_of x.body.id) (counted-at j (omega arith)), ap (λ (x : Cue). id_of x.body.id) (counted-at i k));
  }

  pub records-sound : Sound 1000 359999999 (records_of 1000 counted) (pool_of counted)
  records-sound = written-sound 1000 1000 359999999 counted all_right
