-- The records and the pool of a list, read again.
use Prim.Native.Nat.{ℕ, zero, suc, ◌+◌, ◌*◌, ◌^◌, ◌≤◌, ◌<◌}
use mathlib.Core.Path.{◌≡◌, refl, sym, ap, ap₂, ◌∙◌}
use mathlib.Core.Option.{some}
use mathlib.Core.List.{List, [], ◌∷◌, ◌++◌, map, append_assoc, append-nil}
use native.Mathlib.Omega.{arith}
use native.Mathlib.Nat.{not-suc-le-zero}
use lib.ListN.{length, take, drop, get_or, length-append, length-map, get_or-map}
use lib.Seq.{take_at, drop_at, ext_get_or}
use Rattle.base.proofs.Choice.{either}
use Rattle.fields.specs.BigEndian.{be, bytes}
use Rattle.fields.proofs.BigEndian.{length-bytes, be-behind, be-front, be-written}
use Rattle.times.specs.Times.{tick, back}
use Rattle.timeline.specs.Lists.{listed}
use Rattle.timeline.specs.Cues.{Cue}
use Rattle.timeline.specs.Unpacking.{no_cue}
use Rattle.timeline.proofs.Listing.{length-listed, listed_at}
use Rattle.timeline.proofs.Retimed.{retimed}
use Rattle.wvtt.specs.Sound.{Sound as SoundBody}
use Rattle.records.specs.Records.{count, source_id, start_ms, end_ms, text_offset, identifier_length, settings_length, payload_length, reserved, settings_offset, payload_offset, texts_end, piece, identifier_of, settings_of, payload_of}
use Rattle.cues.specs.List.{body_of, cue_of, cues_of}
use Rattle.rows.proofs.Laws.{listed_same}
use Rattle.records_write.specs.Records.{record_bytes, id_of, record_of, texts_of, pool_to, records_to, pool_of, records_of}
use Rattle.records_write.proofs.Laws.{length-record, length-records}

-- ---- lists that grow by a part each time

module _ (to part : ℕ → List ℕ) (step : (k : ℕ) → to (suc k) ≡ to k ++ part k) where
  split : (n i : ℕ) → i < n → (rest : List ℕ) × (to n ≡ to i ++ (part i ++ rest))
  split zero i h = absurd (not-suc-le-zero h)
  split (suc n) i h =
      either (suc i) n
      (λ l. let w = split n i l in
      (w.0 ++ part n, step n ∙ ap (λ (x : List ℕ). x ++ part n) w.1 ∙ append_assoc (to i) (part i ++ w.0) (part n) ∙ ap (λ (x : List ℕ). to i ++ x) (append_assoc (part i) w.0 (part n))))
      (λ l. let e : n ≡ i = omega arith in
      ([], step n ∙ ap (λ (k : ℕ). to k ++ part k) e ∙ ap (λ (x : List ℕ). to i ++ x) (sym (append-nil (part i)))))

  -- a number in part i
  field_at : (n i w off at : ℕ) → i < n → off + w ≤ length (part i) → at ≡ length (to i) + off → be w (to n) at ≡ be w (part i) off
  field_at n i w off at h l e =
      let s = split n i h in
      ap₂ (λ (x : List ℕ) (k : ℕ). be w x k) s.1 e ∙ be-behind w (to i) (part i ++ s.0) off ∙ be-front w (part i) s.0 off l

  grows : (n i : ℕ) → i < n → length (to i) + length (part i) ≤ length (to n)
  grows n i h =
      let s = split n i h in
      omega (arith, ap length s.1, length-append (to i) (part i ++ s.0), length-append (part i) s.0)

-- ---- lists by number

listed-map : {A B : Type 0} (g : A → B) (l : List A) (d : A) → listed (λ i. g (get_or l i d)) (length l) ≡ map g l
listed-map g l d =
    ext_get_or (g d) (listed (λ i. g (get_or l i d)) (length l)) (map g l) (length-listed (λ i. g (get_or l i d)) (length l) ∙ sym (length-map l g))
    (λ i h. listed_at (λ i. g (get_or l i d)) (length l) i (g d) (omega (arith, h, length-listed (λ i. g (get_or l i d)) (length l))) ∙ sym (get_or-map g l i d))

map-map : {A B C : Type 0} (f : A → B) (g : B → C) (l : List A) → map (λ x. g (f x)) l ≡ map g (map f l)
map-map f g [] = refl
map-map f g (x ∷ l) = rw (map-map f g l)

-- ---- the fields of a record

read : (w v : ℕ) (p q r : List ℕ) (off : ℕ) → r ≡ p ++ (bytes w v ++ q) → length p ≡ off → v < 256 ^ w → be w r off ≡ v
read w v p q r off e l h = ap₂ (λ (x : List ℕ) (k : ℕ). be w x k) e (sym l) ∙ be-written w v p q h

module _ (a b c d e f g : ℕ) where
  low : List ℕ
  low = bytes 2 e ++ (bytes 2 f ++ (bytes 2 g ++ bytes 2 0))

  high : List ℕ
  high = bytes 4 a ++ (bytes 4 b ++ (bytes 4 c ++ bytes 4 d))

  read-id : a < 4294967296 → be 4 (record_bytes a b c d e f g) 0 ≡ a
  unfolding record_bytes low
  read-id h = read 4 a [] (bytes 4 b ++ (bytes 4 c ++ bytes 4 d) ++ low) (record_bytes a b c d e f g) 0 (simp append_assoc) refl h

  read-start : b < 4294967296 → be 4 (record_bytes a b c d e f g) 4 ≡ b
  unfolding record_bytes low
  read-start h = read 4 b (bytes 4 a) (bytes 4 c ++ bytes 4 d ++ low) (record_bytes a b c d e f g) 4 (simp append_assoc) (length-bytes 4 a) h

  read-end : c < 4294967296 → be 4 (record_bytes a b c d e f g) 8 ≡ c
  unfolding record_bytes low
  read-end h = read 4 c (bytes 4 a ++ bytes 4 b) (bytes 4 d ++ low) (record_bytes a b c d e f g) 8 (simp append_assoc) (simp (length-append, length-bytes)) h

  read-offset : d < 4294967296 → be 4 (record_bytes a b c d e f g) 12 ≡ d
  unfolding record_bytes low
  read-offset h = read 4 d (bytes 4 a ++ bytes 4 b ++ bytes 4 c) low (record_bytes a b c d e f g) 12 (simp append_assoc) (simp (length-append, length-bytes)) h

  length_high : length high ≡ 16
  unfolding high
  length_high = simp (length-append, length-bytes)

  read-identifier : e < 65536 → be 2 (record_bytes a b c d e f g) 16 ≡ e
  unfolding record_bytes high
  read-identifier h = read 2 e high (bytes 2 f ++ (bytes 2 g ++ bytes 2 0)) (record_bytes a b c d e f g) 16 refl length_high h

  read-settings : f < 65536 → be 2 (record_bytes a b c d e f g) 18 ≡ f
  unfolding record_bytes high
  read-settings h = read 2 f (high ++ bytes 2 e) (bytes 2 g ++ bytes 2 0) (record_bytes a b c d e f g) 18 (sym (append_assoc high (bytes 2 e) _)) (length-append high (bytes 2 e) ∙ ap₂ (λ (x y : ℕ). x + y) length_high (length-bytes 2 e)) h

  read-payload : g < 65536 → be 2 (record_bytes a b c d e f g) 20 ≡ g
  unfolding record_bytes high
  read-payload h = read 2 g (high ++ bytes 2 e ++ bytes 2 f) (bytes 2 0) (record_bytes a b c d e f g) 20 (sym (append_assoc (high ++ bytes 2 e) (bytes 2 f) _ ∙ append_assoc high (bytes 2 e) _))
      (length-append (high ++ bytes 2 e) (bytes 2 f) ∙ ap₂ (λ (x y : ℕ). x + y) (length-append high (bytes 2 e) ∙ ap₂ (λ (x y : ℕ). x + y) length_high (length-bytes 2 e)) (length-bytes 2 f)) h

  read-reserved : be 2 (record_bytes a b c d e f g) 22 ≡ 0
  unfolding record_bytes high
  read-reserved =
      let l : length (bytes 2 e ++ (bytes 2 f ++ bytes 2 g)) ≡ 6 = simp (length-append, length-bytes) in
      read 2 0 (high ++ (bytes 2 e ++ (bytes 2 f ++ bytes 2 g))) [] (record_bytes a b c d e f g) 22
      (ap (λ (x : List ℕ). high ++ x) (simp (append_assoc, append-nil)) ∙ sym (append_assoc high (bytes 2 e ++ (bytes 2 f ++ bytes 2 g)) (bytes 2 0 ++ [])))
      (length-append high (bytes 2 e ++ (bytes 2 f ++ bytes 2 g)) ∙ ap₂ (λ (x y : ℕ). x + y) length_high l) (omega arith)

-- ---- the texts in the pool

piece-at : (p v q r : List ℕ) (from n : ℕ) → r ≡ p ++ (v ++ q) → from ≡ length p → n ≡ length v → piece r from n ≡ v
unfolding piece
piece-at p v q r from n e a b =
    ap (λ (x : List ℕ). take n (drop from x)) e ∙ ap (take n) (drop_at p (v ++ q) from (sym a)) ∙ take_at v q n (sym b)

-- ---- a list whose numbers fit their fields

pub record Fits (scale : ℕ) (c : Cue) : Type 0 where
  pub named : (n : ℕ) × (c.body.id ≡ some n)
  pub sound : SoundBody c.body
  pub start-most : back scale c.start ≤ 359999999
  pub end-most : back scale c.end ≤ 359999999

module _ (scale : ℕ) (cs : List Cue) (few : length cs ≤ 1024) (fit : (i : ℕ) → i < length cs → Fits scale (get_or cs i no_cue)) where
  pub length-recs : length (records_of scale cs) ≡ length cs * 24
  unfolding records_of
  length-recs = length-records scale cs (length cs)

  pub count-recs : count (records_of scale cs) ≡ length cs
  unfolding count
  count-recs = rw length-recs (omega arith)

  texts-most : (i : ℕ) → i < length cs → length (texts_of (get_or cs i no_cue).body) ≤ 4605
  unfolding texts_of
  texts-most i h =
      let y = (fit i h).sound in
      let c = get_or cs i no_cue in
      omega (arith, length-append c.body.identifier (c.body.settings ++ c.body.payload), length-append c.body.settings c.body.payload, y.identifier_most, y.settings_most, y.payload_most)

  pool-most : (k : ℕ) → k ≤ length cs → length (pool_to cs k) ≤ k * 4605
  unfolding pool_to
  pool-most zero h = omega arith
  pool-most (suc k) h = omega (arith, pool-most k (omega arith), texts-most k h, length-append (pool_to cs k) (texts_of (get_or cs k no_cue).body))

  record-step : (k : ℕ) → records_to scale cs (suc k) ≡ records_to scale cs k ++ record_of scale (length (pool_to cs k)) (get_or cs k no_cue)
  unfolding records_to
  record-step k = refl

  pool-step : (k : ℕ) → pool_to cs (suc k) ≡ pool_to cs k ++ texts_of (get_or cs k no_cue).body
  unfolding pool_to
  pool-step k = refl

  module _ (i : ℕ) (h : i < length cs) where
    at_field : (w off : ℕ) → off + w ≤ 24 → be w (records_of scale cs) (i * 24 + off) ≡ be w (record_of scale (length (pool_to cs i)) (get_or cs i no_cue)) off
    unfolding records_of
    at_field w off l =
        field_at (records_to scale cs) (λ k. record_of scale (length (pool_to cs k)) (get_or cs k no_cue)) record-step (length cs) i w off (i * 24 + off) h
        (omega (arith, length-record scale (length (pool_to cs i)) (get_or cs i no_cue)))
        (ap (λ (x : ℕ). x + off) (sym (length-records scale cs i)))

    id-is : (n : ℕ) → (get_or cs i no_cue).body.id ≡ some n → id_of (get_or cs i no_cue).body.id ≡ n
    id-is n e = ap id_of e

    pub id-read : source_id (records_of scale cs) i ≡ id_of (get_or cs i no_cue).body.id
    unfolding source_id record_of
    id-read =
        let w = (fit i h).named in
        ap (λ (k : ℕ). be 4 (records_of scale cs) k) (omega arith) ∙ at_field 4 0 (omega arith) ∙ read-id _ _ _ _ _ _ _ (omega (arith, id-is w.0 w.1, (fit i h).sound.id_below w.0 w.1))

    pub start-read : start_ms (records_of scale cs) i ≡ back scale (get_or cs i no_cue).start
    unfolding start_ms record_of
    start-read = at_field 4 4 (omega arith) ∙ read-start _ _ _ _ _ _ _ (omega (arith, (fit i h).start-most))

    pub end_read : end_ms (records_of scale cs) i ≡ back scale (get_or cs i no_cue).end
    unfolding end_ms record_of
    end_read = at_field 4 8 (omega arith) ∙ read-end _ _ _ _ _ _ _ (omega (arith, (fit i h).end-most))

    pub offset_read : text_offset (records_of scale cs) i ≡ length (pool_to cs i)
    unfolding text_offset record_of
    offset_read = at_field 4 12 (omega arith) ∙ read-offset _ _ _ _ _ _ _ (omega (arith, pool-most i (omega arith)))

    pub identifier-read : identifier_length (records_of scale cs) i ≡ length (get_or cs i no_cue).body.identifier
    unfolding identifier_length record_of
    identifier-read = at_field 2 16 (omega arith) ∙ read-identifier _ _ _ _ _ _ _ (omega (arith, (fit i h).sound.identifier_most))

    pub settings-read : settings_length (records_of scale cs) i ≡ length (get_or cs i no_cue).body.settings
    unfolding settings_length record_of
    settings-read = at_field 2 18 (omega arith) ∙ read-settings _ _ _ _ _ _ _ (omega (arith, (fit i h).sound.settings_most))

    pub payload-read : payload_length (records_of scale cs) i ≡ length (get_or cs i no_cue).body.payload
    unfolding payload_length record_of
    payload-read = at_field 2 20 (omega arith) ∙ read-payload _ _ _ _ _ _ _ (omega (arith, (fit i h).sound.payload_most))

    pub reserved-read : reserved (records_of scale cs) i ≡ 0
    unfolding reserved record_of
    reserved-read = at_field 2 22 (omega arith) ∙ read-reserved _ _ _ _ _ _ _

    pool-split : (rest : List ℕ) × (pool_of cs ≡ pool_to cs i ++ (texts_of (get_or cs i no_cue).body ++ rest))
    unfolding pool_of
    pool-split = split (pool_to cs) (λ k. texts_of (get_or cs k no_cue).body) pool-step (length cs) i h

    pub identifier_is : identifier_of (records_of scale cs) (pool_of cs) i ≡ (get_or cs i no_cue).body.identifier
    unfolding identifier_of texts_of
    identifier_is =
        let s = pool-split in
        let y = (get_or cs i no_cue).body in
        piece-at (pool_to cs i) y.identifier (y.settings ++ y.payload ++ s.0) (pool_of cs) _ _ (s.1 ∙ (simp append_assoc)) offset_read identifier-read

    pub settings_is : settings_of (records_of scale cs) (pool_of cs) i ≡ (get_or cs i no_cue).body.settings
    unfolding settings_of settings_offset texts_of
    settings_is =
        let s = pool-split in
        let y = (get_or cs i no_cue).body in
        piece-at (pool_to cs i ++ y.identifier) y.settings (y.payload ++ s.0) (pool_of cs) _ _ (s.1 ∙ (simp append_assoc))
        (ap₂ (λ (a b : ℕ). a + b) offset_read identifier-read ∙ sym (length-append (pool_to cs i) y.identifier)) settings-read

    pub payload_is : payload_of (records_of scale cs) (pool_of cs) i ≡ (get_or cs i no_cue).body.payload
    unfolding payload_of payload_offset settings_offset texts_of
    payload_is =
        let s = pool-split in
        let y = (get_or cs i no_cue).body in
        piece-at (pool_to cs i ++ y.identifier ++ y.settings) y.payload s.0 (pool_of cs) _ _ (s.1 ∙ (simp append_assoc))
        (ap₂ (λ (a b : ℕ). a + b) (ap₂ (λ (a b : ℕ). a + b) offset_read identifier-read ∙ sym (length-append (pool_to cs i) y.identifier)) settings-read ∙ sym (length-append (pool_to cs i ++ y.identifier) y.settings)) payload-read

    pub texts-inside : texts_end (records_of scale cs) i ≤ length (pool_of cs)
    unfolding texts_end payload_offset settings_offset pool_of texts_of
    texts-inside =
        let y = (get_or cs i no_cue).body in
        omega (
          arith,
          grows (pool_to cs) (λ k. texts_of (get_or cs k no_cue).body) pool-step (length cs) i h,
          offset_read,
          identifier-read,
          settings-read,
          payload-read,
          length-append y.identifier (y.settings ++ y.payload),
          length-append y.settings y.payload,
        )

    -- the cue of record i
    cue-is : cue_of scale (records_of scale cs) (pool_of cs) i ≡ retimed (tick scale) (retimed (back scale) (get_or cs i no_cue))
    unfolding cue_of body_of retimed
    cue-is =
        let w = (fit i h).named in
        let p : some (source_id (records_of scale cs) i) ≡ (get_or cs i no_cue).body.id = ap some (id-read ∙ id-is w.0 w.1) ∙ sym w.1 in
        λ z. record {
          start = tick scale (start-read z);
          end = tick scale (end_read z);
          body = record { id = p z; identifier = identifier_is z; settings = settings_is z; payload = payload_is z };
        }

  -- the cues that the records stand for
  pub cues-are : cues_of scale (records_of scale cs) (pool_of cs) ≡ map (retimed (tick scale)) (map (retimed (back scale)) cs)
  unfolding cues_of
  cues-are =
      ap (listed (cue_of scale (records_of scale cs) (pool_of cs))) count-recs
      ∙ listed_same (cue_of scale (records_of scale cs) (pool_of cs)) (λ i. retimed (tick scale) (retimed (back scale) (get_or cs i no_cue))) (length cs) (λ i h. cue-is i h)
      ∙ listed-map (λ c. retimed (tick scale) (retimed (back scale) c)) cs no_cue
      ∙ map-map (retimed (back scale)) (retimed (tick scale)) cs
