-- Laws for writing rows: sizes, and what is written of a row.
use Prim.Native.Nat.{ℕ, zero, suc, ◌+◌, ◌-◌, ◌*◌, ◌≤◌, ◌<◌}
use mathlib.Core.Path.{◌≡◌, refl, sym, ap, ap₂, ◌∙◌}
use mathlib.Core.Bool.{true}
use mathlib.Core.List.{List, ◌++◌}
use native.Mathlib.Omega.{arith}
use native.Mathlib.Nat.{le_refl}
use native.Mathlib.Numerals.{add-one}
use native.Mathlib.Decide.{le_ind}
use lib.ListN.{length, get_or, length-append}
use Rattle.boxes.specs.Boxes.{part}
use Rattle.times.specs.Times.{back}
use Rattle.timeline.specs.Cues.{Body, Cue}
use Rattle.timeline.specs.Unpacking.{no_cue}
use Rattle.boxes.specs.declared.Part.{Part}
use Rattle.wvtt_cues.specs.Cues.{text_of}
use Rattle.wvtt_cues.specs.Walk.{Within}
use Rattle.wvtt_write.proofs.Laws.{length_part}
use Rattle.rows.specs.declared.Row.{Row}
use Rattle.rows.specs.Table.{row_at, body_at, cue_at, known, Placed}
use Rattle.rows.proofs.Laws.{known_at}
use Rattle.records_write.specs.Records.{record_bytes, record_of, texts_of, pool_to}
use Rattle.unpack_write.specs.Rows.{Short, Ready, row_size, size_to}

-- ---- sizes

pub text-length : (s : List ℕ) (x : Part) → Within (length s) x → length (text_of s x) ≡ x.end - x.from
unfolding text_of
text-length s x w =
    let e : x.from + (x.end - x.from) ≡ x.end = omega (arith, w.order) in
    ap (λ (n : ℕ). length (part s x.from n)) (sym e) ∙ length_part s x.from (x.end - x.from) (omega (arith, w.inside))

pub record LengthsOf (y : Body) (r : Row) : Type 0 where
  pub identifier : length y.identifier ≡ r.identifier.end - r.identifier.from
  pub settings : length y.settings ≡ r.settings.end - r.settings.from
  pub payload : length y.payload ≡ r.payload.end - r.payload.from

pub lengths-of : (s : List ℕ) (r : Row) → Placed (length s) r → LengthsOf (body_at s true r) r
unfolding body_at
lengths-of s r p = record { identifier = text-length s r.identifier p.identifier; settings = text-length s r.settings p.settings; payload = text-length s r.payload p.payload }

pub length-texts : (s : List ℕ) (r : Row) → Placed (length s) r → length (texts_of (body_at s true r)) ≡ row_size r
unfolding texts_of row_size
length-texts s r p =
    let w = lengths-of s r p in
    rw (length-append, length-append) (omega (arith, w.identifier, w.settings, w.payload))

pub size-most : (r : Row) → Short r → row_size r ≤ 4605
unfolding row_size
size-most r h = omega (arith, h.identifier_most, h.settings_most, h.payload_most)

pub size-more : (tab : List ℕ) (k m : ℕ) → m ≡ row_size (row_at tab k) → size_to tab k + m ≡ size_to tab (k + 1)
unfolding size_to
size-more tab k m e = rw (add-one, e)

pub size-grows : (tab : List ℕ) (i n : ℕ) → i ≤ n → size_to tab i ≤ size_to tab n
unfolding size_to
size-grows tab i n h = le_ind (λ m. size_to tab i ≤ size_to tab m) (le_refl (size_to tab i)) (λ m l e. omega arith) n h

pub size-bound : (tab : List ℕ) (n : ℕ) → ((i : ℕ) → i < n → Short (row_at tab i)) → size_to tab n ≤ n * 4605
unfolding size_to
size-bound tab zero h = omega arith
size-bound tab (suc n) h = omega (arith, size-bound tab n (λ i l. h i (omega arith)), size-most (row_at tab n) (h n (omega arith)))

-- ---- what is written of a row

-- three texts are those of a row
pub record TextsAre (samples : List ℕ) (r : Row) (i s p : List ℕ) : Type 0 where
  pub identifier : i ≡ text_of samples r.identifier
  pub settings : s ≡ text_of samples r.settings
  pub payload : p ≡ text_of samples r.payload

module _ (samples : List ℕ) (r : Row) (i s p : List ℕ) (t : TextsAre samples r i s p) where
  pub row-lengths : Ready (length samples) r → (length i + length s + length p ≡ row_size r) × (length i ≤ 255) × (length s ≤ 255) × (length p ≤ 4095)
  unfolding row_size
  row-lengths h =
      let x = ap length t.identifier ∙ text-length samples r.identifier h.placed.identifier in
      let y = ap length t.settings ∙ text-length samples r.settings h.placed.settings in
      let z = ap length t.payload ∙ text-length samples r.payload h.placed.payload in
      let k = h.short in
      (omega arith, omega arith, omega arith, omega arith)

  pub row-record : (scale at start end : ℕ) → start ≡ back scale r.start → end ≡ back scale r.end → record_bytes r.id start end at (length i) (length s) (length p) ≡ record_of scale at (cue_at samples r)
  unfolding record_of cue_at body_at
  row-record scale at start end x y = rw (x, y, t.identifier, t.settings, t.payload)

  pub row-texts : i ++ (s ++ p) ≡ texts_of (cue_at samples r).body
  unfolding texts_of cue_at body_at
  row-texts = rw (t.identifier, t.settings, t.payload)

-- ---- the rows of a table

module _ (samples tab : List ℕ) (n : ℕ) where
  -- the pool's length so far
  pub length-pool : ((i : ℕ) → i < n → Placed (length samples) (row_at tab i)) → (k : ℕ) → k ≤ n → length (pool_to (known samples tab n) k) ≡ size_to tab k
  unfolding pool_to size_to cue_at
  length-pool p zero h = refl
  length-pool p (suc k) h =
      length-append (pool_to (known samples tab n) k) (texts_of (get_or (known samples tab n) k no_cue).body)
      ∙ ap₂ (λ (x y : ℕ). x + y) (length-pool p k (omega arith)) (ap (λ (c : Cue). length (texts_of c.body)) (known_at samples tab n k h) ∙ length-texts samples (row_at tab k) (p k h))
