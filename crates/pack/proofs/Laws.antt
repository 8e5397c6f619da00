-- Laws for writing a track: what is shown at a begin, one sample more, and lengths.
use Prim.Native.Nat.{ℕ, zero, suc, ◌+◌, ◌-◌, ◌*◌, ◌≤◌, ◌<◌}
use mathlib.Core.Path.{◌≡◌, refl, sym, ap, ap₂, ◌∙◌}
use mathlib.Core.Bool.{Bool, true, false}
use Rattle.std.proofs.Common.{Ok}
use mathlib.Core.Option.{some}
use mathlib.Core.List.{List, [], ◌∷◌, ◌++◌, append-nil, append_assoc}
use native.Mathlib.Omega.{arith}
use native.Mathlib.Nat.{add-zero, add-suc, le_refl}
use native.Mathlib.Numerals.{add-one}
use lib.Dec.{ltb}
use lib.ListN.{length, length-append}
use Rattle.base.specs.Choice.{pick, keep}
use Rattle.base.specs.Over.{wrote}
use Rattle.base.proofs.Over.{wrote-more, wrote-nil}
use Rattle.fields.proofs.BigEndian.{length-bytes}
use Rattle.timeline.specs.Lists.{listed}
use Rattle.timeline.specs.Cues.{Body, runs, running_at}
use Rattle.timeline.specs.Tracks.{Sample}
use Rattle.timeline.proofs.Listing.{chosen-listed}
use Rattle.boxes.specs.Boxes.{part}
use Rattle.boxes.specs.Written.{item_bytes}
use Rattle.boxes.proofs.Written.{length-box}
use Rattle.wvtt.specs.Kinds.{vtte, vttc}
use Rattle.wvtt_write.specs.Written.{cue_items, cue_bytes, cues_bytes, sample_bytes, pooled}
use Rattle.wvtt_write.proofs.Laws.{length-cue}
use Rattle.cues.specs.Judgement.{judge_list}
use Rattle.records.specs.Records.{source_id, text_offset, identifier_length, settings_length, payload_length, settings_offset, payload_offset, texts_end, piece, identifier_of, settings_of, payload_of}
use Rattle.cues.specs.List.{body_of, cue_of}
use Rattle.records.proofs.Laws.{in_order, text-lengths}
use Rattle.cuts.specs.Cuts.{start_tick, end_tick, runs_at, record_size, cues_size, or_empty}
use Rattle.cuts.specs.Window.{Ended, Later}
use Rattle.cuts.proofs.Laws.{runs-started, runs-ended, runs-later, size-more, size-most, not-empty}
use Rattle.verdict.specs.declared.Refusal.{Refusal}
use Rattle.verdict.specs.Verdict.{Verdict, Fine, Refused as Faulty}
use Rattle.pack.specs.Packed.{Packed, Done, Refused}
use Rattle.pack.specs.Packing.{packed_track, row_bytes, table_bytes, samples_bytes, sizes_of, pack_room, roomed, packed_of, after}
use Rattle.pack.specs.Writing.{shown, Inside}

pub cues-append : (a b : List Body) → cues_bytes (a ++ b) ≡ cues_bytes a ++ cues_bytes b
unfolding cues_bytes
cues-append [] b = refl
cues-append (y ∷ a) b = rw (cues-append a b) (sym (append_assoc (cue_bytes y) (cues_bytes a) (cues_bytes b)))

pub one-cue : (y : Body) → cue_bytes y ≡ cues_bytes (y ∷ [])
unfolding cues_bytes
one-cue y = sym (append-nil (cue_bytes y))

part-piece : (pool : List ℕ) (a from n : ℕ) → a ≡ from → part pool a (a + n) ≡ piece pool from n
unfolding part piece
part-piece pool a from n e = let k : a + n - a ≡ n = omega arith in rw (k, e)

made : {x₁ x₂ : ℕ} {a₁ a₂ b₁ b₂ d₁ d₂ : List ℕ} → x₁ ≡ x₂ → a₁ ≡ a₂ → b₁ ≡ b₂ → d₁ ≡ d₂
    → ◌≡◌ {A = Body} (record { id = some x₁; identifier = a₁; settings = b₁; payload = d₁ }) (record { id = some x₂; identifier = a₂; settings = b₂; payload = d₂ })
made p q r s = λ i. record { id = some (p i); identifier = q i; settings = r i; payload = s i }

module _ (recs pool : List ℕ) (k : ℕ) where
  -- a record's cue, by its fields
  pub body_is : (x from i g t : ℕ) → x ≡ source_id recs k → from ≡ text_offset recs k → i ≡ identifier_length recs k → g ≡ settings_length recs k → t ≡ payload_length recs k
      → pooled x pool from i g t ≡ body_of recs pool k
  unfolding pooled body_of identifier_of settings_of payload_of
  body_is x from i g t e f p q r =
      let o = in_order recs k in
      made e
      (part-piece pool from (text_offset recs k) i f ∙ ap (piece pool (text_offset recs k)) p)
      (part-piece pool (from + i) (settings_offset recs k) g (omega (arith, o.settings-at)) ∙ ap (piece pool (settings_offset recs k)) q)
      (part-piece pool (from + i + g) (payload_offset recs k) t (omega (arith, o.settings-at, o.payload-at)) ∙ ap (piece pool (payload_offset recs k)) r)

  pub body-lengths : texts_end recs k ≤ length pool → (length (body_of recs pool k).identifier ≡ identifier_length recs k) × (length (body_of recs pool k).settings ≡ settings_length recs k) × (length (body_of recs pool k).payload ≡ payload_length recs k)
  unfolding body_of
  body-lengths h = text-lengths recs pool k h

  pub record-length : texts_end recs k ≤ length pool → length (cue_bytes (body_of recs pool k)) ≡ record_size recs k
  unfolding record_size body_of
  record-length h =
      let l = body-lengths h in
      length-cue (body_of recs pool k) (source_id recs k) refl ∙ rw (l.0, l.1, l.2)

module _ (scale : ℕ) (recs pool : List ℕ) (b : ℕ) where
  pub shown-next : (k : ℕ) → shown scale recs pool b (suc k) ≡ shown scale recs pool b k ++ keep (runs_at scale recs b k) (body_of recs pool k) []
  unfolding shown running_at runs runs_at cue_of start_tick end_tick
  shown-next k = ap (λ (x : ℕ). running_at (listed (cue_of scale recs pool) x) b) (sym (add-one k)) ∙ chosen-listed (λ c. runs c b) (cue_of scale recs pool) k

  pub shown-more : (k : ℕ) → start_tick scale recs k ≤ b → shown scale recs pool b (k + 1) ≡ shown scale recs pool b k ++ keep (ltb b (end_tick scale recs k)) (body_of recs pool k) []
  shown-more k h = rw (add-one, shown-next k, runs-started scale recs b k h)

  pub shown-before : (first : ℕ) → Ended scale recs first b → shown scale recs pool b first ≡ []
  unfolding shown running_at listed
  shown-before zero h = refl
  shown-before (suc k) h = rw (shown-next k, runs-ended scale recs b k (h k (le_refl (suc k))), shown-before k (λ j l. h j (omega arith)))

  shown-on : (d k n : ℕ) → ((j : ℕ) → k ≤ j → j < n → b < start_tick scale recs j) → k + d ≤ n → shown scale recs pool b (k + d) ≡ shown scale recs pool b k
  shown-on zero k n h l = rw add-zero
  shown-on (suc d) k n h l = rw (add-suc, shown-next (k + d), runs-later scale recs b (k + d) (h (k + d) (omega arith) (omega arith)), append-nil) (shown-on d k n h (omega arith))

  pub shown-after : (n last : ℕ) → Later scale recs n last b → last ≤ n → shown scale recs pool b last ≡ shown scale recs pool b n
  shown-after n last h l = let e : n ≡ last + (n - last) = omega arith in sym (ap (shown scale recs pool b) e ∙ shown-on (n - last) last n h (omega arith))

  kept-length : (t : Bool) (k : ℕ) → texts_end recs k ≤ length pool → length (cues_bytes (keep t (body_of recs pool k) [])) ≡ pick t (record_size recs k) 0
  unfolding cues_bytes
  kept-length true k h = rw (append-nil, record-length recs pool k h)
  kept-length false k h = refl

  -- the bytes of the cues that are shown
  pub shown-length : (k : ℕ) → Inside recs pool k → length (cues_bytes (shown scale recs pool b k)) ≡ cues_size scale recs b k
  unfolding cues_size cues_bytes shown running_at listed
  shown-length zero h = refl
  shown-length (suc k) h =
      ap (λ (l : List Body). length (cues_bytes l)) (shown-next k)
      ∙ ap length (cues-append (shown scale recs pool b k) (keep (runs_at scale recs b k) (body_of recs pool k) []))
      ∙ length-append (cues_bytes (shown scale recs pool b k)) (cues_bytes (keep (runs_at scale recs b k) (body_of recs pool k) []))
      ∙ ap₂ ◌+◌ (shown-length k (λ i l. h i (omega arith))) (kept-length (runs_at scale recs b k) k (h k (le_refl (suc k))))

  -- writing them: none yet, and one record more
  pub none_written : (d : List ℕ) (at first : ℕ) → Ended scale recs first b → d ≡ wrote d at (cues_bytes (shown scale recs pool b first))
  unfolding cues_bytes
  none_written d at first h = wrote-nil d at ∙ ap (λ (l : List Body). wrote d at (cues_bytes l)) (sym (shown-before first h))

  pub cue-written : (d₀ d d₁ : List ℕ) (at to k : ℕ) → start_tick scale recs k ≤ b → Inside recs pool k → d ≡ wrote d₀ at (cues_bytes (shown scale recs pool b k)) → to ≡ at + cues_size scale recs b k
      → at + cues_size scale recs b k ≤ length d₀ → d₁ ≡ wrote d to (cues_bytes (keep (ltb b (end_tick scale recs k)) (body_of recs pool k) []))
      → d₁ ≡ wrote d₀ at (cues_bytes (shown scale recs pool b (k + 1)))
  cue-written d₀ d d₁ at to k h i e f r g =
      let l = shown-length k i in
      g ∙ ap (λ (y : List ℕ). wrote y to (cues_bytes (keep (ltb b (end_tick scale recs k)) (body_of recs pool k) []))) e
      ∙ wrote-more d₀ at to (cues_bytes (shown scale recs pool b k)) (cues_bytes (keep (ltb b (end_tick scale recs k)) (body_of recs pool k) [])) (omega arith) (omega arith)
      ∙ ap (wrote d₀ at) (sym (cues-append (shown scale recs pool b k) (keep (ltb b (end_tick scale recs k)) (body_of recs pool k) [])) ∙ ap cues_bytes (sym (shown-more k h)))

-- room for all is room for the next
pub room_for : (scale : ℕ) (recs : List ℕ) (b n k last : ℕ) → start_tick scale recs k ≤ b → k < last → last ≤ n
    → cues_size scale recs b k + pick (ltb b (end_tick scale recs k)) (record_size recs k) 0 ≤ cues_size scale recs b n
room_for scale recs b n k last h l m =
    let e : k + 1 + (n - (k + 1)) ≡ n = omega arith in
    omega (arith, size-more scale recs b k h, size-most scale recs b (n - (k + 1)) (k + 1), ap (cues_size scale recs b) e)

-- a cue has at least 8 bytes
cue-some : (y : Body) → length (cue_bytes y) ≡ 0 → ⊥
unfolding cue_bytes
cue-some y e = omega (arith, length-box vttc (item_bytes (cue_items y)))

pub sample-length : (ys : List Body) → length (sample_bytes ys) ≡ or_empty (length (cues_bytes ys))
unfolding sample_bytes cues_bytes
sample-length [] = length-box vtte []
sample-length (y ∷ ys) = not-empty (length (cue_bytes y ++ cues_bytes ys)) (λ e. cue-some y (omega (arith, length-append (cue_bytes y) (cues_bytes ys))))

pub some_bytes : (ys : List Body) → (length (cues_bytes ys) ≡ 0 → ⊥) → cues_bytes ys ≡ sample_bytes ys
unfolding sample_bytes cues_bytes
some_bytes [] h = absurd (h refl)
some_bytes (y ∷ ys) h = refl

pub no_bytes : (ys : List Body) → length (cues_bytes ys) ≡ 0 → ys ≡ []
unfolding cues_bytes
no_bytes [] h = refl
no_bytes (y ∷ ys) h = absurd (cue-some y (omega (arith, length-append (cue_bytes y) (cues_bytes ys))))

-- the table and the samples of one sample more
pub table-append : (a b : List Sample) → table_bytes (a ++ b) ≡ table_bytes a ++ table_bytes b
unfolding table_bytes
table-append [] b = refl
table-append (s ∷ a) b = rw (table-append a b) (sym (append_assoc (row_bytes s) (table_bytes a) (table_bytes b)))

pub samples-append : (a b : List Sample) → samples_bytes (a ++ b) ≡ samples_bytes a ++ samples_bytes b
unfolding samples_bytes
samples-append [] b = refl
samples-append (s ∷ a) b = rw (samples-append a b) (sym (append_assoc (sample_bytes s.held) (samples_bytes a) (samples_bytes b)))

pub length-table : (l : List Sample) → length (table_bytes l) ≡ length l * 8
unfolding table_bytes row_bytes
length-table [] = refl
length-table (s ∷ l) = rw (length-append, length-append, length-bytes, length-bytes) (omega (arith, length-table l))

-- the room for a list without fault, and for another
pub fine-room : (scale T : ℕ) (recs pool : List ℕ) → judge_list scale T recs pool ≡ Fine → pack_room scale T recs pool ≡ sizes_of (packed_track scale T recs pool)
unfolding pack_room
fine-room scale T recs pool e = rw e

pub faulty-room : (scale T : ℕ) (recs pool : List ℕ) (r : Refusal) → judge_list scale T recs pool ≡ Faulty r → pack_room scale T recs pool ≡ Refused r
unfolding pack_room
faulty-room scale T recs pool r e = rw e

-- the answer of a list without fault, and of another
pub fine-packed : (scale T : ℕ) (recs pool : List ℕ) (a b : ℕ) → judge_list scale T recs pool ≡ Fine → packed_of scale T recs pool a b ≡ roomed a b (sizes_of (packed_track scale T recs pool))
unfolding packed_of
fine-packed scale T recs pool a b e = ap (roomed a b) (fine-room scale T recs pool e)

pub faulty-packed : (scale T : ℕ) (recs pool : List ℕ) (a b : ℕ) (r : Refusal) → judge_list scale T recs pool ≡ Faulty r → packed_of scale T recs pool a b ≡ Refused r
unfolding packed_of
faulty-packed scale T recs pool a b r e = ap (roomed a b) (faulty-room scale T recs pool r e)

-- by the room: a refusal is the answer, and leaves an output as it is; lengths are held against what is lent
pub room-refused : (scale T : ℕ) (recs pool : List ℕ) (a b : ℕ) (p : Packed) (r : Refusal) → p ≡ pack_room scale T recs pool → p ≡ Refused r
    → (p ≡ packed_of scale T recs pool a b) × ((x d : List ℕ) → d ≡ after p x d)
unfolding packed_of
room-refused scale T recs pool a b p r e q = (q ∙ ap (roomed a b) (sym q ∙ e), λ x d. ap (λ (z : Packed). after z x d) (sym q))

pub room-told : (scale T : ℕ) (recs pool : List ℕ) (a b : ℕ) (p : Packed) (n t m : ℕ) → p ≡ pack_room scale T recs pool → p ≡ Done n t m
    → packed_of scale T recs pool a b ≡ roomed a b (Done n t m)
unfolding packed_of
room-told scale T recs pool a b p n t m e q = ap (roomed a b) (sym e ∙ q)

-- answers that are the same have the same numbers
abbrev samples_in : Packed → ℕ
samples_in (Ok x) = x.samples
samples_in (Refused r) = 0

abbrev table_in : Packed → ℕ
table_in (Ok x) = x.table
table_in (Refused r) = 0

abbrev bytes_in : Packed → ℕ
bytes_in (Ok x) = x.bytes
bytes_in (Refused r) = 0

pub same_sizes : {n t m x y z : ℕ} → Done n t m ≡ Done x y z → (n ≡ x) × (t ≡ y) × (m ≡ z)
same_sizes e = (ap samples_in e, ap table_in e, ap bytes_in e)

-- the lengths are those of a packed track, of a list without fault
pub room-means : (scale T : ℕ) (recs pool : List ℕ) (p : Packed) (n t m : ℕ) → p ≡ pack_room scale T recs pool → p ≡ Done n t m
    → (judge_list scale T recs pool ≡ Fine) × (t ≡ length (table_bytes (packed_track scale T recs pool))) × (m ≡ length (samples_bytes (packed_track scale T recs pool)))
unfolding sizes_of
room-means scale T recs pool p n t m e q = go (judge_list scale T recs pool) refl
  where
    apart : (r : Refusal) → pack_room scale T recs pool ≡ Refused r → ◌≡◌ {A = ℕ} 0 1
    apart r k = cc

    go : (v : Verdict) → judge_list scale T recs pool ≡ v
        → (judge_list scale T recs pool ≡ Fine) × (t ≡ length (table_bytes (packed_track scale T recs pool))) × (m ≡ length (samples_bytes (packed_track scale T recs pool)))
    go (Faulty r) f = absurd (omega (arith, apart r (faulty-room scale T recs pool r f)))
    go Fine f = let w = same_sizes (sym q ∙ e ∙ fine-room scale T recs pool f) in (f, w.1, w.2)
