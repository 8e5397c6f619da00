-- What is written for the samples that last reads as them.
use Prim.Native.Nat.{ℕ, ◌*◌, ◌+◌, ◌≤◌, ◌<◌}
use mathlib.Core.Path.{◌≡◌, refl, sym, ap, ◌∙◌, subst}
use mathlib.Core.List.{List, [], ◌∷◌, Memᴰ}
use native.Mathlib.Omega.{arith}
use lib.Dec.{eqb}
use lib.ListN.{length, get_or, length-take, length-drop}
use Rattle.verdict.specs.Verdict.{Verdict, Fine}
use Rattle.base.proofs.Choice.{by-test}
use Rattle.fields.proofs.BigEndian.{Bytes, be-fits}
use Rattle.boxes.specs.Boxes.{part}
use Rattle.timeline.specs.Cues.{Body}
use Rattle.timeline.specs.Tracks.{Sample}
use Rattle.timeline.proofs.Indexed.{mem_index, index-mem}
use Rattle.timeline.proofs.Listing.{length-listed, mem-listed, listed-mem}
use Rattle.table.specs.Table.{row_count, duration_of, size_of, offset_of, bytes_of, Laid}
use Rattle.table.specs.Parts.{Part, part_at, parts_of, table_of, content_of}
use Rattle.table.proofs.Laws.{length-bytes, laid-inside, laid-iff, readable-iff}
use Rattle.table.proofs.Parts.{Short, row_count_lem, duration-is, bytes_are, parts-back, written-laid}
use Rattle.table_lasting.specs.Lasting.{lasting, lasting_parts, lasting_of, track_by}
use Rattle.table_lasting.specs.Dropping.{judge_drop}
use Rattle.table_lasting.specs.Statements.{ZeroGoneBytes, LastingReads}
use Rattle.table_lasting.proofs.Lasting.{lasting-mem, mem-lasting}
use Rattle.table_lasting.proofs.Ticks.{zero-gone}

track-lasting : (read : List ℕ → List Body) (ps : List Part) → track_by read (lasting_parts ps) ≡ lasting (track_by read ps)
unfolding track_by lasting_parts lasting
track-lasting read [] = refl
track-lasting read (p ∷ ps) =
    by-test (eqb p.duration 0) (λ e. rw e (track-lasting read ps))
    (λ e. rw e (ap (λ (x : List Sample). record { duration = p.duration; held = read p.content } ∷ x) (track-lasting read ps)))

length-lasting : (l : List Part) → length (lasting_parts l) ≤ length l
unfolding lasting_parts
length-lasting [] = omega arith
length-lasting (p ∷ l) = by-test (eqb p.duration 0) (λ e. rw e (omega (arith, length-lasting l))) (λ e. rw e (omega (arith, length-lasting l)))

module _ (table samples : List ℕ) (b : Bytes table) where
  none : Part
  none = record { duration = 0; content = [] }

  -- what is read from a table is short
  part-short : (i : ℕ) → Short (part_at table samples i)
  unfolding part_at duration_of size_of bytes_of offset_of part
  part-short i =
      let d = be-fits 4 table (i * 8) b in
      let z = be-fits 4 table (i * 8 + 4) b in
      (omega arith, simp (length-take, length-drop) (omega arith))

  -- a sample that lasts is that of a row
  row_of : (p : Part) → Memᴰ p (lasting_of table samples) → (i : ℕ) × (i < row_count table) × (p ≡ part_at table samples i) × (0 < p.duration)
  unfolding lasting_of parts_of
  row_of p m =
      let w = lasting-mem (parts_of table samples) p m in
      let v = mem-listed (part_at table samples) (row_count table) p w.0 in
      (v.0, v.1, v.2, w.1)

  at : (i : ℕ) → i < length (lasting_of table samples) → let p = get_or (lasting_of table samples) i none in (k : ℕ) × (k < row_count table) × (p ≡ part_at table samples k) × (0 < p.duration)
  at i h = row_of (get_or (lasting_of table samples) i none) (index-mem (lasting_of table samples) i none h)

  short : (i : ℕ) → i < length (lasting_of table samples) → Short (get_or (lasting_of table samples) i none)
  short i h = let w = at i h in subst Short (sym w.2) (part-short w.0)

  few : row_count table ≤ 65536 → length (lasting_of table samples) ≤ 65536
  unfolding lasting_of parts_of
  few h = omega (arith, length-lasting (parts_of table samples), length-listed (part_at table samples) (row_count table))

  -- a sample that lasts has some bytes
  some : Laid table samples → (i : ℕ) → i < length (lasting_of table samples) → 0 < length (get_or (lasting_of table samples) i none).content
  unfolding part_at
  some w i h =
      let v = at i h in
      omega (arith, ap (λ (p : Part). length p.content) v.2, length-bytes table samples v.0 (laid-inside table samples w v.0 v.1), w.sized v.0 v.1)

  pub lasting-laid : Laid table samples → Laid (table_of (lasting_of table samples)) (content_of (lasting_of table samples))
  lasting-laid w = written-laid none (lasting_of table samples) short (few w.count) (some w)

  pub lasting-lasts : (i : ℕ) → i < row_count (table_of (lasting_of table samples)) → 0 < duration_of (table_of (lasting_of table samples)) i
  lasting-lasts i h =
      let k : i < length (lasting_of table samples) = omega (arith, row_count_lem none (lasting_of table samples) short) in
      omega (arith, (at i k).3, duration-is none (lasting_of table samples) short i k)

  module _ (read : List ℕ → Verdict) where
    -- row i of what is written reads as the row that it stands for
    there : ((i : ℕ) → i < row_count table → 0 < duration_of table i → read (bytes_of table samples i) ≡ Fine)
        → (i : ℕ) → i < row_count (table_of (lasting_of table samples)) → read (bytes_of (table_of (lasting_of table samples)) (content_of (lasting_of table samples)) i) ≡ Fine
    unfolding part_at
    there f i h =
        let k : i < length (lasting_of table samples) = omega (arith, row_count_lem none (lasting_of table samples) short) in
        let v = at i k in
        ap read (bytes_are none (lasting_of table samples) short i k ∙ ap (λ (p : Part). p.content) v.2)
        ∙ f v.0 v.1 (omega (arith, v.3, ap (λ (p : Part). p.duration) v.2))

    back : ((i : ℕ) → i < row_count (table_of (lasting_of table samples)) → read (bytes_of (table_of (lasting_of table samples)) (content_of (lasting_of table samples)) i) ≡ Fine)
        → (i : ℕ) → i < row_count table → 0 < duration_of table i → read (bytes_of table samples i) ≡ Fine
    unfolding part_at lasting_of parts_of
    back f i h l =
        let ps = lasting_of table samples in
        let m = mem-lasting (parts_of table samples) (part_at table samples i) (listed-mem (part_at table samples) (row_count table) i h) l in
        let v = mem_index ps (part_at table samples i) none m in
        ap read (ap (λ (p : Part). p.content) v.2 ∙ sym (bytes_are none ps short v.0 v.1))
        ∙ f v.0 (omega (arith, v.1, row_count_lem none ps short))

pub zero-gone-bytes : ZeroGoneBytes
unfolding lasting_of
zero-gone-bytes table samples b = (
  parts-back (none table samples b) (lasting_of table samples) (short table samples b),
  λ read. rw (track-lasting read (parts_of table samples)) (zero-gone (track_by read (parts_of table samples))),
)

pub lasting-reads : LastingReads
unfolding judge_drop
lasting-reads table samples b e =
    let ps = lasting_of table samples in
    let w = lasting-laid table samples b ((laid-iff table samples).0 e) in
    let p = lasting-lasts table samples b in (
      w,
      p,
      λ read. (
        λ f. back table samples b read ((readable-iff read (table_of ps) (content_of ps)).0 f).0.reads,
        λ f. (readable-iff read (table_of ps) (content_of ps)).1 (record { laid = w; reads = there table samples b read f }, p),
      ),
    )
