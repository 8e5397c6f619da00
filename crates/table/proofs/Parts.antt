-- Samples that were written as a table and bytes are read back.
use Prim.Native.Nat.{ℕ, zero, suc, ◌+◌, ◌-◌, ◌*◌, ◌^◌, ◌≤◌, ◌<◌}
use mathlib.Core.Path.{◌≡◌, refl, sym, ap, ap₂, ◌∙◌}
use mathlib.Core.List.{List, [], ◌∷◌, ◌++◌, append_assoc, append-nil}
use native.Mathlib.Omega.{arith}
use native.Mathlib.Nat.{le_refl}
use lib.ListN.{length, take, drop, get_or, length-append}
use lib.Seq.{take-suc, split_at, length-take-le, take-length, take_at, drop_at, ext_get_or}
use Rattle.fields.specs.BigEndian.{be, bytes}
use Rattle.fields.proofs.BigEndian.{length-bytes, be-written}
use Rattle.boxes.specs.Boxes.{part}
use Rattle.timeline.specs.Lists.{listed}
use Rattle.timeline.proofs.Listing.{length-listed, listed_at}
use Rattle.table.specs.Table.{row_count, duration_of, size_of, offset_of, bytes_of, Laid}
use Rattle.table.specs.Parts.{Part, part_at, parts_of, table_of, content_of}
use Rattle.table.proofs.Laws.{bytes-at}

-- duration and size have 4 bytes
abbrev pub Short : Part → Type 0
Short p = (p.duration < 4294967296) × (length p.content < 4294967296)

same-part : (x y : Part) → x.duration ≡ y.duration → x.content ≡ y.content → x ≡ y
same-part x y p q = λ i. record { duration = p i; content = q i }

pub table-append : (a b : List Part) → table_of (a ++ b) ≡ table_of a ++ table_of b
unfolding table_of
table-append [] b = refl
table-append (p ∷ a) b = rw (table-append a b) (sym (append_assoc (bytes 4 p.duration ++ bytes 4 (length p.content)) (table_of a) (table_of b)))

pub content-append : (a b : List Part) → content_of (a ++ b) ≡ content_of a ++ content_of b
unfolding content_of
content-append [] b = refl
content-append (p ∷ a) b = rw (content-append a b) (sym (append_assoc p.content (content_of a) (content_of b)))

pub length-table : (l : List Part) → length (table_of l) ≡ length l * 8
unfolding table_of
length-table [] = refl
length-table (p ∷ l) =
    rw (length-append (bytes 4 p.duration ++ bytes 4 (length p.content)) (table_of l), length-append (bytes 4 p.duration) (bytes 4 (length p.content)), length-bytes 4 p.duration, length-bytes 4 (length p.content))
    (omega (arith, length-table l))

-- a row among others
table_at : (p q : List Part) (s : Part) → table_of (p ++ s ∷ q) ≡ table_of p ++ (bytes 4 s.duration ++ (bytes 4 (length s.content) ++ table_of q))
unfolding table_of
table_at p q s = table-append p (s ∷ q) ∙ ap (λ (l : List ℕ). table_of p ++ l) (append_assoc (bytes 4 s.duration) (bytes 4 (length s.content)) (table_of q))

duration-among : (p q : List Part) (s : Part) → s.duration < 4294967296 → duration_of (table_of (p ++ s ∷ q)) (length p) ≡ s.duration
unfolding duration_of
duration-among p q s h =
    let k : s.duration < 256 ^ 4 = omega arith in
    ap₂ (be 4) (table_at p q s) (sym (length-table p))
    ∙ be-written 4 s.duration (table_of p) (bytes 4 (length s.content) ++ table_of q) k

size-among : (p q : List Part) (s : Part) → length s.content < 4294967296 → size_of (table_of (p ++ s ∷ q)) (length p) ≡ length s.content
unfolding size_of
size-among p q s h =
    let k : length s.content < 256 ^ 4 = omega arith in
    let l : length p * 8 + 4 ≡ length (table_of p ++ bytes 4 s.duration) = rw (length-append, length-bytes) (omega (arith, length-table p)) in
    ap₂ (be 4) (table_at p q s ∙ sym (append_assoc (table_of p) (bytes 4 s.duration) (bytes 4 (length s.content) ++ table_of q))) l
    ∙ be-written 4 (length s.content) (table_of p ++ bytes 4 s.duration) (table_of q) k

part_of : (p x q : List ℕ) → part (p ++ (x ++ q)) (length p) (length p + length x) ≡ x
unfolding part
part_of p x q =
    let e : length p + length x - length p ≡ length x = omega arith in
    rw e (ap (take (length x)) (drop_at p (x ++ q) (length p) refl) ∙ take_at x q (length x) refl)

module _ (none : Part) (l : List Part) (short : (i : ℕ) → i < length l → Short (get_or l i none)) where
  pub row_count_lem : row_count (table_of l) ≡ length l
  unfolding row_count
  row_count_lem = omega (arith, length-table l)

  pub duration-is : (i : ℕ) → i < length l → duration_of (table_of l) i ≡ (get_or l i none).duration
  duration-is i h =
      ap₂ (λ (x : List Part) (k : ℕ). duration_of (table_of x) k) (split_at l i none h) (sym (length-take-le i l (omega arith)))
      ∙ duration-among (take i l) (drop (suc i) l) (get_or l i none) (short i h).0

  size_is : (i : ℕ) → i < length l → size_of (table_of l) i ≡ length (get_or l i none).content
  size_is i h =
      ap₂ (λ (x : List Part) (k : ℕ). size_of (table_of x) k) (split_at l i none h) (sym (length-take-le i l (omega arith)))
      ∙ size-among (take i l) (drop (suc i) l) (get_or l i none) (short i h).1

  offset-is : (i : ℕ) → i ≤ length l → offset_of (table_of l) i ≡ length (content_of (take i l))
  unfolding offset_of content_of
  offset-is zero h = refl
  offset-is (suc i) h =
      ap₂ ◌+◌ (offset-is i (omega arith)) (size_is i h)
      ∙ sym (ap (λ (x : List Part). length (content_of x)) (take-suc l i none h)
      ∙ ap length (content-append (take i l) (get_or l i none ∷ []))
      ∙ length-append (content_of (take i l)) ((get_or l i none).content ++ [])
      ∙ ap (λ (x : List ℕ). length (content_of (take i l)) + length x) (append-nil (get_or l i none).content))

  pub bytes_are : (i : ℕ) → i < length l → bytes_of (table_of l) (content_of l) i ≡ (get_or l i none).content
  unfolding content_of
  bytes_are i h =
      bytes-at (table_of l) (content_of l) i (length (content_of (take i l))) (length (get_or l i none).content) (sym (offset-is i (omega arith))) (sym (size_is i h))
      ∙ ap (λ (x : List ℕ). part x (length (content_of (take i l))) (length (content_of (take i l)) + length (get_or l i none).content))
      (ap content_of (split_at l i none h) ∙ content-append (take i l) (get_or l i none ∷ drop (suc i) l))
      ∙ part_of (content_of (take i l)) (get_or l i none).content (content_of (drop (suc i) l))

  pub parts-back : parts_of (table_of l) (content_of l) ≡ l
  unfolding parts_of part_at
  parts-back =
      ap (listed (part_at (table_of l) (content_of l))) row_count_lem
      ∙ ext_get_or none (listed (part_at (table_of l) (content_of l)) (length l)) l (length-listed (part_at (table_of l) (content_of l)) (length l))
      (λ i h. one i (omega (arith, length-listed (part_at (table_of l) (content_of l)) (length l))))
    where
      one : (i : ℕ) → i < length l → get_or (listed (part_at (table_of l) (content_of l)) (length l)) i none ≡ get_or l i none
      one i h =
          listed_at (part_at (table_of l) (content_of l)) (length l) i none h
          ∙ same-part (part_at (table_of l) (content_of l) i) (get_or l i none) (duration-is i h) (bytes_are i h)

  -- samples of some bytes are laid
  pub written-laid : length l ≤ 65536 → ((i : ℕ) → i < length l → 0 < length (get_or l i none).content) → Laid (table_of l) (content_of l)
  written-laid few some = record {
    whole = omega (arith, length-table l);
    count = omega (arith, row_count_lem);
    sized = λ i h. let k : i < length l = omega (arith, row_count_lem) in omega (arith, size_is i k, some i k);
    used = ap (offset_of (table_of l)) row_count_lem ∙ offset-is (length l) (le_refl (length l)) ∙ ap (λ (x : List Part). length (content_of x)) (take-length l);
  }
