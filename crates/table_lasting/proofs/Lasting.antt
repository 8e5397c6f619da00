-- The samples of a table that last, one row after the other.
use Prim.Native.Nat.{ℕ, suc, ◌+◌, ◌≤◌, ◌<◌}
use mathlib.Core.Path.{◌≡◌, refl, sym, ap, ◌∙◌}
use mathlib.Core.Logic.{⊎_elim}
use mathlib.Core.Bool.{Bool, true, false, not}
use mathlib.Core.List.Memᴰ
use mathlib.Core.List.{List, [], ◌∷◌, ◌++◌, append-nil, Memᴰ}
use native.Mathlib.Omega.{arith}
use native.Mathlib.Nat.{le_refl}
use native.Mathlib.Decide.{le_ind}
use native.Mathlib.Numerals.{add-one}
use lib.Dec.{eqb}
use lib.ListN.{length, length-append}
use borrow.Author.Tests.{eqb-true, eqb-false, eq-eqb, ne_eqb}
use Rattle.base.specs.Choice.{keep}
use Rattle.base.proofs.Choice.{by-test}
use Rattle.fields.specs.BigEndian.{bytes}
use Rattle.timeline.specs.Lists.{listed}
use Rattle.table.specs.Table.{row_count, duration_of, bytes_of}
use Rattle.table.specs.Parts.{Part, part_at, parts_of, table_of, content_of}
use Rattle.table.proofs.Parts.{table-append, content-append}
use Rattle.table_lasting.specs.Lasting.{lasting_parts, lasting_of}

keep_append : (b : Bool) (p : Part) (r s : List Part) → keep b p (r ++ s) ≡ keep b p r ++ s
keep_append true p r s = refl
keep_append false p r s = refl

lasting-append : (a b : List Part) → lasting_parts (a ++ b) ≡ lasting_parts a ++ lasting_parts b
unfolding lasting_parts
lasting-append [] b = refl
lasting-append (p ∷ a) b = rw (lasting-append a b) (keep_append (not (eqb p.duration 0)) p (lasting_parts a) (lasting_parts b))

-- ---- members

pub lasting-mem : (l : List Part) (p : Part) → Memᴰ p (lasting_parts l) → Memᴰ p l × (0 < p.duration)
unfolding lasting_parts
lasting-mem [] p m = absurd (Memᴰ.not-nil m)
lasting-mem (q ∷ l) p m = by-test (eqb q.duration 0)
    (λ e. let w = lasting-mem l p (rw e at m) in (Memᴰ.tail w.0, w.1))
    (λ e. ⊎_elim
    (λ h. let z = eqb-false q.duration 0 e in (Memᴰ.head h, omega (arith, z, ap (λ (x : Part). x.duration) h)))
    (λ k. let w = lasting-mem l p k in (Memᴰ.tail w.0, w.1))
    (Memᴰ.cases_cons (rw e at m)))

pub mem-lasting : (l : List Part) (p : Part) → Memᴰ p l → 0 < p.duration → Memᴰ p (lasting_parts l)
unfolding lasting_parts
mem-lasting [] p m h = absurd (Memᴰ.not-nil m)
mem-lasting (q ∷ l) p m h = by-test (eqb q.duration 0)
    (λ e. rw e (⊎_elim (λ k. absurd (omega (arith, eqb-true q.duration 0 e, ap (λ (x : Part). x.duration) k))) (λ k. mem-lasting l p k h) (Memᴰ.cases_cons m)))
    (λ e. rw e (⊎_elim (λ k. Memᴰ.head k) (λ k. Memᴰ.tail (mem-lasting l p k h)) (Memᴰ.cases_cons m)))

-- ---- row by row

module _ (table samples : List ℕ) where
  -- those of the rows before i
  unfoldable pub last_to : ℕ → List Part
  last_to i = lasting_parts (listed (part_at table samples) i)

  pub last_none : last_to 0 ≡ []
  unfolding last_to listed lasting_parts
  last_none = refl

  pub last-all : last_to (row_count table) ≡ lasting_of table samples
  unfolding last_to lasting_of parts_of
  last-all = refl

  last_more : (i : ℕ) → last_to (i + 1) ≡ last_to i ++ keep (not (eqb (duration_of table i) 0)) (part_at table samples i) []
  unfolding last_to listed lasting_parts part_at
  last_more i = ap (λ (k : ℕ). lasting_parts (listed (part_at table samples) k)) (add-one i) ∙ lasting-append (listed (part_at table samples) i) (part_at table samples i ∷ [])

  pub last-kept : (i : ℕ) → (duration_of table i ≡ 0 → ⊥) → last_to (i + 1) ≡ last_to i ++ part_at table samples i ∷ []
  last-kept i h = last_more i ∙ rw (ne_eqb (duration_of table i) 0 h)

  pub last-dropped : (i : ℕ) → duration_of table i ≡ 0 → last_to (i + 1) ≡ last_to i
  last-dropped i h = last_more i ∙ rw (eq-eqb (duration_of table i) 0 h) (append-nil (last_to i))

  -- their number, the table's bytes and the samples' bytes never fall
  pub last_most : (i n : ℕ) → i ≤ n → (length (table_of (last_to i)) ≤ length (table_of (last_to n))) × (length (content_of (last_to i)) ≤ length (content_of (last_to n)))
  last_most i n h = le_ind (λ m. (length (table_of (last_to i)) ≤ length (table_of (last_to m))) × (length (content_of (last_to i)) ≤ length (content_of (last_to m))))
      (le_refl (length (table_of (last_to i))), le_refl (length (content_of (last_to i)))) step n h
    where
      step : (m : ℕ) → i ≤ m → (length (table_of (last_to i)) ≤ length (table_of (last_to m))) × (length (content_of (last_to i)) ≤ length (content_of (last_to m)))
          → (length (table_of (last_to i)) ≤ length (table_of (last_to (suc m)))) × (length (content_of (last_to i)) ≤ length (content_of (last_to (suc m))))
      step m l w =
          let x = keep (not (eqb (duration_of table m) 0)) (part_at table samples m) [] in
          let e : last_to (suc m) ≡ last_to m ++ x = ap last_to (sym (add-one m)) ∙ last_more m in
          let t = ap (λ (z : List Part). length (table_of z)) e ∙ ap length (table-append (last_to m) x) ∙ length-append (table_of (last_to m)) (table_of x) in
          let s = ap (λ (z : List Part). length (content_of z)) e ∙ ap length (content-append (last_to m) x) ∙ length-append (content_of (last_to m)) (content_of x) in
          (omega (arith, t, w.0), omega (arith, s, w.1))

  -- the table and the bytes of one sample more
  module _ (i : ℕ) (h : duration_of table i ≡ 0 → ⊥) where
    pub table_more : table_of (last_to (i + 1)) ≡ table_of (last_to i) ++ (bytes 4 (duration_of table i) ++ bytes 4 (length (bytes_of table samples i)))
    unfolding table_of part_at
    table_more = ap table_of (last-kept i h) ∙ table-append (last_to i) (part_at table samples i ∷ []) ∙ ap (λ (x : List ℕ). table_of (last_to i) ++ x) (append-nil (bytes 4 (duration_of table i) ++ bytes 4 (length (bytes_of table samples i))))

    pub content-more : content_of (last_to (i + 1)) ≡ content_of (last_to i) ++ bytes_of table samples i
    unfolding content_of part_at
    content-more = ap content_of (last-kept i h) ∙ content-append (last_to i) (part_at table samples i ∷ []) ∙ ap (λ (x : List ℕ). content_of (last_to i) ++ x) (append-nil (bytes_of table samples i))
