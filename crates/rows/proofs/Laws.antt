-- Laws of the table: reading a row that was written, the cues of the rows, the row of an ID.
use Prim.Native.Nat.{ℕ, zero, suc, ◌+◌, ◌-◌, ◌*◌, ◌≤◌, ◌<◌}
use mathlib.Core.Path.{◌≡◌, refl, sym, ap, ◌∙◌}
use mathlib.Core.Logic.{◌≢◌}
use mathlib.Core.Bool.{true, false}
use mathlib.Core.Option.{Option, none, some}
use mathlib.Core.List.{List, [], ◌∷◌, ◌++◌}
use native.Mathlib.Omega.{arith}
use native.Mathlib.Nat.{add-zero, not-suc-le-zero, le_of_suc-le-suc}
use borrow.Author.Tests.{eq-eqb, ne_eqb, eqb-true, eqb-false}
use lib.Dec.{eqb}
use lib.ListN.{length, take, drop, get_or, set, length-append, get_or-append, length-set}
use lib.Seq.{length-take-le, get_or-take, get_or-drop, get_or-append-add, get_or-set_same, get_or-set_other, ext_get_or, drop-drop, take-take, take-nil}
use Rattle.base.proofs.Choice.{either, by-test}
use Rattle.base.specs.Over.{wrote}
use Rattle.boxes.specs.Boxes.{part}
use Rattle.timeline.specs.Lists.{listed}
use Rattle.timeline.specs.Cues.{Cue, same_id}
use Rattle.timeline.specs.Unpacking.{no_cue, index_of}
use Rattle.timeline.proofs.Listing.{length-listed, listed_at}
use Rattle.boxes.specs.declared.Part.{Part}
use Rattle.wvtt_cues.specs.declared.Parts.{Parts}
use Rattle.wvtt_cues.specs.Cues.{text_of, held_by}
use Rattle.wvtt_cues.specs.Walk.{Within, Inside}
use Rattle.rows.specs.declared.Row.{Row}
use Rattle.rows.specs.Table.{row_at, numbers_of, moved, new_row, body_at, cue_at, known, Placed, Missing, Good}

-- ---- reading what was written

module _ (d : List ℕ) (at : ℕ) (v : List ℕ) (h : at + length v ≤ length d) where
  pub wrote-before : (k : ℕ) → k < at → get_or (wrote d at v) k 0 ≡ get_or d k 0
  unfolding wrote
  wrote-before k l =
      let n = length-take-le at d (omega arith) in
      get_or-append (take at d ++ v) (drop (at + length v) d) 0 k (rw length-append (omega arith))
      ∙ get_or-append (take at d) v 0 k (omega arith)
      ∙ get_or-take at d k 0 l

  pub wrote-in : (k : ℕ) → k < length v → get_or (wrote d at v) (at + k) 0 ≡ get_or v k 0
  unfolding wrote
  wrote-in k l =
      let n = length-take-le at d (omega arith) in
      get_or-append (take at d ++ v) (drop (at + length v) d) 0 (at + k) (rw length-append (omega arith))
      ∙ ap (λ (x : ℕ). get_or (take at d ++ v) (x + k) 0) (sym n)
      ∙ get_or-append-add (take at d) v k 0

  pub wrote-behind : (k : ℕ) → at + length v ≤ k → get_or (wrote d at v) k 0 ≡ get_or d k 0
  unfolding wrote
  wrote-behind k l =
      let n = length-take-le at d (omega arith) in
      let e : length (take at d ++ v) + (k - (at + length v)) ≡ k = rw length-append (omega arith) in
      let q : at + length v + (k - (at + length v)) ≡ k = omega arith in
      ap (λ (x : ℕ). get_or (take at d ++ v ++ drop (at + length v) d) x 0) (sym e)
      ∙ get_or-append-add (take at d ++ v) (drop (at + length v) d) (k - (at + length v)) 0
      ∙ get_or-drop (at + length v) d (k - (at + length v)) 0
      ∙ ap (λ (x : ℕ). get_or d x 0) q

-- two rows of the same numbers are the same
row-eq : (x y : Row) → x.id ≡ y.id → x.start ≡ y.start → x.end ≡ y.end → x.identifier.from ≡ y.identifier.from → x.identifier.end ≡ y.identifier.end
    → x.settings.from ≡ y.settings.from → x.settings.end ≡ y.settings.end → x.payload.from ≡ y.payload.from → x.payload.end ≡ y.payload.end → x ≡ y
row-eq x y a b c d e f g h k = λ i. record {
  id = a i;
  start = b i;
  end = c i;
  identifier = record { from = d i; end = e i };
  settings = record { from = f i; end = g i };
  payload = record { from = h i; end = k i };
}

pub length-numbers : (r : Row) → length (numbers_of r) ≡ 9
unfolding numbers_of
length-numbers r = refl

module _ (tab : List ℕ) (i : ℕ) (r : Row) (h : i * 9 + 9 ≤ length tab) where
  fits : i * 9 + length (numbers_of r) ≤ length tab
  fits = omega (arith, length-numbers r)

  in_row : (k : ℕ) → k < 9 → get_or (wrote tab (i * 9) (numbers_of r)) (i * 9 + k) 0 ≡ get_or (numbers_of r) k 0
  in_row k l = wrote-in tab (i * 9) (numbers_of r) fits k (omega (arith, length-numbers r))

  -- the row that was written
  pub row_written : row_at (wrote tab (i * 9) (numbers_of r)) i ≡ r
  unfolding row_at numbers_of
  row_written =
      row-eq _ r (ap (λ (x : ℕ). get_or (wrote tab (i * 9) (numbers_of r)) x 0) (sym (add-zero (i * 9))) ∙ in_row 0 (omega arith))
      (in_row 1 (omega arith)) (in_row 2 (omega arith)) (in_row 3 (omega arith)) (in_row 4 (omega arith)) (in_row 5 (omega arith)) (in_row 6 (omega arith)) (in_row 7 (omega arith)) (in_row 8 (omega arith))

  other : (j : ℕ) → j ≢ i → (k : ℕ) → k < 9 → get_or (wrote tab (i * 9) (numbers_of r)) (j * 9 + k) 0 ≡ get_or tab (j * 9 + k) 0
  other j n k l =
      either (suc j) i
      (λ a. wrote-before tab (i * 9) (numbers_of r) fits (j * 9 + k) (omega arith))
      (λ a. let b : i < j = omega (arith, n) in wrote-behind tab (i * 9) (numbers_of r) fits (j * 9 + k) (omega (arith, length-numbers r)))

  -- the others are as they were
  pub row_kept : (j : ℕ) → j ≢ i → row_at (wrote tab (i * 9) (numbers_of r)) j ≡ row_at tab j
  unfolding row_at
  row_kept j n =
      row-eq _ (row_at tab j)
      (ap (λ (x : ℕ). get_or (wrote tab (i * 9) (numbers_of r)) x 0) (sym (add-zero (j * 9))) ∙ other j n 0 (omega arith) ∙ ap (λ (x : ℕ). get_or tab x 0) (add-zero (j * 9)))
      (other j n 1 (omega arith)) (other j n 2 (omega arith)) (other j n 3 (omega arith)) (other j n 4 (omega arith)) (other j n 5 (omega arith)) (other j n 6 (omega arith)) (other j n 7 (omega arith)) (other j n 8 (omega arith))

-- the row, now ending at e
unfoldable pub ending : ℕ → Row → Row
ending e r = record { id = r.id; start = r.start; end = e; identifier = r.identifier; settings = r.settings; payload = r.payload }

module _ (tab : List ℕ) (i e : ℕ) (h : i * 9 + 9 ≤ length tab) where
  away : (k : ℕ) → k ≢ i * 9 + 2 → get_or (set tab (i * 9 + 2) e) k 0 ≡ get_or tab k 0
  away k n = get_or-set_other tab (i * 9 + 2) k e 0 n

  -- a store of an end
  pub row-ended : row_at (set tab (i * 9 + 2) e) i ≡ ending e (row_at tab i)
  unfolding row_at ending
  row-ended =
      row-eq _ (ending e (row_at tab i))
      (away (i * 9) (λ q. omega arith)) (away (i * 9 + 1) (λ q. omega arith)) (get_or-set_same tab (i * 9 + 2) e 0 (omega arith))
      (away (i * 9 + 3) (λ q. omega arith)) (away (i * 9 + 4) (λ q. omega arith)) (away (i * 9 + 5) (λ q. omega arith))
      (away (i * 9 + 6) (λ q. omega arith)) (away (i * 9 + 7) (λ q. omega arith)) (away (i * 9 + 8) (λ q. omega arith))

  pub row-ended-other : (j : ℕ) → j ≢ i → row_at (set tab (i * 9 + 2) e) j ≡ row_at tab j
  unfolding row_at
  row-ended-other j n =
      row-eq _ (row_at tab j)
      (away (j * 9) (λ q. absurd (omega (arith, n)))) (away (j * 9 + 1) (λ q. absurd (omega (arith, n)))) (away (j * 9 + 2) (λ q. n (omega arith)))
      (away (j * 9 + 3) (λ q. absurd (omega (arith, n)))) (away (j * 9 + 4) (λ q. absurd (omega (arith, n)))) (away (j * 9 + 5) (λ q. absurd (omega (arith, n))))
      (away (j * 9 + 6) (λ q. absurd (omega (arith, n)))) (away (j * 9 + 7) (λ q. absurd (omega (arith, n)))) (away (j * 9 + 8) (λ q. absurd (omega (arith, n))))

-- ---- lists by number

pub listed_same : {A : Type 0} (f g : ℕ → A) (n : ℕ) → ((i : ℕ) → i < n → f i ≡ g i) → listed f n ≡ listed g n
unfolding listed
listed_same f g zero h = refl
listed_same f g (suc k) h = rw (listed_same f g k (λ i l. h i (omega arith)), h k (omega arith))

pub listed-set : {A : Type 0} (f g : ℕ → A) (n j : ℕ) → j < n → ((i : ℕ) → i < n → i ≢ j → g i ≡ f i) → listed g n ≡ set (listed f n) j (g j)
listed-set f g n j l h =
    let a = length-listed f n in
    let b = length-listed g n in
    ext_get_or (g j) (listed g n) (set (listed f n) j (g j)) (b ∙ sym (length-set (listed f n) j (g j) ∙ a)) at
  where
    at : (i : ℕ) → i < length (listed g n) → get_or (listed g n) i (g j) ≡ get_or (set (listed f n) j (g j)) i (g j)
    at i m =
        let k : i < n = omega (arith, m, length-listed g n) in
        by-test (eqb i j)
        (λ q. let e = eqb-true i j q in
        listed_at g n i (g j) k ∙ ap g e ∙ sym (get_or-set_same (listed f n) j (g j) (g j) (omega (arith, length-listed f n))) ∙ ap (λ (x : ℕ). get_or (set (listed f n) j (g j)) x (g j)) (sym e))
        (λ q. let e = eqb-false i j q in
        listed_at g n i (g j) k ∙ h i k e ∙ sym (listed_at f n i (g j) k) ∙ sym (get_or-set_other (listed f n) j i (g j) (g j) e))

-- ---- the index of an ID

pub index-none : (x : Option ℕ) (cs : List Cue) → ((i : ℕ) → i < length cs → same_id (get_or cs i no_cue).body.id x ≡ false) → index_of x cs ≡ none
unfolding index_of
index-none x [] h = refl
index-none x (c ∷ cs) h = rw (h 0 (omega arith), index-none x cs (λ i l. h (suc i) (omega arith)))

pub index-some : (x : Option ℕ) (cs : List Cue) (j : ℕ) → j < length cs → same_id (get_or cs j no_cue).body.id x ≡ true
    → ((i : ℕ) → i < j → same_id (get_or cs i no_cue).body.id x ≡ false) → index_of x cs ≡ some j
unfolding index_of
index-some x [] j l e h = absurd (not-suc-le-zero l)
index-some x (c ∷ cs) zero l e h = rw e
index-some x (c ∷ cs) (suc j) l e h = rw (h 0 (omega arith), index-some x cs j (le_of_suc-le-suc l) e (λ i k. h (suc i) (omega arith)))

module _ (samples tab : List ℕ) (n : ℕ) where
  pub length-known : length (known samples tab n) ≡ n
  unfolding known
  length-known = length-listed (λ i. cue_at samples (row_at tab i)) n

  pub known_at : (j : ℕ) → j < n → get_or (known samples tab n) j no_cue ≡ cue_at samples (row_at tab j)
  unfolding known
  known_at j l = listed_at (λ i. cue_at samples (row_at tab i)) n j no_cue l

  id-at : (j id : ℕ) → j < n → same_id (get_or (known samples tab n) j no_cue).body.id (some id) ≡ eqb (row_at tab j).id id
  unfolding cue_at body_at same_id
  id-at j id l = ap (λ (x : Cue). same_id x.body.id (some id)) (known_at j l)

  -- an ID that stands in no row
  pub id-missing : (id : ℕ) → Missing tab 0 n id → index_of (some id) (known samples tab n) ≡ none
  id-missing id h = index-none (some id) (known samples tab n)
      (λ i l. let k : i < n = omega (arith, length-known) in id-at i id k ∙ ne_eqb (row_at tab i).id id (h i (omega arith) k))

  -- an ID that stands in row j, and in no other
  pub id-found : (l id j : ℕ) → Good l tab n → j < n → (row_at tab j).id ≡ id → index_of (some id) (known samples tab n) ≡ some j
  id-found l id j g h e = index-some (some id) (known samples tab n) j (omega (arith, length-known)) (id-at j id h ∙ eq-eqb (row_at tab j).id id e)
      (λ i k. id-at i id (omega arith) ∙ ne_eqb (row_at tab i).id id (λ q. g.apart i j k h (q ∙ sym e)))

-- ---- the search for an ID

pub missing-none : (tab : List ℕ) (n id : ℕ) → Missing tab n n id
missing-none tab n id i l k = absurd (omega arith)

pub missing-more : (tab : List ℕ) (j n id : ℕ) → 0 < j → get_or tab ((j - 1) * 9) 0 ≢ id → Missing tab j n id → Missing tab (j - 1) n id
unfolding row_at
missing-more tab j n id p x h i l k =
    either j i (λ a. h i a k) (λ a. let e : j - 1 ≡ i = omega arith in λ q. x (ap (λ (m : ℕ). get_or tab (m * 9) 0) e ∙ q))

pub missing-all : (tab : List ℕ) (j n id : ℕ) → j ≤ 0 → Missing tab j n id → Missing tab 0 n id
missing-all tab j n id z h i l k = h i (omega arith) k

pub id-read : (tab : List ℕ) (j id : ℕ) → get_or tab (j * 9) 0 ≡ id → (row_at tab j).id ≡ id
unfolding row_at
id-read tab j id e = e

-- ---- parts of a sample, as parts of all bytes

drop-take : (k m : ℕ) (t : List ℕ) → k ≤ m → drop k (take m t) ≡ take (m - k) (drop k t)
drop-take zero m t q = let z : m - 0 ≡ m = omega arith in rw z
drop-take (suc k) zero t q = absurd (not-suc-le-zero q)
drop-take (suc k) (suc m) [] q = sym (take-nil (suc m - suc k))
drop-take (suc k) (suc m) (x ∷ t) q = let z : suc m - suc k ≡ m - k = omega arith in rw z (drop-take k m t (le_of_suc-le-suc q))

part-part : (s : List ℕ) (at end f n : ℕ) → at + n ≤ end → f ≤ n → part (part s at end) f n ≡ part s (at + f) (at + n)
unfolding part
part-part s at end f n h l =
    let b : at + n - (at + f) ≡ n - f = omega arith in
    rw (b, drop-take f (end - at) (drop at s) (omega arith), drop-drop f at s)
    (take-take (n - f) (end - at - f) (drop (at + f) s) (omega arith))

text-moved : (s : List ℕ) (at end : ℕ) (x : Part) → at ≤ end → Within (end - at) x → text_of (part s at end) x ≡ text_of s (moved at x)
unfolding text_of moved
text-moved s at end x l w = part-part s at end x.from x.end (omega (arith, w.inside)) w.order

-- what a sample holds of a cue, said of all sample bytes
pub held_moved : (s : List ℕ) (at end b e : ℕ) (c : Parts) → at ≤ end → Inside (end - at) c → held_by (part s at end) c ≡ body_at s c.named (new_row at b e c)
unfolding held_by body_at new_row
held_moved s at end b e c l w =
    rw (text-moved s at end c.identifier l w.identifier, text-moved s at end c.settings l w.settings, text-moved s at end c.payload l w.payload)

within-moved : (at end l : ℕ) (x : Part) → at ≤ end → end ≤ l → Within (end - at) x → Within l (moved at x)
unfolding moved
within-moved at end l x h k w = record { order = omega (arith, w.order); inside = omega (arith, w.inside) }

pub placed-moved : (at end l b e : ℕ) (c : Parts) → at ≤ end → end ≤ l → Inside (end - at) c → Placed l (new_row at b e c)
unfolding new_row
placed-moved at end l b e c h k w = record {
  identifier = within-moved at end l c.identifier h k w.identifier;
  settings = within-moved at end l c.settings h k w.settings;
  payload = within-moved at end l c.payload h k w.payload;
}
