-- One cue: what taking it does to the table.
use Prim.Native.Nat.{ℕ, suc, ◌+◌, ◌*◌, ◌≤◌, ◌<◌}
use mathlib.Core.Path.{◌≡◌, refl, sym, ap, ◌∙◌, subst}
use mathlib.Core.Bool.{Bool, true, false}
use mathlib.Core.Option.{some}
use mathlib.Core.List.{List, [], ◌∷◌, ◌++◌}
use native.Mathlib.Omega.{arith}
use native.Mathlib.Numerals.{add-one}
use lib.Dec.{eqb, ltb, leb}
use lib.ListN.{length, set}
use borrow.Author.Tests.{eq-eqb, lt-ltb, le-ltb, eqb-true, eqb-false}
use Rattle.base.specs.Choice.{pick}
use Rattle.base.proofs.Choice.{either, by-test}
use Rattle.base.specs.Over.{wrote}
use Rattle.timeline.specs.Lists.{listed}
use Rattle.timeline.specs.Cues.{Cue, same_id, same_body}
use Rattle.timeline.specs.Unpacking.{fresh, till, index_of}
use Rattle.timeline.specs.Joining.{Taking, refused, going, again, on_index, take_body}
use Rattle.rows.specs.declared.Row.{Row}
use Rattle.std.proofs.Common.{Result, Ok, Err}
use Rattle.rows.specs.Table.{row_at, numbers_of, body_at, cue_at, known, same_texts, judged_again, Placed, Missing, Good}
use Rattle.rows.proofs.Laws.{row_written, row_kept, ending, row-ended, row-ended-other, listed_same, listed-set, length-known, known_at, id-missing, id-found}

pub take-unnamed : (samples : List ℕ) (b e : ℕ) (cs : List Cue) (k : ℕ) (named : Bool) (y : Row) → named ≡ false → refused 17 ≡ take_body b e cs k (body_at samples named y)
unfolding take_body body_at
take-unnamed samples b e cs k named y h = rw h

-- g, unless something is wrong
abbrev pub unless : Result (Unit {0}) ℕ → Taking → Taking
unless (Ok u) g = g
unless (Err m) g = refused m

cue-ended : (samples : List ℕ) (e : ℕ) (r : Row) → cue_at samples (ending e r) ≡ till e (cue_at samples r)
unfolding cue_at ending till body_at
cue-ended samples e r = refl

module _ (samples tab : List ℕ) (n k : ℕ) (named : Bool) (y : Row) (is : named ≡ true) where
  take-named : take_body y.start y.end (known samples tab n) k (body_at samples named y)
      ≡ on_index y.start y.end (known samples tab n) k (body_at samples true y) (index_of (some y.id) (known samples tab n))
  unfolding take_body body_at
  take-named = rw is

  -- ---- a new ID

  module _ (l : ℕ) (g : Good l tab n) (p : Placed l y) (m : Missing tab 0 n y.id) where
    pub take-full : 1024 ≤ n → refused 9 ≡ take_body y.start y.end (known samples tab n) k (body_at samples named y)
    take-full h =
        sym (take-named ∙ rw (id-missing samples tab n y.id m, le-ltb (length (known samples tab n)) 1024 (omega (arith, length-known samples tab n))))

    module _ (h : n * 9 + 9 ≤ length tab) where
      known-new : known samples (wrote tab (n * 9) (numbers_of y)) (suc n) ≡ known samples tab n ++ fresh y.start y.end (body_at samples true y) ∷ []
      unfolding known listed cue_at fresh
      known-new =
          rw (
            listed_same (λ i. cue_at samples (row_at (wrote tab (n * 9) (numbers_of y)) i)) (λ i. cue_at samples (row_at tab i)) n
                (λ i q. ap (cue_at samples) (row_kept tab n y h i (λ z. absurd (omega arith)))),
            row_written tab n y h,
          )

      pub take-new : n < 1024 → going (known samples (wrote tab (n * 9) (numbers_of y)) (n + 1)) (n + 1) ≡ take_body y.start y.end (known samples tab n) k (body_at samples named y)
      take-new q =
          let e = length-known samples tab n in
          let o : n + 1 ≡ suc n = omega arith in
          rw (o, known-new) (sym (take-named ∙ rw (id-missing samples tab n y.id m, lt-ltb (length (known samples tab n)) 1024 (omega arith), e)))

      pub good_new : Good l (wrote tab (n * 9) (numbers_of y)) (n + 1)
      good_new = record {
        placed = λ i q. either (suc i) n
            (λ a. subst (Placed l) (sym (row_kept tab n y h i (λ z. absurd (omega arith)))) (g.placed i a))
            (λ a. let e : i ≡ n = omega arith in subst (Placed l) (sym (ap (row_at (wrote tab (n * 9) (numbers_of y))) e ∙ row_written tab n y h)) p);
        apart = λ i j a b. either (suc j) n
            (λ q. let x = row_kept tab n y h i (λ z. absurd (omega arith)) in
            let z = row_kept tab n y h j (λ z. absurd (omega arith)) in
            λ w. g.apart i j a q (ap (λ (r : Row). r.id) (sym x) ∙ w ∙ ap (λ (r : Row). r.id) z))
            (λ q. let e : j ≡ n = omega arith in
            let x = row_kept tab n y h i (λ z. absurd (omega arith)) in
            let z = ap (row_at (wrote tab (n * 9) (numbers_of y))) e ∙ row_written tab n y h in
            λ w. m i (omega arith) (omega arith) (ap (λ (r : Row). r.id) (sym x) ∙ w ∙ ap (λ (r : Row). r.id) z));
      }

  -- ---- an ID that stands in row j

  module _ (l j : ℕ) (g : Good l tab n) (h : j < n) (e : (row_at tab j).id ≡ y.id) where
    same_body_lem : same_body (cue_at samples (row_at tab j)).body (body_at samples true y) ≡ same_texts samples (row_at tab j) y
    unfolding same_body cue_at body_at same_texts same_id
    same_body_lem = rw (eq-eqb (row_at tab j).id y.id e)

    again-number : again y.start y.end (known samples tab n) k (body_at samples true y) j
        ≡ unless (judged_again samples (row_at tab j) y k j) (going (set (known samples tab n) j (till y.end (cue_at samples (row_at tab j)))) (suc j))
    unfolding again judged_again cue_at row_at
    again-number = rw (known_at samples tab n j h, same_body_lem) (go (eqb (row_at tab j).end y.end) (ltb (row_at tab j).end y.start) (same_texts samples (row_at tab j) y) (leb k j))
      where
        go : (s t u v : Bool) → let gone = going (set (known samples tab n) j (till y.end (cue_at samples (row_at tab j)))) (suc j) in
            pick s (refused 12) (pick t (refused 13) (pick u (pick v gone (refused 11)) (refused 14))) ≡ unless (pick s (Err 12) (pick t (Err 13) (pick u (pick v (Ok tt) (Err 11)) (Err 14)))) gone
        go true t u v = refl
        go false true u v = refl
        go false false true true = refl
        go false false true false = refl
        go false false false v = refl

    take_again : take_body y.start y.end (known samples tab n) k (body_at samples named y)
        ≡ unless (judged_again samples (row_at tab j) y k j) (going (set (known samples tab n) j (till y.end (cue_at samples (row_at tab j)))) (suc j))
    take_again = take-named ∙ rw (id-found samples tab n l y.id j g h e) again-number

    pub take-fault : (m : ℕ) (x : Row) → x ≡ row_at tab j → judged_again samples x y k j ≡ Err m → refused m ≡ take_body y.start y.end (known samples tab n) k (body_at samples named y)
    take-fault m x r q =
        let w : judged_again samples (row_at tab j) y k j ≡ Err m = ap (λ (v : Row). judged_again samples v y k j) (sym r) ∙ q in
        sym (take_again ∙ rw w)

    module _ (f : j * 9 + 9 ≤ length tab) where
      known-ended : known samples (set tab (j * 9 + 2) y.end) n ≡ set (known samples tab n) j (till y.end (cue_at samples (row_at tab j)))
      unfolding known
      known-ended =
          listed-set (λ i. cue_at samples (row_at tab i)) (λ i. cue_at samples (row_at (set tab (j * 9 + 2) y.end) i)) n j h
          (λ i a b. ap (cue_at samples) (row-ended-other tab j y.end f i b))
          ∙ ap (set (listed (λ i. cue_at samples (row_at tab i)) n) j) ended
        where
          ended : cue_at samples (row_at (set tab (j * 9 + 2) y.end) j) ≡ till y.end (cue_at samples (row_at tab j))
          ended = ap (cue_at samples) (row-ended tab j y.end f) ∙ cue-ended samples y.end (row_at tab j)

      pub take-known : (x : Row) → x ≡ row_at tab j → judged_again samples x y k j ≡ Ok tt
          → going (known samples (set tab (j * 9 + 2) y.end) n) (j + 1) ≡ take_body y.start y.end (known samples tab n) k (body_at samples named y)
      take-known x r q =
          let w : judged_again samples (row_at tab j) y k j ≡ Ok tt = ap (λ (v : Row). judged_again samples v y k j) (sym r) ∙ q in
          rw (add-one, known-ended) (sym (take_again ∙ rw w))

      id-kept : (i : ℕ) → (row_at (set tab (j * 9 + 2) y.end) i).id ≡ (row_at tab i).id
      unfolding ending
      id-kept i = by-test (eqb i j)
          (λ q. let a = eqb-true i j q in rw a (ap (λ (r : Row). r.id) (row-ended tab j y.end f)))
          (λ q. ap (λ (r : Row). r.id) (row-ended-other tab j y.end f i (eqb-false i j q)))

      pub good-known : Good l (set tab (j * 9 + 2) y.end) n
      unfolding ending
      good-known = record {
        placed = λ i q. by-test (eqb i j)
            (λ w. let a = eqb-true i j w in let o = g.placed j h in
            subst (λ (x : ℕ). Placed l (row_at (set tab (j * 9 + 2) y.end) x)) (sym a)
            (subst (Placed l) (sym (row-ended tab j y.end f)) (record { identifier = o.identifier; settings = o.settings; payload = o.payload })))
            (λ w. subst (Placed l) (sym (row-ended-other tab j y.end f i (eqb-false i j w))) (g.placed i q));
        apart = λ i o a b w. g.apart i o a b (sym (id-kept i) ∙ w ∙ id-kept o);
      }
