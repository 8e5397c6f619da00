-- Unpacking as the code does it is `unpack`: on positive durations a cue ends where a sample ends exactly if that sample held it, and the least index that may come
-- next is one above the newest cue of the sample.
use Prim.Native.Nat.{ℕ, zero, suc, ◌+◌, ◌<◌, ◌≤◌}
use mathlib.Core.Path.{◌≡◌, refl, sym, ap, ap₂, ◌∙◌, subst}
use mathlib.Core.Logic.{◌⊎◌, inl, inr}
use mathlib.Core.Bool.{Bool, true, false, not}
use mathlib.Core.Option.{Option, none, some}
use mathlib.Core.List.{List, [], ◌∷◌, ◌++◌, Memᴰ, append-nil}
use native.Mathlib.Omega.{arith}
use native.Mathlib.Nat.{not-suc-le-zero}
use lib.Dec.{eqb, leb, ltb}
use lib.ListN.{length, get_or, set, length-append, length-set, get_or-append}
use lib.Seq.{append_snoc, get_or_at, set_at, get_or-set_same, get_or-set_other}
use borrow.Author.Tests.{eq-eqb, ne_eqb, lt-ltb, le-ltb, le-leb, lt-leb, leb-true, ltb-true}
use Rattle.base.specs.Choice.{pick, any_of}
use Rattle.base.proofs.Choice.{by-test, either, true-false}
use Rattle.timeline.specs.Cues.{Body, Cue, same_body, same_id}
use Rattle.timeline.specs.Tracks.{Positive, Sample}
use Rattle.timeline.specs.Unpacking.{ListOf, Known, Unpacked, after, by_index, done, faulty, fresh, goes_on, has_id, has_newer, if_named, index_of, known, no_cue, on_known, on_read, or_next, read_all, read_body, read_from, stopped, till, unpack}
use Rattle.timeline.specs.Joining.{JoinedIs, Taking, again, going, joined, on_index, on_sample, on_taking, refused, all_taken, take_body, unpack_from, with_id}
use Rattle.timeline.proofs.Running.{id_same, same_id_lem}
use Rattle.timeline.proofs.Taking.{found, joined-right}

-- ---- IDs and indices

-- two cues at one index have one ID
id-at : (n : Option ℕ) (cs : List Cue) (i : ℕ) → index_of n cs ≡ some i → ((get_or cs i no_cue).body.id ≡ n) × (i < length cs)
id-at n cs i h =
    let w = found n cs i h in
    let e : get_or cs i no_cue ≡ w.1 = ap (λ (z : List Cue). get_or z i no_cue) w.3 ∙ get_or_at w.0 w.1 w.2 no_cue i w.4 in
    (ap (λ (c : Cue). c.body.id) e ∙ w.5, omega (arith, ap length w.3, length-append w.0 (w.1 ∷ w.2), w.4))

one-id : (m n : Option ℕ) (cs : List Cue) (i : ℕ) → index_of m cs ≡ some i → index_of n cs ≡ some i → m ≡ n
one-id m n cs i h k = sym (id-at m cs i h).0 ∙ (id-at n cs i k).0

abbrev code : Option ℕ → ℕ
code none = 0
code (some j) = suc j

-- a cue that goes on keeps every index
index-set : (n : Option ℕ) (e : ℕ) (cs : List Cue) (j : ℕ) → index_of n (set cs j (till e (get_or cs j no_cue))) ≡ index_of n cs
unfolding index_of till
index-set n e [] j = refl
index-set n e (c ∷ cs) zero = refl
index-set n e (c ∷ cs) (suc j) = ap (or_next (same_id c.body.id n)) (index-set n e cs j)

-- a cue that comes last
index-front : (n : Option ℕ) (cs : List Cue) (c : Cue) (i : ℕ) → index_of n cs ≡ some i → index_of n (cs ++ c ∷ []) ≡ some i
unfolding index_of
index-front n [] c i h = absurd (omega (arith, ap code h))
index-front n (x ∷ cs) c i h =
    by-test (same_id x.body.id n)
    (λ t. rw t (rw t at h))
    (λ t. rw t (go (index_of n cs) refl (rw t at h) (λ j g. index-front n cs c j g)))
  where
    go : (o : Option ℕ) → index_of n cs ≡ o → or_next false o ≡ some i → ((j : ℕ) → index_of n cs ≡ some j → index_of n (cs ++ c ∷ []) ≡ some j) → or_next false (index_of n (cs ++ c ∷ [])) ≡ some i
    go none g k rest = absurd (omega (arith, ap code k))
    go (some j) g k rest = rw (rest j g) k

index-last : (n : Option ℕ) (cs : List Cue) (c : Cue) (i : ℕ) → index_of n cs ≡ none → index_of n (cs ++ c ∷ []) ≡ some i → (c.body.id ≡ n) × (i ≡ length cs)
unfolding index_of
index-last n [] c i h k =
    by-test (same_id c.body.id n)
    (λ t. (same_id_lem c.body.id n t, omega (arith, ap code (ap (λ (b : Bool). or_next b none) (sym t) ∙ k))))
    (λ t. absurd (omega (arith, ap code (ap (λ (b : Bool). or_next b none) (sym t) ∙ k))))
index-last n (x ∷ cs) c i h k =
    by-test (same_id x.body.id n)
    (λ t. absurd (omega (arith, ap code (ap (λ (b : Bool). or_next b (index_of n cs)) (sym t) ∙ h))))
    (λ t. go (index_of n cs) refl (index_of n (cs ++ c ∷ [])) refl (rw t at h) (rw t at k) (λ j g l. index-last n cs c j g l))
  where
    go : (o : Option ℕ) → index_of n cs ≡ o → (q : Option ℕ) → index_of n (cs ++ c ∷ []) ≡ q → or_next false o ≡ none → or_next false q ≡ some i
        → ((j : ℕ) → index_of n cs ≡ none → index_of n (cs ++ c ∷ []) ≡ some j → (c.body.id ≡ n) × (j ≡ length cs)) → (c.body.id ≡ n) × (i ≡ suc (length cs))
    go (some o) g q l h k rest = absurd (omega (arith, ap code h))
    go none g none l h k rest = absurd (omega (arith, ap code k))
    go none g (some j) l h k rest = let w = rest j g l in (w.0, omega (arith, ap code k, w.1))

index-new : (n : Option ℕ) (cs : List Cue) (c : Cue) → index_of n cs ≡ none → c.body.id ≡ n → index_of n (cs ++ c ∷ []) ≡ some (length cs)
unfolding index_of
index-new n [] c h e = let t : same_id c.body.id n ≡ true = subst (λ (z : Option ℕ). same_id z n ≡ true) (sym e) (id_same n) in rw t
index-new n (x ∷ cs) c h e =
    by-test (same_id x.body.id n)
    (λ t. absurd (omega (arith, ap code (ap (λ (b : Bool). or_next b (index_of n cs)) (sym t) ∙ h))))
    (λ t. rw t (ap (or_next false) (index-new n cs c (rest (index_of n cs) (rw t at h)) e)))
  where
    rest : (o : Option ℕ) → or_next false o ≡ none → o ≡ none
    rest none k = refl
    rest (some j) k = absurd (omega (arith, ap code k))

-- ---- IDs among bodies

has_more : (n : Option ℕ) (ys : List Body) (y : Body) → has_id n (ys ++ y ∷ []) ≡ any_of (has_id n ys) (same_id y.id n)
unfolding has_id
has_more n [] y = flip (same_id y.id n)
  where
    flip : (b : Bool) → any_of b false ≡ b
    flip true = refl
    flip false = refl
has_more n (x ∷ ys) y = turn (same_id x.id n) (has_more n ys y)
  where
    turn : (b : Bool) → has_id n (ys ++ y ∷ []) ≡ any_of (has_id n ys) (same_id y.id n) → any_of b (has_id n (ys ++ y ∷ [])) ≡ any_of (any_of b (has_id n ys)) (same_id y.id n)
    turn true e = refl
    turn false e = e

has-this : (ys : List Body) (y : Body) → has_id y.id (ys ++ y ∷ []) ≡ true
has-this ys y = has_more y.id ys y ∙ yes (has_id y.id ys) (id_same y.id)
  where
    yes : (b : Bool) → same_id y.id y.id ≡ true → any_of b (same_id y.id y.id) ≡ true
    yes true e = refl
    yes false e = e

-- another ID: as before
has_other : (n : Option ℕ) (ys : List Body) (y : Body) → (y.id ≡ n → ⊥) → has_id n (ys ++ y ∷ []) ≡ has_id n ys
has_other n ys y h = has_more n ys y ∙ no (same_id y.id n) refl (has_id n ys)
  where
    no : (t : Bool) → same_id y.id n ≡ t → (b : Bool) → any_of b t ≡ b
    no true e b = absurd (h (same_id_lem y.id n e))
    no false e true = refl
    no false e false = refl

-- a body that is newer than cue j
newer-is : (cs : List Cue) (j : ℕ) (ys : List Body) → has_newer cs j ys ≡ true → (n : Option ℕ) × (i : ℕ) × (has_id n ys ≡ true) × (index_of n cs ≡ some i) × (j < i)
unfolding has_newer has_id
newer-is cs j [] h = true-false false h refl
newer-is cs j (y ∷ ys) h = go (index_of y.id cs) refl (after j (index_of y.id cs)) refl h (λ g. newer-is cs j ys g)
  where
    some_of : {c : Bool} (a : Bool) → c ≡ true → any_of a c ≡ true
    some_of true e = refl
    some_of false e = e

    go : (o : Option ℕ) → index_of y.id cs ≡ o → (t : Bool) → after j o ≡ t → any_of t (has_newer cs j ys) ≡ true
        → (has_newer cs j ys ≡ true → (n : Option ℕ) × (i : ℕ) × (has_id n ys ≡ true) × (index_of n cs ≡ some i) × (j < i))
        → (n : Option ℕ) × (i : ℕ) × (has_id n (y ∷ ys) ≡ true) × (index_of n cs ≡ some i) × (j < i)
    go o e false q r rest = let w = rest r in (w.0, w.1, some_of (same_id y.id w.0) w.2, w.3, w.4)
    go none e true q r rest = true-false false q refl
    go (some i) e true q r rest = (y.id, i, rw (id_same y.id), e, ltb-true j i q)

is-newer : (cs : List Cue) (j : ℕ) (ys : List Body) (n : Option ℕ) (i : ℕ) → has_id n ys ≡ true → index_of n cs ≡ some i → j < i → has_newer cs j ys ≡ true
unfolding has_newer has_id
is-newer cs j [] n i h k l = true-false false h refl
is-newer cs j (y ∷ ys) n i h k l =
    by-test (same_id y.id n)
    (λ t. let e : index_of y.id cs ≡ some i = ap (λ (m : Option ℕ). index_of m cs) (same_id_lem y.id n t) ∙ k in rw (e, lt-ltb j i l))
    (λ t. last (after j (index_of y.id cs)) (is-newer cs j ys n i (rw t at h) k l))
  where
    last : (b : Bool) → has_newer cs j ys ≡ true → any_of b (has_newer cs j ys) ≡ true
    last true e = refl
    last false e = e

-- ---- inside a sample from b to e

-- where the cue with an ID ends: at e if this sample held it, else at b exactly if the sample directly before did
record Ends (b e : ℕ) (last earlier : List Body) (n : Option ℕ) (x : ℕ) : Type 0 where
  here : has_id n earlier ≡ true → x ≡ e
  before : has_id n earlier ≡ false → has_id n last ≡ true → x ≡ b
  gone : has_id n earlier ≡ false → has_id n last ≡ false → x < b

record Inside (b e : ℕ) (last earlier : List Body) (cs : List Cue) (k : ℕ) : Type 0 where
  ends : (n : Option ℕ) (i : ℕ) → index_of n cs ≡ some i → Ends b e last earlier n (get_or cs i no_cue).end
  listed : (n : Option ℕ) → has_id n earlier ≡ true → (i : ℕ) × (index_of n cs ≡ some i)
  below : (n : Option ℕ) (i : ℕ) → has_id n earlier ≡ true → index_of n cs ≡ some i → i < k
  top : (k ≡ 0) ⊎ ((n : Option ℕ) × (i : ℕ) × (has_id n earlier ≡ true) × (index_of n cs ≡ some i) × (k ≡ suc i))
  short : k ≤ length cs

-- the two ways agree on a body
Agree : ℕ → ℕ → List Body → List Body → Taking → Known → Type 0
Agree b e last earlier (refused n) (faulty m) = n ≡ m
Agree b e last earlier (refused n) (known ds) = ⊥
Agree b e last earlier (going cs k) (faulty m) = ⊥
Agree b e last earlier (going cs k) (known ds) = (cs ≡ ds) × Inside b e last earlier cs k

module _ (b e : ℕ) (l : b < e) (last earlier : List Body) (cs : List Cue) (k : ℕ) (w : Inside b e last earlier cs k) (y : Body) where
  -- its cue goes on
  on : (j : ℕ) → index_of y.id cs ≡ some j → k ≤ j → Inside b e last (earlier ++ y ∷ []) (set cs j (till e (get_or cs j no_cue))) (suc j)
  unfolding till
  on j h low = record {
    ends = λ n i g. end_of n i (sym (index-set n e cs j) ∙ g);
    listed = λ n g. by-test (same_id y.id n)
        (λ t. (j, index-set n e cs j ∙ ap (λ (m : Option ℕ). index_of m cs) (sym (same_id_lem y.id n t)) ∙ h))
        (λ t. let v = w.listed n (sym (old n t) ∙ g) in (v.0, index-set n e cs j ∙ v.1));
    below = λ n i g q. let q₂ = sym (index-set n e cs j) ∙ q in by-test (same_id y.id n)
        (λ t. omega (arith, ap code (sym q₂ ∙ ap (λ (m : Option ℕ). index_of m cs) (sym (same_id_lem y.id n t)) ∙ h)))
        (λ t. omega (arith, w.below n i (sym (old n t) ∙ g) q₂));
    top = inr (y.id, j, has-this earlier y, index-set y.id e cs j ∙ h, refl);
    short = omega (arith, length-set cs j (till e (get_or cs j no_cue)), (id-at y.id cs j h).1);
  }
    where
      old : (n : Option ℕ) → same_id y.id n ≡ false → has_id n (earlier ++ y ∷ []) ≡ has_id n earlier
      old n t = has_other n earlier y (λ q. true-false (same_id y.id n) (subst (λ (m : Option ℕ). same_id y.id m ≡ true) q (id_same y.id)) t)

      end_of : (n : Option ℕ) (i : ℕ) → index_of n cs ≡ some i → Ends b e last (earlier ++ y ∷ []) n (get_or (set cs j (till e (get_or cs j no_cue))) i no_cue).end
      end_of n i g =
          by-test (same_id y.id n)
          (λ t. let q = same_id_lem y.id n t in
          let z : i ≡ j = omega (arith, ap code (sym g ∙ ap (λ (m : Option ℕ). index_of m cs) (sym q) ∙ h)) in
          let x : (get_or (set cs j (till e (get_or cs j no_cue))) i no_cue).end ≡ e = ap (λ (m : ℕ). (get_or (set cs j (till e (get_or cs j no_cue))) m no_cue).end) z ∙ ap (λ (c : Cue). c.end) (get_or-set_same cs j (till e (get_or cs j no_cue)) no_cue (id-at y.id cs j h).1) in
          let yes : has_id n (earlier ++ y ∷ []) ≡ true = ap (λ (m : Option ℕ). has_id m (earlier ++ y ∷ [])) (sym q) ∙ has-this earlier y in
          record { here = λ _. x; before = λ f _. true-false (has_id n (earlier ++ y ∷ [])) yes f; gone = λ f _. true-false (has_id n (earlier ++ y ∷ [])) yes f })
          (λ t. let away : i ≡ j → ⊥ = λ z. true-false (same_id y.id n) (subst (λ (m : Option ℕ). same_id y.id m ≡ true) (one-id y.id n cs j h (g ∙ ap some z)) (id_same y.id)) t in
          let x = ap (λ (c : Cue). c.end) (get_or-set_other cs j i (till e (get_or cs j no_cue)) no_cue away) in
          let v = w.ends n i g in
          record { here = λ f. x ∙ v.here (sym (old n t) ∙ f); before = λ f p. x ∙ v.before (sym (old n t) ∙ f) p; gone = λ f p. omega (arith, x, v.gone (sym (old n t) ∙ f) p) })

  -- it is a new cue
  new : index_of y.id cs ≡ none → Inside b e last (earlier ++ y ∷ []) (cs ++ fresh b e y ∷ []) (suc (length cs))
  unfolding fresh
  new h = record {
    ends = λ n i g. end_of n i g (index_of n cs) refl;
    listed = λ n g. by-test (same_id y.id n)
        (λ t. let q = same_id_lem y.id n t in (length cs, index-new n cs (fresh b e y) (ap (λ (m : Option ℕ). index_of m cs) (sym q) ∙ h) q))
        (λ t. let v = w.listed n (sym (old n t) ∙ g) in (v.0, index-front n cs (fresh b e y) v.0 v.1));
    below = λ n i g q. by-test (same_id y.id n)
        (λ t. omega (arith, (index-last n cs (fresh b e y) i (ap (λ (m : Option ℕ). index_of m cs) (sym (same_id_lem y.id n t)) ∙ h) q).1))
        (λ t. let v = w.listed n (sym (old n t) ∙ g) in
        omega (arith, ap code (sym q ∙ index-front n cs (fresh b e y) v.0 v.1), w.below n v.0 (sym (old n t) ∙ g) v.1, w.short));
    top = inr (y.id, length cs, has-this earlier y, index-new y.id cs (fresh b e y) h refl, refl);
    short = omega (arith, length-append cs (fresh b e y ∷ []));
  }
    where
      old : (n : Option ℕ) → same_id y.id n ≡ false → has_id n (earlier ++ y ∷ []) ≡ has_id n earlier
      old n t = has_other n earlier y (λ q. true-false (same_id y.id n) (subst (λ (m : Option ℕ). same_id y.id m ≡ true) q (id_same y.id)) t)

      end_of : (n : Option ℕ) (i : ℕ) → index_of n (cs ++ fresh b e y ∷ []) ≡ some i → (o : Option ℕ) → index_of n cs ≡ o → Ends b e last (earlier ++ y ∷ []) n (get_or (cs ++ fresh b e y ∷ []) i no_cue).end
      end_of n i g none q =
          let z = index-last n cs (fresh b e y) i q g in
          let x : (get_or (cs ++ fresh b e y ∷ []) i no_cue).end ≡ e = ap (λ (c : Cue). c.end) (get_or_at cs (fresh b e y) [] no_cue i (sym z.1)) in
          let yes : has_id n (earlier ++ y ∷ []) ≡ true = ap (λ (m : Option ℕ). has_id m (earlier ++ y ∷ [])) (sym z.0) ∙ has-this earlier y in
          record { here = λ _. x; before = λ f _. true-false (has_id n (earlier ++ y ∷ [])) yes f; gone = λ f _. true-false (has_id n (earlier ++ y ∷ [])) yes f }
      end_of n i g (some j) q =
          let z : i ≡ j = omega (arith, ap code (sym g ∙ index-front n cs (fresh b e y) j q)) in
          let away : y.id ≡ n → ⊥ = λ p. absurd (omega (arith, ap code (sym h ∙ ap (λ (m : Option ℕ). index_of m cs) p ∙ q))) in
          let x : (get_or (cs ++ fresh b e y ∷ []) i no_cue).end ≡ (get_or cs j no_cue).end =
          ap (λ (m : ℕ). (get_or (cs ++ fresh b e y ∷ []) m no_cue).end) z ∙ ap (λ (c : Cue). c.end) (get_or-append cs (fresh b e y ∷ []) no_cue j (id-at n cs j q).1) in
          let v = w.ends n j q in
          let o = has_other n earlier y away in
          record { here = λ f. x ∙ v.here (sym o ∙ f); before = λ f p. x ∙ v.before (sym o ∙ f) p; gone = λ f p. omega (arith, x, v.gone (sym o ∙ f) p) }

  -- where a cue that is not in this sample yet may go on: the least index is above it exactly if a cue before it is newer
  order : (j : ℕ) → index_of y.id cs ≡ some j → has_id y.id earlier ≡ false → leb k j ≡ not (has_newer cs j earlier)
  order j h f =
      by-test (has_newer cs j earlier)
      (λ t. let v = newer-is cs j earlier t in rw t (lt-leb k j (omega (arith, v.4, w.below v.0 v.1 v.2 v.3))))
      (λ t. rw t (le-leb k j (go t w.top)))
    where
      go : has_newer cs j earlier ≡ false → (k ≡ 0) ⊎ ((n : Option ℕ) × (i : ℕ) × (has_id n earlier ≡ true) × (index_of n cs ≡ some i) × (k ≡ suc i)) → k ≤ j
      go t (inl z) = omega arith
      go t (inr v) =
          either k j (λ x. x)
          (λ x. either (suc j) v.1
          (λ z. true-false (has_newer cs j earlier) (is-newer cs j earlier v.0 v.1 v.2 v.3 z) t)
          (λ z. let s : v.1 ≡ j = omega (arith, v.4) in
          true-false (has_id y.id earlier) (ap (λ (m : Option ℕ). has_id m earlier) (sym (one-id v.0 y.id cs j (v.3 ∙ ap some s) h)) ∙ v.2) f))

  known-agrees : (j : ℕ) → index_of y.id cs ≡ some j → Agree b e last (earlier ++ y ∷ []) (again b e cs k y j) (pick (has_id y.id earlier) (faulty 12) (goes_on e last earlier cs y j))
  unfolding again goes_on Agree
  known-agrees j h = go (has_id y.id earlier) refl (has_id y.id last) refl (same_body (get_or cs j no_cue).body y) (has_newer cs j earlier) refl
    where
      v : Ends b e last earlier y.id (get_or cs j no_cue).end
      v = w.ends y.id j h

      go : (p : Bool) → has_id y.id earlier ≡ p → (q : Bool) → has_id y.id last ≡ q → (r : Bool) (s : Bool) → has_newer cs j earlier ≡ s
          → Agree b e last (earlier ++ y ∷ [])
          (pick (eqb (get_or cs j no_cue).end e) (refused 12) (pick (ltb (get_or cs j no_cue).end b) (refused 13) (pick r (pick (leb k j) (going (set cs j (till e (get_or cs j no_cue))) (suc j)) (refused 11)) (refused 14))))
          (pick p (faulty 12) (pick (not q) (faulty 13) (pick (not r) (faulty 14) (pick s (faulty 11) (known (set cs j (till e (get_or cs j no_cue))))))))
      go true e1 q e2 r s e4 = rw (eq-eqb (get_or cs j no_cue).end e (v.here e1)) refl
      go false e1 false e2 r s e4 =
          let x = v.gone e1 e2 in
          rw (ne_eqb (get_or cs j no_cue).end e (λ z. omega (arith, x)), lt-ltb (get_or cs j no_cue).end b x) refl
      go false e1 true e2 r s e4 =
          let x = v.before e1 e2 in
          rw (ne_eqb (get_or cs j no_cue).end e (λ z. omega (arith, x)), le-ltb (get_or cs j no_cue).end b (omega (arith, x))) (rest r s e4)
        where
          rest : (r : Bool) (s : Bool) → has_newer cs j earlier ≡ s
              → Agree b e last (earlier ++ y ∷ []) (pick r (pick (leb k j) (going (set cs j (till e (get_or cs j no_cue))) (suc j)) (refused 11)) (refused 14))
              (pick (not r) (faulty 14) (pick s (faulty 11) (known (set cs j (till e (get_or cs j no_cue))))))
          rest false s e4 = refl
          rest true true e4 = rw (order j h e1, e4) refl
          rest true false e4 = rw (order j h e1, e4) (refl, on j h (leb-true k j (order j h e1 ∙ ap not e4)))

  body-agrees : Agree b e last (earlier ++ y ∷ []) (take_body b e cs k y) (read_body b e last earlier cs y)
  unfolding take_body read_body Agree
  body-agrees = go y.id refl
    where
      room : (t : Bool) → index_of y.id cs ≡ none
          → Agree b e last (earlier ++ y ∷ []) (pick t (going (cs ++ fresh b e y ∷ []) (suc (length cs))) (refused 9)) (pick t (known (cs ++ fresh b e y ∷ [])) (faulty 9))
      room true h = (refl, new h)
      room false h = refl

      at : (o : Option ℕ) → index_of y.id cs ≡ o → Agree b e last (earlier ++ y ∷ []) (on_index b e cs k y o) (pick (has_id y.id earlier) (faulty 12) (by_index b e last earlier cs y o))
      at none h =
          by-test (has_id y.id earlier)
          (λ t. absurd (omega (arith, ap code (sym h ∙ (w.listed y.id t).1))))
          (λ t. rw t (room (ltb (length cs) 1024) h))
      at (some j) h = known-agrees j h

      go : (o : Option ℕ) → y.id ≡ o
          → Agree b e last (earlier ++ y ∷ []) (with_id o (on_index b e cs k y (index_of y.id cs))) (if_named o (pick (has_id y.id earlier) (faulty 12) (by_index b e last earlier cs y (index_of y.id cs))))
      go none q = refl
      go (some n) q = at (index_of y.id cs) refl

-- the bodies of a sample
all-agree : (b e : ℕ) (last earlier : List Body) (cs : List Cue) (k : ℕ) (ys : List Body) → b < e → Inside b e last earlier cs k
    → Agree b e last (earlier ++ ys) (all_taken b e cs k ys) (read_all b e last earlier cs ys)
unfolding all_taken read_all Agree
all-agree b e last earlier cs k [] l w = (refl, subst (λ (z : List Body). Inside b e last z cs k) (sym (append-nil earlier)) w)
all-agree b e last earlier cs k (y ∷ ys) l w =
    go (take_body b e cs k y) (read_body b e last earlier cs y) (body-agrees b e l last earlier cs k w y) (λ ds m v. all-agree b e last (earlier ++ y ∷ []) ds m ys l v)
  where
    go : (t : Taking) (r : Known) → Agree b e last (earlier ++ y ∷ []) t r
        → ((ds : List Cue) (m : ℕ) → Inside b e last (earlier ++ y ∷ []) ds m → Agree b e last (earlier ++ y ∷ [] ++ ys) (all_taken b e ds m ys) (read_all b e last (earlier ++ y ∷ []) ds ys))
        → Agree b e last (earlier ++ y ∷ ys) (on_taking t (λ ds m. all_taken b e ds m ys)) (on_known r (λ ds. read_all b e last (earlier ++ y ∷ []) ds ys))
    go (refused n) (faulty m) a rest = a
    go (refused n) (known ds) a rest = absurd a
    go (going cs k) (faulty m) a rest = absurd a
    go (going cs k) (known ds) a rest =
        subst (λ (z : List Body). Agree b e last z (all_taken b e cs k ys) (read_all b e last (earlier ++ y ∷ []) ds ys)) (append_snoc earlier y ys)
        (subst (λ (z : List Cue). Agree b e last (earlier ++ y ∷ [] ++ ys) (all_taken b e cs k ys) (read_all b e last (earlier ++ y ∷ []) z ys)) a.0 (rest cs k a.1))

-- ---- between samples

-- the cue with an ID ends at b exactly if the sample that ends there held it
record Between (b : ℕ) (last : List Body) (cs : List Cue) : Type 0 where
  near : (n : Option ℕ) (i : ℕ) → index_of n cs ≡ some i → has_id n last ≡ true → (get_or cs i no_cue).end ≡ b
  far : (n : Option ℕ) (i : ℕ) → index_of n cs ≡ some i → has_id n last ≡ false → (get_or cs i no_cue).end < b

begins : (b e : ℕ) (last : List Body) (cs : List Cue) → Between b last cs → Inside b e last [] cs 0
unfolding has_id
begins b e last cs w = record {
  ends = λ n i h. record { here = λ f. true-false false f refl; before = λ f. w.near n i h; gone = λ f. w.far n i h };
  listed = λ n f. true-false false f refl;
  below = λ n i f. true-false false f refl;
  top = inl refl;
  short = omega arith;
}

passes : (b e : ℕ) (last held : List Body) (cs : List Cue) (k : ℕ) → b < e → Inside b e last held cs k → Between e held cs
passes b e last held cs k l w = record {
  near = λ n i h f. (w.ends n i h).here f;
  far = λ n i h f. by-test (has_id n last) (λ t. omega (arith, (w.ends n i h).before f t)) (λ t. omega (arith, (w.ends n i h).gone f t));
}

from-agrees : (b i : ℕ) (last : List Body) (cs : List Cue) (ss : List Sample) → Positive ss → Between b last cs → unpack_from b i cs ss ≡ read_from b i last cs ss
unfolding unpack_from read_from Agree
from-agrees b i last cs [] pos w = refl
from-agrees b i last cs (s ∷ ss) pos w =
    go (all_taken b (b + s.duration) cs 0 s.held) (read_all b (b + s.duration) last [] cs s.held)
    (all-agree b (b + s.duration) last [] cs 0 s.held l (begins b (b + s.duration) last cs w))
    (λ ds v. from-agrees (b + s.duration) (suc i) s.held ds ss (λ x m. pos x (Memᴰ.tail m)) v)
  where
    l : b < b + s.duration
    l = omega (arith, pos s (Memᴰ.head refl))

    go : (t : Taking) (r : Known) → Agree b (b + s.duration) last s.held t r
        → ((ds : List Cue) → Between (b + s.duration) s.held ds → unpack_from (b + s.duration) (suc i) ds ss ≡ read_from (b + s.duration) (suc i) s.held ds ss)
        → on_sample t i (λ ds. unpack_from (b + s.duration) (suc i) ds ss) ≡ on_read r i (λ ds. read_from (b + s.duration) (suc i) s.held ds ss)
    go (refused n) (faulty m) a rest = ap (λ (z : ℕ). stopped z i) a
    go (refused n) (known ds) a rest = absurd a
    go (going cs k) (faulty m) a rest = absurd a
    go (going cs k) (known ds) a rest =
        rest cs (passes b (b + s.duration) last s.held cs k l a.1) ∙ ap (λ (z : List Cue). read_from (b + s.duration) (suc i) s.held z ss) a.0

-- unpacking as the code does it is unpacking
pub joined_is : JoinedIs
unfolding joined unpack index_of
joined_is track pos = from-agrees 0 0 [] [] track pos (record { near = λ n i h. absurd (omega (arith, ap code h)); far = λ n i h. absurd (omega (arith, ap code h)) })

-- what unpacking answers is a proper list, and its track is right for it
pub unpack-right : (track : List Sample) (cs : List Cue) → Positive track → unpack track ≡ done cs → ListOf cs track
unpack-right track cs pos h = joined-right track cs pos (joined_is track pos ∙ h)
