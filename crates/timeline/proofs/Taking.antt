-- What unpacking as the code does it answers is a proper list, and its track is right for it.
use Prim.Native.Nat.{◌+◌, ◌<◌, ◌≤◌, suc, ℕ}
use mathlib.Core.Path.{◌∙◌, ◌≡◌, ap, ap₂, refl, subst, sym}
use mathlib.Core.Logic.{◌≢◌, ◌⊎◌, inl, inr}
use mathlib.Core.Bool.{Bool, false, true}
use mathlib.Core.Option.{Option, none, some}
use mathlib.Core.List.{List, Memᴰ, [], ◌++◌, ◌∷◌, append-nil}
use native.Mathlib.Omega.{arith}
use native.Mathlib.Nat.{le_refl, not-suc-le-zero}
use native.Mathlib.Numerals.{add-one}
use lib.Dec.{eqb, leb, ltb}
use lib.ListN.{drop, length, length-append}
use lib.Seq.{append_snoc, drop-append-add, drop-append-le, drop-length, get_or_at, set_at}
use borrow.Author.Tests.{eqb-false, leb-true, ltb-false, ltb-true}
use Rattle.base.proofs.Choice.{by-test, either, true-false}
use Rattle.base.specs.Choice.{pick}
use Rattle.timeline.specs.Cues.{Body, Cue, Distinct, Named, Ordered, Pairs, Proper, running_at, runs, same_body, same_id}
use Rattle.timeline.specs.Tracks.{Right, Sample, held_at, held_from, total}
use Rattle.timeline.specs.Unpacking.{ListOf, Unpacked, done, fresh, index_of, no_cue, or_next, stopped, till}
use Rattle.timeline.specs.Joining.{Taking, again, going, joined, on_index, on_sample, on_taking, refused, all_taken, take_body, unpack_from, with_id}
use Rattle.timeline.proofs.Running.{id_same, running-append, running-no, running-yes, runs-early, runs-is, runs-late, runs-not, runs-yes, same_body_lem, same_id_lem}
use Rattle.timeline.proofs.Holding.{from-later, from-now, total-snoc}

-- laws on lists of cues
pairs-swap : (R : Cue → Cue → Type 0) (c c' : Cue) → ((d : Cue) → R d c → R d c') → ((d : Cue) → R c d → R c' d)
    → (p q : List Cue) → Pairs R (p ++ c ∷ q) → Pairs R (p ++ c' ∷ q)
unfolding Pairs
pairs-swap R c c' f g [] q h = ((λ d m. g d (h.0 d m)), h.1)
pairs-swap R c c' f g (x ∷ p) q h = ((λ d m. go d (mathlib.Core.List.Memᴰ.append_cases p m)), pairs-swap R c c' f g p q h.1)
  where
    low : (d : Cue) → (d ≡ c') ⊎ Memᴰ d q → R x d
    low d (inl e) = subst (R x) (sym e) (f x (h.0 c (mathlib.Core.List.Memᴰ.append_right p (mathlib.Core.List.Memᴰ.head refl))))
    low d (inr m) = h.0 d (mathlib.Core.List.Memᴰ.append_right p (mathlib.Core.List.Memᴰ.tail m))

    go : (d : Cue) → Memᴰ d p ⊎ Memᴰ d (c' ∷ q) → R x d
    go d (inl m) = h.0 d (mathlib.Core.List.Memᴰ.append_left (c ∷ q) m)
    go d (inr m) = low d (mathlib.Core.List.Memᴰ.cases_cons m)

pairs-snoc : (R : Cue → Cue → Type 0) (p : List Cue) (c : Cue) → Pairs R p → ((d : Cue) → Memᴰ d p → R d c) → Pairs R (p ++ c ∷ [])
unfolding Pairs
pairs-snoc R [] c h f = ((λ d m. absurd (mathlib.Core.List.Memᴰ.not-nil m)), tt)
pairs-snoc R (x ∷ p) c h f = ((λ d m. go d (mathlib.Core.List.Memᴰ.append_cases p m)), pairs-snoc R p c h.1 (λ d m. f d (mathlib.Core.List.Memᴰ.tail m)))
  where
    go : (d : Cue) → Memᴰ d p ⊎ Memᴰ d (c ∷ []) → R x d
    go d (inl m) = h.0 d m
    go d (inr m) = elim (mathlib.Core.List.Memᴰ.cases_cons m) [ inl e ↦ subst (R x) (sym e) (f x (mathlib.Core.List.Memᴰ.head refl)) | inr k ↦ absurd (mathlib.Core.List.Memᴰ.not-nil k) ]

each-swap : (P : Cue → Type 0) (p : List Cue) (c c' : Cue) (q : List Cue) → P c' → ((x : Cue) → Memᴰ x (p ++ c ∷ q) → P x) → (x : Cue) → Memᴰ x (p ++ c' ∷ q) → P x
each-swap P p c c' q h f x m = go (mathlib.Core.List.Memᴰ.append_cases p m)
  where
    low : (x ≡ c') ⊎ Memᴰ x q → P x
    low (inl e) = subst P (sym e) h
    low (inr k) = f x (mathlib.Core.List.Memᴰ.append_right p (mathlib.Core.List.Memᴰ.tail k))

    go : Memᴰ x p ⊎ Memᴰ x (c' ∷ q) → P x
    go (inl k) = f x (mathlib.Core.List.Memᴰ.append_left (c ∷ q) k)
    go (inr k) = low (mathlib.Core.List.Memᴰ.cases_cons k)

each_snoc : (P : Cue → Type 0) (p : List Cue) (c : Cue) → P c → ((x : Cue) → Memᴰ x p → P x) → (x : Cue) → Memᴰ x (p ++ c ∷ []) → P x
each_snoc P p c h f x m = go (mathlib.Core.List.Memᴰ.append_cases p m)
  where
    go : Memᴰ x p ⊎ Memᴰ x (c ∷ []) → P x
    go (inl k) = f x k
    go (inr k) = elim (mathlib.Core.List.Memᴰ.cases_cons k) [ inl e ↦ subst P (sym e) h | inr j ↦ absurd (mathlib.Core.List.Memᴰ.not-nil j) ]

none-run : (q : List Cue) (t : ℕ) → ((x : Cue) → Memᴰ x q → x.end ≤ t) → running_at q t ≡ []
unfolding running_at
none-run [] t h = refl
none-run (c ∷ q) t h = running-no c q t (runs-late c t (h c (mathlib.Core.List.Memᴰ.head refl))) ∙ none-run q t (λ x m. h x (mathlib.Core.List.Memᴰ.tail m))

-- where the search ends
abbrev code : Option ℕ → ℕ
code none = 0
code (some j) = suc j

pub found : (n : Option ℕ) (cs : List Cue) (j : ℕ) → index_of n cs ≡ some j → (p : List Cue) × (c : Cue) × (q : List Cue) × (cs ≡ p ++ c ∷ q) × (length p ≡ j) × (c.body.id ≡ n)
unfolding index_of
found n [] j h = absurd (omega (arith, ap code h))
found n (c ∷ cs) j h =
    by-test (same_id c.body.id n)
    (λ e. ([], c, cs, refl, omega (arith, ap code (ap (λ (b : Bool). or_next b (index_of n cs)) (sym e) ∙ h)), same_id_lem c.body.id n e))
    (λ e. go (index_of n cs) refl (ap (λ (b : Bool). or_next b (index_of n cs)) (sym e) ∙ h) (λ i g. found n cs i g))
  where
    go : (o : Option ℕ) → index_of n cs ≡ o → or_next false o ≡ some j
        → ((i : ℕ) → index_of n cs ≡ some i → (p : List Cue) × (d : Cue) × (q : List Cue) × (cs ≡ p ++ d ∷ q) × (length p ≡ i) × (d.body.id ≡ n))
        → (p : List Cue) × (d : Cue) × (q : List Cue) × (c ∷ cs ≡ p ++ d ∷ q) × (length p ≡ j) × (d.body.id ≡ n)
    go none g k rest = absurd (omega (arith, ap code k))
    go (some i) g k rest = let w = rest i g in (c ∷ w.0, w.1, w.2, ap (λ (l : List Cue). c ∷ l) w.3, omega (arith, ap code k, w.4), w.5)

pub missing : (n : Option ℕ) (cs : List Cue) → index_of n cs ≡ none → (x : Cue) → Memᴰ x cs → n ≢ x.body.id
unfolding index_of
missing n [] h x m = absurd (mathlib.Core.List.Memᴰ.not-nil m)
missing n (c ∷ cs) h x m =
    by-test (same_id c.body.id n)
    (λ e. absurd (omega (arith, ap code (ap (λ (b : Bool). or_next b (index_of n cs)) (sym e) ∙ h))))
    (λ e. other e (mathlib.Core.List.Memᴰ.cases_cons m) (λ g k. missing n cs g x k) (index_of n cs) refl (ap (λ (b : Bool). or_next b (index_of n cs)) (sym e) ∙ h))
  where
    other : same_id c.body.id n ≡ false → (x ≡ c) ⊎ Memᴰ x cs → (index_of n cs ≡ none → Memᴰ x cs → n ≢ x.body.id)
        → (o : Option ℕ) → index_of n cs ≡ o → or_next false o ≡ none → n ≢ x.body.id
    other e (inl q) rest o g k = λ z. true-false (same_id c.body.id n) (subst (λ (i : Option ℕ). same_id i n ≡ true) (z ∙ ap (λ (y : Cue). y.body.id) q) (id_same n)) e
    other e (inr q) rest none g k = rest g q
    other e (inr q) rest (some i) g k = absurd (omega (arith, ap code k))

-- what is known inside a sample from b to e that began with the cues cs₀, when the bodies ys have been taken
record Mid (b e : ℕ) (cs₀ cs : List Cue) (k : ℕ) (ys : List Body) : Type 0 where
  lasts : (c : Cue) → Memᴰ c cs → c.start < c.end
  begun : (c : Cue) → Memᴰ c cs → c.start ≤ b
  ends : (c : Cue) → Memᴰ c cs → (c.end ≤ b) ⊎ (c.end ≡ e)
  ordered : Ordered cs
  distinct : Distinct cs
  ids : Named cs
  few : length cs ≤ 1024
  short : k ≤ length cs
  later : (c : Cue) → Memᴰ c (drop k cs) → c.end ≤ b
  before : (t : ℕ) → t < b → running_at cs t ≡ running_at cs₀ t
  now : (t : ℕ) → b ≤ t → t < e → running_at cs t ≡ ys

mid-fresh : (b e : ℕ) (cs₀ cs : List Cue) (k : ℕ) (ys : List Body) (y : Body) → b < e → ((x : Cue) → Memᴰ x cs → y.id ≢ x.body.id)
    → (n : ℕ) × (y.id ≡ some n) → length cs < 1024 → Mid b e cs₀ cs k ys → Mid b e cs₀ (cs ++ fresh b e y ∷ []) (suc (length cs)) (ys ++ y ∷ [])
unfolding fresh running_at
mid-fresh b e cs₀ cs k ys y l new id room m =
    let c : Cue = fresh b e y in
    let long : length (cs ++ c ∷ []) ≡ suc (length cs) = length-append cs (c ∷ []) ∙ add-one (length cs) in
    let gone : drop (suc (length cs)) (cs ++ c ∷ []) ≡ [] = ap (λ (n : ℕ). drop n (cs ++ c ∷ [])) (sym long) ∙ drop-length (cs ++ c ∷ []) in
    record {
      lasts = each_snoc (λ x. x.start < x.end) cs c l m.lasts;
      begun = each_snoc (λ x. x.start ≤ b) cs c (le_refl b) m.begun;
      ends = each_snoc (λ x. (x.end ≤ b) ⊎ (x.end ≡ e)) cs c (inr refl) m.ends;
      ordered = pairs-snoc (λ x d. x.start ≤ d.start) cs c m.ordered (λ d n. m.begun d n);
      distinct = pairs-snoc (λ x d. d.body.id ≢ x.body.id) cs c m.distinct (λ d n. new d n);
      ids = each_snoc (λ x. (n : ℕ) × (x.body.id ≡ some n)) cs c id m.ids;
      few = omega (arith, long);
      short = omega (arith, long);
      later = λ x n. absurd (mathlib.Core.List.Memᴰ.not-nil (subst (λ (z : List Cue). Memᴰ x z) gone n));
      before = λ t h. running-append cs (c ∷ []) t ∙ ap (λ (z : List Body). running_at cs t ++ z) (running-no c [] t (runs-early c t h)) ∙ append-nil (running_at cs t) ∙ m.before t h;
      now = λ t lo hi. running-append cs (c ∷ []) t ∙ ap₂ ◌++◌ (m.now t lo hi) (running-yes c [] t (runs-yes c t lo hi));
    }

mid-again : (b e : ℕ) (cs₀ p : List Cue) (c : Cue) (q : List Cue) (k : ℕ) (ys : List Body) (y : Body) → b < e → c.end ≢ e → b ≤ c.end → c.body ≡ y → k ≤ length p
    → Mid b e cs₀ (p ++ c ∷ q) k ys → Mid b e cs₀ (p ++ till e c ∷ q) (suc (length p)) (ys ++ y ∷ [])
unfolding till running_at
mid-again b e cs₀ p c q k ys y l away near same low m =
    let d : Cue = till e c in
    let here : Memᴰ c (p ++ c ∷ q) = mathlib.Core.List.Memᴰ.append_right p (mathlib.Core.List.Memᴰ.head refl) in
    let at_b : c.end ≡ b = elim (m.ends c here) [ inl h ↦ omega arith | inr h ↦ absurd (away h) ] in
    let after : (x : Cue) → Memᴰ x (c ∷ q) → x.end ≤ b = λ x n. m.later x (subst (λ (z : List Cue). Memᴰ x z) (sym (drop-append-le k p (c ∷ q) low)) (mathlib.Core.List.Memᴰ.append_right (drop k p) n)) in
    let rest : drop (suc (length p)) (p ++ d ∷ q) ≡ q = ap (λ (n : ℕ). drop n (p ++ d ∷ q)) (sym (add-one (length p))) ∙ drop-append-add p (d ∷ q) 1 in
    record {
      lasts = each-swap (λ x. x.start < x.end) p c d q (omega (arith, m.lasts c here)) m.lasts;
      begun = each-swap (λ x. x.start ≤ b) p c d q (m.begun c here) m.begun;
      ends = each-swap (λ x. (x.end ≤ b) ⊎ (x.end ≡ e)) p c d q (inr refl) m.ends;
      ordered = pairs-swap (λ x z. x.start ≤ z.start) c d (λ z h. h) (λ z h. h) p q m.ordered;
      distinct = pairs-swap (λ x z. z.body.id ≢ x.body.id) c d (λ z h. h) (λ z h. h) p q m.distinct;
      ids = each-swap (λ x. (n : ℕ) × (x.body.id ≡ some n)) p c d q (m.ids c here) m.ids;
      few = simp length-append (omega (arith, m.few, length-append p (c ∷ q)));
      short = simp length-append (omega arith);
      later = λ x n. after x (mathlib.Core.List.Memᴰ.tail (subst (λ (z : List Cue). Memᴰ x z) rest n));
      before = λ t h. running-append p (d ∷ q) t
          ∙ ap (λ (z : List Body). running_at p t ++ z) (swap t h at_b)
          ∙ sym (running-append p (c ∷ q) t)
          ∙ m.before t h;
      now = λ t lo hi. running-append p (d ∷ q) t
          ∙ ap₂ ◌++◌ (sym (append-nil (running_at p t)) ∙ ap (λ (z : List Body). running_at p t ++ z) (sym (none-run (c ∷ q) t (λ x n. omega (arith, after x n)))) ∙ sym (running-append p (c ∷ q) t) ∙ m.now t lo hi)
          (running-yes d q t (runs-yes d t (omega (arith, m.begun c here)) hi) ∙ ap₂ ◌∷◌ same (none-run q t (λ x n. omega (arith, after x (mathlib.Core.List.Memᴰ.tail n)))));
    }
  where
    swap : (t : ℕ) → t < b → c.end ≡ b → running_at (till e c ∷ q) t ≡ running_at (c ∷ q) t
    swap t h at_b =
        by-test (runs c t)
        (λ g. let w = runs-is c t g in running-yes (till e c) q t (runs-yes (till e c) t w.0 (omega arith)) ∙ sym (running-yes c q t g))
        (λ g. elim (runs-not c t g) [
          | inl w ↦ running-no (till e c) q t (runs-early (till e c) t w) ∙ sym (running-no c q t g)
          | inr w ↦ absurd (omega arith)
        ])

abbrev goes : Taking → ℕ
goes (refused n) = 0
goes (going cs k) = 1

pub again-is : (b e : ℕ) (p : List Cue) (c : Cue) (q : List Cue) (k : ℕ) (y : Body)
    → again b e (p ++ c ∷ q) k y (length p)
    ≡ pick (eqb c.end e) (refused 12)
    (pick (ltb c.end b) (refused 13) (pick (same_body c.body y) (pick (leb k (length p)) (going (p ++ till e c ∷ q) (suc (length p))) (refused 11)) (refused 14)))
unfolding again
again-is b e p c q k y = rw (get_or_at p c q no_cue (length p) refl, set_at p c q (till e c) (length p) refl)

take_again : (b e : ℕ) (cs₀ p : List Cue) (c : Cue) (q : List Cue) (k : ℕ) (ys : List Body) (y : Body) → b < e → (cs₂ : List Cue) (k₂ : ℕ)
    → again b e (p ++ c ∷ q) k y (length p) ≡ going cs₂ k₂ → Mid b e cs₀ (p ++ c ∷ q) k ys → Mid b e cs₀ cs₂ k₂ (ys ++ y ∷ [])
take_again b e cs₀ p c q k ys y l cs₂ k₂ h m =
    one (eqb c.end e) refl (ltb c.end b) refl (same_body c.body y) refl (leb k (length p)) refl (sym (again-is b e p c q k y) ∙ h)
  where
    one : (t1 : Bool) → eqb c.end e ≡ t1 → (t2 : Bool) → ltb c.end b ≡ t2 → (t3 : Bool) → same_body c.body y ≡ t3 → (t4 : Bool) → leb k (length p) ≡ t4
        → pick t1 (refused 12) (pick t2 (refused 13) (pick t3 (pick t4 (going (p ++ till e c ∷ q) (suc (length p))) (refused 11)) (refused 14))) ≡ going cs₂ k₂
        → Mid b e cs₀ cs₂ k₂ (ys ++ y ∷ [])
    one true e1 t2 e2 t3 e3 t4 e4 g = absurd (omega (arith, ap goes g))
    one false e1 true e2 t3 e3 t4 e4 g = absurd (omega (arith, ap goes g))
    one false e1 false e2 false e3 t4 e4 g = absurd (omega (arith, ap goes g))
    one false e1 false e2 true e3 false e4 g = absurd (omega (arith, ap goes g))
    one false e1 false e2 true e3 true e4 g =
        let a : p ++ till e c ∷ q ≡ cs₂ = cc in
        let n : suc (length p) ≡ k₂ = cc in
        let r = mid-again b e cs₀ p c q k ys y l (eqb-false c.end e e1) (ltb-false c.end b e2) (same_body_lem c.body y e3) (leb-true k (length p) e4) m in
        subst (λ (z : List Cue). Mid b e cs₀ z k₂ (ys ++ y ∷ [])) a (subst (λ (z : ℕ). Mid b e cs₀ (p ++ till e c ∷ q) z (ys ++ y ∷ [])) n r)

take-body : (b e : ℕ) (cs₀ cs : List Cue) (k : ℕ) (ys : List Body) (y : Body) → b < e → (cs₂ : List Cue) (k₂ : ℕ)
    → take_body b e cs k y ≡ going cs₂ k₂ → Mid b e cs₀ cs k ys → Mid b e cs₀ cs₂ k₂ (ys ++ y ∷ [])
unfolding take_body
take-body b e cs₀ cs k ys y l cs₂ k₂ h m =
    let w = has-id y.id (on_index b e cs k y (index_of y.id cs)) h in
    place w.0 (index_of y.id cs) refl w.1
  where
    has-id : (o : Option ℕ) (r : Taking) → with_id o r ≡ going cs₂ k₂ → ((n : ℕ) × (o ≡ some n)) × (r ≡ going cs₂ k₂)
    has-id none r g = absurd (omega (arith, ap goes g))
    has-id (some n) r g = ((n, refl), g)

    room : (t : Bool) → ltb (length cs) 1024 ≡ t → pick t (going (cs ++ fresh b e y ∷ []) (suc (length cs))) (refused 9) ≡ going cs₂ k₂
        → (length cs < 1024 → Mid b e cs₀ (cs ++ fresh b e y ∷ []) (suc (length cs)) (ys ++ y ∷ [])) → Mid b e cs₀ cs₂ k₂ (ys ++ y ∷ [])
    room false t g f = absurd (omega (arith, ap goes g))
    room true t g f =
        let r = f (ltb-true (length cs) 1024 t) in
        let a : cs ++ fresh b e y ∷ [] ≡ cs₂ = cc in
        let n : suc (length cs) ≡ k₂ = cc in
        subst (λ (z : List Cue). Mid b e cs₀ z k₂ (ys ++ y ∷ [])) a (subst (λ (z : ℕ). Mid b e cs₀ (cs ++ fresh b e y ∷ []) z (ys ++ y ∷ [])) n r)

    place : (n : ℕ) × (y.id ≡ some n) → (o : Option ℕ) → index_of y.id cs ≡ o → on_index b e cs k y o ≡ going cs₂ k₂ → Mid b e cs₀ cs₂ k₂ (ys ++ y ∷ [])
    place id none g r = room (ltb (length cs) 1024) refl r (λ t. mid-fresh b e cs₀ cs k ys y l (missing y.id cs g) id t m)
    place id (some j) g r =
        let w = found y.id cs j g in
        take_again b e cs₀ w.0 w.1 w.2 k ys y l cs₂ k₂
        (ap₂ (λ (z : List Cue) (n : ℕ). again b e z k y n) (sym w.3) w.4 ∙ r)
        (subst (λ (z : List Cue). Mid b e cs₀ z k ys) w.3 m)

take_all : (b e : ℕ) (cs₀ cs : List Cue) (k : ℕ) (ys held : List Body) → b < e → (cs₂ : List Cue) (k₂ : ℕ)
    → all_taken b e cs k held ≡ going cs₂ k₂ → Mid b e cs₀ cs k ys → Mid b e cs₀ cs₂ k₂ (ys ++ held)
unfolding all_taken
take_all b e cs₀ cs k ys [] l cs₂ k₂ h m =
    let a : cs ≡ cs₂ = cc in
    let n : k ≡ k₂ = cc in
    subst (λ (z : List Cue). Mid b e cs₀ z k₂ (ys ++ [])) a
    (subst (λ (z : ℕ). Mid b e cs₀ cs z (ys ++ [])) n (subst (λ (z : List Body). Mid b e cs₀ cs k z) (sym (append-nil ys)) m))
take_all b e cs₀ cs k ys (y ∷ held) l cs₂ k₂ h m = go (take_body b e cs k y) refl h (λ cs₁ k₁ g r. take_all b e cs₀ cs₁ k₁ (ys ++ y ∷ []) held l cs₂ k₂ g r)
  where
    go : (s : Taking) → take_body b e cs k y ≡ s → on_taking s (λ c j. all_taken b e c j held) ≡ going cs₂ k₂
        → ((cs₁ : List Cue) (k₁ : ℕ) → all_taken b e cs₁ k₁ held ≡ going cs₂ k₂ → Mid b e cs₀ cs₁ k₁ (ys ++ y ∷ []) → Mid b e cs₀ cs₂ k₂ (ys ++ y ∷ [] ++ held))
        → Mid b e cs₀ cs₂ k₂ (ys ++ y ∷ held)
    go (refused n) g i rest = absurd (omega (arith, ap goes i))
    go (going cs₁ k₁) g i rest =
        subst (λ (z : List Body). Mid b e cs₀ cs₂ k₂ z) (append_snoc ys y held) (rest cs₁ k₁ i (take-body b e cs₀ cs k ys y l cs₁ k₁ g m))

-- before a sample, what is known makes it the start of a sample; after it, the track so far is right
mid_start : (b e : ℕ) (cs : List Cue) → b < e → Proper cs b → Named cs → length cs ≤ 1024 → Mid b e cs cs 0 []
mid_start b e cs l ok nm few = record {
  lasts = ok.lasts;
  begun = λ c m. omega (arith, ok.lasts c m, ok.ends c m);
  ends = λ c m. inl (ok.ends c m);
  ordered = ok.ordered;
  distinct = ok.distinct;
  ids = nm;
  few = few;
  short = omega arith;
  later = λ c m. ok.ends c m;
  before = λ t h. refl;
  now = λ t lo hi. none-run cs t (λ c m. omega (arith, ok.ends c m));
}

mid-end : (b e : ℕ) (cs₀ cs : List Cue) (k : ℕ) (ys : List Body) → b < e → Mid b e cs₀ cs k ys → Proper cs e
mid-end b e cs₀ cs k ys l m = record {
  lasts = m.lasts;
  ends = λ c n. elim (m.ends c n) [ inl h ↦ omega arith | inr h ↦ omega arith ];
  ordered = m.ordered;
  distinct = m.distinct;
}

held-before : (b : ℕ) (p : List Sample) (s : Sample) (t : ℕ) → b ≤ t → t < b + total p → held_from b (p ++ s ∷ []) t ≡ held_from b p t
unfolding total
held-before b [] s t lo hi = absurd (omega arith)
held-before b (x ∷ p) s t lo hi =
    either (b + x.duration) t
    (λ h. from-later b x (p ++ s ∷ []) t h ∙ held-before (b + x.duration) p s t h (omega arith) ∙ sym (from-later b x p t h))
    (λ h. from-now b x (p ++ s ∷ []) t lo h ∙ sym (from-now b x p t lo h))

held-last : (b : ℕ) (p : List Sample) (s : Sample) (t : ℕ) → b + total p ≤ t → t < b + total p + s.duration → held_from b (p ++ s ∷ []) t ≡ some s.held
unfolding total
held-last b [] s t lo hi = from-now b s [] t (omega arith) (omega arith)
held-last b (x ∷ p) s t lo hi = from-later b x (p ++ s ∷ []) t (omega arith) ∙ held-last (b + x.duration) p s t (omega arith) (omega arith)

-- one more sample
right-more : (p : List Sample) (s : Sample) (cs₀ cs : List Cue) (k : ℕ) → 0 < s.duration → Right cs₀ (total p) p → Mid (total p) (total p + s.duration) cs₀ cs k s.held
    → Right cs (total (p ++ s ∷ [])) (p ++ s ∷ [])
unfolding held_at
right-more p s cs₀ cs k l r m = record {
  positive = λ x n. elim (mathlib.Core.List.Memᴰ.append_cases p n) [ inl j ↦ r.positive x j | inr j ↦ only x j ];
  sums = refl;
  holds = λ t h.
      either (total p) t
      (λ lo. let hi : t < total p + s.duration = omega (arith, total-snoc p s) in held-last 0 p s t (omega arith) (omega arith) ∙ ap some (sym (m.now t lo hi)))
      (λ hi. held-before 0 p s t (omega arith) (omega arith) ∙ r.holds t hi ∙ ap some (sym (m.before t hi)));
}
  where
    only : (x : Sample) → Memᴰ x (s ∷ []) → 0 < x.duration
    only x j = elim (mathlib.Core.List.Memᴰ.cases_cons j) [ inl q ↦ omega (arith, ap (λ (z : Sample). z.duration) q) | inr i ↦ absurd (mathlib.Core.List.Memᴰ.not-nil i) ]

abbrev ended : Unpacked → ℕ
ended (stopped n i) = 0
ended (done cs) = 1

unpacks : (p rest : List Sample) (i : ℕ) (cs cs₂ : List Cue) → ((s : Sample) → Memᴰ s rest → 0 < s.duration) → ListOf cs p
    → unpack_from (total p) i cs rest ≡ done cs₂ → ListOf cs₂ (p ++ rest)
unfolding unpack_from
unpacks p [] i cs cs₂ pos f h =
    let a : cs ≡ cs₂ = cc in
    subst (λ (z : List Sample). ListOf cs₂ z) (sym (append-nil p)) (subst (λ (z : List Cue). ListOf z p) a f)
unpacks p (s ∷ ss) i cs cs₂ pos f h =
    go (all_taken (total p) (total p + s.duration) cs 0 s.held) refl h
    (λ cs₁ a b. unpacks (p ++ s ∷ []) ss (suc i) cs₁ cs₂ (λ x m. pos x (mathlib.Core.List.Memᴰ.tail m)) a b)
  where
    far : total (p ++ s ∷ []) ≡ total p + s.duration
    far = total-snoc p s

    l : total p < total p + s.duration
    l = omega (arith, pos s (mathlib.Core.List.Memᴰ.head refl))

    go : (x : Taking) → all_taken (total p) (total p + s.duration) cs 0 s.held ≡ x → on_sample x i (λ c. unpack_from (total p + s.duration) (suc i) c ss) ≡ done cs₂
        → ((cs₁ : List Cue) → ListOf cs₁ (p ++ s ∷ []) → unpack_from (total (p ++ s ∷ [])) (suc i) cs₁ ss ≡ done cs₂ → ListOf cs₂ (p ++ s ∷ [] ++ ss))
        → ListOf cs₂ (p ++ s ∷ ss)
    go (refused n) g k rest = absurd (omega (arith, ap ended k))
    go (going cs₁ n) g k rest =
        let m = take_all (total p) (total p + s.duration) cs cs 0 [] s.held l cs₁ n g (mid_start (total p) (total p + s.duration) cs l f.proper f.ids f.few) in
        subst (λ (z : List Sample). ListOf cs₂ z) (append_snoc p s ss)
        (rest cs₁
        (record {
          proper = subst (λ (z : ℕ). Proper cs₁ z) (sym far) (mid-end (total p) (total p + s.duration) cs cs₁ n s.held l m);
          ids = m.ids;
          few = m.few;
          right = right-more p s cs cs₁ n (pos s (mathlib.Core.List.Memᴰ.head refl)) f.right m;
        })
        (ap (λ (z : ℕ). unpack_from z (suc i) cs₁ ss) far ∙ k))

-- what unpacking answers is a proper list, and its track is right for it
pub joined-right : (track : List Sample) (cs : List Cue) → ((s : Sample) → Memᴰ s track → 0 < s.duration) → joined track ≡ done cs → ListOf cs track
unfolding joined total Pairs held_at
joined-right track cs pos h =
    unpacks [] track 0 [] cs pos
    (record {
      proper = record { lasts = λ c m. absurd (mathlib.Core.List.Memᴰ.not-nil m); ends = λ c m. absurd (mathlib.Core.List.Memᴰ.not-nil m); ordered = tt; distinct = tt };
      ids = λ c m. absurd (mathlib.Core.List.Memᴰ.not-nil m);
      few = omega arith;
      right = record { positive = λ s m. absurd (mathlib.Core.List.Memᴰ.not-nil m); sums = refl; holds = λ t l. absurd (not-suc-le-zero l) };
    })
    h
