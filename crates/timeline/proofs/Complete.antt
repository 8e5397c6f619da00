-- Unpacking answers a list exactly if it is proper and the track is right for it.
use Prim.Native.Nat.{◌+◌, ◌<◌, ◌≤◌, min, suc, ℕ}
use mathlib.Core.Path.{◌∙◌, ◌≡◌, ap, ap₂, refl, subst, sym}
use mathlib.Core.Logic.{◌↔◌, ◌≢◌, ◌⊎◌, inl, inr}
use mathlib.Core.Bool.{Bool, false, true}
use mathlib.Core.Option.{Option, none, some}
use mathlib.Core.List.{List, Memᴰ, [], ◌++◌, ◌∷◌, append_assoc, append-nil}
use native.Mathlib.Omega.{arith}
use native.Mathlib.Nat.{le_refl}
use lib.Dec.{eqb, ltb}
use lib.ListN.{length, length-append}
use lib.Seq.{append_snoc}
use borrow.Author.Tests.{le-leb, le-ltb, lt-ltb, ne_eqb}
use Rattle.base.proofs.Choice.{by-test, either}
use Rattle.base.specs.Choice.{pick}
use Rattle.timeline.specs.Cues.{Body, Cue, Distinct, Named, Ordered, Pairs, Proper, running_at, runs, same_id}
use Rattle.timeline.specs.Tracks.{Positive, Right, Sample, copy, held_at, held_from, total}
use Rattle.timeline.specs.Packing.{packed}
use Rattle.timeline.specs.Unpacking.{ListOf, UnpacksExactly, done, fresh, index_of, till, unpack}
use Rattle.timeline.specs.Joining.{Taking, going, joined, on_index, on_sample, on_taking, refused, all_taken, take_body, unpack_from, with_id}
use Rattle.timeline.proofs.Running.{body_same, id_same, moves, running-append, running-no, running-yes, runs-early, runs-late, runs-yes, same_id_lem}
use Rattle.timeline.proofs.Holding.{from-later, from-now, some_inj}
use Rattle.timeline.proofs.Packed.{packed-right}
use Rattle.timeline.proofs.Splitting.{split-positive, split-right, split-total}
use Rattle.timeline.proofs.Taking.{again-is, joined-right}
use Rattle.timeline.proofs.Joined.{joined_is}

-- a cue as it is known when the track has been read up to tick b
unfoldable pub clip : ℕ → Cue → Cue
clip b c = record { start = c.start; end = min c.end b; body = c.body }

unfoldable pub clips : ℕ → List Cue → List Cue
unfolding clip
clips b [] = []
clips b (c ∷ cs) = clip b c ∷ clips b cs

clips-append : (b : ℕ) (p q : List Cue) → clips b (p ++ q) ≡ clips b p ++ clips b q
unfolding clips
clips-append b [] q = refl
clips-append b (c ∷ p) q = ap (λ (l : List Cue). clip b c ∷ l) (clips-append b p q)

length-clips : (b : ℕ) (p : List Cue) → length (clips b p) ≡ length p
unfolding clips
length-clips b [] = refl
length-clips b (c ∷ p) = ap suc (length-clips b p)

made : {c d : Cue} → c.start ≡ d.start → c.end ≡ d.end → c.body ≡ d.body → c ≡ d
made {c} {d} p q r = λ i. record { start = p i; end = q i; body = r i }

clips-ids : (b : ℕ) (n : Option ℕ) (p : List Cue) → ((x : Cue) → Memᴰ x p → n ≢ x.body.id) → (x : Cue) → Memᴰ x (clips b p) → n ≢ x.body.id
unfolding clips clip
clips-ids b n [] h x m = absurd (mathlib.Core.List.Memᴰ.not-nil m)
clips-ids b n (c ∷ p) h x m = elim (mathlib.Core.List.Memᴰ.cases_cons m) [
  | inl q ↦ λ z. h c (mathlib.Core.List.Memᴰ.head refl) (z ∙ ap (λ (y : Cue). y.body.id) q)
  | inr k ↦ clips-ids b n p (λ y j. h y (mathlib.Core.List.Memᴰ.tail j)) x k
]

-- where the search ends, from the list
place_none : (n : Option ℕ) (p : List Cue) → ((x : Cue) → Memᴰ x p → n ≢ x.body.id) → index_of n p ≡ none
unfolding index_of
place_none n [] h = refl
place_none n (c ∷ p) h =
    by-test (same_id c.body.id n)
    (λ e. absurd (h c (mathlib.Core.List.Memᴰ.head refl) (sym (same_id_lem c.body.id n e))))
    (λ e. rw (e, place_none n p (λ x m. h x (mathlib.Core.List.Memᴰ.tail m))))

place_at : (n : Option ℕ) (p : List Cue) (c : Cue) (q : List Cue) → ((x : Cue) → Memᴰ x p → n ≢ x.body.id) → c.body.id ≡ n → index_of n (p ++ c ∷ q) ≡ some (length p)
unfolding index_of
place_at n [] c q h e = let y : same_id c.body.id n ≡ true = subst (λ (z : Option ℕ). same_id z n ≡ true) (sym e) (id_same n) in rw y
place_at n (x ∷ p) c q h e =
    by-test (same_id x.body.id n)
    (λ y. absurd (h x (mathlib.Core.List.Memᴰ.head refl) (sym (same_id_lem x.body.id n y))))
    (λ y. rw (y, place_at n p c q (λ z m. h z (mathlib.Core.List.Memᴰ.tail m)) e))

pairs-mid : (R : Cue → Cue → Type 0) (p : List Cue) (c : Cue) (q : List Cue) → Pairs R (p ++ c ∷ q) → (x : Cue) → Memᴰ x p → R x c
unfolding Pairs
pairs-mid R [] c q h x m = absurd (mathlib.Core.List.Memᴰ.not-nil m)
pairs-mid R (y ∷ p) c q h x m = elim (mathlib.Core.List.Memᴰ.cases_cons m) [
  | inl e ↦ subst (λ (z : Cue). R z c) (sym e) (h.0 c (mathlib.Core.List.Memᴰ.append_right p (mathlib.Core.List.Memᴰ.head refl)))
  | inr k ↦ pairs-mid R p c q h.1 x k
]

pairs-drop : (R : Cue → Cue → Type 0) (p q : List Cue) → Pairs R (p ++ q) → Pairs R q
unfolding Pairs
pairs-drop R [] q h = h
pairs-drop R (x ∷ p) q h = pairs-drop R p q h.1

pairs-take : (R : Cue → Cue → Type 0) (p q : List Cue) → Pairs R (p ++ q) → Pairs R p
unfolding Pairs
pairs-take R [] q h = tt
pairs-take R (x ∷ p) q h = ((λ d m. h.0 d (mathlib.Core.List.Memᴰ.append_left q m)), pairs-take R p q h.1)

module _ (b e : ℕ) (l : b < e) where
  -- a cue that goes on
  take-old : (X : List Cue) (c : Cue) (Y : List Cue) (k n : ℕ) → k ≤ length X → ((x : Cue) → Memᴰ x X → c.body.id ≢ x.body.id) → c.body.id ≡ some n → e ≤ c.end
      → take_body b e (X ++ clip b c ∷ Y) k c.body ≡ going (X ++ clip e c ∷ Y) (suc (length X))
  unfolding take_body clip till
  take-old X c Y k n low new id long =
      let at_b : min c.end b ≡ b = omega arith in
      let t1 : eqb (min c.end b) e ≡ false = ne_eqb (min c.end b) e (λ q. omega arith) in
      let t2 : ltb (min c.end b) b ≡ false = le-ltb (min c.end b) b (omega arith) in
      let same : till e (clip b c) ≡ clip e c = made refl (omega arith) refl in
      ap (λ (o : Option ℕ). with_id o (on_index b e (X ++ clip b c ∷ Y) k c.body (index_of c.body.id (X ++ clip b c ∷ Y)))) id
      ∙ ap (on_index b e (X ++ clip b c ∷ Y) k c.body) (place_at c.body.id X (clip b c) Y new refl)
      ∙ again-is b e X (clip b c) Y k c.body
      ∙ (simp (t1, t2, body_same c.body, le-leb k (length X) low))
      ∙ ap (λ (z : Cue). going (X ++ z ∷ Y) (suc (length X))) same

  -- a cue that is new
  take-new : (X : List Cue) (c : Cue) (k n : ℕ) → ((x : Cue) → Memᴰ x X → c.body.id ≢ x.body.id) → c.body.id ≡ some n → c.start ≡ b → e ≤ c.end → length X < 1024
      → take_body b e X k c.body ≡ going (X ++ clip e c ∷ []) (suc (length X))
  unfolding take_body clip fresh
  take-new X c k n new id at long room =
      let same : fresh b e c.body ≡ clip e c = made (sym at) (omega arith) refl in
      ap (λ (o : Option ℕ). with_id o (on_index b e X k c.body (index_of c.body.id X))) id
      ∙ ap (on_index b e X k c.body) (place_none c.body.id X new)
      ∙ ap (λ (t : Bool). pick t (going (X ++ fresh b e c.body ∷ []) (suc (length X))) (refused 9)) (lt-ltb (length X) 1024 room)
      ∙ ap (λ (z : Cue). going (X ++ z ∷ []) (suc (length X))) same

  -- a cue that is over
  unchanged : (c : Cue) → c.end ≤ b → clip b c ≡ clip e c
  unfolding clip
  unchanged c h = made refl (omega arith) refl

  moved : (P : List Cue) (c : Cue) (Y : List Cue) → clips e P ++ clip e c ∷ Y ≡ clips e (P ++ c ∷ []) ++ Y
  unfolding clips
  moved P c Y = sym (append_snoc (clips e P) (clip e c) Y) ∙ ap (λ (z : List Cue). z ++ Y) (sym (clips-append e P (c ∷ [])))

  olds : (Q P : List Cue) (k : ℕ) → k ≤ length P → Distinct (P ++ Q) → Named Q → ((c : Cue) → Memᴰ c Q → c.start < b) → ((c : Cue) → Memᴰ c Q → (c.end ≤ b) ⊎ (e ≤ c.end))
      → (rest : List Body) → (k₂ : ℕ) × (all_taken b e (clips e P ++ clips b Q) k (running_at Q b ++ rest) ≡ all_taken b e (clips e (P ++ Q)) k₂ rest)
  unfolding clips running_at all_taken
  olds [] P k low d nm old far rest = (k, ap (λ (z : List Cue). all_taken b e z k rest) (append-nil (clips e P) ∙ ap (clips e) (sym (append-nil P))))
  olds (c ∷ Q) P k low d nm old far rest =
      let new : (x : Cue) → Memᴰ x P → c.body.id ≢ x.body.id = pairs-mid (λ x z. z.body.id ≢ x.body.id) P c Q d in
      let longer : length (P ++ c ∷ []) ≡ length P + 1 = length-append P (c ∷ []) in
      let d₂ : Distinct (P ++ c ∷ [] ++ Q) = subst (λ (z : List Cue). Distinct z) (sym (append_snoc P c Q)) d in
      let ih : (k₁ : ℕ) → k₁ ≤ length (P ++ c ∷ []) → (k₂ : ℕ) × (all_taken b e (clips e (P ++ c ∷ []) ++ clips b Q) k₁ (running_at Q b ++ rest) ≡ all_taken b e (clips e (P ++ c ∷ [] ++ Q)) k₂ rest) =
      λ k₁ g. olds Q (P ++ c ∷ []) k₁ g d₂ (λ x m. nm x (mathlib.Core.List.Memᴰ.tail m)) (λ x m. old x (mathlib.Core.List.Memᴰ.tail m)) (λ x m. far x (mathlib.Core.List.Memᴰ.tail m)) rest in
      go new longer ih (far c (mathlib.Core.List.Memᴰ.head refl))
    where
      go : ((x : Cue) → Memᴰ x P → c.body.id ≢ x.body.id) → length (P ++ c ∷ []) ≡ length P + 1
          → ((k₁ : ℕ) → k₁ ≤ length (P ++ c ∷ []) → (k₂ : ℕ) × (all_taken b e (clips e (P ++ c ∷ []) ++ clips b Q) k₁ (running_at Q b ++ rest) ≡ all_taken b e (clips e (P ++ c ∷ [] ++ Q)) k₂ rest))
          → (c.end ≤ b) ⊎ (e ≤ c.end) → (k₂ : ℕ) × (all_taken b e (clips e P ++ clip b c ∷ clips b Q) k (running_at (c ∷ Q) b ++ rest) ≡ all_taken b e (clips e (P ++ c ∷ Q)) k₂ rest)
      go new longer ih (inl h) =
          let w = ih k (omega arith) in (
            w.0,
            ap₂ (λ (z : Cue) (y : List Body). all_taken b e (clips e P ++ z ∷ clips b Q) k (y ++ rest)) (unchanged c h) (running-no c Q b (runs-late c b h))
                ∙ ap (λ (z : List Cue). all_taken b e z k (running_at Q b ++ rest)) (moved P c (clips b Q))
                ∙ w.1
                ∙ ap (λ (z : List Cue). all_taken b e (clips e z) w.0 rest) (append_snoc P c Q),
          )
      go new longer ih (inr h) =
          let w = ih (suc (length (clips e P))) (omega (arith, length-clips e P)) in
          let id = nm c (mathlib.Core.List.Memᴰ.head refl) in
          let step = take-old (clips e P) c (clips b Q) k id.0 (omega (arith, length-clips e P)) (clips-ids e c.body.id P new) id.1 h in
          let run : runs c b ≡ true = runs-yes c b (omega (arith, old c (mathlib.Core.List.Memᴰ.head refl))) (omega arith) in (
            w.0,
            ap (λ (y : List Body). all_taken b e (clips e P ++ clip b c ∷ clips b Q) k (y ++ rest)) (running-yes c Q b run)
                ∙ ap (λ (z : Taking). on_taking z (λ a j. all_taken b e a j (running_at Q b ++ rest))) step
                ∙ ap (λ (z : List Cue). all_taken b e z (suc (length (clips e P))) (running_at Q b ++ rest)) (moved P c (clips b Q))
                ∙ w.1
                ∙ ap (λ (z : List Cue). all_taken b e (clips e z) w.0 rest) (append_snoc P c Q),
          )

  news : (N P : List Cue) (k : ℕ) → Distinct (P ++ N) → Named N → ((c : Cue) → Memᴰ c N → c.start ≡ b) → ((c : Cue) → Memᴰ c N → e ≤ c.end) → length (P ++ N) ≤ 1024
      → (k₂ : ℕ) × (all_taken b e (clips e P) k (running_at N b) ≡ going (clips e (P ++ N)) k₂)
  unfolding clips running_at all_taken
  news [] P k d nm at far room = (k, ap (λ (z : List Cue). going (clips e z) k) (sym (append-nil P)))
  news (c ∷ N) P k d nm at far room =
      let new : (x : Cue) → Memᴰ x P → c.body.id ≢ x.body.id = pairs-mid (λ x z. z.body.id ≢ x.body.id) P c N d in
      let d₂ : Distinct (P ++ c ∷ [] ++ N) = subst (λ (z : List Cue). Distinct z) (sym (append_snoc P c N)) d in
      let w = news N (P ++ c ∷ []) (suc (length (clips e P))) d₂ (λ x m. nm x (mathlib.Core.List.Memᴰ.tail m)) (λ x m. at x (mathlib.Core.List.Memᴰ.tail m)) (λ x m. far x (mathlib.Core.List.Memᴰ.tail m))
      (subst (λ (z : List Cue). length z ≤ 1024) (sym (append_snoc P c N)) room) in
      let id = nm c (mathlib.Core.List.Memᴰ.head refl) in
      let long = far c (mathlib.Core.List.Memᴰ.head refl) in
      let start = at c (mathlib.Core.List.Memᴰ.head refl) in
      let size : length (clips e P) < 1024 = omega (arith, length-clips e P, length-append P (c ∷ N)) in
      let step = take-new (clips e P) c k id.0 (clips-ids e c.body.id P new) id.1 start long size in
      let run : runs c b ≡ true = runs-yes c b (omega arith) (omega arith) in (
        w.0,
        ap (λ (y : List Body). all_taken b e (clips e P) k y) (running-yes c N b run)
            ∙ ap (λ (z : Taking). on_taking z (λ a j. all_taken b e a j (running_at N b))) step
            ∙ ap (λ (z : List Cue). all_taken b e z (suc (length (clips e P))) (running_at N b)) (sym (clips-append e P (c ∷ [])))
            ∙ w.1
            ∙ ap (λ (z : List Cue). going (clips e z) w.0) (append_snoc P c N),
      )

-- the cues that start before e, and the others
span : (e : ℕ) (Z : List Cue) → Ordered Z
    → (N : List Cue) × (R : List Cue) × (Z ≡ N ++ R) × ((x : Cue) → Memᴰ x N → x.start < e) × ((x : Cue) → Memᴰ x R → e ≤ x.start)
unfolding Pairs
span e [] o = ([], [], refl, (λ x m. absurd (mathlib.Core.List.Memᴰ.not-nil m)), λ x m. absurd (mathlib.Core.List.Memᴰ.not-nil m))
span e (c ∷ Z) o =
    either e c.start
    (λ h. ([], c ∷ Z, refl, (λ x m. absurd (mathlib.Core.List.Memᴰ.not-nil m)), λ x m. elim (mathlib.Core.List.Memᴰ.cases_cons m) [ inl q ↦ omega (arith, ap (λ (y : Cue). y.start) q) | inr k ↦ omega (arith, o.0 x k) ]))
    (λ h. let w = span e Z o.1 in
    (c ∷ w.0, w.1, ap (λ (z : List Cue). c ∷ z) w.2, (λ x m. elim (mathlib.Core.List.Memᴰ.cases_cons m) [ inl q ↦ omega (arith, ap (λ (y : Cue). y.start) q) | inr k ↦ w.3 x k ]), w.4))

none_yet : (Z : List Cue) (t : ℕ) → ((x : Cue) → Memᴰ x Z → t < x.start) → running_at Z t ≡ []
unfolding running_at
none_yet [] t h = refl
none_yet (c ∷ Z) t h = running-no c Z t (runs-early c t (h c (mathlib.Core.List.Memᴰ.head refl))) ∙ none_yet Z t (λ x m. h x (mathlib.Core.List.Memᴰ.tail m))

clips-all : (T : ℕ) (cs : List Cue) → ((c : Cue) → Memᴰ c cs → c.end ≤ T) → clips T cs ≡ cs
unfolding clips clip
clips-all T [] h = refl
clips-all T (c ∷ cs) h = ap₂ ◌∷◌ (made refl (least (h c (mathlib.Core.List.Memᴰ.head refl))) refl) (clips-all T cs (λ x m. h x (mathlib.Core.List.Memᴰ.tail m)))
  where
    least : c.end ≤ T → min c.end T ≡ c.end
    least k = omega arith

module _ (cs : List Cue) (T : ℕ) (ok : Proper cs T) (nm : Named cs) (small : length cs ≤ 1024) where
  -- in a sample that holds the same throughout, no cue starts or ends inside
  module _ (b e : ℕ) (l : b < e) (held : List Body) (right : (t : ℕ) → b ≤ t → t < e → running_at cs t ≡ held) where
    no_start : (c : Cue) → Memᴰ c cs → (c.start ≤ b) ⊎ (e ≤ c.start)
    no_start c m =
        either c.start b (λ h. inl h)
        (λ h. either e c.start (λ k. inr k)
        (λ k. absurd (moves cs ok.distinct c m c.start b (runs-yes c c.start (le_refl c.start) (ok.lasts c m)) (runs-early c b h)
        (right c.start (omega arith) k ∙ sym (right b (le_refl b) l)))))

    no_end : (c : Cue) → Memᴰ c cs → (c.end ≤ b) ⊎ (e ≤ c.end)
    no_end c m =
        either c.end b (λ h. inl h)
        (λ h. either e c.end (λ k. inr k)
        (λ k. elim (no_start c m) [
          | inl s ↦ absurd (moves cs ok.distinct c m b c.end (runs-yes c b s h) (runs-late c c.end (le_refl c.end)) (right b (le_refl b) l ∙ sym (right c.end (omega arith) k)))
          | inr s ↦ absurd (omega (arith, ok.lasts c m))
        ]))

    -- a sample takes the cues known at its begin to the cues known at its end
    sample : (D N Z : List Cue) → cs ≡ D ++ (N ++ Z) → ((x : Cue) → Memᴰ x D → x.start < b) → ((x : Cue) → Memᴰ x N → x.start ≡ b) → ((x : Cue) → Memᴰ x Z → e ≤ x.start)
        → (k : ℕ) × (all_taken b e (clips b D) 0 held ≡ going (clips e (D ++ N)) k)
    unfolding clips
    sample D N Z q old now far =
        let q₂ : cs ≡ (D ++ N) ++ Z = q ∙ sym (append_assoc D N Z) in
        let in_d : (x : Cue) → Memᴰ x D → Memᴰ x cs = λ x m. subst (λ (z : List Cue). Memᴰ x z) (sym q) (mathlib.Core.List.Memᴰ.append_left (N ++ Z) m) in
        let inN : (x : Cue) → Memᴰ x N → Memᴰ x cs = λ x m. subst (λ (z : List Cue). Memᴰ x z) (sym q) (mathlib.Core.List.Memᴰ.append_right D (mathlib.Core.List.Memᴰ.append_left Z m)) in
        let dDN : Distinct (D ++ N) = pairs-take (λ x z. z.body.id ≢ x.body.id) (D ++ N) Z (subst (λ (z : List Cue). Distinct z) q₂ ok.distinct) in
        let dD : Distinct D = pairs-take (λ x z. z.body.id ≢ x.body.id) D N dDN in
        let runD : running_at cs b ≡ running_at D b ++ running_at N b =
        ap (λ (z : List Cue). running_at z b) q₂ ∙ running-append (D ++ N) Z b ∙ ap (λ (z : List Body). running_at (D ++ N) b ++ z) (none_yet Z b (λ x m. omega (arith, far x m)))
        ∙ append-nil (running_at (D ++ N) b) ∙ running-append D N b in
        let o = olds b e l D [] 0 (le_refl 0) dD (λ x m. nm x (in_d x m)) old (λ x m. no_end x (in_d x m)) (running_at N b) in
        let size : length (D ++ N) ≤ 1024 = omega (arith, small, ap length q₂, length-append (D ++ N) Z) in
        let n = news b e l N D o.0 dDN (λ x m. nm x (inN x m)) now (λ x m. elim (no_end x (inN x m)) [ inl h ↦ absurd (omega (arith, now x m, ok.lasts x (inN x m))) | inr h ↦ h ]) size in
        (n.0, ap (λ (z : List Body). all_taken b e (clips b D) 0 z) (sym (right b (le_refl b) l) ∙ runD) ∙ o.1 ∙ n.1)

  walk : (rest : List Sample) (b i : ℕ) (D Z : List Cue) → cs ≡ D ++ Z → ((x : Cue) → Memᴰ x D → x.start < b) → ((x : Cue) → Memᴰ x Z → b ≤ x.start)
      → ((s : Sample) → Memᴰ s rest → 0 < s.duration) → b + total rest ≡ T → ((t : ℕ) → b ≤ t → t < T → held_from b rest t ≡ some (running_at cs t))
      → unpack_from b i (clips b D) rest ≡ done cs
  unfolding unpack_from total
  walk [] b i D Z q old new pos sums holds = at-end Z q new
    where
      at-end : (Z : List Cue) → cs ≡ D ++ Z → ((x : Cue) → Memᴰ x Z → b ≤ x.start) → done (clips b D) ≡ done cs
      at-end [] q new =
          let same : cs ≡ D = q ∙ append-nil D in
          let bT : b ≡ T = omega arith in
          ap done (ap₂ clips bT (sym same) ∙ clips-all T cs ok.ends)
      at-end (c ∷ Z) q new =
          let m : Memᴰ c cs = subst (λ (z : List Cue). Memᴰ c z) (sym q) (mathlib.Core.List.Memᴰ.append_right D (mathlib.Core.List.Memᴰ.head refl)) in
          absurd (omega (arith, new c (mathlib.Core.List.Memᴰ.head refl), ok.lasts c m, ok.ends c m, sums))
  walk (s ∷ ss) b i D Z q old new pos sums holds =
      let e : ℕ = b + s.duration in
      let l : b < b + s.duration = omega (arith, pos s (mathlib.Core.List.Memᴰ.head refl)) in
      let w = span (b + s.duration) Z (pairs-drop (λ x z. x.start ≤ z.start) D Z (subst (λ (z : List Cue). Ordered z) q ok.ordered)) in
      let right : (t : ℕ) → b ≤ t → t < b + s.duration → running_at cs t ≡ s.held =
      λ t lo hi. some_inj (sym (holds t lo (omega arith)) ∙ from-now b s ss t lo hi) in
      let q₂ : cs ≡ D ++ (w.0 ++ w.1) = q ∙ ap (λ (z : List Cue). D ++ z) w.2 in
      let inN : (x : Cue) → Memᴰ x w.0 → Memᴰ x Z = λ x m. subst (λ (z : List Cue). Memᴰ x z) (sym w.2) (mathlib.Core.List.Memᴰ.append_left w.1 m) in
      let inZ : (x : Cue) → Memᴰ x Z → Memᴰ x cs = λ x m. subst (λ (z : List Cue). Memᴰ x z) (sym q) (mathlib.Core.List.Memᴰ.append_right D m) in
      let now : (x : Cue) → Memᴰ x w.0 → x.start ≡ b =
      λ x m. elim (no_start b (b + s.duration) l s.held right x (inZ x (inN x m))) [ inl h ↦ omega (arith, new x (inN x m)) | inr h ↦ absurd (omega (arith, w.3 x m)) ] in
      let r = sample b (b + s.duration) l s.held right D w.0 w.1 q₂ old now w.4 in
      ap (λ (z : Taking). on_sample z i (λ c. unpack_from (b + s.duration) (suc i) c ss)) r.1
      ∙ walk ss (b + s.duration) (suc i) (D ++ w.0) w.1 (q₂ ∙ sym (append_assoc D w.0 w.1))
      (λ x m. elim (mathlib.Core.List.Memᴰ.append_cases D m) [ inl k ↦ omega (arith, old x k) | inr k ↦ w.3 x k ])
      w.4 (λ x m. pos x (mathlib.Core.List.Memᴰ.tail m)) (omega arith)
      (λ t lo hi. sym (from-later b s ss t lo) ∙ holds t (omega arith) hi)

-- unpacking answers a list exactly if it is proper, has IDs, is not too long, and the track is right for it
joins-iff : (cs : List Cue) (track : List Sample) → Positive track → (joined track ≡ done cs) ↔ ListOf cs track
unfolding joined held_at clips
joins-iff cs track pos = (
  (λ h. joined-right track cs pos h),
  λ f. walk cs (total track) f.proper f.ids f.few track 0 0 [] cs refl (λ x m. absurd (mathlib.Core.List.Memᴰ.not-nil m)) (λ x m. omega arith) f.right.positive (omega arith)
      (λ t lo hi. f.right.holds t hi),
)

pub unpacks-iff : UnpacksExactly
unpacks-iff cs track pos =
    let w = joins-iff cs track pos in
    ((λ h. w.0 (joined_is track pos ∙ h)), λ f. sym (joined_is track pos) ∙ w.1 f)

-- cutting a sample in two changes nothing
pub split-unpack : (cs : List Cue) (p q : List Sample) (s : Sample) (m n : ℕ) → 0 < m → 0 < n → m + n ≡ s.duration → Positive (p ++ s ∷ q)
    → (unpack (p ++ s ∷ q) ≡ done cs) ↔ (unpack (p ++ copy s m ∷ copy s n ∷ q) ≡ done cs)
split-unpack cs p q s m n a b e pos =
    let one = unpacks-iff cs (p ++ s ∷ q) pos in
    let two = unpacks-iff cs (p ++ copy s m ∷ copy s n ∷ q) (split-positive p q s m n a b pos) in
    let t : total (p ++ s ∷ q) ≡ total (p ++ copy s m ∷ copy s n ∷ q) = split-total p q s m n e in (
      (λ h. let f = one.0 h in
          two.1 (record {
            proper = subst (λ (z : ℕ). Proper cs z) t f.proper;
            ids = f.ids;
            few = f.few;
            right = subst (λ (z : ℕ). Right cs z (p ++ copy s m ∷ copy s n ∷ q)) t ((split-right cs (total (p ++ s ∷ q)) p q s m n a b e pos).0 f.right);
          })),
      λ h. let f = two.0 h in
          one.1 (record {
            proper = subst (λ (z : ℕ). Proper cs z) (sym t) f.proper;
            ids = f.ids;
            few = f.few;
            right = subst (λ (z : ℕ). Right cs z (p ++ s ∷ q)) (sym t) ((split-right cs (total (p ++ copy s m ∷ copy s n ∷ q)) p q s m n a b e pos).1 f.right);
          }),
    )

-- unpacking what packing made of a list gives the list
pub round_trip : (cues : List Cue) (T : ℕ) → Proper cues T → Named cues → length cues ≤ 1024 → unpack (packed cues T) ≡ done cues
round_trip cues T ok nm few =
    let r = packed-right cues T ok in
    let t : T ≡ total (packed cues T) = sym r.sums in
    (unpacks-iff cues (packed cues T) r.positive).1
    (record { proper = subst (λ (z : ℕ). Proper cues z) t ok; ids = nm; few = few; right = subst (λ (z : ℕ). Right cues z (packed cues T)) t r })
