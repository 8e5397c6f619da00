-- What the test of a sample says of its ticks.
use Prim.Native.Nat.{◌<◌, ◌≤◌, ℕ}
use mathlib.Core.Path.{◌∙◌, ◌≡◌, ap, refl, sym}
use mathlib.Core.Logic.{◌≢◌, ◌⊎◌, inl, inr}
use mathlib.Core.Bool.{Bool, false, true}
use mathlib.Core.List.Memᴰ
use mathlib.Core.List.{List, [], ◌∷◌}
use native.Mathlib.Omega.{arith}
use native.Mathlib.Nat.{le_refl}
use lib.Dec.{leb, ltb}
use borrow.Author.Tests.{leb-false, leb-true, ltb-false, ltb-true}
use Rattle.base.specs.Choice.{both, pick}
use Rattle.base.proofs.Choice.{both_false, both_left, both_right, by-test, true-false}
use Rattle.timeline.specs.Cues.{Body, Cue, Distinct, Lasting, Pairs, running_at, runs, same_body}
use Rattle.timeline.specs.Checking.{Stand, matches, meets, none_left, out, part, standing, whole}
use Rattle.timeline.proofs.Running.{body_same, moves, running-no, running-yes, runs-early, runs-late, runs-yes, same_body_lem}

-- what a stand means
abbrev pub Facts : Cue → ℕ → ℕ → Stand → Type 0
Facts c b e out = (t : ℕ) → b ≤ t → t < e → runs c t ≡ false
Facts c b e whole = (t : ℕ) → b ≤ t → t < e → runs c t ≡ true
Facts c b e part = (t : ℕ) × (u : ℕ) × (b ≤ t) × (t < e) × (b ≤ u) × (u < e) × (runs c t ≡ true) × (runs c u ≡ false)

pub facts : (c : Cue) (b e : ℕ) → b < e → c.start < c.end → Facts c b e (standing c b e)
unfolding standing
facts c b e l k = go (ltb c.start e) refl (leb c.end b) refl (both (leb c.start b) (leb e c.end)) refl
  where
    split : c.start < e → b < c.end → (leb c.start b ≡ false) ⊎ (leb e c.end ≡ false) → Facts c b e part
    split p q (inl h) =
        let r = leb-false c.start b h in
        (c.start, b, omega arith, omega arith, le_refl b, l, runs-yes c c.start (le_refl c.start) k, runs-early c b r)
    split p q (inr h) =
        let r = leb-false e c.end h in
        by-test (leb c.start b)
        (λ y. let z = leb-true c.start b y in (b, c.end, le_refl b, l, omega arith, r, runs-yes c b z q, runs-late c c.end (le_refl c.end)))
        (λ y. let z = leb-false c.start b y in (c.start, b, omega arith, omega arith, le_refl b, l, runs-yes c c.start (le_refl c.start) k, runs-early c b z))

    go : (p : Bool) → ltb c.start e ≡ p → (q : Bool) → leb c.end b ≡ q → (r : Bool) → both (leb c.start b) (leb e c.end) ≡ r → Facts c b e (pick p (pick q out (pick r whole part)) out)
    go false h1 q h2 r h3 = λ t lo hi. runs-early c t (omega (arith, ltb-false))
    go true h1 true h2 r h3 = λ t lo hi. runs-late c t (omega (arith, leb-true))
    go true h1 false h2 true h3 =
        let s = leb-true c.start b (both_left (leb c.start b) (leb e c.end) h3) in
        let q = leb-true e c.end (both_right (leb c.start b) (leb e c.end) h3) in
        λ t lo hi. runs-yes c t (omega arith) (omega arith)
    go true h1 false h2 false h3 = split (ltb-true c.start e h1) (leb-false c.end b h2) (both_false (leb c.start b) (leb e c.end) h3)

-- where the test says yes, the sample holds what runs, at each of its ticks
pub matches-right : (cs : List Cue) (b e : ℕ) (held : List Body) → b < e → Lasting cs → matches cs b e held ≡ true
    → (t : ℕ) → b ≤ t → t < e → running_at cs t ≡ held
unfolding matches running_at
matches-right [] b e [] l h m t lo hi = refl
matches-right [] b e (x ∷ xs) l h m t lo hi = true-false false m refl
matches-right (c ∷ cs) b e held l h m t lo hi =
    go (standing c b e) (facts c b e l (h c (Memᴰ.head refl))) held m (λ r k. matches-right cs b e r l (λ x n. h x (Memᴰ.tail n)) k t lo hi)
  where
    go : (s : Stand) → Facts c b e s → (r : List Body) → meets s c.body r (λ q. matches cs b e q) ≡ true
        → ((q : List Body) → matches cs b e q ≡ true → running_at cs t ≡ q) → running_at (c ∷ cs) t ≡ r
    go out f r m rest = running-no c cs t (f t lo hi) ∙ rest r m
    go whole f [] m rest = true-false false m refl
    go whole f (y ∷ ys) m rest =
        let p = same_body_lem c.body y (both_left (same_body c.body y) (matches cs b e ys) m) in
        let q = rest ys (both_right (same_body c.body y) (matches cs b e ys) m) in
        running-yes c cs t (f t lo hi) ∙ (cc)
    go part f r m rest = true-false false m refl

-- two lists of bodies are the same
unfoldable pub same_bodies : List Body → List Body → Bool
same_bodies [] [] = true
same_bodies [] (y ∷ ys) = false
same_bodies (x ∷ xs) [] = false
same_bodies (x ∷ xs) (y ∷ ys) = both (same_body x y) (same_bodies xs ys)

pub same_held : (a b : List Body) → same_bodies a b ≡ true → a ≡ b
unfolding same_bodies
same_held [] [] h = refl
same_held [] (y ∷ ys) h = true-false false h refl
same_held (x ∷ xs) [] h = true-false false h refl
same_held (x ∷ xs) (y ∷ ys) h =
    let p = same_body_lem x y (both_left (same_body x y) (same_bodies xs ys) h) in
    let q = same_held xs ys (both_right (same_body x y) (same_bodies xs ys) h) in
    rw (p, q)

pub held_same : (a : List Body) → same_bodies a a ≡ true
unfolding same_bodies
held_same [] = refl
held_same (x ∷ xs) = rw (body_same x) (held_same xs)

pub same-as : (x y : Body) → x ≡ y → same_body x y ≡ true
same-as x y e = rw (← e) (body_same x)

pub same-so : (x y : List Body) → x ≡ y → same_bodies x y ≡ true
same-so x y e = rw (← e) (held_same x)

pub not-nil : (x : Body) (xs : List Body) → (x ∷ xs) ≡ [] → ⊥
not-nil x xs e = true-false (none_left (x ∷ xs)) (ap none_left e) refl

pub head-is : (x y : Body) (xs ys : List Body) → (x ∷ xs) ≡ (y ∷ ys) → x ≡ y
head-is x y xs ys e = cc

pub tail-is : (x y : Body) (xs ys : List Body) → (x ∷ xs) ≡ (y ∷ ys) → xs ≡ ys
tail-is x y xs ys e = cc

-- where it says no, there is a tick at which the sample holds something else
pub matches-wrong : (cs : List Cue) (b e : ℕ) (held : List Body) → b < e → Lasting cs → Distinct cs → matches cs b e held ≡ false
    → (t : ℕ) × (b ≤ t) × (t < e) × (running_at cs t ≢ held)
unfolding matches running_at Pairs
matches-wrong [] b e [] l h d m = true-false true refl m
matches-wrong [] b e (x ∷ xs) l h d m = (b, le_refl b, l, λ q. true-false (none_left (x ∷ xs)) (sym (ap none_left q)) refl)
matches-wrong (c ∷ cs) b e held l h d m =
    go (standing c b e) (facts c b e l (h c (Memᴰ.head refl))) held m (λ r k. matches-wrong cs b e r l (λ x n. h x (Memᴰ.tail n)) d.1 k)
  where
    go : (s : Stand) → Facts c b e s → (r : List Body) → meets s c.body r (λ q. matches cs b e q) ≡ false
        → ((q : List Body) → matches cs b e q ≡ false → (t : ℕ) × (b ≤ t) × (t < e) × (running_at cs t ≢ q))
        → (t : ℕ) × (b ≤ t) × (t < e) × (running_at (c ∷ cs) t ≢ r)
    go out f r m rest = let w = rest r m in (w.0, w.1, w.2, λ q. w.3 (sym (running-no c cs w.0 (f w.0 w.1 w.2)) ∙ q))
    go whole f [] m rest = (b, le_refl b, l, λ q. not-nil c.body (running_at cs b) (sym (running-yes c cs b (f b (le_refl b) l)) ∙ q))
    go whole f (y ∷ ys) m rest =
        by-test (same_body c.body y)
        (λ s. let w = rest ys (rw s at m) in
        (w.0, w.1, w.2, λ q. w.3 (tail-is c.body y (running_at cs w.0) ys (sym (running-yes c cs w.0 (f w.0 w.1 w.2)) ∙ q))))
        (λ s. (b, le_refl b, l, λ q. true-false (same_body c.body y) (same-as c.body y (head-is c.body y (running_at cs b) ys (sym (running-yes c cs b (f b (le_refl b) l)) ∙ q))) s))
    go part f r m rest =
        let t = f.0 in
        let u = f.1 in
        by-test (same_bodies (running_at (c ∷ cs) t) r)
        (λ s. (u, f.4, f.5, λ q. moves (c ∷ cs) d c (Memᴰ.head refl) t u f.6 f.7 (same_held (running_at (c ∷ cs) t) r s ∙ sym q)))
        (λ s. (t, f.2, f.3, λ q. true-false (same_bodies (running_at (c ∷ cs) t) r) (same-so (running_at (c ∷ cs) t) r q) s))
