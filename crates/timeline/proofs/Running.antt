-- Laws of what runs at a tick, and of bodies compared.
use Prim.Native.Nat.{◌<◌, ◌≤◌, ℕ}
use mathlib.Core.Path.{◌∙◌, ◌≡◌, ap, refl, subst, sym}
use mathlib.Core.Logic.{◌⊎◌, inl, inr}
use mathlib.Core.Bool.{Bool, false, true}
use mathlib.Core.Option.{Option, none, some}
use mathlib.Core.List.Memᴰ
use mathlib.Core.List.{List, Memᴰ, [], ◌++◌, ◌∷◌}
use native.Mathlib.Omega.{arith}
use lib.Dec.{eqb, leb, ltb}
use borrow.Author.Tests.{eqb-false, eqb-true, le-leb, le-ltb, leb-false, leb-true, lt-leb, lt-ltb, ltb-false, ltb-true}
use Rattle.base.specs.Choice.{both, keep, same_list}
use Rattle.base.proofs.Choice.{both_false, both_left, both_right, by-test, list_same, same-list, true-false}
use Rattle.timeline.specs.Cues.{Body, Cue, Distinct, Pairs, chosen, running_at, runs, same_body, same_id}

-- laws of `runs`
pub runs-yes : (c : Cue) (t : ℕ) → c.start ≤ t → t < c.end → runs c t ≡ true
unfolding runs
runs-yes c t h k = rw (le-leb c.start t h) (lt-ltb t _ (omega arith))

pub runs-early : (c : Cue) (t : ℕ) → t < c.start → runs c t ≡ false
unfolding runs
runs-early c t h = rw (lt-leb c.start t h)

pub runs-late : (c : Cue) (t : ℕ) → c.end ≤ t → runs c t ≡ false
unfolding runs
runs-late c t h = by-test (leb c.start t) (λ e. rw e (le-ltb t _ (omega arith))) (λ e. rw e)

pub runs-is : (c : Cue) (t : ℕ) → runs c t ≡ true → (c.start ≤ t) × (t < c.end)
unfolding runs
runs-is c t h = (leb-true c.start t (both_left (leb c.start t) (ltb t c.end) h), ltb-true t c.end (both_right (leb c.start t) (ltb t c.end) h))

pub runs-not : (c : Cue) (t : ℕ) → runs c t ≡ false → (t < c.start) ⊎ (c.end ≤ t)
unfolding runs
runs-not c t h = elim (both_false (leb c.start t) (ltb t c.end) h) [ inl e ↦ inl (leb-false c.start t e) | inr e ↦ inr (ltb-false t c.end e) ]

-- laws of `chosen`
pub chosen-same : (p q : Cue → Bool) (cs : List Cue) → ((c : Cue) → Memᴰ c cs → p c ≡ q c) → chosen p cs ≡ chosen q cs
unfolding chosen
chosen-same p q [] h = refl
chosen-same p q (c ∷ cs) h = rw (h c (Memᴰ.head refl), chosen-same p q cs (λ x m. h x (Memᴰ.tail m)))

pub mem-chosen : (p : Cue → Bool) (cs : List Cue) (c : Cue) → Memᴰ c cs → p c ≡ true → Memᴰ c.body (chosen p cs)
unfolding chosen
mem-chosen p [] c m h = absurd (Memᴰ.not-nil m)
mem-chosen p (x ∷ cs) c m h = go (Memᴰ.cases_cons m) (λ k. mem-chosen p cs c k h)
  where
    put : (b : Bool) → Memᴰ c.body (chosen p cs) → Memᴰ c.body (keep b x.body (chosen p cs))
    put true k = Memᴰ.tail k
    put false k = k

    go : (c ≡ x) ⊎ Memᴰ c cs → (Memᴰ c cs → Memᴰ c.body (chosen p cs)) → Memᴰ c.body (keep (p x) x.body (chosen p cs))
    go (inl e) rest = let y : p x ≡ true = ap p (sym e) ∙ h in rw y (Memᴰ.head (ap (λ (z : Cue). z.body) e))
    go (inr k) rest = put (p x) (rest k)

pub chosen-mem : (p : Cue → Bool) (cs : List Cue) (b : Body) → Memᴰ b (chosen p cs) → (c : Cue) × Memᴰ c cs × (p c ≡ true) × (b ≡ c.body)
unfolding chosen
chosen-mem p [] b m = absurd (Memᴰ.not-nil m)
chosen-mem p (x ∷ cs) b m = go (p x) refl m (λ k. chosen-mem p cs b k)
  where
    up : (c : Cue) × Memᴰ c cs × (p c ≡ true) × (b ≡ c.body) → (c : Cue) × Memᴰ c (x ∷ cs) × (p c ≡ true) × (b ≡ c.body)
    up r = (r.0, Memᴰ.tail r.1, r.2, r.3)

    go : (t : Bool) → p x ≡ t → Memᴰ b (keep t x.body (chosen p cs)) → (Memᴰ b (chosen p cs) → (c : Cue) × Memᴰ c cs × (p c ≡ true) × (b ≡ c.body))
        → (c : Cue) × Memᴰ c (x ∷ cs) × (p c ≡ true) × (b ≡ c.body)
    go true e k rest = elim (Memᴰ.cases_cons k) [ inl q ↦ (x, Memᴰ.head refl, e, q) | inr q ↦ up (rest q) ]
    go false e k rest = up (rest k)

pub chosen-append : (p : Cue → Bool) (a b : List Cue) → chosen p (a ++ b) ≡ chosen p a ++ chosen p b
unfolding chosen
chosen-append p [] b = refl
chosen-append p (c ∷ a) b = by-test (p c) (λ h. rw (h, chosen-append p a b)) (λ h. rw (h, chosen-append p a b))

-- laws of `running_at`
pub running-yes : (c : Cue) (cs : List Cue) (t : ℕ) → runs c t ≡ true → running_at (c ∷ cs) t ≡ c.body ∷ running_at cs t
unfolding running_at
running-yes c cs t h = rw h

pub running-append : (p q : List Cue) (t : ℕ) → running_at (p ++ q) t ≡ running_at p t ++ running_at q t
unfolding running_at
running-append p q t = chosen-append (λ c. runs c t) p q

pub running-no : (c : Cue) (cs : List Cue) (t : ℕ) → runs c t ≡ false → running_at (c ∷ cs) t ≡ running_at cs t
unfolding running_at
running-no c cs t h = rw h

pub mem-running : (cs : List Cue) (c : Cue) (t : ℕ) → Memᴰ c cs → runs c t ≡ true → Memᴰ c.body (running_at cs t)
unfolding running_at
mem-running cs c t m h = mem-chosen (λ x. runs x t) cs c m h

pub running-mem : (cs : List Cue) (b : Body) (t : ℕ) → Memᴰ b (running_at cs t) → (c : Cue) × Memᴰ c cs × (runs c t ≡ true) × (b ≡ c.body)
unfolding running_at
running-mem cs b t m = chosen-mem (λ x. runs x t) cs b m

-- cues of one ID are one cue
pub one-cue : (cs : List Cue) → Distinct cs → (c d : Cue) → Memᴰ c cs → Memᴰ d cs → c.body.id ≡ d.body.id → c ≡ d
unfolding Pairs
one-cue [] h c d m n e = absurd (Memᴰ.not-nil m)
one-cue (x ∷ cs) h c d m n e = go (Memᴰ.cases_cons m) (Memᴰ.cases_cons n) (λ a b. one-cue cs h.1 c d a b e)
  where
    go : (c ≡ x) ⊎ Memᴰ c cs → (d ≡ x) ⊎ Memᴰ d cs → (Memᴰ c cs → Memᴰ d cs → c ≡ d) → c ≡ d
    go (inl p) (inl q) rest = p ∙ sym q
    go (inl p) (inr q) rest = absurd (h.0 d q (sym e ∙ ap (λ (z : Cue). z.body.id) p))
    go (inr p) (inl q) rest = absurd (h.0 c p (e ∙ ap (λ (z : Cue). z.body.id) q))
    go (inr p) (inr q) rest = rest p q

-- where a cue runs at one tick and not at another, what runs differs
pub moves : (cs : List Cue) → Distinct cs → (c : Cue) → Memᴰ c cs → (t u : ℕ) → runs c t ≡ true → runs c u ≡ false → running_at cs t ≡ running_at cs u → ⊥
moves cs d c m t u p q e =
    let w = running-mem cs c.body u (subst (λ (l : List Body). Memᴰ c.body l) e (mem-running cs c t m p)) in
    let same : c ≡ w.0 = one-cue cs d c w.0 m w.1 (ap (λ (x : Body). x.id) w.3) in
    true-false (runs c u) (ap (λ (x : Cue). runs x u) same ∙ w.2) q

pub same_id_lem : (x y : Option ℕ) → same_id x y ≡ true → x ≡ y
unfolding same_id
same_id_lem none none h = refl
same_id_lem none (some n) h = true-false false h refl
same_id_lem (some m) none h = true-false false h refl
same_id_lem (some m) (some n) h = ap some (eqb-true m n h)

pub id_same : (x : Option ℕ) → same_id x x ≡ true
unfolding same_id
id_same none = refl
id_same (some n) = by-test (eqb n n) (λ e. e) (λ e. absurd (eqb-false n n e refl))

made : {x y : Body} → x.id ≡ y.id → x.identifier ≡ y.identifier → x.settings ≡ y.settings → x.payload ≡ y.payload → x ≡ y
made {x} {y} p q r s = λ i. record { id = p i; identifier = q i; settings = r i; payload = s i }

pub same_body_lem : (x y : Body) → same_body x y ≡ true → x ≡ y
unfolding same_body
same_body_lem x y h =
    let a = same_id x.id y.id in
    let b = same_list x.identifier y.identifier in
    let c = same_list x.settings y.settings in
    let d = same_list x.payload y.payload in
    let p = same_id_lem x.id y.id (both_left a (both b (both c d)) h) in
    let h1 = both_right a (both b (both c d)) h in
    let q = same-list x.identifier y.identifier (both_left b (both c d) h1) in
    let h2 = both_right b (both c d) h1 in
    let r = same-list x.settings y.settings (both_left c d h2) in
    let s = same-list x.payload y.payload (both_right c d h2) in
    made p q r s

pub body_same : (x : Body) → same_body x x ≡ true
unfolding same_body
body_same x = rw (id_same x.id, list_same x.identifier, list_same x.settings, list_same x.payload)
