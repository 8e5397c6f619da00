-- Laws of lists that are written from their front or from a place on.
use Prim.Native.Nat.{ℕ, ◌+◌, ◌≤◌, ◌<◌}
use mathlib.Core.Path.{◌≡◌, refl, sym, ap, ◌∙◌}
use mathlib.Core.List.{List, [], ◌∷◌, ◌++◌, append_assoc, append-nil}
use native.Mathlib.Omega.{arith}
use native.Mathlib.Nat.{zero-add, add-zero, add_assoc}
use lib.ListN.{length, take, drop, set, length-append, length-drop, length-take, take-append-drop}
use lib.Seq.{drop_at, paste, sets, sets-eq, take_at, drop-append-add, drop-drop, length-take-le}
use Rattle.base.specs.Over.{over, wrote}

pub over-nil : (d : List ℕ) → d ≡ over [] d
unfolding over
over-nil d = refl

pub length_over : (p d : List ℕ) → length p ≤ length d → length (over p d) ≡ length d
unfolding over
length_over p d h = simp (length-append, length-drop) (omega arith)

-- n elements of s, pasted behind p
pub over-more : (p d s : List ℕ) (at n : ℕ) → at ≡ length p → length (take n s) ≡ n → paste (over p d) at s n ≡ over (p ++ take n s) d
unfolding over
over-more p d s at n e l =
    let front : take at (over p d) ≡ p = take_at p (drop (length p) d) at (sym e) in
    let back : drop (at + n) (over p d) ≡ drop (length (p ++ take n s)) d =
    ap (λ (k : ℕ). drop (k + n) (p ++ drop (length p) d)) e
    ∙ drop-append-add p (drop (length p) d) n
    ∙ drop-drop n (length p) d
    ∙ ap (λ (k : ℕ). drop k d) (ap (λ (k : ℕ). length p + k) (sym l) ∙ sym (length-append p (take n s))) in
    ap (λ (q : List ℕ). q ++ take n s ++ drop (at + n) (over p d)) front ∙ ap (λ (q : List ℕ). p ++ take n s ++ q) back

put : (p d vs : List ℕ) (at : ℕ) → at ≡ length p → take at (over p d) ++ vs ++ drop (at + length vs) (over p d) ≡ over (p ++ vs) d
unfolding over
put p d vs at e =
    let front : take at (over p d) ≡ p = take_at p (drop (length p) d) at (sym e) in
    let back : drop (at + length vs) (over p d) ≡ drop (length (p ++ vs)) d =
    ap (λ (k : ℕ). drop (k + length vs) (p ++ drop (length p) d)) e
    ∙ drop-append-add p (drop (length p) d) (length vs)
    ∙ drop-drop (length vs) (length p) d
    ∙ ap (λ (k : ℕ). drop k d) (sym (length-append p vs)) in
    ap (λ (q : List ℕ). q ++ vs ++ drop (at + length vs) (over p d)) front ∙ ap (λ (q : List ℕ). p ++ vs ++ q) back

-- a run of stores behind p
pub over-sets : (p d vs : List ℕ) (at : ℕ) → at ≡ length p → at + length vs ≤ length d → sets (over p d) at vs ≡ over (p ++ vs) d
over-sets p d vs at e h =
    let lo = length_over p d (omega arith) in
    sets-eq vs (over p d) at (omega arith) ∙ put p d vs at e

pub over-wrote : (p d v : List ℕ) (at : ℕ) → at ≡ length p → wrote (over p d) at v ≡ over (p ++ v) d
unfolding wrote
over-wrote p d v at e = put p d v at e

pub wrote-nil : (d : List ℕ) (at : ℕ) → d ≡ wrote d at []
unfolding wrote
wrote-nil d at = rw (add-zero, append-nil) (sym (take-append-drop at d))

-- from the first place on
pub wrote-over : (d p : List ℕ) → wrote d 0 p ≡ over p d
unfolding wrote over
wrote-over d p = ap (λ (k : ℕ). p ++ drop k d) (zero-add (length p))

pub sets-wrote : (d : List ℕ) (at : ℕ) (v : List ℕ) → at + length v ≤ length d → sets d at v ≡ wrote d at v
unfolding wrote
sets-wrote d at v h = sets-eq v d at h

pub paste-wrote : (d : List ℕ) (at : ℕ) (s : List ℕ) (n : ℕ) → n ≤ length s → paste d at s n ≡ wrote d at (take n s)
unfolding wrote
paste-wrote d at s n h = rw (length-take-le n s h)

pub length-wrote : (d : List ℕ) (at : ℕ) (v : List ℕ) → at + length v ≤ length d → length (wrote d at v) ≡ length d
unfolding wrote
length-wrote d at v h = simp (length-append, length-drop, length-take) (omega arith)

-- b behind a
pub wrote-more : (d : List ℕ) (at next : ℕ) (a b : List ℕ) → at + length a ≤ length d → next ≡ at + length a → wrote (wrote d at a) next b ≡ wrote d at (a ++ b)
unfolding wrote
wrote-more d at next a b h e =
    let l : length (take at d ++ a) ≡ next = length-append (take at d) a ∙ ap (λ (k : ℕ). k + length a) (length-take-le at d (omega arith)) ∙ sym e in
    let t : take next (take at d ++ a ++ drop (at + length a) d) ≡ take at d ++ a = take_at (take at d ++ a) (drop (at + length a) d) next l in
    let r : drop (next + length b) (take at d ++ a ++ drop (at + length a) d) ≡ drop (at + length (a ++ b)) d =
    ap (λ (k : ℕ). drop (k + length b) (take at d ++ a ++ drop (at + length a) d)) (sym l)
    ∙ drop-append-add (take at d ++ a) (drop (at + length a) d) (length b)
    ∙ drop-drop (length b) (at + length a) d
    ∙ ap (λ (k : ℕ). drop k d) (add_assoc at (length a) (length b) ∙ ap (λ (k : ℕ). at + k) (sym (length-append a b))) in
    ap (λ (q : List ℕ). q ++ b ++ drop (next + length b) (take at d ++ a ++ drop (at + length a) d)) t
    ∙ ap (λ (q : List ℕ). take at d ++ a ++ b ++ q) r
    ∙ ap (λ (q : List ℕ). q ++ drop (at + length (a ++ b)) d) (append_assoc (take at d) a b)

-- the same of outputs that are known by what was written into each
pub in_two : (d d₁ d₂ a b : List ℕ) (at p : ℕ) → d₁ ≡ wrote d at a → d₂ ≡ wrote d₁ p b → p ≡ at + length a → p ≤ length d → d₂ ≡ wrote d at (a ++ b)
in_two d d₁ d₂ a b at p e f q h = f ∙ ap (λ (x : List ℕ). wrote x p b) e ∙ wrote-more d at p a b (omega arith) q

pub in_three : (d d₁ d₂ d₃ a b e : List ℕ) (at p q : ℕ) → d₁ ≡ wrote d at a → d₂ ≡ wrote d₁ p b → d₃ ≡ wrote d₂ q e
    → p ≡ at + length a → q ≡ p + length b → at + length a + length b ≤ length d → d₃ ≡ wrote d at (a ++ (b ++ e))
in_three d d₁ d₂ d₃ a b e at p q e₁ e₂ e₃ hp hq h =
    let l : length d₁ ≡ length d = ap length e₁ ∙ length-wrote d at a (omega arith) in
    in_two d d₁ d₃ a (b ++ e) at p e₁ (in_two d₁ d₂ d₃ b e p q e₂ e₃ hq (omega arith)) hp (omega arith)

-- a byte behind what was written, and a text behind a byte
pub then-byte : (d d₁ a : List ℕ) (at p b : ℕ) → d₁ ≡ wrote d at a → p ≡ at + length a → p < length d → set d₁ p b ≡ wrote d at (a ++ b ∷ [])
then-byte d d₁ a at p b e q h =
    let l : length d₁ ≡ length d = ap length e ∙ length-wrote d at a (omega arith) in
    in_two d d₁ (set d₁ p b) a (b ∷ []) at p e (sets-wrote d₁ p (b ∷ []) (omega arith)) q (omega arith)

pub byte-then : (d d₁ a : List ℕ) (at p b : ℕ) → d₁ ≡ wrote (set d at b) p a → p ≡ at + 1 → p ≤ length d → d₁ ≡ wrote d at (b ∷ a)
byte-then d d₁ a at p b e q h = in_two d (set d at b) d₁ (b ∷ []) a at p (sets-wrote d at (b ∷ []) (omega arith)) e q h

-- the front of what was written, and what stands behind it
pub take-over : (p d : List ℕ) (n : ℕ) → n ≡ length p → take n (over p d) ≡ p
unfolding over
take-over p d n e = take_at p (drop (length p) d) n (sym e)

pub drop-over : (p d : List ℕ) (n : ℕ) → n ≡ length p → drop n (over p d) ≡ drop n d
unfolding over
drop-over p d n e = drop_at p (drop (length p) d) n (sym e) ∙ ap (λ (k : ℕ). drop k d) (sym e)
