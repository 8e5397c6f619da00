-- Reading boxes that were written one after the other gives them back where they stand.
use Prim.Native.Nat.{ℕ, zero, suc, ◌+◌, ◌-◌, ◌*◌, ◌<◌, ◌≤◌}
use mathlib.Core.Path.{◌≡◌, refl, sym, ap, ◌∙◌}
use mathlib.Core.List.{List, [], ◌∷◌, ◌++◌, append_assoc}
use native.Mathlib.Omega.{arith}
use native.Mathlib.Nat.{zero-add}
use lib.ListN.{length, take, drop, length-append}
use lib.Seq.{drop_at, take_at, get_or-take, get_or-drop}
use borrow.Author.Tests.{le-ltb, lt-leb}
use Rattle.fields.specs.BigEndian.{be, bytes}
use Rattle.fields.proofs.BigEndian.{length-bytes, be-written}
use Rattle.boxes.specs.declared.Step.TheVariants.{Box}
use Rattle.boxes.specs.Boxes.{step_at, boxes_in, part}
use Rattle.boxes.specs.Written.{Item, box_bytes, item_bytes, Fitting, laid}
use Rattle.boxes.proofs.Laws.{step_end, boxes-box, boxes-end}

pub length-box : (k : ℕ) (body : List ℕ) → length (box_bytes k body) ≡ 8 + length body
unfolding box_bytes
length-box k body = simp (length-append, length-bytes) (omega arith)

-- a box in the middle, with the bytes before and behind it
unfoldable pub around : List ℕ → ℕ → List ℕ → List ℕ → List ℕ
around p k body r = p ++ (box_bytes k body ++ r)

size-at : (p : List ℕ) (k : ℕ) (body r : List ℕ) → length body + 8 < 4294967296 → be 4 (around p k body r) (length p) ≡ length body + 8
unfolding around box_bytes
size-at p k body r h =
    ap (λ (l : List ℕ). be 4 (p ++ l) (length p)) (append_assoc (bytes 4 (length body + 8)) (bytes 4 k ++ body) r)
    ∙ be-written 4 (length body + 8) p (bytes 4 k ++ body ++ r) h

kind_at : (p : List ℕ) (k : ℕ) (body r : List ℕ) → k < 4294967296 → be 4 (around p k body r) (length p + 4) ≡ k
unfolding around box_bytes
kind_at p k body r h =
    let z = bytes 4 (length body + 8) in
    let e : p ++ (z ++ (bytes 4 k ++ body) ++ r) ≡ (p ++ z) ++ (bytes 4 k ++ (body ++ r)) =
    ap (λ (l : List ℕ). p ++ l) (append_assoc z (bytes 4 k ++ body) r ∙ ap (λ (l : List ℕ). z ++ l) (append_assoc (bytes 4 k) body r))
    ∙ sym (append_assoc p z (bytes 4 k ++ (body ++ r))) in
    let n : length p + 4 ≡ length (p ++ z) = sym (length-append p z ∙ ap (λ (m : ℕ). length p + m) (length-bytes 4 (length body + 8))) in
    ap (λ (l : List ℕ). be 4 l (length p + 4)) e ∙ ap (λ (m : ℕ). be 4 ((p ++ z) ++ (bytes 4 k ++ (body ++ r))) m) n ∙ be-written 4 k (p ++ z) (body ++ r) h

-- the step at the box
pub step-written : (p : List ℕ) (k : ℕ) (body r : List ℕ) (end : ℕ) → k < 4294967296 → length body + 8 < 4294967296 → length p + 8 + length body ≤ end
    → step_at (around p k body r) (length p) end ≡ Box k (length p + 8) (length p + 8 + length body)
unfolding step_at
step-written p k body r end hk hs he =
    let n : length p + (length body + 8) ≡ length p + 8 + length body = omega arith in
    rw (
      size-at p k body r hs,
      kind_at p k body r hk,
      lt-leb end (length p) (omega arith),
      le-ltb (end - length p) 8 (omega arith),
      le-ltb (length body + 8) 8 (omega arith),
      le-ltb (end - length p) (length body + 8) (omega arith),
      n,
    )

-- the bytes of its body
pub part-written : (p : List ℕ) (k : ℕ) (body r : List ℕ) → part (around p k body r) (length p + 8) (length p + 8 + length body) ≡ body
unfolding around box_bytes part
part-written p k body r =
    let z = bytes 4 (length body + 8) ++ bytes 4 k in
    let e : p ++ (bytes 4 (length body + 8) ++ (bytes 4 k ++ body) ++ r) ≡ (p ++ z) ++ (body ++ r) =
    ap (λ (l : List ℕ). p ++ (l ++ r)) (sym (append_assoc (bytes 4 (length body + 8)) (bytes 4 k) body))
    ∙ ap (λ (l : List ℕ). p ++ l) (append_assoc z body r)
    ∙ sym (append_assoc p z (body ++ r)) in
    let n : length (p ++ z) ≡ length p + 8 = simp (length-append, length-bytes) (omega arith) in
    let m : length p + 8 + length body - (length p + 8) ≡ length body = omega arith in
    rw m (ap (λ (l : List ℕ). take (length body) (drop (length p + 8) l)) e
    ∙ ap (λ (l : List ℕ). take (length body) l) (drop_at (p ++ z) (body ++ r) (length p + 8) n)
    ∙ take_at body r (length body) refl)

-- the rest, with the box before it
pub pass-box : (p : List ℕ) (k : ℕ) (body q r : List ℕ) → p ++ (box_bytes k body ++ q ++ r) ≡ (p ++ box_bytes k body) ++ (q ++ r)
pass-box p k body q r = ap (λ (l : List ℕ). p ++ l) (append_assoc (box_bytes k body) q r) ∙ sym (append_assoc p (box_bytes k body) (q ++ r))

pub length-pass : (p : List ℕ) (k : ℕ) (body : List ℕ) → length (p ++ box_bytes k body) ≡ length p + 8 + length body
length-pass p k body = rw (length-append, length-box) (omega arith)

-- boxes that were written, read again
pub boxes-written : (xs : List Item) (p r : List ℕ) (end : ℕ) → Fitting xs → end ≡ length p + length (item_bytes xs)
    → boxes_in (p ++ (item_bytes xs ++ r)) (length p) end ≡ laid (length p) xs
unfolding item_bytes laid Fitting around
boxes-written [] p r end f e = boxes-end (p ++ r) (length p) end (step_end (p ++ r) (length p) end (omega arith))
boxes-written (x ∷ xs) p r end f e =
    let k = x.kind in
    let body = x.body in
    let q = item_bytes xs in
    let l : length (box_bytes k body ++ q) ≡ 8 + length body + length q = rw (length-append, length-box) in
    let s : p ++ (box_bytes k body ++ q ++ r) ≡ around p k body (q ++ r) = ap (λ (w : List ℕ). p ++ w) (append_assoc (box_bytes k body) q r) ∙ refl in
    let t = step-written p k body (q ++ r) end f.0 f.1 (omega arith) in
    let t' : step_at (p ++ (box_bytes k body ++ q ++ r)) (length p) end ≡ Box k (length p + 8) (length p + 8 + length body) = ap (λ (w : List ℕ). step_at w (length p) end) s ∙ t in
    let n = length-pass p k body in
    let ih : boxes_in ((p ++ box_bytes k body) ++ (q ++ r)) (length (p ++ box_bytes k body)) end ≡ laid (length (p ++ box_bytes k body)) xs =
    boxes-written xs (p ++ box_bytes k body) r end f.2 (omega arith) in
    let ih' : boxes_in (p ++ (box_bytes k body ++ q ++ r)) (length p + 8 + length body) end ≡ laid (length p + 8 + length body) xs =
    ap (λ (w : List ℕ). boxes_in w (length p + 8 + length body) end) (pass-box p k body q r) ∙ rw n at ih in
    boxes-box (p ++ (box_bytes k body ++ q ++ r)) (length p) end k (length p + 8) (length p + 8 + length body) t' ∙ rw ih'

-- a number that stands in a part, read in the part and where the part stands
pub be-part : (w : ℕ) (s : List ℕ) (b n : ℕ) → b + w ≤ n → be w (part s b n) 0 ≡ be w s b
unfolding part be
be-part zero s b n h = refl
be-part (suc w) s b n h =
    rw (be-part w s b n (omega arith), zero-add w)
    (ap (λ (x : ℕ). be w s b * 256 + x) (get_or-take (n - b) (drop b s) w 0 (omega arith) ∙ get_or-drop b s w 0))
