-- Laws for writing an entry: its size, and runs of stores one behind the other.
use Prim.Native.Nat.{ℕ, ◌+◌, ◌≤◌, ◌<◌}
use mathlib.Core.Path.{◌≡◌, refl, sym, ap, ◌∙◌}
use mathlib.Core.List.{List, [], ◌∷◌, ◌++◌, append_assoc, append-nil}
use mathlib.Core.Bool.{Bool, true, false}
use mathlib.Core.Option.{Option, none, some}
use native.Mathlib.Omega.{arith}
use native.Mathlib.Nat.{zero-add, sub-zero}
use lib.ListN.{length, length-append}
use lib.Seq.{take-length}
use borrow.Author.Tests.{lt-ltb, ltb-true, ltb-false}
use lib.Dec.{ltb}
use Rattle.base.specs.Over.{over, wrote}
use Rattle.base.proofs.Over.{over-wrote, wrote-over, wrote-more}
use Rattle.base.proofs.Choice.{true-false}
use Rattle.verdict.specs.Judgement.{fault, ◌gives◌at◌}
use Rattle.verdict.specs.declared.Refusal.{Refusal}
use Rattle.fields.specs.BigEndian.{bytes}
use Rattle.fields.proofs.BigEndian.{length-bytes}
use Rattle.boxes.specs.Boxes.{part}
use Rattle.boxes.specs.Written.{box_bytes, item_bytes}
use Rattle.boxes.proofs.Written.{length-box}
use Rattle.wvtt_entry_write.specs.Written.{Done, Refused}
use Rattle.wvtt_entry_write.specs.Writing.{unless_faulty, label_of, entry_items, entry_size, entry_head, entry_bytes}
use Rattle.wvtt_entry_write.specs.Terms.{sized}

-- ---- sizes

-- a text above the limit, and one that is not
pub limit-over : (n : ℕ) (r : Refusal) → sized n ≡ Refused r → (4294967295 < n) × (Refused r ≡ Refused (fault 9 0))
limit-over n r e = go (ltb 4294967295 n) refl e
  where
    go : (b : Bool) → ltb 4294967295 n ≡ b → unless_faulty (b gives 9 at 0) n ≡ Refused r → (4294967295 < n) × (Refused r ≡ Refused (fault 9 0))
    go true q e = (ltb-true 4294967295 n q, sym e)
    go false q e = let z : ◌≡◌ {A = ℕ} 0 1 = cc in absurd (omega arith)

pub limit-under : (n m : ℕ) → sized n ≡ Done m → (n ≡ m) × (n ≤ 4294967295)
limit-under n m e = go (ltb 4294967295 n) refl e
  where
    go : (b : Bool) → ltb 4294967295 n ≡ b → unless_faulty (b gives 9 at 0) n ≡ Done m → (n ≡ m) × (n ≤ 4294967295)
    go true q e = let z : ◌≡◌ {A = ℕ} 0 1 = cc in absurd (omega arith)
    go false q e = (cc, ltb-false 4294967295 n q)

pub size-over : (c : List ℕ) (l : Option (List ℕ)) → 4294967295 < length c → Refused (fault 9 0) ≡ sized (entry_size c l)
unfolding entry_size
size-over c none h = rw (lt-ltb 4294967295 (24 + length c + 0) (omega arith))
size-over c (some t) h = rw (lt-ltb 4294967295 (24 + length c + (8 + length t)) (omega arith))

pub label-over : (c : List ℕ) (b : Bool) (t : List ℕ) → b ≡ true → 4294967295 < length t → Refused (fault 9 0) ≡ sized (entry_size c (label_of b t))
unfolding entry_size
label-over c true t e h = rw (lt-ltb 4294967295 (24 + length c + (8 + length t)) (omega arith))
label-over c false t e h = true-false false e refl

pub size-labelled : (c : List ℕ) (b : Bool) (t : List ℕ) → b ≡ true → 24 + length c + (8 + length t) ≡ entry_size c (label_of b t)
unfolding entry_size
size-labelled c true t e = refl
size-labelled c false t e = true-false false e refl

pub size-bare : (c : List ℕ) (b : Bool) (t : List ℕ) → b ≡ false → 24 + length c ≡ entry_size c (label_of b t)
unfolding entry_size
size-bare c true t e = true-false true refl e
size-bare c false t e = omega arith

-- the configuration's box lies within the entry
pub size-most : (c : List ℕ) (l : Option (List ℕ)) → 24 + length c ≤ entry_size c l
unfolding entry_size
size-most c none = omega arith
size-most c (some t) = omega arith

pub length-head : (size index : ℕ) → length (entry_head size index) ≡ 16
unfolding entry_head
length-head size index = simp (length-append, length-bytes)

length-items : (c : List ℕ) (l : Option (List ℕ)) → 16 + length (item_bytes (entry_items c l)) ≡ entry_size c l
unfolding entry_items entry_size item_bytes
length-items c none = rw (append-nil, length-box) (omega arith)
length-items c (some t) = rw (append-nil, length-append, length-box, length-box) (omega arith)

-- the size is the number of bytes
pub length-entry : (c : List ℕ) (l : Option (List ℕ)) (index : ℕ) → length (entry_bytes c l index) ≡ entry_size c l
unfolding entry_bytes
length-entry c l index =
    length-append (entry_head (entry_size c l) index) (item_bytes (entry_items c l))
    ∙ ap (λ (n : ℕ). n + length (item_bytes (entry_items c l))) (length-head (entry_size c l) index)
    ∙ length-items c l

-- ---- stores

-- a whole text
pub part-all : (t : List ℕ) → part t 0 (0 + length t) ≡ t
unfolding part
part-all t = rw (zero-add, sub-zero) (take-length t)

six : bytes 4 0 ++ bytes 2 0 ≡ bytes 6 0
unfolding bytes
six = refl

joined : (x y z : List ℕ) → x ++ y ++ bytes 4 0 ++ bytes 2 0 ++ z ≡ x ++ (y ++ (bytes 6 0 ++ z))
joined x y z =
    ap (λ (w : List ℕ). w ++ z) (append_assoc (x ++ y) (bytes 4 0) (bytes 2 0) ∙ ap (λ (w : List ℕ). x ++ y ++ w) six)
    ∙ append_assoc (x ++ y) (bytes 6 0) z
    ∙ append_assoc x y (bytes 6 0 ++ z)

-- the fixed bytes, in four runs
pub head-written : (d d₁ d₂ d₃ d₄ : List ℕ) (size kind index : ℕ) → d₁ ≡ wrote d 0 (bytes 4 size ++ bytes 4 kind) → d₂ ≡ wrote d₁ 8 (bytes 4 0) → d₃ ≡ wrote d₂ 12 (bytes 2 0)
    → d₄ ≡ wrote d₃ 14 (bytes 2 index) → d₄ ≡ over (bytes 4 size ++ (bytes 4 kind ++ (bytes 6 0 ++ bytes 2 index))) d
head-written d d₁ d₂ d₃ d₄ size kind index e₁ e₂ e₃ e₄ =
    let a = bytes 4 size ++ bytes 4 kind in
    let l : length a ≡ 8 = simp (length-append, length-bytes) in
    let l₂ : length (a ++ bytes 4 0) ≡ 12 = simp (length-append, length-bytes) in
    let l₃ : length (a ++ bytes 4 0 ++ bytes 2 0) ≡ 14 = simp (length-append, length-bytes) in
    let f₁ : d₁ ≡ over a d = e₁ ∙ wrote-over d a in
    let f₂ : d₂ ≡ over (a ++ bytes 4 0) d = e₂ ∙ ap (λ (x : List ℕ). wrote x 8 (bytes 4 0)) f₁ ∙ over-wrote a d (bytes 4 0) 8 (sym l) in
    let f₃ : d₃ ≡ over (a ++ bytes 4 0 ++ bytes 2 0) d = e₃ ∙ ap (λ (x : List ℕ). wrote x 12 (bytes 2 0)) f₂ ∙ over-wrote (a ++ bytes 4 0) d (bytes 2 0) 12 (sym l₂) in
    let f₄ : d₄ ≡ over (a ++ bytes 4 0 ++ bytes 2 0 ++ bytes 2 index) d = e₄ ∙ ap (λ (x : List ℕ). wrote x 14 (bytes 2 index)) f₃ ∙ over-wrote (a ++ bytes 4 0 ++ bytes 2 0) d (bytes 2 index) 14 (sym l₃) in
    f₄ ∙ ap (λ (x : List ℕ). over x d) (joined (bytes 4 size) (bytes 4 kind) (bytes 2 index))

-- the boxes: one, or a second behind it
pub one_written : (d d₁ c : List ℕ) (k : ℕ) → d₁ ≡ wrote d 16 (box_bytes k c) → d₁ ≡ wrote d 16 (item_bytes (record { kind = k; body = c } ∷ []))
unfolding item_bytes
one_written d d₁ c k h = h ∙ ap (wrote d 16) (sym (append-nil (box_bytes k c)))

pub two-written : (d d₁ d₂ c t : List ℕ) (k j : ℕ) → d₁ ≡ wrote d 16 (box_bytes k c) → d₂ ≡ wrote d₁ (24 + length c) (box_bytes j t) → 24 + length c ≤ length d
    → d₂ ≡ wrote d 16 (item_bytes (record { kind = k; body = c } ∷ record { kind = j; body = t } ∷ []))
unfolding item_bytes
two-written d d₁ d₂ c t k j h₁ h₂ n =
    let l = length-box k c in
    h₂
    ∙ ap (λ (x : List ℕ). wrote x (24 + length c) (box_bytes j t)) h₁
    ∙ wrote-more d 16 (24 + length c) (box_bytes k c) (box_bytes j t) (omega arith) (omega arith)
    ∙ ap (λ (x : List ℕ). wrote d 16 (box_bytes k c ++ x)) (sym (append-nil (box_bytes j t)))

-- fixed bytes and boxes
pub entry-written : (d d₁ d₂ c : List ℕ) (l : Option (List ℕ)) (size index : ℕ) → size ≡ entry_size c l → d₁ ≡ over (entry_head size index) d
    → d₂ ≡ wrote d₁ 16 (item_bytes (entry_items c l)) → d₂ ≡ over (entry_bytes c l index) d
unfolding entry_bytes
entry-written d d₁ d₂ c l size index s h₁ h₂ =
    h₂
    ∙ ap (λ (x : List ℕ). wrote x 16 (item_bytes (entry_items c l))) h₁
    ∙ over-wrote (entry_head size index) d (item_bytes (entry_items c l)) 16 (sym (length-head size index))
    ∙ ap (λ (n : ℕ). over (entry_head n index ++ item_bytes (entry_items c l)) d) s
