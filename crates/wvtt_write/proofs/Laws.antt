-- Laws for writing: sizes, copies and runs of stores, one behind the other.
use Prim.Native.Nat.{ℕ, zero, suc, ◌+◌, ◌-◌, ◌≤◌, ◌<◌}
use mathlib.Core.Path.{◌≡◌, refl, sym, ap, ◌∙◌}
use mathlib.Core.List.{List, [], ◌∷◌, ◌++◌, append_assoc, append-nil}
use native.Mathlib.Omega.{arith}
use native.Mathlib.Numerals.{add-one}
use lib.ListN.{length, take, drop, get_or, set, length-append, length-drop}
use lib.Seq.{paste, paste-suc, get_or-drop, drop-drop, drop-append-add, take-add, take_at, length-take-le}
use borrow.Rule.Slice.PartMut.{put_mid}
use Rattle.std.proofs.lemmas.Slice.{put_mid-paste}
use Rattle.std.proofs.lemmas.List.{take_all}
use Rattle.base.specs.Over.{wrote}
use Rattle.base.proofs.Over.{wrote-nil, wrote-more, length-wrote, paste-wrote}
use Rattle.fields.specs.BigEndian.{bytes}
use Rattle.fields.proofs.BigEndian.{length-bytes}
use Rattle.boxes.specs.Boxes.{part}
use Rattle.boxes.specs.Written.{Item, box_bytes, item_bytes}
use Rattle.boxes.proofs.Written.{length-box}
use mathlib.Core.Option.{some}
use Rattle.timeline.specs.Cues.{Body}
use Rattle.wvtt.specs.Kinds.{vttc, vsid, iden, sttg, payl}
use Rattle.wvtt_write.specs.Written.{if_any, text_items, cue_items, cue_bytes, pooled, any_size, texts_size, cue_size}

pub length_part : (s : List ℕ) (from n : ℕ) → from + n ≤ length s → length (part s from (from + n)) ≡ n
unfolding part
length_part s from n h =
    let e : from + n - from ≡ n = omega arith in
    rw e (length-take-le n (drop from s) (rw length-drop (omega arith)))

-- a copy: a turn, and the end
pub copy_more : (d₀ d s : List ℕ) (at from i : ℕ) → d ≡ paste d₀ at (drop from s) i → at + i < length d₀ → from + i < length s
    → set d (at + i) (get_or s (from + i) 0) ≡ paste d₀ at (drop from s) (i + 1)
copy_more d₀ d s at from i e h k =
    let g : get_or s (from + i) 0 ≡ get_or (drop from s) i 0 = sym (get_or-drop from s i 0) in
    let l : i < length (drop from s) = rw length-drop (omega arith) in
    rw (add-one, e, g) (paste-suc d₀ at (drop from s) i 0 h l)

pub copied-part : (d s : List ℕ) (at from n : ℕ) → from + n ≤ length s → paste d at (drop from s) n ≡ wrote d at (part s from (from + n))
unfolding part
copied-part d s at from n h =
    let e : from + n - from ≡ n = omega arith in
    let l : n ≤ length (drop from s) = rw length-drop (omega arith) in
    rw e (paste-wrote d at (drop from s) n l)

-- a copy into a part of a slice
pub copied : (d s ys : List ℕ) (at from n k : ℕ) → ys ≡ part s from (from + n) → k ≡ n → from + n ≤ length s
    → put_mid at k d ys ≡ wrote d at (part s from (from + n))
copied d s ys at from n k e h q =
    let v = part s from (from + n) in
    let l : length v ≡ n = length_part s from n q in
    put_mid-paste at k d ys v n e (sym h) (sym l) ∙ paste-wrote d at v n (omega arith) ∙ ap (wrote d at) (take_all n v (omega arith))

pub part_join : (s : List ℕ) (a b c : ℕ) → a ≤ b → b ≤ c → part s a b ++ part s b c ≡ part s a c
unfolding part
part_join s a b c h k =
    let e : b - a + (c - b) ≡ c - a = omega arith in
    let d : a + (b - a) ≡ b = omega arith in
    ap (λ (x : ℕ). take (b - a) (drop a s) ++ take (c - b) (drop x s)) (sym d)
    ∙ ap (λ (x : List ℕ). take (b - a) (drop a s) ++ take (c - b) x) (sym (drop-drop (b - a) a s))
    ∙ sym (take-add (b - a) (c - b) (drop a s))
    ∙ ap (λ (x : ℕ). take x (drop a s)) e

pub copy-none : (d s : List ℕ) (at from : ℕ) → d ≡ wrote d at (part s from (from + 0))
unfolding part
copy-none d s at from = let e : from + 0 - from ≡ 0 = omega arith in rw e (wrote-nil d at)

pub copy-long : (d e s : List ℕ) (at from i : ℕ) → e ≡ wrote d at (part s from (from + i)) → at + i ≤ length d → from + i ≤ length s → length e ≡ length d
copy-long d e s at from i q h k = ap length q ∙ length-wrote d at (part s from (from + i)) (omega (arith, length_part s from i k))

-- a copy goes on where it stopped
pub copy-on : (d s : List ℕ) (at from i k : ℕ) → at + i ≤ length d → from + i + k ≤ length s
    → wrote (wrote d at (part s from (from + i))) (at + i) (part s (from + i) (from + i + k)) ≡ wrote d at (part s from (from + (i + k)))
copy-on d s at from i k h g =
    let l = length_part s from i (omega arith) in
    let e : from + i + k ≡ from + (i + k) = omega arith in
    wrote-more d at (at + i) (part s from (from + i)) (part s (from + i) (from + i + k)) (omega arith) (omega arith)
    ∙ ap (wrote d at) (part_join s from (from + i) (from + i + k) (omega arith) (omega arith) ∙ ap (part s from) e)

-- the same of outputs that are known by what was copied into each
pub copy-turn : (d now after s : List ℕ) (at from i k : ℕ) → now ≡ wrote d at (part s from (from + i)) → after ≡ wrote now (at + i) (part s (from + i) (from + i + k))
    → at + i ≤ length d → from + i + k ≤ length s → after ≡ wrote d at (part s from (from + (i + k)))
copy-turn d now after s at from i k e f h g = rw (f, e) (copy-on d s at from i k h g)

-- what is written at the same place, and is not shorter, stands instead of it
wrote-again : (d : List ℕ) (p : ℕ) (a b : List ℕ) → p + length b ≤ length d → length a ≤ length b → wrote (wrote d p a) p b ≡ wrote d p b
unfolding wrote
wrote-again d p a b h k =
    let l : length (take p d) ≡ p = length-take-le p d (omega arith) in
    let n : length (take p d ++ a) + (length b - length a) ≡ p + length b = rw length-append (omega arith) in
    let m : p + length a + (length b - length a) ≡ p + length b = omega arith in
    let x = take p d ++ a ++ drop (p + length a) d in
    let t : take p x ≡ take p d = ap (take p) (append_assoc (take p d) a (drop (p + length a) d)) ∙ take_at (take p d) (a ++ drop (p + length a) d) p l in
    let r : drop (p + length b) x ≡ drop (p + length b) d =
    ap (λ (j : ℕ). drop j x) (sym n)
    ∙ drop-append-add (take p d ++ a) (drop (p + length a) d) (length b - length a)
    ∙ drop-drop (length b - length a) (p + length a) d
    ∙ ap (λ (j : ℕ). drop j d) m in
    ap (λ (q : List ℕ). q ++ b ++ drop (p + length b) x) t ∙ ap (λ (q : List ℕ). take p d ++ b ++ q) r

-- the last k bytes of a copy, of which some may have been copied before
pub copy-last : (d s : List ℕ) (at from i n last k : ℕ) → at + n ≤ length d → from + n ≤ length s → last ≤ i → i ≤ n → n ≡ last + k
    → wrote (wrote d at (part s from (from + i))) (at + last) (part s (from + last) (from + last + k)) ≡ wrote d at (part s from (from + n))
copy-last d s at from i n last k h g a b e =
    let j = i - last in
    let f : i ≡ last + j = omega arith in
    let d₁ = wrote d at (part s from (from + last)) in
    let l₀ = length_part s from last (omega arith) in
    let l = length-wrote d at (part s from (from + last)) (omega arith) in
    let la = length_part s (from + last) j (omega arith) in
    let lb = length_part s (from + last) k (omega arith) in
    ap (λ (x : ℕ). wrote (wrote d at (part s from (from + x))) (at + last) (part s (from + last) (from + last + k))) f
    ∙ ap (λ (x : List ℕ). wrote x (at + last) (part s (from + last) (from + last + k))) (sym (copy-on d s at from last j (omega arith) (omega arith)))
    ∙ wrote-again d₁ (at + last) (part s (from + last) (from + last + j)) (part s (from + last) (from + last + k)) (omega arith) (omega arith)
    ∙ copy-on d s at from last k (omega arith) (omega arith)
    ∙ ap (λ (x : ℕ). wrote d at (part s from (from + x))) (sym e)

-- a header, and a body behind it
pub boxed : (d : List ℕ) (at k : ℕ) (body : List ℕ) → at + 8 ≤ length d
    → wrote (wrote d at (bytes 4 (length body + 8) ++ bytes 4 k)) (at + 8) body ≡ wrote d at (box_bytes k body)
unfolding box_bytes
boxed d at k body h =
    let z = bytes 4 (length body + 8) ++ bytes 4 k in
    let n : length z ≡ 8 = simp (length-append, length-bytes) in
    wrote-more d at (at + 8) z body (omega arith) (omega arith) ∙ ap (wrote d at) (append_assoc (bytes 4 (length body + 8)) (bytes 4 k) body)

-- a text that has no bytes is not written, another is a box
pub any_none : (k : ℕ) (t : List ℕ) → length t ≡ 0 → item_bytes (if_any k t) ≡ []
unfolding item_bytes
any_none k [] e = refl
any_none k (x ∷ xs) e = absurd (omega arith)

pub any_some : (k : ℕ) (t : List ℕ) → (length t ≡ 0 → ⊥) → item_bytes (if_any k t) ≡ box_bytes k t
unfolding item_bytes
any_some k [] e = absurd (e refl)
any_some k (x ∷ xs) e = append-nil (box_bytes k (x ∷ xs))

pub any-size : (n : ℕ) → (n ≡ 0 → ⊥) → any_size n ≡ n + 8
any-size zero h = absurd (h refl)
any-size (suc n) h = refl

pub length-any : (k : ℕ) (t : List ℕ) → length (item_bytes (if_any k t)) ≡ any_size (length t)
unfolding item_bytes
length-any k [] = refl
length-any k (x ∷ xs) = rw (append-nil, length-box) (omega arith)

any_append : (k : ℕ) (t : List ℕ) (xs : List Item) → item_bytes (if_any k t ++ xs) ≡ item_bytes (if_any k t) ++ item_bytes xs
unfolding item_bytes
any_append k [] xs = refl
any_append k (x ∷ t) xs = ap (λ (l : List ℕ). l ++ item_bytes xs) (sym (append-nil (box_bytes k (x ∷ t))))

-- the bytes of the texts' boxes
pub texts-are : (y : Body) → item_bytes (text_items y) ≡ item_bytes (if_any iden y.identifier) ++ (item_bytes (if_any sttg y.settings) ++ box_bytes payl y.payload)
unfolding text_items item_bytes
texts-are y =
    any_append iden y.identifier (if_any sttg y.settings ++ record { kind = payl; body = y.payload } ∷ [])
    ∙ ap (λ (l : List ℕ). item_bytes (if_any iden y.identifier) ++ l)
    (any_append sttg y.settings (record { kind = payl; body = y.payload } ∷ []) ∙ ap (λ (l : List ℕ). item_bytes (if_any sttg y.settings) ++ l) (append-nil (box_bytes payl y.payload)))

pub length-texts : (y : Body) → length (item_bytes (text_items y)) ≡ texts_size (length y.identifier) (length y.settings) (length y.payload)
unfolding texts_size
length-texts y = rw (texts-are y, length-append, length-append, length-any, length-any, length-box) (omega arith)

box-is : (k : ℕ) (body : List ℕ) → box_bytes k body ≡ bytes 4 (length body + 8) ++ bytes 4 k ++ body
unfolding box_bytes
box-is k body = sym (append_assoc (bytes 4 (length body + 8)) (bytes 4 k) body)

-- a cue with an ID, as its header, the box of its ID and those of its texts
pub cue-is : (y : Body) (n : ℕ) → y.id ≡ some n
    → cue_bytes y ≡ bytes 4 (20 + length (item_bytes (text_items y))) ++ bytes 4 vttc ++ (box_bytes vsid (bytes 4 n) ++ item_bytes (text_items y))
unfolding cue_bytes cue_items item_bytes
cue-is y n e = rw e (made (item_bytes (text_items y)))
  where
    made : (t : List ℕ) → box_bytes vttc (box_bytes vsid (bytes 4 n) ++ t) ≡ bytes 4 (20 + length t) ++ bytes 4 vttc ++ (box_bytes vsid (bytes 4 n) ++ t)
    made t =
        let l : length (box_bytes vsid (bytes 4 n) ++ t) + 8 ≡ 20 + length t = rw (length-append, length-box, length-bytes) (omega arith) in
        box-is vttc (box_bytes vsid (bytes 4 n) ++ t) ∙ ap (λ (k : ℕ). bytes 4 k ++ bytes 4 vttc ++ (box_bytes vsid (bytes 4 n) ++ t)) l

pub length-cue : (y : Body) (n : ℕ) → y.id ≡ some n → length (cue_bytes y) ≡ cue_size (length y.identifier) (length y.settings) (length y.payload)
unfolding cue_size
length-cue y n e = rw (cue-is y n e, length-append, length-append, length-append, length-bytes, length-bytes, length-box, length-bytes, length-texts) (omega arith)

-- the texts of a cue in a pool have the lengths that are given
pub pooled-lengths : (n : ℕ) (pool : List ℕ) (from i g t : ℕ) → from + i + g + t ≤ length pool → let y = pooled n pool from i g t in
    (length y.identifier ≡ i) × (length y.settings ≡ g) × (length y.payload ≡ t)
unfolding pooled
pooled-lengths n pool from i g t h = (length_part pool from i (omega arith), length_part pool (from + i) g (omega arith), length_part pool (from + i + g) t (omega arith))

pub pooled-size : (n : ℕ) (pool : List ℕ) (from i g t : ℕ) → from + i + g + t ≤ length pool → length (item_bytes (text_items (pooled n pool from i g t))) ≡ texts_size i g t
pooled-size n pool from i g t h =
    let l = pooled-lengths n pool from i g t h in
    length-texts (pooled n pool from i g t) ∙ rw (l.0, l.1, l.2)
