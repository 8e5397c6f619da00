-- Laws of big-endian numbers, over the width.
use Prim.Native.Nat.{ℕ, zero, suc, ◌+◌, ◌*◌, ◌/◌, ◌%◌, ◌^◌, ◌≤◌, ◌<◌}
use mathlib.Core.Path.{◌≡◌, refl, sym, ap, ◌∙◌}
use mathlib.Core.List.{List, [], ◌∷◌, ◌++◌}
use native.Mathlib.Omega.{arith}
use native.Mathlib.Nat.{add-zero, zero-add, add_assoc, pow-suc}
use lib.ListN.{length, get_or, length-append, get_or-append}
use lib.Seq.{get_or-append-add, get_or_at}
use borrow.Rule.Slice.PartMut.{put_mid}
use Rattle.std.proofs.lemmas.Slice.{put_mid-paste}
use Rattle.std.proofs.lemmas.List.{take_all}
use Rattle.base.specs.Over.{wrote}
use Rattle.base.proofs.Over.{paste-wrote}
use Rattle.fields.specs.BigEndian.{be, bytes, BeBytes}

-- each of the bytes is one
abbrev pub Bytes : List ℕ → Type 0
Bytes s = (i : ℕ) → get_or s i 0 < 256

pub be-fits : (w : ℕ) (s : List ℕ) (at : ℕ) → Bytes s → be w s at < 256 ^ w
unfolding be
be-fits zero s at h = omega arith
be-fits (suc w) s at h = rw pow-suc (omega (arith, be-fits w s at h, h (at + w)))

pub length-bytes : (w v : ℕ) → length (bytes w v) ≡ w
unfolding bytes
length-bytes zero v = refl
length-bytes (suc w) v = rw length-append (omega (arith, length-bytes w (v / 256)))

-- a number stands where its bytes stand: what is behind them, and what is before them
pub be-front : (w : ℕ) (s r : List ℕ) (at : ℕ) → at + w ≤ length s → be w (s ++ r) at ≡ be w s at
unfolding be
be-front zero s r at h = refl
be-front (suc w) s r at h = rw (be-front w s r at (omega arith), get_or-append s r 0 (at + w) (omega arith))

pub be-behind : (w : ℕ) (p q : List ℕ) (at : ℕ) → be w (p ++ q) (length p + at) ≡ be w q at
unfolding be
be-behind zero p q at = refl
be-behind (suc w) p q at = rw (be-behind w p q at, add_assoc (length p) at w, get_or-append-add p q (at + w) 0)

pub be-bytes : BeBytes
unfolding be bytes
be-bytes zero v h = omega arith
be-bytes (suc w) v h =
    let l = length-bytes w (v / 256) in
    let k : v < 256 ^ w * 256 = rw pow-suc at h in
    rw (be-front w (bytes w (v / 256)) (v % 256 ∷ []) 0 (omega arith), zero-add w, be-bytes w (v / 256) (omega arith), get_or_at (bytes w (v / 256)) (v % 256) [] 0 w l)
    (omega arith)

pub be-written : (w v : ℕ) (p r : List ℕ) → v < 256 ^ w → be w (p ++ (bytes w v ++ r)) (length p) ≡ v
be-written w v p r h =
    let l = length-bytes w v in
    ap (be w (p ++ (bytes w v ++ r))) (sym (add-zero (length p)))
    ∙ be-behind w p (bytes w v ++ r) 0
    ∙ be-front w (bytes w v) r 0 (omega arith)
    ∙ be-bytes w v h

-- a number's bytes, copied into a part of a slice
pub put-bytes : (d ys : List ℕ) (at w k v : ℕ) → ys ≡ bytes w v → k ≡ w → put_mid at k d ys ≡ wrote d at (bytes w v)
put-bytes d ys at w k v e h =
    let l = length-bytes w v in
    put_mid-paste at k d ys (bytes w v) w e (sym h) (sym l) ∙ paste-wrote d at (bytes w v) w (omega arith) ∙ ap (wrote d at) (take_all w (bytes w v) (omega arith))
