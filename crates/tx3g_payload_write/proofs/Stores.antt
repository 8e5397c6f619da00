-- Bytes that are written, one part behind the other.
use Prim.Native.Nat.{ℕ, ◌+◌, ◌≤◌}
use mathlib.Core.Path.{◌≡◌, refl, sym, ap, ◌∙◌, subst}
use mathlib.Core.Bool.{Bool, true, false, not}
use mathlib.Core.List.{List, [], ◌∷◌, ◌++◌}
use native.Mathlib.Omega.{arith}
use native.Mathlib.Nat.{add-zero}
use lib.ListN.{length, length-append}
use borrow.Author.Tests.{ne_eqb}
use borrow.Rule.Slice.PartMut.{put_mid}
use Rattle.std.proofs.lemmas.Slice.{put_mid-paste}
use Rattle.std.proofs.lemmas.List.{take_all}
use Rattle.base.specs.Over.{wrote}
use Rattle.base.proofs.Over.{wrote-nil, in_two, paste-wrote}
use Rattle.code_points.specs.CodePoints.{encode}
use Rattle.tx3g_payload.specs.Payload.{escape}
use Rattle.tx3g_payload_write.specs.Left.{Left, Gone, Stays}
use Rattle.tx3g_payload_write.specs.Terms.{CodeMost, given, opens, added_by, shown_by}

-- w, written from `at` to before r, k bytes at most
abbrev pub Wrote : ℕ → ℕ → ℕ → List ℕ → List ℕ → List ℕ → Type 0
Wrote at r k old new w = (r ≡ at + length w) × (r ≤ at + k) × (new ≡ wrote old at w)

pub wrote_as : (at r k : ℕ) (old new w v : List ℕ) → v ≡ w → Wrote at r k old new w → Wrote at r k old new v
wrote_as at r k old new w v e h = subst (Wrote at r k old new) (sym e) h

pub wrote_none : (at k : ℕ) (old : List ℕ) → Wrote at at k old old []
wrote_none at k old = (sym (add-zero at), omega arith, wrote-nil old at)

-- a first part and a second
pub wrote-both : (at p r j k : ℕ) (old mid new a b : List ℕ) → at + j ≤ length old → Wrote at p j old mid a → Wrote p r k mid new b → Wrote at r (j + k) old new (a ++ b)
wrote-both at p r j k old mid new a b l g h =
    let z = length-append a b in
    (omega (arith, g.0, h.0, z), omega (arith, g.1, h.1), in_two old mid new a b at p g.2 h.2 g.0 (omega (arith, l, g.1)))

pub wrote-most : (at r j k : ℕ) (old new w : List ℕ) → j ≤ k → Wrote at r j old new w → Wrote at r k old new w
wrote-most at r j k old new w l h = (h.0, omega (arith, l, h.1), h.2)

-- a copy of all bytes into a part of a slice
pub stored : (d v ys : List ℕ) (at n k : ℕ) → ys ≡ v → k ≡ n → length v ≡ n → put_mid at k d ys ≡ wrote d at v
stored d v ys at n k e h l = put_mid-paste at k d ys v n e (sym h) (sym l) ∙ paste-wrote d at v n (omega arith) ∙ ap (wrote d at) (take_all n v (omega arith))

-- an escape, by its character
pub escape-amp : (c : ℕ) → c ≡ 0x26 → escape c ≡ 0x26 ∷ 0x61 ∷ 0x6D ∷ 0x70 ∷ 0x3B ∷ []
unfolding escape
escape-amp c e = rw e

pub escape-less : (c : ℕ) → c ≡ 0x3C → escape c ≡ 0x26 ∷ 0x6C ∷ 0x74 ∷ 0x3B ∷ []
unfolding escape
escape-less c e = rw e

pub escape-greater : (c : ℕ) → c ≡ 0x3E → escape c ≡ 0x26 ∷ 0x67 ∷ 0x74 ∷ 0x3B ∷ []
unfolding escape
escape-greater c e = rw e

pub escape-none : (c : ℕ) → ¬ (c ≡ 0x26) → ¬ (c ≡ 0x3C) → ¬ (c ≡ 0x3E) → escape c ≡ encode c
unfolding escape
escape-none c a b d = rw (ne_eqb c 0x26 a, ne_eqb c 0x3C b, ne_eqb c 0x3E d)

-- what is given or not
pub given_yes : (b : Bool) (s : List ℕ) → b ≡ true → given b s ≡ s
given_yes b s e = rw e

pub given-no : (b : Bool) (s : List ℕ) → b ≡ false → given b s ≡ []
given-no b s e = rw e

-- what is written of a character that is gone, and of one that stays
pub put-gone : (at : ℕ) (shown : Bool) (face : ℕ) (l : Left) (old : List ℕ) → l ≡ Gone
    → (at ≡ at + length (added_by shown face l)) × (at ≤ at + 14) × (shown ≡ shown_by shown l) × (old ≡ wrote old at (added_by shown face l))
put-gone at shown face l old e = let w = wrote_none at 14 old in rw e (w.0, w.1, refl, w.2)

pub put-stays : (at r : ℕ) (shown : Bool) (face c : ℕ) (l : Left) (old new : List ℕ) → l ≡ Stays c → Wrote at r 14 old new (given (not shown) (opens face) ++ escape c)
    → (r ≡ at + length (added_by shown face l)) × (r ≤ at + 14) × (true ≡ shown_by shown l) × (new ≡ wrote old at (added_by shown face l))
put-stays at r shown face c l old new e w = rw e (w.0, w.1, refl, w.2)

pub code-most : (l : Left) (c : ℕ) → l ≡ Stays c → CodeMost l → c ≤ 0x10FFFF
code-most l c e h = subst CodeMost e h

pub begin-yes : (shown : Bool) (t : List ℕ) → shown ≡ true → given (not shown) t ≡ []
begin-yes shown t e = rw e

pub begin-no : (shown : Bool) (t : List ℕ) → shown ≡ false → given (not shown) t ≡ t
begin-no shown t e = rw e
