-- Laws for reads one after the other.
use Prim.Native.Nat.{ℕ}
use mathlib.Core.Path.{◌≡◌, refl, sym, ap, ◌∙◌}
use mathlib.Core.Bool.{true, false}
use mathlib.Core.List.{List, [], ◌∷◌, ◌++◌, append_assoc, append-nil}
use native.Mathlib.Omega.{arith}
use lib.IntN.{ℤ, pos, negsuc}
use lib.ListN.{length}
use mir.Syntax.{w64}
use mir.Val.{SFits, to_z, of_z}
use mir.ValLaws.{to_z-of_z}
use Rattle.input.specs.Reading.{line_at}
use Rattle.input.specs.Reads.{Read, chunk_of, if_last, line_by}
use Rattle.input.specs.declared.Reading.{Reading}
use Rattle.input.specs.declared.Chunk.{Chunk}
use Rattle.input.specs.Line.{Line, Bad}
use Rattle.sample_table.specs.Reads.{Moved, Allowed, AllAllowed, ByOneRead, ByReads}

all-with : (xs : List Read) (x : Read) → AllAllowed xs → Allowed x → AllAllowed (xs ++ x ∷ [])
unfolding AllAllowed
all-with [] x h k = (k, tt)
all-with (y ∷ xs) x h k = (h.0, all-with xs x h.1 k)

-- what a read may answer fits, so the machine reads it back as it is
moved-fits : (z : ℤ) → Moved 65536 z → SFits w64 z
moved-fits (pos k) h = record { sfits = omega arith }
moved-fits (negsuc k) h = record { sfits = omega arith }

-- the chunk of a read that answered z
pub by_read : (r : Reading) (z : ℤ) (s : List ℕ) (c : Chunk) → length s ≡ 65536 → Moved 65536 z → c ≡ chunk_of r (to_z w64 (of_z w64 z)) s → ByOneRead r c
by_read r z s c h m e = (record { got = z; buffer = s }, (h, m), e ∙ ap (λ (y : ℤ). chunk_of r y s) (to_z-of_z w64 z (moved-fits z m)))

-- reads have led from one state to another: further ones give the same line from both
abbrev pub Led : Reading → Reading → Type 0
Led from to = (xs : List Read) × AllAllowed xs × ((more : List Read) → line_by from (xs ++ more) ≡ line_by to more)

pub led-nowhere : (r : Reading) → Led r r
unfolding AllAllowed
led-nowhere r = ([], tt, λ more. refl)

module _ (from r : Reading) (l : Led from r) where
  pub led-out : ByReads from Bad
  unfolding line_by
  led-out = (l.0, l.1, sym (l.2 []) ∙ ap (line_by from) (append-nil l.0))

  module _ (c : Chunk) (o : ByOneRead r c) where
    one : (more : List Read) → line_by from ((l.0 ++ o.0 ∷ []) ++ more) ≡ if_last c (line_by c.state more)
    unfolding line_by
    one more = ap (line_by from) (append_assoc l.0 (o.0 ∷ []) more) ∙ l.2 (o.0 ∷ more) ∙ ap (λ (k : Chunk). if_last k (line_by k.state more)) (sym o.2)

    all : AllAllowed (l.0 ++ o.0 ∷ [])
    all = all-with l.0 o.0 l.1 o.1

    pub led_on : c.last ≡ false → Led from c.state
    led_on h = (l.0 ++ o.0 ∷ [], all, λ more. one more ∙ rw h)

    pub led-to-last : c.last ≡ true → (a : Line) → a ≡ line_at c.state → ByReads from a
    led-to-last h a e = (l.0 ++ o.0 ∷ [], all, e ∙ sym (ap (line_by from) (sym (append-nil (l.0 ++ o.0 ∷ []))) ∙ one [] ∙ rw h))
