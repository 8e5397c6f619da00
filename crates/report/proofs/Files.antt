-- Laws for a file by what C answered. The machine reads the descriptor back as z.
use Prim.Native.Nat.{◌<◌, ◌^◌}
use mathlib.Core.Path.{◌≡◌, refl, sym, ap, ◌∙◌}
use mathlib.Core.Bool.{Bool, true, false}
use native.Mathlib.Omega.{arith}
use lib.Dec.{eqb}
use lib.IntN.{ℤ, pos, negsuc}
use lib.Signed.{le_z, non_neg}
use mir.Syntax.{w64}
use mir.Val.{SFits, of_z}
use borrow.Author.Tests.{le-leb, ne_eqb}
use Rattle.base.specs.Choice.{both}
use Rattle.report.specs.Report.{at_end, whole}
use Rattle.report.specs.declared.Taken.{Taken}

sign : (z : ℤ) → le_z (pos 0) z ≡ non_neg z
sign (pos k) = le-leb 0 k (omega arith)
sign (negsuc k) = refl

-- the bits of an answer are 0 exactly at the end
at-end : (z : ℤ) → SFits w64 z → eqb (of_z w64 z) 0 ≡ at_end z
at-end (pos k) f = refl
at-end (negsuc k) f = ne_eqb (of_z w64 (negsuc k)) 0 (λ e. let l : k < 2 ^ 63 = f.sfits in omega (arith, e, l))

module _ (file : Taken) {z : ℤ} (e : z ≡ file.fd) where
  pub not_opened : le_z (pos 0) z ≡ false → le_z (pos 0) z ≡ whole file
  unfolding whole
  not_opened h = h ∙ ap (λ (b : Bool). both b (at_end file.more)) (sym h ∙ sign z ∙ ap non_neg e)

  pub was-opened : le_z (pos 0) z ≡ true → SFits w64 file.more → eqb (of_z w64 file.more) 0 ≡ whole file
  unfolding whole
  was-opened h f = at-end file.more f ∙ ap (λ (b : Bool). both b (at_end file.more)) (sym h ∙ sign z ∙ ap non_neg e)
