-- A kind is among boxes exactly if some are counted.
use Prim.Native.Nat.{ℕ, ◌+◌}
use mathlib.Core.Path.{◌≡◌, refl}
use mathlib.Core.Bool.{Bool, true, false}
use native.Mathlib.Omega.{arith}
use lib.Dec.{ltb, eqb}
use lib.ListN.{length}
use borrow.Author.Tests.{lt-ltb}
use Rattle.base.specs.Choice.{pick, any_of}
use Rattle.boxes.specs.Boxes.{Boxes, clean, broken, box, boxes_in}
use Rattle.tx3g_contents.specs.Kinds.{blnk}
use Rattle.tx3g_sample.specs.Sample.{text_end}
use Rattle.tx3g_read.specs.Sample.{has_box, retired_blinking}
use Rattle.tx3g_stock.specs.Stock.{of_kind, kinds_in}
use Rattle.tx3g_convert_laws.specs.Statements.{BlinkingCounted}

among : (k : ℕ) (bs : Boxes) → has_box k bs ≡ ltb 0 (of_kind k bs)
unfolding has_box of_kind
among k clean = refl
among k (broken r) = refl
among k (box p j b n rest) = go (eqb j k) (among k rest)
  where
    go : (t : Bool) → has_box k rest ≡ ltb 0 (of_kind k rest) → any_of t (has_box k rest) ≡ ltb 0 (pick t 1 0 + of_kind k rest)
    go true h = let z = lt-ltb 0 (1 + of_kind k rest) (omega arith) in rw z
    go false h = let z : 0 + of_kind k rest ≡ of_kind k rest = omega arith in rw z h

pub blinking-counted : BlinkingCounted
unfolding retired_blinking kinds_in
blinking-counted s = among blnk (boxes_in s (text_end s) (length s))
