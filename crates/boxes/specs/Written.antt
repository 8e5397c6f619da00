-- Boxes as they are written one after the other, and how they stand then.
use Rattle.std.specs.Prelude.{ℕ, ◌+◌, ◌<◌, List, [], ◌∷◌, ◌++◌, length}
use Rattle.fields.specs.BigEndian.{bytes}
use Rattle.boxes.specs.Boxes.{Boxes, clean, box}

-- a box to be written: its type and its body
pub record Item : Type 0 where
  pub kind : ℕ
  pub body : List ℕ

-- its bytes: size, type, body
unfoldable pub box_bytes : ℕ → List ℕ → List ℕ
box_bytes k body = bytes 4 (length body + 8) ++ (bytes 4 k ++ body)

unfoldable pub item_bytes : List Item → List ℕ
unfolding box_bytes
item_bytes [] = []
item_bytes (x ∷ xs) = box_bytes x.kind x.body ++ item_bytes xs

-- type and size have 4 bytes
unfoldable pub Fitting : List Item → Type 0
Fitting [] = Unit {0}
Fitting (x ∷ xs) = (x.kind < 4294967296) × (length x.body + 8 < 4294967296) × Fitting xs

-- how the boxes stand from `at` on
unfoldable pub laid : ℕ → List Item → Boxes
laid at [] = clean
laid at (x ∷ xs) = box at x.kind (at + 8) (at + 8 + length x.body) (laid (at + 8 + length x.body) xs)
