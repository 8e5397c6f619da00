-- UTF-8 by RFC 3629, section 4, and document 01's classes of bytes.
use Rattle.std.specs.Prelude.{ℕ, ◌<◌, ◌≡◌, List, [], ◌∷◌, ◌++◌, Bool, true, false, get_or, replicate}
use Rattle.std.proofs.Math.Option.{Option, none, some}
use Rattle.base.specs.Choice.{pick, both, within}

-- the lowest and the highest value of a byte
abbrev pub Range : Type 0
Range = ℕ × ℕ

-- UTF8-tail
abbrev pub tail : Range
tail = (0x80, 0xBF)

-- the lines UTF8-1 to UTF8-4: the range of a character's first byte, and the ranges of the bytes after it
abbrev pub Row : Type 0
Row = Range × List Range

unfoldable pub rows : List Row
rows =
    ((0x00, 0x7F), [])
    ∷ ((0xC2, 0xDF), tail ∷ [])
    ∷ ((0xE0, 0xE0), (0xA0, 0xBF) ∷ tail ∷ [])
    ∷ ((0xE1, 0xEC), tail ∷ tail ∷ [])
    ∷ ((0xED, 0xED), (0x80, 0x9F) ∷ tail ∷ [])
    ∷ ((0xEE, 0xEF), tail ∷ tail ∷ [])
    ∷ ((0xF0, 0xF0), (0x90, 0xBF) ∷ tail ∷ tail ∷ [])
    ∷ ((0xF1, 0xF3), tail ∷ tail ∷ tail ∷ [])
    ∷ ((0xF4, 0xF4), (0x80, 0x8F) ∷ tail ∷ tail ∷ [])
    ∷ []

-- what follows the byte b, by the first of the rows that begins with b; none where no row does
unfoldable pub follow_in : List Row → ℕ → Option (List Range)
follow_in [] b = none
follow_in (r ∷ rs) b = pick (within r.0.0 r.0.1 b) (some r.1) (follow_in rs b)

unfoldable pub follow : ℕ → Option (List Range)
follow b = follow_in rows b

abbrev pub on_some : {A : Type 0} → Option A → (A → Bool) → Bool
on_some none f = false
on_some (some a) f = f a

-- the bytes are those that the ranges ask for, and then whole characters
unfoldable pub judge : List ℕ → List Range → Bool
judge [] [] = true
judge [] (r ∷ rs) = false
judge (b ∷ xs) [] = on_some (follow b) (λ rs. judge xs rs)
judge (b ∷ xs) (r ∷ rs) = both (within r.0 r.1 b) (judge xs rs)

-- valid UTF-8
unfoldable pub utf8 : List ℕ → Bool
utf8 s = judge s []

-- as `judge`, and the bytes may end within a character
unfoldable pub begun : List ℕ → List Range → Bool
begun [] rs = true
begun (b ∷ xs) [] = on_some (follow b) (λ rs. begun xs rs)
begun (b ∷ xs) (r ∷ rs) = both (within r.0 r.1 b) (begun xs rs)

-- a beginning of valid UTF-8
unfoldable pub utf8_begun : List ℕ → Bool
utf8_begun s = begun s []

-- 0: 00-7F, 1: 80-8F, 2: 90-9F, 3: A0-BF, 4: C2-DF, 5: E0, 6: E1-EC, EE, EF, 7: ED, 8: F0, 9: F1-F3, 10: F4, 11: C0, C1, F5-FF
unfoldable pub class_of : ℕ → ℕ
class_of b =
    pick (within 0x00 0x7F b) 0
    (pick (within 0x80 0x8F b) 1
    (pick (within 0x90 0x9F b) 2
    (pick (within 0xA0 0xBF b) 3
    (pick (within 0xC2 0xDF b) 4
    (pick (within 0xE0 0xE0 b) 5
    (pick (within 0xE1 0xEC b) 6
    (pick (within 0xED 0xED b) 7
    (pick (within 0xEE 0xEF b) 6
    (pick (within 0xF0 0xF0 b) 8
    (pick (within 0xF1 0xF3 b) 9
    (pick (within 0xF4 0xF4 b) 10
    11)))))))))))

-- the table: 256 entries, the class of each byte value at its index
unfoldable pub class_table : List ℕ
class_table =
    replicate 128 0 ++ replicate 16 1 ++ replicate 16 2 ++ replicate 32 3 ++ replicate 2 11 ++ replicate 30 4 ++ replicate 1 5
    ++ replicate 12 6 ++ replicate 1 7 ++ replicate 2 6 ++ replicate 1 8 ++ replicate 3 9 ++ replicate 1 10 ++ replicate 11 11

-- each entry of the table is the class of its own index; proved in proofs/Classes.antt by one test over all 256
abbrev pub ClassAt : Type 0
ClassAt = (k : ℕ) → k < 256 → get_or class_table k 0 ≡ class_of k
