-- The input line as a whole: digits, one space, digits, one line feed, and nothing else. The numbers may have any length.
use Rattle.std.specs.Prelude.{Option, Some, None, ℕ, min, ◌≡◌, Bool, true, false, List, [], ◌∷◌, ◌++◌, eqb}
use Rattle.base.specs.Choice.{pick, both, within, same_list}
use Rattle.decimal.specs.Decimal.{value}

-- what the line says: its two numbers, if it is of this form
abbrev pub Line : Type 0
Line = Option (ℕ × ℕ)

pattern abbrev pub Numbers : ℕ → ℕ → Line
Numbers n m = Some (n, m)

pattern abbrev pub Bad : Line
Bad = None

unfoldable pub is_digit : ℕ → Bool
unfolding within
is_digit b = within 48 57 b

-- a number above 4294967295 counts as that
unfoldable pub top : ℕ → ℕ
top n = min n 4294967295

-- the bytes before the first c, and those behind it
unfoldable pub before : ℕ → List ℕ → List ℕ
before c [] = []
before c (b ∷ s) = pick (eqb b c) [] (b ∷ before c s)

unfoldable pub behind : ℕ → List ℕ → List ℕ
behind c [] = []
behind c (b ∷ s) = pick (eqb b c) s (behind c s)

unfoldable pub all_digits : List ℕ → Bool
all_digits [] = true
all_digits (b ∷ s) = both (is_digit b) (all_digits s)

-- one digit or more
abbrev pub number : List ℕ → Bool
number [] = false
number (b ∷ s) = all_digits (b ∷ s)

-- a, a space, b, a line feed
unfoldable pub written : List ℕ → List ℕ → List ℕ
written a b = a ++ (32 ∷ (b ++ 10 ∷ []))

-- the line: two numbers with a space between and a line feed after, and nothing else
unfoldable pub line_of : List ℕ → Line
unfolding before behind all_digits written value same_list
line_of s =
    let a = before 32 s in
    let b = before 10 (behind 32 s) in
    pick (both (same_list s (written a b)) (both (number a) (number b))) (Numbers (top (value a)) (top (value b))) Bad

-- two numbers are a line; this and the next are proved in proofs/Lines.antt
abbrev pub LineNumbers : Type 0
LineNumbers = (a b : List ℕ) → number a ≡ true → number b ≡ true → line_of (written a b) ≡ Numbers (top (value a)) (top (value b))

-- no other bytes are a line
abbrev pub LineWritten : Type 0
LineWritten = (s : List ℕ) (x y : ℕ) → line_of s ≡ Numbers x y
    → (a : List ℕ) × (b : List ℕ) × (s ≡ written a b) × (number a ≡ true) × (number b ≡ true) × (x ≡ top (value a)) × (y ≡ top (value b))
