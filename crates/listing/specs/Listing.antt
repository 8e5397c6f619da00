-- The lines that the program prints. Every line ends in a line feed.
use Rattle.std.specs.Prelude.{ℕ, zero, suc, ◌+◌, ◌*◌, List, [], ◌∷◌, ◌++◌}
use Rattle.fields.specs.BigEndian.{be}
use Rattle.decimal.specs.Decimal.{decimal}

-- a number and a byte behind it
unfoldable pub number_text : ℕ → ℕ → List ℕ
number_text n end = decimal n ++ end ∷ []

-- two numbers, a space between them and a line feed after
unfoldable pub pair_text : ℕ → ℕ → List ℕ
unfolding number_text
pair_text n m = number_text n 32 ++ number_text m 10

-- record k of a table: duration and size
unfoldable pub row_text : List ℕ → ℕ → List ℕ
unfolding pair_text
row_text table k = pair_text (be 4 table (k * 8)) (be 4 table (k * 8 + 4))

-- the first n records, a line for each
unfoldable pub rows_text : List ℕ → ℕ → List ℕ
unfolding row_text
rows_text table zero = []
rows_text table (suc k) = rows_text table k ++ row_text table k

-- `refused` and a space
unfoldable pub word : List ℕ
word = 114 ∷ 101 ∷ 102 ∷ 117 ∷ 115 ∷ 101 ∷ 100 ∷ 32 ∷ []

-- a refusal: the word, its number and its place
unfoldable pub refusal_text : ℕ → ℕ → List ℕ
unfolding word pair_text
refusal_text number place = word ++ pair_text number place
