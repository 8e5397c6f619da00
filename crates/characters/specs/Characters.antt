-- The characters of a 3GPP text: UTF-16 after the mark FE FF, else UTF-8.
use Rattle.std.specs.Prelude.{ℕ, ◌+◌, List, [], ◌∷◌, Bool, true, false, not, drop}
use Rattle.base.specs.Choice.{pick, both, any_of, within}
use Rattle.viable.specs.Judged.{Judged, Right, Bad as BadAt}
use Rattle.viable.specs.FirstBad.{judged_by}
use Rattle.utf8.specs.Utf8.{utf8, utf8_begun}
use Rattle.utf8.specs.Strings.{starts_with}
use Rattle.characters.specs.Counted.{Counted, Characters, Bad}

-- b is UTF8-tail
unfoldable pub is_tail : ℕ → Bool
unfolding within
is_tail b = within 0x80 0xBF b

-- the number of bytes that are no UTF8-tail; each character has one
unfoldable pub firsts : List ℕ → ℕ
unfolding is_tail
firsts [] = 0
firsts (b ∷ s) = pick (is_tail b) 0 1 + firsts s

-- of a 16-bit unit's high byte: the unit is a high surrogate, a low one
unfoldable pub is_high : ℕ → Bool
unfolding within
is_high h = within 0xD8 0xDB h

unfoldable pub is_low : ℕ → Bool
unfolding within
is_low h = within 0xDC 0xDF h

abbrev pub same_test : Bool → Bool → Bool
same_test true b = b
same_test false b = not b

-- whole 16-bit units, big-endian, with a low surrogate after each high one and nowhere else; `due` says that a low one comes next
unfoldable pub utf16 : Bool → List ℕ → Bool
unfolding is_high is_low
utf16 due [] = not due
utf16 due (h ∷ []) = false
utf16 due (h ∷ l ∷ s) = both (same_test (is_low h) due) (utf16 (is_high h) s)

-- the number of units that are no low surrogate; each character has one
unfoldable pub first_units : List ℕ → ℕ
unfolding is_low
first_units [] = 0
first_units (h ∷ []) = 0
first_units (h ∷ l ∷ s) = pick (is_low h) 0 1 + first_units s

-- the mark of UTF-16
unfoldable pub mark : List ℕ
mark = 0xFE ∷ 0xFF ∷ []

-- a 3GPP text: UTF-16 after the mark, else UTF-8
unfoldable pub tx3g_text : List ℕ → Bool
tx3g_text s = pick (starts_with mark s) (utf16 false (drop 2 s)) (utf8 s)

-- how many characters it has
unfoldable pub character_count : List ℕ → ℕ
character_count s = pick (starts_with mark s) (first_units (drop 2 s)) (firsts s)

-- beginnings of such texts, which may end within a unit, a pair or the mark; nobody has to believe them, as in crate text
unfoldable pub utf16_begun : Bool → List ℕ → Bool
unfolding is_high is_low
utf16_begun due [] = true
utf16_begun due (h ∷ []) = same_test (is_low h) due
utf16_begun due (h ∷ l ∷ s) = both (same_test (is_low h) due) (utf16_begun (is_high h) s)

unfoldable pub tx3g_begun : List ℕ → Bool
tx3g_begun s = any_of (starts_with s mark) (pick (starts_with mark s) (utf16_begun false (drop 2 s)) (utf8_begun s))

abbrev pub count_by : Judged → ℕ → Counted
count_by Right n = Characters n
count_by (BadAt q) n = Bad q

-- the characters of a 3GPP text, or its first bad byte
unfoldable pub characters_of : List ℕ → Counted
characters_of s = count_by (judged_by tx3g_text tx3g_begun s) (character_count s)
