-- Terms of the contracts of private functions: the machine that judges a text byte by byte, its words, and plain bytes. A reader need not believe them:
-- `run-whole` says that the machine's run through a text is the rule, and `plain_run` that plain bytes may be passed at a stride.
use Rattle.std.specs.Prelude.{ℕ, ◌+◌, ◌-◌, ◌*◌, ◌/◌, ◌%◌, ◌^◌, ◌<◌, ◌≤◌, ◌≡◌, Bool, true, List, [], ◌∷◌, map, reverse, eqb, ltb, length, get_or}
use Rattle.base.specs.Choice.{pick, any_of}
use Rattle.base.specs.Iter.{iter}
use Rattle.ascii.specs.Ascii.{ascii, unmarked, all}
use Rattle.utf8.specs.Utf8.{class_of}
use Rattle.utf8.specs.Strings.{GREATER, starts_with_any}
use Rattle.utf8.specs.Forbidden.{forbidden, keeps}
use Rattle.utf8.specs.Passed.{Passed, To, Bad}
use Rattle.utf8.specs.declared.Rule.{Rule}
use Rattle.utf8.specs.declared.Rule.TheVariants.{Any, Line, Payload}

-- b, after p and q, ends one of the strings: it begins their reversals, read backwards
unfoldable pub ends_forbidden : List (List ℕ) → ℕ → ℕ → ℕ → Bool
ends_forbidden ps p q b = starts_with_any (map reverse ps) (b ∷ q ∷ p ∷ [])

-- the next states of the UTF-8 machine: a word for each class, with four bits for each state, those of state 0 the lowest
unfoldable pub word_table : List ℕ
word_table =
    0x888888880 ∷ 0x828182108 ∷ 0x882182108 ∷ 0x882812108 ∷ 0x888888881 ∷ 0x888888884 ∷ 0x888888882 ∷ 0x888888885 ∷ 0x888888886 ∷ 0x888888883
    ∷ 0x888888887 ∷ 0x888888888 ∷ []

unfoldable pub next : ℕ → ℕ → ℕ
next st class = get_or word_table class 0 / 2 ^ (st * 4) % 16

-- the byte k places before place i; a space in front of the text
unfoldable pub before : ℕ → List ℕ → ℕ → ℕ
before k s i = pick (ltb i k) 0x20 (get_or s (i - k) 0)

-- the state after the byte at i; state 8, where no continuation is right, stays
unfoldable pub step : Rule → List ℕ → ℕ → ℕ → ℕ
step rule s st i =
    pick (any_of (eqb st 8) (ends_forbidden (forbidden rule) (before 2 s i) (before 1 s i) (get_or s i 0))) 8
    (next st (class_of (get_or s i 0)))

-- the state after the n bytes from i
unfoldable pub run : Rule → List ℕ → ℕ → ℕ → ℕ → ℕ
run rule s st i n = iter (λ k x. step rule s x (i + k)) st n

-- what is said of a pass over the bytes from `from` to `end`: the state after them, or the byte that leads into state 8
unfoldable pub PassedIs : Rule → List ℕ → ℕ → ℕ → ℕ → Passed → Type 0
PassedIs rule s start from end (To st) = (st < 8) × (st ≡ run rule s start from (end - from))
PassedIs rule s start from end (Bad i) = (from ≤ i) × (i < end) × (run rule s start from (i - from) < 8) × (run rule s start from (i + 1 - from) ≡ 8)

-- ASCII that ends no forbidden string, whatever stands before it
unfoldable pub plain : Rule → ℕ → Bool
plain Any b = ascii b
plain Line b = unmarked GREATER b
plain Payload b = unmarked GREATER b

-- the end of the block of at most eight bytes that begins at i, in a text that ends at `end`
unfoldable pub block_end : ℕ → ℕ → ℕ
block_end i end = pick (ltb (end - i) 8) end (i + 8)

-- plain bytes keep state 0; this and the next are proved in proofs/Machine.antt
abbrev pub PlainRun : Type 0
PlainRun = (rule : Rule) (s : List ℕ) (i n : ℕ) → all (plain rule) s i n ≡ true → run rule s 0 i n ≡ 0

-- the machine is in state 0 after the text exactly if the text keeps the rule
abbrev pub RunWhole : Type 0
RunWhole = (rule : Rule) (s : List ℕ) → ((j : ℕ) → get_or s j 0 < 256) → eqb (run rule s 0 0 (length s)) 0 ≡ keeps rule s
