-- Terms of the contracts: tidy texts. What is answered for them, and written, the contracts say by `payload_in`; here stands only which texts they are.
use Rattle.std.specs.Prelude.{ℕ, suc, ◌≤◌, ◌≡◌, List, Bool, true, false, not, eqb, length, drop, get_or}
use Rattle.base.specs.Choice.{both, any_of}
use Rattle.base.specs.Iter.{iter}
use Rattle.utf8.specs.Strings.{CR, LF, starts_with}
use Rattle.characters.specs.Characters.{mark}
use Rattle.boxes.specs.Boxes.{part}
use Rattle.tx3g_sample.specs.Sample.{text_end}
use Rattle.tx3g_payload.specs.Points.{points8}
use Rattle.tx3g_payload_write.specs.Terms.{Spelled}

-- a tidy text may have b in front of `next`: no zero, no CR, and no LF in front of another
unfoldable pub stays : ℕ → ℕ → Bool
stays b next = both (not (any_of (eqb b 0) (eqb b CR))) (not (both (eqb b LF) (eqb next LF)))

-- so it is with each of the first n bytes; an LF is taken to stand behind the last byte
unfoldable pub stay_first : List ℕ → ℕ → Bool
unfolding stays
stay_first s n = iter (λ k t. both t (stays (get_or s k LF) (get_or s (suc k) LF))) true n

-- so it is with each byte, and the first is no LF
unfoldable pub tidy : List ℕ → Bool
unfolding stay_first
tidy s = both (not (eqb (get_or s 0 LF) LF)) (stay_first s (length s))

-- of a sample: its text is UTF-8, and such
unfoldable pub tidy_in : List ℕ → Bool
unfolding tidy
tidy_in s = both (not (starts_with mark (part s 2 (text_end s)))) (tidy (part s 2 (text_end s)))

-- at a place of a text there are so many characters to come
pub record Ahead (s : List ℕ) (from count : ℕ) : Type 0 where
  pub here : from ≤ length s
  pub spells : Spelled false (drop from s)
  pub many : count ≤ length (points8 (drop from s))

-- the place behind them
pub record Behind (s : List ℕ) (from count at : ℕ) : Type 0 where
  pub goes : from ≤ at
  pub here : at ≤ length s
  pub spells : Spelled false (drop at s)
  pub is : points8 (drop at s) ≡ drop count (points8 (drop from s))

-- a text in which each character is one byte
pub record Single (s : List ℕ) : Type 0 where
  pub spells : Spelled false s
  pub many : length (points8 s) ≡ length s
