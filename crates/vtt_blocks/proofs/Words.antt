-- The word that a line begins with, by how many bytes agree.
use Prim.Native.Nat.{ℕ, suc, ◌<◌, ◌≤◌}
use mathlib.Core.Path.{◌≡◌, refl, ap}
use mathlib.Core.Bool.{Bool, true, false}
use mathlib.Core.List.{List, [], ◌∷◌}
use native.Mathlib.Omega.{arith}
use lib.Dec.{eqb}
use lib.ListN.{length, drop, get_or, drop_of_length-le}
use lib.Seq.{drop-cons}
use Rattle.base.proofs.Choice.{by-test}
use Rattle.utf8.specs.Strings.{starts_with, agree}
use Rattle.utf8.proofs.Strings.{agrees-all, agrees-less}
use Rattle.vtt_timing.specs.Timing.{blank}
use Rattle.vtt_timing.specs.Grammar.{ended}
use Rattle.vtt_blocks.specs.Kinds.{blanks, opens, names}

-- another word
pub other-opens : (p s : List ℕ) → agree p s < length p → opens p s ≡ false
unfolding opens
other-opens p s h = rw (agrees-less p s h)

pub other-names : (p s : List ℕ) → agree p s < length p → names p s ≡ false
unfolding names
other-names p s h = rw (agrees-less p s h)

-- the word, and then nothing or a byte
pub word-alone : (p s : List ℕ) → length p ≤ agree p s → length s ≤ length p → opens p s ≡ true
unfolding opens
word-alone p s h k = rw ((agrees-all p s h).0, drop_of_length-le s k)

pub word-opens : (p s : List ℕ) → length p ≤ agree p s → length p < length s → opens p s ≡ blank (get_or s (length p) 0)
unfolding opens
word-opens p s h k = rw (agrees-all p s h).0 (ap ended (drop-cons s (length p) 0 k))

pub word-names : (p s : List ℕ) → length p ≤ agree p s → names p s ≡ blanks (drop (length p) s)
unfolding names
word-names p s h = rw (agrees-all p s h).0

pub word-inside : (p s : List ℕ) → length p ≤ agree p s → length p ≤ length s
word-inside p s h = (agrees-all p s h).1

-- no empty line opens with a word
pub opens-some : (x : ℕ) (p s : List ℕ) → opens (x ∷ p) s ≡ true → (b : ℕ) × (l : List ℕ) × (s ≡ b ∷ l)
unfolding opens starts_with
opens-some x p [] h = let z : ◌≡◌ {A = Bool} false true = h in absurd (true-not z)
  where
    true-not : ◌≡◌ {A = Bool} false true → ⊥
    true-not e = let z : ◌≡◌ {A = ℕ} 0 1 = cc in omega arith
opens-some x p (b ∷ s) h = (b, s, refl)
