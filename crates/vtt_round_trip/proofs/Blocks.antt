-- Blocks of lines that are not empty, up to an empty line or the end.
use Prim.Native.Nat.{ℕ, suc, ◌+◌}
use mathlib.Core.Path.{◌≡◌, refl, ap, ap₂, ◌∙◌}
use mathlib.Core.Bool.{true, false}
use mathlib.Core.List.{List, [], ◌∷◌, ◌++◌}
use native.Mathlib.Omega.{arith}
use lib.ListN.{length}
use Rattle.vtt_lines.specs.Lines.{Line, filled, Block, blocks_from}
use Rattle.vtt_blocks.proofs.Blocks.{block}
use Rattle.vtt_round_trip.proofs.Lines.{Filled}

pub filled-stop : (ls m : List Line) → Filled ls → filled (ls ++ [] ∷ m) ≡ ls
unfolding filled
filled-stop [] m h = refl
filled-stop ([] ∷ ls) m h = absurd h
filled-stop ((b ∷ l) ∷ ls) m h = ap (λ (x : List Line). (b ∷ l) ∷ x) (filled-stop ls m h)

filled-all : (ls : List Line) → Filled ls → filled ls ≡ ls
unfolding filled
filled-all [] h = refl
filled-all ([] ∷ ls) h = absurd h
filled-all ((b ∷ l) ∷ ls) h = ap (λ (x : List Line). (b ∷ l) ∷ x) (filled-all ls h)

pub filled-tail : (l : Line) (ls : List Line) → Filled (l ∷ ls) → Filled ls
filled-tail [] ls h = absurd h
filled-tail (b ∷ l) ls h = h

-- a block that goes on
pub pass-stop : (n : ℕ) (ls m : List Line) → Filled ls → blocks_from true n (ls ++ [] ∷ m) ≡ blocks_from false (suc (n + length ls)) m
unfolding blocks_from
pass-stop n [] m h = ap (λ (k : ℕ). blocks_from false k m) (omega arith)
pass-stop n ([] ∷ ls) m h = absurd h
pass-stop n ((b ∷ l) ∷ ls) m h = pass-stop (suc n) ls m h ∙ ap (λ (k : ℕ). blocks_from false k m) (omega arith)

pass_all : (n : ℕ) (ls : List Line) → Filled ls → blocks_from true n ls ≡ []
unfolding blocks_from
pass_all n [] h = refl
pass_all n ([] ∷ ls) h = absurd h
pass_all n ((b ∷ l) ∷ ls) h = pass_all (suc n) ls h

-- a block that begins
pub block-next : (n : ℕ) (l : Line) (ls m : List Line) → Filled (l ∷ ls)
    → blocks_from false n ((l ∷ ls) ++ [] ∷ m) ≡ block n l ls ∷ blocks_from false (suc (suc n + length ls)) m
unfolding blocks_from
block-next n [] ls m h = absurd h
block-next n (b ∷ l) ls m h = ap₂ (λ (x : List Line) (y : List Block). block n (b ∷ l) x ∷ y) (filled-stop ls m h) (pass-stop (suc n) ls m h)

pub block_last : (n : ℕ) (l : Line) (ls : List Line) → Filled (l ∷ ls) → blocks_from false n (l ∷ ls) ≡ block n l ls ∷ []
unfolding blocks_from
block_last n [] ls h = absurd h
block_last n (b ∷ l) ls h = ap₂ (λ (x : List Line) (y : List Block). block n (b ∷ l) x ∷ y) (filled-all ls h) (pass_all (suc n) ls h)
