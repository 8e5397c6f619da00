-- Reads that come to the end give the line of their bytes; one that fails makes it a bad one.
use Prim.Native.Nat.{ℕ}
use mathlib.Core.Path.{◌≡◌, refl, sym, ap, ◌∙◌}
use mathlib.Core.Bool.{true, false}
use mathlib.Core.List.{List, [], ◌∷◌, ◌++◌}
use lib.IntN.{ℤ, pos, negsuc, nat_abs}
use lib.ListN.{take}
use Rattle.base.specs.Choice.{pick}
use Rattle.base.proofs.Choice.{by-test, true-false}
use Rattle.input.specs.Reading.{fed, line_at}
use Rattle.input.specs.Reads.{is_wrong, chunk_by, chunk_of, Read, if_last, line_by, bytes_of, bytes_by, Moves, Moving, ReadToTheEnd, ReadInVain}
use Rattle.input.proofs.Chunks.{fed-append}
use Rattle.input.proofs.Fed.{fed-wrong, fed-line}
use Rattle.input.specs.declared.Reading.{Reading}
use Rattle.input.specs.declared.Reading.TheVariants.{Start, Scale, Space, Time, Whole, Wrong}
use Rattle.input.specs.Line.{Line, Bad}
use Rattle.input.specs.declared.Chunk.{Chunk}

wrong-is : (r : Reading) → is_wrong r ≡ true → r ≡ Wrong
wrong-is Start h = true-false false h refl
wrong-is (Scale v) h = true-false false h refl
wrong-is (Space v) h = true-false false h refl
wrong-is (Time v w) h = true-false false h refl
wrong-is (Whole v w) h = true-false false h refl
wrong-is Wrong h = refl

-- a read that moved some bytes is the last only if the line is bad with them
moves : (r : Reading) (z : ℤ) (s : List ℕ) → Moves z s → chunk_of r z s ≡ record { state = fed r (take (nat_abs z) s); last = is_wrong (fed r (take (nat_abs z) s)) }
unfolding chunk_by
moves r (pos k) s h = rw h
moves r (negsuc k) s h = absurd h

onward : (r : Reading) (y : Read) (xs : List Read) → Moves y.got y.buffer
    → line_by r (y ∷ xs) ≡ pick (is_wrong (fed r (bytes_of y))) (line_at (fed r (bytes_of y))) (line_by (fed r (bytes_of y)) xs)
unfolding line_by
onward r y xs h = ap (λ (c : Chunk). if_last c (line_by c.state xs)) (moves r y.got y.buffer h)

-- what a read gives in every state, it gives after reads that moved some bytes
module _ (x : Read) (more : List Read) (gives : Reading → Line) (ends : (r : Reading) → line_by r (x ∷ more) ≡ gives r) (bad : (s : List ℕ) → gives (fed Wrong s) ≡ Bad) where
  after : (r : Reading) (xs : List Read) → Moving xs → line_by r (xs ++ x ∷ more) ≡ gives (fed r (bytes_by xs))
  unfolding fed bytes_by Moving
  after r [] h = ends r
  after r (y ∷ xs) h =
      let q = fed r (bytes_of y) in
      let e = onward r y (xs ++ x ∷ more) h.0 in
      let f = ap gives (fed-append r (bytes_of y) (bytes_by xs)) in
      by-test (is_wrong q)
      (λ w. let i = wrong-is q w in
      e ∙ ap (λ b. pick b (line_at q) (line_by q (xs ++ x ∷ more))) w ∙ ap line_at i ∙ sym (f ∙ ap (λ (p : Reading). gives (fed p (bytes_by xs))) i ∙ bad (bytes_by xs)))
      (λ w. e ∙ ap (λ b. pick b (line_at q) (line_by q (xs ++ x ∷ more))) w ∙ after q xs h.1 ∙ sym f)

-- a read by the number that it answered
by_number : (r : Reading) (x : Read) (more : List Read) (z : ℤ) → x.got ≡ z
    → line_by r (x ∷ more) ≡ if_last (chunk_of r z x.buffer) (line_by (chunk_of r z x.buffer).state more)
unfolding line_by
by_number r x more z e = ap (λ (y : ℤ). if_last (chunk_of r y x.buffer) (line_by (chunk_of r y x.buffer).state more)) e

pub read-to-the-end : ReadToTheEnd
unfolding chunk_by fed
read-to-the-end xs x more h e = after x more line_at (λ r. by_number r x more (pos 0) e) fed-wrong Start xs h ∙ fed-line (bytes_by xs)

pub read-in-vain : ReadInVain
read-in-vain xs x more k h e = after x more (λ r. Bad) (λ r. by_number r x more (negsuc k) e) (λ s. refl) Start xs h
