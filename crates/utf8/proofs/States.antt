-- The states of the UTF-8 machine, as what is still asked for.
use Prim.Native.Nat.{ℕ, ◌<◌}
use mathlib.Core.Path.{◌≡◌, refl, sym}
use mathlib.Core.Bool.{Bool, true, false, not}
use mathlib.Core.List.{List, [], ◌∷◌}
use mathlib.Core.Option.{Option, none, some}
use lib.Dec.{T, eqb}
use lib.ListN.{get_or}
use Rattle.base.specs.Choice.{pick, both, within}
use Rattle.base.proofs.Table.{at, every, first_of, second-of}
use Rattle.utf8.specs.Utf8.{Range, tail, rows, follow_in, follow, on_some, judge, begun, class_of, class_table}
use Rattle.utf8.specs.Machine.{word_table, next}
use Rattle.utf8.proofs.Ranges.{same_asked, same_asked_lem}

-- what a state still asks for; 8 is the state of bytes that are no UTF-8
unfoldable pub pend : ℕ → Option (List Range)
pend st =
    get_or
    (some [] ∷ some (tail ∷ []) ∷ some (tail ∷ tail ∷ []) ∷ some (tail ∷ tail ∷ tail ∷ [])
    ∷ some ((0xA0, 0xBF) ∷ tail ∷ []) ∷ some ((0x80, 0x9F) ∷ tail ∷ []) ∷ some ((0x90, 0xBF) ∷ tail ∷ tail ∷ []) ∷ some ((0x80, 0x8F) ∷ tail ∷ tail ∷ []) ∷ [])
    st none

-- what is asked for after the byte b
abbrev asks : Option (List Range) → ℕ → Option (List Range)
asks none b = none
asks (some []) b = follow b
asks (some (r ∷ rs)) b = pick (within r.0 r.1 b) (some rs) none

states : List ℕ
states = 0 ∷ 1 ∷ 2 ∷ 3 ∷ 4 ∷ 5 ∷ 6 ∷ 7 ∷ 8 ∷ []

agrees : ℕ → ℕ → ℕ → Bool
unfolding class_of within word_table next pend rows follow_in follow
agrees b st y = same_asked (pend (next st (class_of b))) (asks (pend st) b)

agree : ℕ → ℕ → Bool
unfolding agrees states
agree b x = every (agrees b) 0 states

-- the next state is right at each state and each byte, by one computed test
next-at : (b : ℕ) → b < 256 → (st : ℕ) → st < 9 → pend (next st (class_of b)) ≡ asks (pend st) b
unfolding agree agrees states class_table
next-at b h st k = same_asked_lem (pend (next st (class_of b))) (asks (pend st) b) (at (agrees b) states (at agree class_table tt b h) st k)

-- a judgement of bytes by what they are asked for, one byte after the other
abbrev pub Reads : (List ℕ → List Range → Bool) → Type 0
Reads f = (b : ℕ) (xs : List ℕ) (rs : List Range) → f (b ∷ xs) rs ≡ on_some (asks (some rs) b) (λ qs. f xs qs)

on-pick : (w a : Bool) (f : List Range → Bool) (rs : List Range) → f rs ≡ a → both w a ≡ on_some (pick w (some rs) none) f
on-pick true a f rs e = sym e
on-pick false a f rs e = refl

pub judge-reads : Reads judge
unfolding judge
judge-reads b xs [] = refl
judge-reads b xs (r ∷ rs) = on-pick (within r.0 r.1 b) (judge xs rs) (λ qs. judge xs qs) rs refl

pub begun-reads : Reads begun
unfolding begun
begun-reads b xs [] = refl
begun-reads b xs (r ∷ rs) = on-pick (within r.0 r.1 b) (begun xs rs) (λ qs. begun xs qs) rs refl

-- the rest of the bytes is as a state asks
pub Good : (List ℕ → List Range → Bool) → ℕ → List ℕ → Bool
unfolding pend
Good f st xs = on_some (pend st) (λ rs. f xs rs)

pub start : (f : List ℕ → List Range → Bool) (xs : List ℕ) → f xs [] ≡ Good f 0 xs
unfolding Good
start f xs = refl

module _ (f : List ℕ → List Range → Bool) (reads : Reads f) where
  asked : (o : Option (List Range)) (b : ℕ) (xs : List ℕ) → on_some o (λ rs. f (b ∷ xs) rs) ≡ on_some (asks o b) (λ rs. f xs rs)
  asked none b xs = refl
  asked (some rs) b xs = reads b xs rs

  -- past a byte
  pub turn : (st b : ℕ) (xs : List ℕ) → st < 9 → b < 256 → Good f st (b ∷ xs) ≡ Good f (next st (class_of b)) xs
  unfolding Good
  turn st b xs h k = rw (next-at b k st h) (asked (pend st) b xs)

-- in state 8 no rest is right
pub dead : (f : List ℕ → List Range → Bool) (xs : List ℕ) → Good f 8 xs ≡ false
unfolding Good
dead f xs = refl

-- two tests give the same answer
same_test : (a b : Bool) → T (pick a b (not b)) → a ≡ b
same_test true true t = refl
same_test true false t = absurd t
same_test false true t = absurd t
same_test false false t = refl

-- where the bytes end: state 0 asks for nothing more, and every state but 8 can be continued
ends : ℕ → ℕ → Bool
unfolding Good judge begun
ends st y = both (pick (eqb st 0) (Good judge st []) (not (Good judge st []))) (pick (not (eqb st 8)) (Good begun st []) (not (Good begun st [])))

pub end : (st : ℕ) → st < 9 → (eqb st 0 ≡ Good judge st []) × (not (eqb st 8) ≡ Good begun st [])
unfolding ends states
end st h =
    let a = pick (eqb st 0) (Good judge st []) (not (Good judge st [])) in
    let b = pick (not (eqb st 8)) (Good begun st []) (not (Good begun st [])) in
    let t = at ends states tt st h in
    (same_test (eqb st 0) (Good judge st []) (first_of a b t), same_test (not (eqb st 8)) (Good begun st []) (second-of a b t))
