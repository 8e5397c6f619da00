-- Laws for reading the line: digits, a turn of the loop, and the end.
use Prim.Native.Nat.{ℕ, ◌+◌, ◌≤◌, ◌<◌}
use mathlib.Core.Path.{◌≡◌, refl, sym, ap, ◌∙◌}
use mathlib.Core.Bool.{true, false}
use mathlib.Core.List.{List}
use native.Mathlib.Numerals.{add-one}
use lib.Dec.{leb}
use lib.ListN.{length, get_or, drop, drop_of_length-le}
use lib.Seq.{drop-cons}
use borrow.Author.Tests.{leb-true}
use Rattle.base.specs.Choice.{within}
use Rattle.base.proofs.Choice.{both_left}
use Rattle.input.specs.Line.{is_digit, Bad}
use Rattle.input.specs.Reading.{stepped, fed, line_at}
use Rattle.input.specs.Reads.{is_wrong}
use Rattle.input.specs.declared.Reading.{Reading}
use Rattle.input.specs.declared.Reading.TheVariants.{Start, Scale, Space, Time, Whole, Wrong}

pub digit-from : (b : ℕ) → is_digit b ≡ true → 48 ≤ b
unfolding is_digit within
digit-from b h = leb-true 48 b (both_left (leb 48 b) (leb b 57) h)

pub fed-turn : (r : Reading) (s : List ℕ) (i : ℕ) → i < length s → fed (stepped r (get_or s i 0)) (drop (i + 1) s) ≡ fed r (drop i s)
unfolding fed
fed-turn r s i h = rw (add-one, drop-cons s i 0 h)

pub fed-end : (r q : Reading) (s : List ℕ) (i : ℕ) → length s ≤ i → fed r (drop i s) ≡ q → r ≡ q
unfolding fed
fed-end r q s i h e = ap (fed r) (sym (drop_of_length-le s h)) ∙ e

pub not-whole : (r : Reading) → ((v w : ℕ) → r ≡ Whole v w → ⊥) → Bad ≡ line_at r
not-whole Start h = refl
not-whole (Scale v) h = refl
not-whole (Space v) h = refl
not-whole (Time v w) h = refl
not-whole (Whole v w) h = absurd (h v w refl)
not-whole Wrong h = refl

pub not-wrong : (r : Reading) → (r ≡ Wrong → ⊥) → false ≡ is_wrong r
not-wrong Start h = refl
not-wrong (Scale v) h = refl
not-wrong (Space v) h = refl
not-wrong (Time v w) h = refl
not-wrong (Whole v w) h = refl
not-wrong Wrong h = absurd (h refl)
