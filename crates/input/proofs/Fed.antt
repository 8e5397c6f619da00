-- Feeding the bytes of a line, in whatever chunks, gives the line.
use Prim.Native.Nat.{ℕ, ◌+◌, ◌-◌, ◌*◌, ◌≤◌}
use mathlib.Core.Path.{◌≡◌, refl, sym, ap, ◌∙◌}
use mathlib.Core.Bool.{Bool, true, false}
use mathlib.Core.List.{List, [], ◌∷◌, ◌++◌}
use native.Mathlib.Omega.{arith}
use lib.Dec.{eqb}
use borrow.Author.Tests.{eq-eqb}
use Rattle.base.specs.Choice.{pick, both, same_list}
use Rattle.base.proofs.Choice.{by-test}
use Rattle.decimal.specs.Decimal.{value, value_from}
use Rattle.input.specs.Reading.{grown, fed, line_at, FedLine}
use Rattle.input.proofs.Lines.{apart}
use Rattle.input.specs.Line.{is_digit, top, before, behind, all_digits, number, written, line_of, Numbers, Bad}
use Rattle.input.specs.declared.Reading.TheVariants.{Scale, Space, Time, Whole, Wrong}

both_true : (a : Bool) → both a true ≡ a
both_true true = refl
both_true false = refl

both_false : (a : Bool) → both a false ≡ false
both_false true = refl
both_false false = refl

top-grown : (v e : ℕ) → top (top v * 10 + e) ≡ top (v * 10 + e)
unfolding top
top-grown v e = omega arith

top-top : (v : ℕ) → top (top v) ≡ top v
unfolding top
top-top v = omega arith

top-low : (v : ℕ) → v ≤ 4294967295 → top v ≡ v
unfolding top
top-low v h = omega arith

top-le : (v : ℕ) → top v ≤ 4294967295
unfolding top
top-le v = omega arith

top_from : (v : ℕ) (s : List ℕ) → top (value_from (top v) s) ≡ top (value_from v s)
unfolding value_from
top_from v [] = top-top v
top_from v (d ∷ s) =
    sym (top_from (top v * 10 + (d - 48)) s) ∙ ap (λ (k : ℕ). top (value_from k s)) (top-grown v (d - 48)) ∙ top_from (v * 10 + (d - 48)) s

pub fed-wrong : (s : List ℕ) → line_at (fed Wrong s) ≡ Bad
unfolding fed
fed-wrong [] = refl
fed-wrong (b ∷ s) = fed-wrong s

fed-whole : (v w : ℕ) (s : List ℕ) → line_at (fed (Whole v w) s) ≡ pick (same_list s []) (Numbers v w) Bad
unfolding fed same_list
fed-whole v w [] = refl
fed-whole v w (b ∷ s) = fed-wrong s

-- what the bytes that are left make of each state
fed-time : (v w : ℕ) (s : List ℕ) → w ≤ 4294967295
    → line_at (fed (Time v w) s) ≡ pick (both (same_list s (before 10 s ++ 10 ∷ [])) (all_digits (before 10 s))) (Numbers v (top (value_from w (before 10 s)))) Bad
unfolding fed same_list before all_digits value_from grown
fed-time v w [] h = refl
fed-time v w (b ∷ s) h =
    by-test (is_digit b)
    (λ d. rw (apart b 10 d (omega arith), eq-eqb b b refl, d) (fed-time v (grown w b) s (top-le (w * 10 + (b - 48)))
    ∙ ap (λ (k : ℕ). pick (both (same_list s (before 10 s ++ 10 ∷ [])) (all_digits (before 10 s))) (Numbers v k) Bad) (top_from (w * 10 + (b - 48)) (before 10 s))))
    (λ d. by-test (eqb b 10)
    (λ e. rw (d, e, e, both_true (same_list s []), top-low w h) (fed-whole v w s))
    (λ e. rw (d, e, d, both_false (both (eqb b b) (same_list s (before 10 s ++ 10 ∷ [])))) (fed-wrong s)))

fed-space : (v : ℕ) (s : List ℕ)
    → line_at (fed (Space v) s) ≡ pick (both (same_list s (before 10 s ++ 10 ∷ [])) (number (before 10 s))) (Numbers v (top (value (before 10 s)))) Bad
unfolding fed same_list before all_digits value value_from grown
fed-space v [] = refl
fed-space v (b ∷ s) =
    by-test (is_digit b)
    (λ d. rw (apart b 10 d (omega arith), eq-eqb b b refl, d) (fed-time v (grown 0 b) s (top-le (0 * 10 + (b - 48)))
    ∙ ap (λ (k : ℕ). pick (both (same_list s (before 10 s ++ 10 ∷ [])) (all_digits (before 10 s))) (Numbers v k) Bad) (top_from (0 * 10 + (b - 48)) (before 10 s))))
    (λ d. by-test (eqb b 10)
    (λ e. rw (d, e, e, both_false (same_list s [])) (fed-wrong s))
    (λ e. rw (d, e, d, both_false (both (eqb b b) (same_list s (before 10 s ++ 10 ∷ [])))) (fed-wrong s)))

fed-scale : (v : ℕ) (s : List ℕ) → v ≤ 4294967295
    → line_at (fed (Scale v) s) ≡ pick (both (same_list s (written (before 32 s) (before 10 (behind 32 s)))) (both (all_digits (before 32 s)) (number (before 10 (behind 32 s)))))
    (Numbers (top (value_from v (before 32 s))) (top (value (before 10 (behind 32 s))))) Bad
unfolding fed same_list before behind written all_digits value_from grown
fed-scale v [] h = refl
fed-scale v (b ∷ s) h =
    let x = before 10 (behind 32 s) in
    by-test (is_digit b)
    (λ d. rw (apart b 32 d (omega arith), eq-eqb b b refl, d) (fed-scale (grown v b) s (top-le (v * 10 + (b - 48)))
    ∙ ap (λ (k : ℕ). pick (both (same_list s (written (before 32 s) x)) (both (all_digits (before 32 s)) (number x))) (Numbers k (top (value x))) Bad) (top_from (v * 10 + (b - 48)) (before 32 s))))
    (λ d. by-test (eqb b 32)
    (λ e. rw (d, e, e, top-low v h) (fed-space v s))
    (λ e. rw (d, e, d, both_false (both (eqb b b) (same_list s (written (before 32 s) x)))) (fed-wrong s)))

pub fed-line : FedLine
unfolding fed line_of same_list before behind written all_digits value value_from grown
fed-line [] = refl
fed-line (b ∷ s) =
    let x = before 10 (behind 32 s) in
    by-test (is_digit b)
    (λ d. rw (apart b 32 d (omega arith), eq-eqb b b refl, d) (fed-scale (grown 0 b) s (top-le (0 * 10 + (b - 48)))
    ∙ ap (λ (k : ℕ). pick (both (same_list s (written (before 32 s) x)) (both (all_digits (before 32 s)) (number x))) (Numbers k (top (value x))) Bad) (top_from (0 * 10 + (b - 48)) (before 32 s))))
    (λ d. by-test (eqb b 32)
    (λ e. rw (d, e, e, both_false (same_list s (before 10 s ++ 10 ∷ []))) (fed-wrong s))
    (λ e. rw (d, e, d, both_false (both (eqb b b) (same_list s (written (before 32 s) x)))) (fed-wrong s)))
