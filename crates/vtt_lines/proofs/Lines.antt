-- Lines: a byte in front, and the line at a place with those behind it.
use Prim.Native.Nat.{ℕ, suc, ◌+◌, ◌<◌, ◌≤◌}
use mathlib.Core.Path.{◌≡◌, refl, sym, ap, ◌∙◌}
use mathlib.Core.Bool.{true, false}
use mathlib.Core.List.{List, [], ◌∷◌}
use native.Mathlib.Omega.{arith}
use borrow.Author.Tests.{eqb-true}
use lib.Dec.{eqb}
use lib.ListN.{length, take, drop, get_or, drop_of_length-le}
use lib.Seq.{drop-cons, drop-drop}
use Rattle.base.specs.Choice.{both}
use Rattle.base.proofs.Choice.{by-test, both_left, both_right}
use Rattle.base.proofs.Tests.{one-of-first, one-of-second, both-no}
use Rattle.utf8.specs.Strings.{CR, LF, starts_with}
use Rattle.vtt_lines.specs.Lines.{Line, onto, crlf, line_end, lines_of, joined}
use Rattle.vtt_lines.specs.Cursor.{run, end_size, line_at, end_at, next_at}

-- a byte within a line is no CR and no LF
pub no_cr : (b : ℕ) → line_end b ≡ false → eqb b CR ≡ false
no_cr b h = one-of-first (eqb b CR) (eqb b LF) h

pub no-lf : (b : ℕ) → line_end b ≡ false → eqb b LF ≡ false
no-lf b h = one-of-second (eqb b CR) (eqb b LF) h

pub lines_other : (b : ℕ) (s : List ℕ) → line_end b ≡ false → lines_of (b ∷ s) ≡ onto b (lines_of s)
unfolding lines_of
lines_other b s h = rw (no_cr b h, no-lf b h)

-- what is left behind a line end
rest : List ℕ → List ℕ
rest t = drop (end_size t) t

-- a text that is not empty: its first line, and those behind that line's end
lines_split : (b : ℕ) (s : List ℕ) → lines_of (b ∷ s) ≡ take (run (b ∷ s)) (b ∷ s) ∷ lines_of (rest (drop (run (b ∷ s)) (b ∷ s)))
unfolding lines_of run rest end_size starts_with
lines_split b [] = by-test (line_end b) (λ e. rw (both-no, e, both-no)) (λ e. rw (both-no, e))
lines_split b (c ∷ s) =
    by-test (line_end b)
    (λ e. by-test (crlf b (c ∷ s))
    (λ t. let q = eqb-true c LF (both_left (eqb c LF) true (both_right (eqb b CR) (both (eqb c LF) true) t)) in
    rw (e, t) (ap (λ (x : ℕ). lines_of (x ∷ s)) q))
    (λ t. rw (e, t)))
    (λ e. lines_other b (c ∷ s) e ∙ ap (onto b) (lines_split c s) ∙ rw e)

-- the lines from a place on: none at the end; else the line there, and those from the next place on
pub lines_end : (s : List ℕ) (i : ℕ) → length s ≤ i → lines_of (drop i s) ≡ []
unfolding lines_of
lines_end s i h = rw (drop_of_length-le s h)

pub lines_step : (s : List ℕ) (i : ℕ) → i < length s → lines_of (drop i s) ≡ line_at s i ∷ lines_of (drop (next_at s i) s)
unfolding line_at next_at end_at rest
lines_step s i h =
    let e = drop-cons s i 0 h in
    let n = run (drop i s) in
    let d : drop n (drop i s) ≡ drop (i + n) s = drop-drop n i s in
    ap lines_of e ∙ lines_split (get_or s i 0) (drop (suc i) s)
    ∙ ap (λ (t : List ℕ). take (run t) t ∷ lines_of (rest (drop (run t) t))) (sym e)
    ∙ ap (λ (t : List ℕ). take n (drop i s) ∷ lines_of t) (ap rest d ∙ drop-drop (end_size (drop (i + n) s)) (i + n) s)

-- ---- joined again, lines are no longer than the text

joined-onto : (b : ℕ) (ls : List Line) → joined (onto b ls) ≡ b ∷ joined ls
unfolding joined
joined-onto b [] = refl
joined-onto b (l ∷ []) = refl
joined-onto b (l ∷ m ∷ ls) = refl

joined-empty : (ls : List Line) → length (joined ([] ∷ ls)) ≤ suc (length (joined ls))
unfolding joined
joined-empty [] = omega arith
joined-empty (l ∷ ls) = omega arith

pub joined-short : (s : List ℕ) → length (joined (lines_of s)) ≤ length s
unfolding lines_of joined
joined-short [] = omega arith
joined-short (b ∷ s) =
    let i = joined-short s in
    by-test (crlf b s)
    (λ t. rw t (omega arith))
    (λ t. by-test (line_end b)
    (λ e. rw (t, e) (omega (arith, joined-empty (lines_of s))))
    (λ e. rw (t, e, joined-onto b (lines_of s)) (omega arith)))
