-- The lines of a text that is written: one behind the other, joined again, and none with `-->` where the text has none.
use Prim.Native.Nat.{ℕ}
use mathlib.Core.Path.{◌≡◌, refl, sym, ap, ◌∙◌, subst⁻¹}
use mathlib.Core.Bool.{Bool, true, false}
use mathlib.Core.List.{List, [], ◌∷◌, ◌++◌}
use native.Mathlib.Omega.{arith}
use borrow.Author.Tests.{eqb-true, not-true}
use lib.Dec.{eqb}
use lib.ListN.{drop}
use lib.Seq.{append_snoc}
use Rattle.base.specs.Choice.{pick, both, any_of}
use Rattle.base.proofs.Choice.{by-test, true-false, both_left, both_right}
use Rattle.base.proofs.Tests.{one-of-first, one-of-second, both_yes, both-no}
use Rattle.utf8.specs.Strings.{CR, LF, starts_with, starts_with_any, has_any, ends_in, ends_line}
use Rattle.utf8.specs.Forbidden.{arrow, not_in_payload}
use Rattle.vtt_lines.specs.Lines.{Line, onto, crlf, line_end, lines_of, joined, filled, holds_arrow, some_arrow}
use Rattle.vtt_lines.specs.Cursor.{in_line, line_at, next_at}
use Rattle.vtt_lines.proofs.Lines.{no_cr, no-lf, lines_other, lines_step}
use Rattle.vtt_write.specs.Writing.{line_text}
use Rattle.vtt_round_trip.specs.Premises.{Without, first_of}
use Rattle.timestamps.specs.Timestamps.{All}

-- no line is empty
abbrev pub Filled : List Line → Type 0
Filled [] = Unit {0}
Filled ([] ∷ ls) = ⊥
Filled ((b ∷ l) ∷ ls) = Filled ls

-- the line of a text, none where it is empty
abbrev pub line_of : List ℕ → List Line
line_of [] = []
line_of (b ∷ s) = (b ∷ s) ∷ []

-- ---- a text and what stands behind its line end

pub lines-lf : (s : List ℕ) → lines_of (LF ∷ s) ≡ [] ∷ lines_of s
unfolding lines_of
lines-lf s = refl

-- a text that is not empty has a line
pub lines-some : (b : ℕ) (s : List ℕ) → (l : Line) × (ls : List Line) × (lines_of (b ∷ s) ≡ l ∷ ls)
lines-some b s = (line_at (b ∷ s) 0, lines_of (drop (next_at (b ∷ s) 0) (b ∷ s)), lines_step (b ∷ s) 0 (omega arith))

glue : (x y : Bool) (b : ℕ) (l : Line) (ls r : List Line)
    → pick x ((l ∷ ls) ++ r) (pick y ([] ∷ ((l ∷ ls) ++ r)) (onto b ((l ∷ ls) ++ r))) ≡ pick x (l ∷ ls) (pick y ([] ∷ l ∷ ls) (onto b (l ∷ ls))) ++ r
glue true y b l ls r = refl
glue false true b l ls r = refl
glue false false b l ls r = refl

pub lines-break : (b : ℕ) (a r : List ℕ) → ends_line (b ∷ a) ≡ false → lines_of (b ∷ a ++ LF ∷ r) ≡ lines_of (b ∷ a) ++ lines_of r
unfolding lines_of ends_line ends_in starts_with
lines-break b [] r h = rw (no_cr b h, no-lf b h)
lines-break b (c ∷ a) r h =
    let i = lines-break c a r h in
    let w = lines-some c a in
    let f : List Line → List Line = λ x. pick (crlf b (c ∷ a)) x (pick (line_end b) ([] ∷ x) (onto b x)) in
    ap f (i ∙ ap (λ (x : List Line). x ++ lines_of r) w.2) ∙ glue (crlf b (c ∷ a)) (line_end b) b w.0 w.1 (lines_of r) ∙ ap (λ (x : List Line). f x ++ lines_of r) (sym w.2)

-- a text with its line end, or none where it is empty
pub lines-text : (a r : List ℕ) → ends_line a ≡ false → lines_of (line_text a ++ r) ≡ lines_of a ++ lines_of r
unfolding lines_of
lines-text [] r h = refl
lines-text (b ∷ a) r h = ap lines_of (append_snoc (b ∷ a) LF r) ∙ lines-break b a r h

-- ---- a text within a line

pub one_line : (a : List ℕ) → All in_line a → lines_of a ≡ line_of a
unfolding lines_of in_line
one_line [] h = refl
one_line (b ∷ []) h = let e = not-true (line_end b) h.0 in lines_other b [] e
one_line (b ∷ c ∷ a) h =
    let e = not-true (line_end b) h.0 in
    lines_other b (c ∷ a) e ∙ ap (onto b) (one_line (c ∷ a) h.1)

pub ends-none : (a : List ℕ) → All in_line a → ends_line a ≡ false
unfolding ends_line ends_in in_line
ends-none [] h = refl
ends-none (b ∷ []) h = not-true (line_end b) h.0
ends-none (b ∷ c ∷ a) h = ends-none (c ∷ a) h.1

-- ---- a payload without CR

joined-onto : (b : ℕ) (l : Line) (ls : List Line) → joined ((b ∷ l) ∷ ls) ≡ b ∷ joined (l ∷ ls)
unfolding joined
joined-onto b l [] = refl
joined-onto b l (m ∷ ls) = refl

cr-first : (b : ℕ) (s : List ℕ) → Without (CR ∷ []) (b ∷ s) → eqb b CR ≡ false
unfolding has_any starts_with_any starts_with
cr-first b s h = sym (both_yes (eqb b CR)) ∙ one-of-first (both (eqb b CR) true) false (one-of-first (any_of (both (eqb b CR) true) false) (has_any ((CR ∷ []) ∷ []) s) h)

cr-rest : (b : ℕ) (s : List ℕ) → Without (CR ∷ []) (b ∷ s) → Without (CR ∷ []) s
unfolding has_any
cr-rest b s h = one-of-second (starts_with_any ((CR ∷ []) ∷ []) (b ∷ s)) (has_any ((CR ∷ []) ∷ []) s) h

neither-end : (b : ℕ) → eqb b CR ≡ false → eqb b LF ≡ false → line_end b ≡ false
neither-end b h k = rw (h, k)

-- its lines, joined, are the text again
pub lines-joined : (p : List ℕ) → Without (CR ∷ []) p → ends_line p ≡ false → joined (lines_of p) ≡ p
unfolding lines_of joined ends_line ends_in
lines-joined [] h k = refl
lines-joined (b ∷ []) h k = ap joined (lines_other b [] k)
lines-joined (b ∷ c ∷ s) h k =
    let i = lines-joined (c ∷ s) (cr-rest b (c ∷ s) h) k in
    let w = lines-some c s in
    let j : joined (w.0 ∷ w.1) ≡ c ∷ s = ap joined (sym w.2) ∙ i in
    by-test (eqb b LF)
    (λ e. ap joined (ap (λ (x : ℕ). lines_of (x ∷ c ∷ s)) (eqb-true b LF e) ∙ lines-lf (c ∷ s) ∙ ap (λ (x : List Line). [] ∷ x) w.2)
    ∙ ap (λ (x : List ℕ). LF ∷ x) j ∙ ap (λ (x : ℕ). x ∷ c ∷ s) (sym (eqb-true b LF e)))
    (λ e. ap joined (lines_other b (c ∷ s) (neither-end b (cr-first b (c ∷ s) h) e) ∙ ap (onto b) w.2) ∙ joined-onto b w.0 w.1 ∙ ap (λ (x : List ℕ). b ∷ x) j)

filled-onto : (b : ℕ) (ls : List Line) → Filled ls → Filled (onto b ls)
filled-onto b [] h = tt
filled-onto b ([] ∷ ls) h = absurd h
filled-onto b ((c ∷ l) ∷ ls) h = h

two-lf : (d : ℕ) (s : List ℕ) → has_any not_in_payload (LF ∷ d ∷ s) ≡ false → eqb d LF ≡ false
unfolding has_any starts_with_any starts_with not_in_payload
two-lf d s h =
    let a = one-of-first (any_of (both (eqb d LF) true) (any_of (both (eqb d CR) true) false)) (has_any not_in_payload (d ∷ s)) h in
    sym (both_yes (eqb d LF)) ∙ one-of-first (both (eqb d LF) true) (any_of (both (eqb d CR) true) false) a

payload-rest : (b : ℕ) (s : List ℕ) → has_any not_in_payload (b ∷ s) ≡ false → has_any not_in_payload s ≡ false
unfolding has_any
payload-rest b s h = one-of-second (starts_with_any not_in_payload (b ∷ s)) (has_any not_in_payload s) h

-- none of its lines is empty
pub lines-filled : (b : ℕ) (s : List ℕ) → Without (CR ∷ []) (b ∷ s) → has_any not_in_payload (b ∷ s) ≡ false → ends_line (b ∷ s) ≡ false → eqb b LF ≡ false → Filled (lines_of (b ∷ s))
unfolding lines_of ends_line ends_in
lines-filled b [] h n k f = subst⁻¹ Filled (lines_other b [] k) tt
lines-filled b (c ∷ []) h n k f =
    subst⁻¹ Filled (lines_other b (c ∷ []) (neither-end b (cr-first b (c ∷ []) h) f))
    (filled-onto b (lines_of (c ∷ [])) (lines-filled c [] (cr-rest b (c ∷ []) h) (payload-rest b (c ∷ []) n) k (no-lf c k)))
lines-filled b (c ∷ d ∷ s) h n k f =
    let o = lines_other b (c ∷ d ∷ s) (neither-end b (cr-first b (c ∷ d ∷ s) h) f) in
    let h2 = cr-rest b (c ∷ d ∷ s) h in
    let n2 = payload-rest b (c ∷ d ∷ s) n in
    by-test (eqb c LF)
    (λ e. subst⁻¹ Filled (o ∙ ap (onto b) (ap (λ (x : ℕ). lines_of (x ∷ d ∷ s)) (eqb-true c LF e) ∙ lines-lf (d ∷ s)))
    (lines-filled d s (cr-rest c (d ∷ s) h2) (payload-rest c (d ∷ s) n2) k (two-lf d s (ap (λ (x : ℕ). has_any not_in_payload (x ∷ d ∷ s)) (sym (eqb-true c LF e)) ∙ n2))))
    (λ e. subst⁻¹ Filled o (filled-onto b (lines_of (c ∷ d ∷ s)) (lines-filled c (d ∷ s) h2 n2 k e)))

-- ---- a configuration

pub filled_is : (ls : List Line) → filled ls ≡ ls → Filled ls
unfolding filled
filled_is [] h = tt
filled_is ([] ∷ ls) h = let z : ◌≡◌ {A = ℕ} 0 1 = cc in absurd (omega arith)
filled_is ((b ∷ l) ∷ ls) h = let t : filled ls ≡ ls = cc in filled_is ls t

-- before a line end the first line is empty
first-none : (b : ℕ) (s : List ℕ) → line_end b ≡ true → first_of (lines_of (b ∷ s)) ≡ []
unfolding lines_of starts_with
first-none b [] h = rw (both-no, h)
first-none b (c ∷ s) h =
    by-test (crlf b (c ∷ s))
    (λ e. let q = both_left (eqb c LF) true (both_right (eqb b CR) (both (eqb c LF) true) e) in rw e (ap (λ (x : ℕ). first_of (lines_of (x ∷ s))) (eqb-true c LF q)))
    (λ e. rw (e, h))

first-onto : (b : ℕ) (ls : List Line) → first_of (onto b ls) ≡ b ∷ first_of ls
first-onto b [] = refl
first-onto b (l ∷ ls) = refl

-- what the first line begins with, the text does
starts_first : (p s : List ℕ) → starts_with p (first_of (lines_of s)) ≡ true → starts_with p s ≡ true
unfolding starts_with lines_of
starts_first [] s h = refl
starts_first (x ∷ p) [] h = h
starts_first (x ∷ p) (b ∷ s) h =
    by-test (line_end b)
    (λ e. true-false false (sym (ap (starts_with (x ∷ p)) (first-none b s e)) ∙ h) refl)
    (λ e. let f = starts_with p (first_of (lines_of s)) in
    let g : both (eqb b x) (starts_with p (first_of (lines_of s))) ≡ true = sym (ap (starts_with (x ∷ p)) (ap first_of (lines_other b s e) ∙ first-onto b (lines_of s))) ∙ h in
    rw (both_left (eqb b x) f g) (starts_first p s (both_right (eqb b x) f g)))

arrow-onto : (b : ℕ) (ls : List Line) → starts_with arrow (b ∷ first_of ls) ≡ false → some_arrow ls ≡ false → some_arrow (onto b ls) ≡ false
unfolding some_arrow holds_arrow has_any starts_with_any
arrow-onto b [] h k = rw h
arrow-onto b (l ∷ ls) h k = rw h k

arrow-end : (x y : Bool) (b : ℕ) (ls : List Line) → y ≡ true → some_arrow ls ≡ false → some_arrow (pick x ls (pick y ([] ∷ ls) (onto b ls))) ≡ false
unfolding some_arrow holds_arrow has_any
arrow-end true y b ls h k = k
arrow-end false y b ls h k = rw h k

-- where the text has no `-->`, no line has
pub lines-no-arrow : (s : List ℕ) → Without arrow s → some_arrow (lines_of s) ≡ false
unfolding lines_of some_arrow has_any starts_with_any
lines-no-arrow [] h = refl
lines-no-arrow (b ∷ s) h =
    let a = any_of (starts_with arrow (b ∷ s)) false in
    let here = one-of-first (starts_with arrow (b ∷ s)) false (one-of-first a (has_any (arrow ∷ []) s) h) in
    let r = lines-no-arrow s (one-of-second a (has_any (arrow ∷ []) s) h) in
    by-test (line_end b) (λ e. arrow-end (crlf b s) (line_end b) b (lines_of s) e r)
    (λ e. ap some_arrow (lines_other b s e)
    ∙ arrow-onto b (lines_of s)
    (by-test (starts_with arrow (b ∷ first_of (lines_of s)))
    (λ t. true-false (starts_with arrow (b ∷ s)) (starts_first arrow (b ∷ s) (ap (starts_with arrow) (ap first_of (lines_other b s e) ∙ first-onto b (lines_of s)) ∙ t)) here)
    (λ t. t)) r)
