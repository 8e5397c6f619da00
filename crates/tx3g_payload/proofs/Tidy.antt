-- Line ends of the text that is left, and of its payload.
use Prim.Native.Nat.{ℕ, ◌≤◌}
use mathlib.Core.Path.{◌≡◌, refl}
use mathlib.Core.Bool.{Bool, true, false, not}
use mathlib.Core.List.{List, [], ◌∷◌, ◌++◌}
use native.Mathlib.Omega.{arith}
use lib.Dec.{eqb}
use borrow.Author.Tests.{eqb-true, ne_eqb, not-true}
use Rattle.base.specs.Choice.{pick, both}
use Rattle.base.proofs.Choice.{both_left, both_right, true-false, by-test}
use Rattle.base.proofs.Tests.{both-no}
use Rattle.code_points.specs.CodePoints.{encode}
use Rattle.tx3g_payload.specs.Left.{is_break, only_breaks, left_of, left_from, text_left}
use Rattle.tx3g_payload.specs.Payload.{escape, bold, italic, underline}
use Rattle.tx3g_payload.specs.Statements.{Woven, done, char, opened, closed}
use Rattle.tx3g_payload.proofs.Bytes.{All, Some, encode-some, escape-cases}

-- no CR, no LF behind a line end, none last; `after` says that a line end, or nothing, stands before
unfoldable pub tidy : Bool → List ℕ → Bool
tidy after [] = not after
tidy after (c ∷ cs) = both (pick (is_break c) (both (eqb c 0x0A) (not after)) true) (tidy (is_break c) cs)

nothing_left : (after : Bool) (cs : List ℕ) → only_breaks cs ≡ true → left_from true cs ≡ []
unfolding only_breaks left_from left_of
nothing_left after [] h = refl
nothing_left after (c ∷ cs) h =
    let b = both_left (is_break c) (only_breaks cs) h in
    rw b (nothing_left after cs (both_right (is_break c) (only_breaks cs) h))

-- behind a character that is left
nothing-more : (cs : List ℕ) → only_breaks cs ≡ true → left_from false cs ≡ []
unfolding only_breaks left_from left_of
nothing-more [] h = refl
nothing-more (c ∷ cs) h =
    let b = both_left (is_break c) (only_breaks cs) h in
    let r = both_right (is_break c) (only_breaks cs) h in
    rw (b, r) (nothing_left true cs r)

pub all-gone : (cs : List ℕ) → only_breaks cs ≡ true → text_left cs ≡ []
unfolding text_left
all-gone cs h = nothing_left true cs h

-- a line end, with something else behind it
left-turn : (after : Bool) (c : ℕ) (cs : List ℕ) → is_break c ≡ true → only_breaks cs ≡ false → tidy true (left_from true cs) ≡ true
    → tidy after (left_of after c cs ++ left_from (is_break c) cs) ≡ true
unfolding left_of tidy is_break
left-turn true c cs e o r = rw e r
left-turn false c cs e o r = rw (e, o) r

left-tidy : (after : Bool) (cs : List ℕ) → only_breaks cs ≡ false → tidy after (left_from after cs) ≡ true
unfolding only_breaks left_from left_of tidy
left-tidy after [] h = true-false true refl h
left-tidy after (c ∷ cs) h =
    by-test (is_break c)
    (λ e. let o : only_breaks cs ≡ false = rw e at h in left-turn after c cs e o (left-tidy true cs o))
    (λ e. by-test (only_breaks cs)
    (λ o. rw (e, nothing-more cs o, e))
    (λ o. rw (e, e) (left-tidy false cs o)))

-- b may stand behind a; a payload from the byte behind a on
unfoldable pub allowed : ℕ → ℕ → Bool
allowed a b = pick (is_break b) (both (eqb b 0x0A) (not (is_break a))) (not (both (eqb b 0x3E) (eqb a 0x2D)))

unfoldable pub good : ℕ → List ℕ → Bool
good a [] = not (is_break a)
good a (b ∷ s) = both (allowed a b) (good b s)

-- no line end and no `>`
unfoldable pub plain : ℕ → Bool
plain b = both (not (is_break b)) (not (eqb b 0x3E))

plain-break : (b : ℕ) → plain b ≡ true → is_break b ≡ false
unfolding plain
plain-break b h = not-true (is_break b) (both_left (not (is_break b)) (not (eqb b 0x3E)) h)

plain-allowed : (a b : ℕ) → plain b ≡ true → allowed a b ≡ true
unfolding plain allowed
plain-allowed a b h = rw (plain-break b h, not-true (eqb b 0x3E) (both_right (not (is_break b)) (not (eqb b 0x3E)) h))

good-run : (p s : List ℕ) (a b : ℕ) → plain b ≡ true → All plain s → ((x : ℕ) → is_break x ≡ false → good x p ≡ true) → good a (b ∷ s ++ p) ≡ true
unfolding good
good-run p [] a b h k f = rw (plain-allowed a b h) (f b (plain-break b h))
good-run p (c ∷ s) a b h k f = rw (plain-allowed a b h) (good-run p s b c k.0 k.1 f)

good-some : (p s : List ℕ) (a : ℕ) → Some plain s → ((x : ℕ) → is_break x ≡ false → good x p ≡ true) → good a (s ++ p) ≡ true
good-some p [] a h f = absurd h
good-some p (b ∷ s) a h f = good-run p s a b h.0 h.1 f

high-plain : (b : ℕ) → 0x80 ≤ b → plain b ≡ true
unfolding plain is_break
high-plain b h = rw (ne_eqb b 0x0D (λ e. omega arith), ne_eqb b 0x0A (λ e. omega arith), ne_eqb b 0x3E (λ e. omega arith))

plain-escape : (c : ℕ) → is_break c ≡ false → Some plain (escape c)
unfolding escape encode plain is_break
plain-escape c h =
    escape-cases (λ _ s. Some plain s) c (refl, (refl, (refl, (refl, (refl, tt))))) (refl, (refl, (refl, (refl, tt)))) (refl, (refl, (refl, (refl, tt))))
    (λ e f g. encode-some plain c (rw (h, g)) high-plain)

tidy-less : (after : Bool) (cs : List ℕ) → tidy after cs ≡ true → tidy false cs ≡ true
unfolding tidy
tidy-less after [] h = refl
tidy-less false (c ∷ cs) h = h
tidy-less true (c ∷ cs) h =
    by-test (is_break c)
    (λ e. true-false (both (eqb c 0x0A) false) (both_left (both (eqb c 0x0A) false) (tidy true cs) (rw e at h)) (both-no (eqb c 0x0A)))
    (λ e. rw e (rw e at h))

good-break : (cs p : List ℕ) (a c : ℕ) → both (both (eqb c 0x0A) (not (is_break a))) (tidy true cs) ≡ true → ((x : ℕ) → tidy (is_break x) cs ≡ true → good x p ≡ true)
    → good a (escape c ++ p) ≡ true
unfolding good allowed is_break escape encode
good-break cs p a c k f =
    let l = both_left (both (eqb c 0x0A) (not (is_break a))) (tidy true cs) k in
    let t = both_right (both (eqb c 0x0A) (not (is_break a))) (tidy true cs) k in
    rw (eqb-true c 0x0A (both_left (eqb c 0x0A) (not (is_break a)) l), both_right (eqb c 0x0A) (not (is_break a)) l) (f 0x0A t)

pub good-woven : {cs p : List ℕ} → Woven cs p → (a : ℕ) → tidy (is_break a) cs ≡ true → good a p ≡ true
unfolding tidy good allowed is_break
good-woven done a h = h
good-woven (char {cs} {p} c w) a h =
    by-test (is_break c) (λ e. good-break cs p a c (rw e at h) (λ x k. good-woven w x k))
    (λ e. good-some p (escape c) a (plain-escape c e) (λ x k. good-woven w x (rw k (rw e at h))))
good-woven (opened {cs} bold w) a h = good-woven w 0x3E (tidy-less (is_break a) cs h)
good-woven (opened {cs} italic w) a h = good-woven w 0x3E (tidy-less (is_break a) cs h)
good-woven (opened {cs} underline w) a h = good-woven w 0x3E (tidy-less (is_break a) cs h)
good-woven (closed {cs} bold w) a h = good-woven w 0x3E (tidy-less (is_break a) cs h)
good-woven (closed {cs} italic w) a h = good-woven w 0x3E (tidy-less (is_break a) cs h)
good-woven (closed {cs} underline w) a h = good-woven w 0x3E (tidy-less (is_break a) cs h)

pub left-is-tidy : (cs : List ℕ) → only_breaks cs ≡ false → tidy true (text_left cs) ≡ true
unfolding text_left
left-is-tidy cs h = left-tidy true cs h
