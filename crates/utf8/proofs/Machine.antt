-- Laws of the machine of specs/Machine.antt: runs of it one after the other, past plain bytes, and through the whole text, which is the rule.
use Prim.Native.Nat.{ℕ, zero, suc, ◌+◌, ◌-◌, ◌<◌, ◌≤◌}
use mathlib.Core.Path.{◌≡◌, refl, sym, ap, ◌∙◌, subst}
use mathlib.Core.Logic.{◌⊎◌, inl, inr}
use mathlib.Core.Bool.{Bool, true, false, not}
use mathlib.Core.List.{List, [], ◌∷◌, ◌++◌}
use native.Mathlib.Omega.{arith}
use native.Mathlib.Nat.{add-zero, add-suc, add_assoc, zero-add}
use native.Mathlib.Numerals.{add-one}
use borrow.Author.Tests.{eq-eqb, ne_eqb, ltb-true, ltb-false, lt-ltb, le-ltb, eqb-true, eqb-false, not-true}
use lib.Dec.{eqb, ltb}
use lib.ListN.{length, get_or, take, drop, take-append-drop}
use lib.Seq.{take-suc, take-length, append_snoc}
use Rattle.base.specs.Iter.{iter}
use Rattle.base.proofs.Iter.{iter-begins, iter_turn}
use Rattle.base.specs.Choice.{any_of}
use Rattle.base.proofs.Choice.{by-test, both_left, both_right, true-false}
use Rattle.base.proofs.Tests.{one-of-yes, one-of-first, one-of-second}
use Rattle.ascii.specs.Ascii.{ascii, mark, unmarked, all}
use Rattle.utf8.specs.Utf8.{Range, utf8, judge, begun, class_of}
use Rattle.utf8.specs.Strings.{CR, LF, GREATER, starts_with_any, has_any}
use Rattle.utf8.specs.Forbidden.{forbidden, keeps, keeps_begun}
use Rattle.utf8.specs.Machine.{ends_forbidden, word_table, next, before, step, run, PassedIs, plain, PlainRun, RunWhole}
use Rattle.utf8.specs.Passed.{Passed, To, Bad as Stop}
use Rattle.utf8.specs.declared.Rule.{Rule}
use Rattle.utf8.specs.declared.Rule.TheVariants.{Any, Line, Payload}
use Rattle.utf8.proofs.Ranges.{inside}
use Rattle.utf8.proofs.Classes.{next_small, class-small}
use Rattle.utf8.proofs.States.{Reads, judge-reads, begun-reads, Good, start, turn, dead, end}
use Rattle.utf8.proofs.Windows.{windows-start, windows-ended, windows-turn, other-in-line, other-in-payload}
use Rattle.utf8.proofs.Keeps.{keeps-clean, begun-no-utf8, begun-found, begun-clean, any-is}
use Rattle.utf8.proofs.Begun.{keeps-begun, not-begun}
use Rattle.viable.proofs.FirstBad.{closed, stops-here, stops_end, judged-bad}
use Rattle.viable.specs.Judged.{Bad}
use Rattle.viable.specs.FirstBad.{stops_at, judged_by}

-- the two bytes before, one place on
pub one-before : (s : List ℕ) (i : ℕ) → before 1 s (suc i) ≡ get_or s i 0
unfolding before
one-before s i = let e : suc i - 1 ≡ i = omega arith in rw (le-ltb (suc i) 1 (omega arith), e)

pub two-before : (s : List ℕ) (i : ℕ) → before 2 s (suc i) ≡ before 1 s i
unfolding before
two-before s zero = refl
two-before s (suc i) =
    let e : suc (suc i) - 2 ≡ suc i - 1 = omega arith in
    rw (le-ltb (suc (suc i)) 2 (omega arith), le-ltb (suc i) 1 (omega arith), e)

pub ascii-class : (b : ℕ) → ascii b ≡ true → class_of b ≡ 0
unfolding ascii class_of
ascii-class b h = let l = ltb-true b 128 h in rw (inside 0 127 b (omega arith) (omega arith))

-- no mark: ASCII from a space on, and not `>`
unmarked-is : (b : ℕ) → unmarked GREATER b ≡ true → (0x20 ≤ b) × (b ≤ 0x7F) × (b ≡ GREATER → ⊥)
unfolding unmarked mark
unmarked-is b h =
    let e = not-true (any_of (ltb b 0x20) (any_of (ltb 0x7F b) (eqb b GREATER))) h in
    let f = one-of-second (ltb b 0x20) (any_of (ltb 0x7F b) (eqb b GREATER)) e in
    (ltb-false b 0x20 (one-of-first (ltb b 0x20) (any_of (ltb 0x7F b) (eqb b GREATER)) e), ltb-false 0x7F b (one-of-first (ltb 0x7F b) (eqb b GREATER) f), eqb-false b GREATER (one-of-second (ltb 0x7F b) (eqb b GREATER) f))

unmarked-ascii : (b : ℕ) → unmarked GREATER b ≡ true → ascii b ≡ true
unfolding ascii
unmarked-ascii b h = let u = unmarked-is b h in lt-ltb b 0x80 (omega arith)

plain-ascii : (rule : Rule) (b : ℕ) → plain rule b ≡ true → ascii b ≡ true
unfolding plain
plain-ascii Any b h = h
plain-ascii Line b h = unmarked-ascii b h
plain-ascii Payload b h = unmarked-ascii b h

-- bytes without marks are plain under each rule
all_ascii : (s : List ℕ) (i n : ℕ) → all (unmarked GREATER) s i n ≡ true → all ascii s i n ≡ true
unfolding all iter
all_ascii s i zero h = refl
all_ascii s i (suc n) h =
    let here = unmarked-ascii (get_or s (i + n) 0) (both_right (all (unmarked GREATER) s i n) (unmarked GREATER (get_or s (i + n) 0)) h) in
    let there = all_ascii s i n (both_left (all (unmarked GREATER) s i n) (unmarked GREATER (get_or s (i + n) 0)) h) in
    rw (there, here)

pub unmarked-plain : (rule : Rule) (s : List ℕ) (i n : ℕ) → all (unmarked GREATER) s i n ≡ true → true ≡ all (plain rule) s i n
unfolding plain
unmarked-plain Any s i n h = sym (all_ascii s i n h)
unmarked-plain Line s i n h = sym h
unmarked-plain Payload s i n h = sym h

-- under a rule that forbids strings, plain bytes are the unmarked ones
pub plain-rest : (rule : Rule) → (rule ≡ Any → ⊥) → (s : List ℕ) (i n : ℕ) → all (unmarked GREATER) s i n ≡ all (plain rule) s i n
unfolding plain
plain-rest Any h s i n = absurd (h refl)
plain-rest Line h s i n = refl
plain-rest Payload h s i n = refl

no_end : (p q b : ℕ) → ends_forbidden [] p q b ≡ false
unfolding ends_forbidden starts_with_any
no_end p q b = refl

-- a plain byte ends no forbidden string
plain-ends : (rule : Rule) (b : ℕ) → plain rule b ≡ true → (p q : ℕ) → ends_forbidden (forbidden rule) p q b ≡ false
unfolding plain forbidden
plain-ends Any b h p q = no_end p q b
plain-ends Line b h p q =
    let u = unmarked-is b h in
    sym (other-in-line p q b u.2 (λ e. omega arith)) ∙ rw (ne_eqb b CR (λ e. omega arith), ne_eqb b LF (λ e. omega arith))
plain-ends Payload b h p q =
    let u = unmarked-is b h in
    sym (other-in-payload p q b u.2 (λ e. omega arith) (λ e. omega arith)) ∙ ne_eqb b 0 (λ e. omega arith)

module _ (rule : Rule) (s : List ℕ) where
  -- the byte at i ends a forbidden string
  abbrev pub ends_at : ℕ → Bool
  ends_at i = ends_forbidden (forbidden rule) (before 2 s i) (before 1 s i) (get_or s i 0)

  -- a step: to the next state, or into state 8
  pub step-on : (st i : ℕ) → (st ≡ 8 → ⊥) → ends_at i ≡ false → step rule s st i ≡ next st (class_of (get_or s i 0))
  unfolding step
  step-on st i h e = rw (ne_eqb st 8 h, e)

  pub step-ends : (st i : ℕ) → ends_at i ≡ true → step rule s st i ≡ 8
  unfolding step
  step-ends st i e = rw (e, one-of-yes (eqb st 8))

  pub step-bad : (st i : ℕ) → next st (class_of (get_or s i 0)) ≡ 8 → step rule s st i ≡ 8
  unfolding step
  step-bad st i e = by-test (any_of (eqb st 8) (ends_at i)) (λ t. rw t) (λ t. rw t e)

  step_stays : (st i : ℕ) → st ≡ 8 → step rule s st i ≡ 8
  unfolding step
  step_stays st i e = rw (eq-eqb st 8 e)

  -- one run after another
  pub run-add : (st i m n : ℕ) → run rule s st i (m + n) ≡ run rule s (run rule s st i m) (i + m) n
  unfolding run iter
  run-add st i m zero = rw (add-zero m)
  run-add st i m (suc n) = rw (add-suc, iter, run-add st i m n, add_assoc i m n)

  -- from place i up to `end`, after the bytes before i
  pub run_step : (st st' i end : ℕ) → i ≤ end → st ≡ run rule s 0 0 i → st' ≡ run rule s st i (end - i) → st' ≡ run rule s 0 0 end
  run_step st st' i end h e e' =
      let n : i + (end - i) ≡ end = omega arith in
      let w : run rule s 0 0 (i + (end - i)) ≡ run rule s st i (end - i) = rw (run-add 0 0 i (end - i), zero-add i, ← e) in
      e' ∙ sym w ∙ ap (run rule s 0 0) n

  -- a pass that does not stop
  pub run-passed : (st x from end : ℕ) (r : Passed) → from ≤ end → st ≡ run rule s 0 0 from → PassedIs rule s st from end r → r ≡ To x → (x < 8) × (x ≡ run rule s 0 0 end)
  unfolding PassedIs
  run-passed st x from end r h e told found =
      let w = subst (λ y. PassedIs rule s st from end y) found told in
      (w.0, run_step st x from end h e w.1)

  -- a loop from place `from` that stands at place i
  module _ (st₀ from : ℕ) where
    pub run-begins : st₀ ≡ run rule s st₀ from (from - from)
    unfolding run
    run-begins = iter-begins (λ k x. step rule s x (from + k)) st₀ from

    pub run-turn : (st i : ℕ) → from ≤ i → st ≡ run rule s st₀ from (i - from) → step rule s st i ≡ run rule s st₀ from (i + 1 - from)
    unfolding run
    run-turn st i h e =
        let m : i ≡ from + (i - from) = omega arith in
        iter_turn (λ k x. step rule s x (from + k)) st₀ from i st (step rule s st i) h e (ap (step rule s st) m)

  -- a plain byte keeps state 0
  plain_step : (i : ℕ) → plain rule (get_or s i 0) ≡ true → step rule s 0 i ≡ 0
  unfolding next word_table
  plain_step i h =
      let e = plain-ascii rule (get_or s i 0) h in
      step-on 0 i (λ z. omega arith) (plain-ends rule (get_or s i 0) h (before 2 s i) (before 1 s i)) ∙ ap (next 0) (ascii-class (get_or s i 0) e)

  plain-on : (i n : ℕ) → all (plain rule) s i n ≡ true → run rule s 0 i n ≡ 0
  unfolding run all iter
  plain-on i zero h = refl
  plain-on i (suc n) h =
      let here = both_right (all (plain rule) s i n) (plain rule (get_or s (i + n) 0)) h in
      let there = plain-on i n (both_left (all (plain rule) s i n) (plain rule (get_or s (i + n) 0)) h) in
      rw there (plain_step (i + n) here)

  module _ (bytes : (j : ℕ) → get_or s j 0 < 256) where
    -- after n bytes in state st: whatever follows, the state and the two bytes before decide
    abbrev Lives : ℕ → ℕ → Type 0
    Lives st n =
        (st < 8) × ((f : List ℕ → List Range → Bool) → Reads f → (xs : List ℕ) → f (take n s ++ xs) [] ≡ Good f st xs)
        × (has_any (forbidden rule) (before 2 s n ∷ before 1 s n ∷ []) ≡ false)
        × ((xs : List ℕ) → has_any (forbidden rule) (take n s ++ xs) ≡ has_any (forbidden rule) (before 2 s n ∷ before 1 s n ∷ xs))

    -- or no continuation is right
    abbrev Dead : ℕ → ℕ → Type 0
    Dead st n = (st ≡ 8) × (keeps_begun rule (take n s) ≡ false)

    one_more : (n : ℕ) → n < length s → (xs : List ℕ) → take (suc n) s ++ xs ≡ take n s ++ get_or s n 0 ∷ xs
    one_more n h xs = rw (take-suc s n 0 h) (append_snoc (take n s) (get_or s n 0) xs)

    onward : (st n : ℕ) → n < length s → Lives st n → Lives (step rule s st n) (suc n) ⊎ Dead (step rule s st n) (suc n)
    onward st n h o =
        let p = before 2 s n in
        let q = before 1 s n in
        let b = get_or s n 0 in
        let alive : st ≡ 8 → ⊥ = λ e. omega arith in
        let u : (f : List ℕ → List Range → Bool) → Reads f → (xs : List ℕ) → f (take (suc n) s ++ xs) [] ≡ Good f (next st (class_of b)) xs =
        λ f reads xs. ap (λ (t : List ℕ). f t []) (one_more n h xs) ∙ o.1 f reads (b ∷ xs) ∙ turn f reads st b xs (omega arith) (bytes n) in
        let w : (xs : List ℕ) → has_any (forbidden rule) (take (suc n) s ++ xs) ≡ has_any (forbidden rule) (p ∷ q ∷ b ∷ xs) =
        λ xs. ap (has_any (forbidden rule)) (one_more n h xs) ∙ o.3 (b ∷ xs) in
        by-test (ends_at n)
        (λ e. inr (step-ends st n e, begun-found rule (take (suc n) s) (w [] ∙ windows-ended rule p q b o.2 ∙ e)))
        (λ e. by-test (eqb (next st (class_of b)) 8)
        (λ t.
        let z = eqb-true (next st (class_of b)) 8 t in
        inr (step-bad st n z, begun-no-utf8 rule (take (suc n) s) (u begun begun-reads [] ∙ ap (λ (x : ℕ). Good begun x []) z ∙ dead begun [])))
        (λ t.
        let z = eqb-false (next st (class_of b)) 8 t in
        let l = next_small st (class_of b) (omega arith) (class-small b (bytes n)) in
        let y = windows-turn rule p q b o.2 e in
        inl (rw (step-on st n alive e, two-before s n, one-before s n) (omega arith, u, (y []).0, λ xs. w xs ∙ (y xs).1))))

    stays_dead : (n : ℕ) → n < length s → keeps_begun rule (take n s) ≡ false → keeps_begun rule (take (suc n) s) ≡ false
    stays_dead n h k =
        by-test (keeps_begun rule (take (suc n) s))
        (λ e. true-false (keeps_begun rule (take n s)) (closed (keeps-begun rule) (take n s) (get_or s n 0 ∷ []) (rw (take-suc s n 0 h) at e)) k)
        (λ e. e)

    standing : (n : ℕ) → n ≤ length s → Lives (run rule s 0 0 n) n ⊎ Dead (run rule s 0 0 n) n
    unfolding run iter before
    standing zero h = inl (omega arith, λ f reads xs. start f xs, (windows-start rule []).0, λ xs. (windows-start rule xs).1)
    standing (suc n) h =
        elim (standing n (omega arith)) [
          | inl o ↦ rw (zero-add n) (onward (run rule s 0 0 n) n h o)
          | inr d ↦ inr (step_stays (run rule s 0 0 n) (0 + n) d.0, stays_dead n h d.1)
        ]

    -- the machine lives exactly as long as the bytes are a beginning
    pub run-begun : (n : ℕ) → n ≤ length s → not (eqb (run rule s 0 0 n) 8) ≡ keeps_begun rule (take n s)
    run-begun n h =
        elim (standing n h) [
          | inl o ↦
              (end (run rule s 0 0 n) (omega arith)).1
              ∙ sym (o.1 begun begun-reads [])
              ∙ begun-clean rule (take n s) (o.3 [] ∙ o.2)
          | inr d ↦ rw (eq-eqb (run rule s 0 0 n) 8 d.0) (sym d.1)
        ]

    -- the byte that leads into state 8
    pub run-stops : (st i : ℕ) → i < length s → st < 8 → st ≡ run rule s 0 0 i → 8 ≡ run rule s 0 0 (i + 1) → i ≡ stops_at (keeps_begun rule) s
    run-stops st i h l e z =
        let live : keeps_begun rule (take i s) ≡ true = sym (run-begun i (omega arith)) ∙ rw (← e, ne_eqb st 8 (λ y. omega arith)) in
        let over : keeps_begun rule (take (suc i) s) ≡ false = sym (run-begun (suc i) h) ∙ rw (← add-one i, ← z) in
        sym (stops-here (keeps-begun rule) s i h live over)

    -- a fault in a part of the text
    pub run-bad : (n : ℕ) → n ≤ length s → run rule s 0 0 n ≡ 8 → false ≡ keeps rule s
    run-bad n h e =
        by-test (keeps rule s)
        (λ k. true-false (keeps_begun rule (take n s)) ((keeps-begun rule).begins (take n s) (drop n s) (rw (take-append-drop n s) k)) (sym (run-begun n h) ∙ rw e))
        (λ k. sym k)

    -- so a pass that stops names the first bad byte of the text
    pub run-first : (st from end q : ℕ) (r : Passed) → end ≤ length s → st ≡ run rule s 0 0 from → PassedIs rule s st from end r → r ≡ Stop q → Bad q ≡ judged_by (keeps rule) (keeps_begun rule) s
    unfolding PassedIs
    run-first st from end q r l e told found =
        let h = subst (λ x. PassedIs rule s st from end x) found told in
        let live = run_step st (run rule s st from (q - from)) from q h.0 e refl in
        let over = run_step st 8 from (q + 1) (omega arith) e (sym h.3) in
        judged-bad (keeps rule) (keeps_begun rule) s q (sym (run-bad (q + 1) (omega arith) (sym over))) (run-stops (run rule s st from (q - from)) q (omega arith) h.2 live over)

    -- no byte does
    pub run-ended : (st : ℕ) → st < 8 → st ≡ run rule s 0 0 (length s) → length s ≡ stops_at (keeps_begun rule) s
    run-ended st l e =
        let live : keeps_begun rule s ≡ true = ap (keeps_begun rule) (sym (take-length s)) ∙ sym (run-begun (length s) (omega arith)) ∙ rw (← e, ne_eqb st 8 (λ y. omega arith)) in
        sym (stops_end (keeps-begun rule) s live)

    run_end_lem : eqb (run rule s 0 0 (length s)) 0 ≡ keeps rule s
    run_end_lem =
        elim (standing (length s) (omega arith)) [
          | inl o ↦
              (end (run rule s 0 0 (length s)) (omega arith)).0
              ∙ sym (o.1 judge judge-reads [])
              ∙ keeps-clean rule (take (length s) s) (o.3 [] ∙ o.2)
              ∙ ap (keeps rule) (take-length s)
          | inr d ↦ rw d.0 (sym (not-begun rule s (rw (take-length s) at d).1))
        ]

pub plain_run : PlainRun
plain_run rule s i n h = plain-on rule s i n h

pub run-whole : RunWhole
run-whole rule s bytes = run_end_lem rule s bytes

-- a text of plain bytes
plain-keeps : (rule : Rule) (s : List ℕ) → ((j : ℕ) → get_or s j 0 < 256) → all (plain rule) s 0 (length s) ≡ true → true ≡ keeps rule s
plain-keeps rule s bytes h = sym (eq-eqb (run rule s 0 0 (length s)) 0 (plain_run rule s 0 (length s) h)) ∙ run-whole rule s bytes

-- a text that is ASCII is UTF-8
pub ascii-utf8 : (s : List ℕ) → ((j : ℕ) → get_or s j 0 < 256) → all ascii s 0 (length s) ≡ true → true ≡ utf8 s
unfolding plain
ascii-utf8 s bytes h = plain-keeps Any s bytes h ∙ any-is s

-- a text without marks keeps each rule
pub unmarked-keeps : (rule : Rule) (s : List ℕ) → ((j : ℕ) → get_or s j 0 < 256) → all (unmarked GREATER) s 0 (length s) ≡ true → true ≡ keeps rule s
unmarked-keeps rule s bytes h = plain-keeps rule s bytes (sym (unmarked-plain rule s 0 (length s) h))
