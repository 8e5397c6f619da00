-- Blocks: lines passed up to an empty one, and what joins them.
use Prim.Native.Nat.{ℕ, suc, ◌+◌, ◌-◌, ◌<◌, ◌≤◌}
use mathlib.Core.Path.{◌≡◌, refl, sym, ap, ap₂, ◌∙◌}
use mathlib.Core.Bool.{true, false}
use mathlib.Core.List.{List, [], ◌∷◌, ◌++◌, append_assoc, append-nil}
use native.Mathlib.Omega.{arith}
use native.Mathlib.Nat.{add-zero}
use native.Mathlib.Numerals.{add-one}
use borrow.Author.Tests.{not-true, not-false}
use lib.ListN.{length, take, drop, get_or, drop_of_length-le, length-append, length-drop}
use lib.Seq.{drop-cons}
use Rattle.base.proofs.Choice.{either, true-false}
use Rattle.utf8.specs.Strings.{LF}
use Rattle.vtt_lines.specs.Lines.{Line, line_end, lines_of, joined, filled, unfilled, blocks_from}
use Rattle.vtt_lines.specs.Cursor.{run, end_size, line_at, end_at, next_at, found_at, Ahead, begins_filled, begins_empty, PassedTo}
use Rattle.vtt_lines.specs.declared.Line.{Line as Found}
use Rattle.vtt_lines.proofs.Lines.{lines_end, lines_step, joined-short}
use Rattle.vtt_lines.proofs.Places.{line_is, size-le}

-- a block that goes on is passed
pub blocks-pass : (n : ℕ) (ls : List Line) → blocks_from true n ls ≡ blocks_from false (n + length (filled ls)) (unfilled ls)
unfolding blocks_from filled unfilled
blocks-pass n [] = refl
blocks-pass n ([] ∷ ls) = ap (λ (k : ℕ). blocks_from false (suc k) ls) (sym (add-zero n))
blocks-pass n ((b ∷ l) ∷ ls) = blocks-pass (suc n) ls ∙ ap (λ (k : ℕ). blocks_from false k (unfilled ls)) (omega arith)

-- ---- whether the line at a place is empty

-- one that is not
pub line-filled : (s : List ℕ) (i : ℕ) → begins_filled (drop i s) ≡ true → (i < length s) × (b : ℕ) × (l : Line) × (line_at s i ≡ b ∷ l)
unfolding begins_filled line_at run
line-filled s i h =
    either (length s) i
    (λ k. true-false false (sym (ap begins_filled (drop_of_length-le s k)) ∙ h) refl)
    (λ k. let e = drop-cons s i 0 k in
    let p = not-true (line_end (get_or s i 0)) (sym (ap begins_filled e) ∙ h) in
    (k, get_or s i 0, take (run (drop (suc i) s)) (drop (suc i) s), ap (λ (t : List ℕ). take (run t) t) e ∙ rw p))

-- it is the block's first, and the block goes on behind it
pub filled-step : (s : List ℕ) (i : ℕ) → begins_filled (drop i s) ≡ true
    → (filled (lines_of (drop i s)) ≡ line_at s i ∷ filled (lines_of (drop (next_at s i) s))) × (unfilled (lines_of (drop i s)) ≡ unfilled (lines_of (drop (next_at s i) s)))
unfolding filled unfilled
filled-step s i h =
    let w = line-filled s i h in
    let e = lines_step s i w.0 in
    let ls = lines_of (drop (next_at s i) s) in
    (ap filled e ∙ ap (λ (l : Line). filled (l ∷ ls)) w.3 ∙ ap (λ (l : Line). l ∷ filled ls) (sym w.3), ap unfilled e ∙ ap (λ (l : Line). unfilled (l ∷ ls)) w.3)

-- the same with the line that `line_from` finds
pub filled-found : (s : List ℕ) (i : ℕ) (l : Found) (number : ℕ) → begins_filled (drop i s) ≡ true → l ≡ found_at s i number
    → (filled (lines_of (drop i s)) ≡ take (l.end - i) (drop i s) ∷ filled (lines_of (drop l.next s))) × (0 < length (take (l.end - i) (drop i s)))
filled-found s i l number h e =
    let w = line-filled s i h in
    let v : take (l.end - i) (drop i s) ≡ line_at s i = ap (λ (x : Found). take (x.end - i) (drop i s)) e ∙ line_is s i in
    let n : l.next ≡ next_at s i = ap (λ (x : Found). x.next) e in
    (rw (v, n) (filled-step s i h).0, omega (arith, ap length v, ap length w.3))

-- an empty one, or none
pub filled-stop : (s : List ℕ) (i : ℕ) → begins_filled (drop i s) ≡ false → (filled (lines_of (drop i s)) ≡ []) × (unfilled (lines_of (drop i s)) ≡ lines_of (drop i s))
unfolding filled unfilled begins_filled line_at run
filled-stop s i h =
    either (length s) i
    (λ k. let e = lines_end s i k in rw e (refl, refl))
    (λ k. let d = drop-cons s i 0 k in
    let p = not-false (line_end (get_or s i 0)) (sym (ap begins_filled d) ∙ h) in
    let n : line_at s i ≡ [] = ap (λ (t : List ℕ). take (run t) t) d ∙ rw p in
    let e : lines_of (drop i s) ≡ [] ∷ lines_of (drop (next_at s i) s) = lines_step s i k ∙ ap (λ (l : Line). l ∷ lines_of (drop (next_at s i) s)) n in
    rw e (refl, refl))

-- ---- empty lines passed

module _ (s : List ℕ) (i number : ℕ) (h : begins_empty (drop i s) ≡ true) where
  pub empty-there : i < length s
  unfolding begins_empty
  empty-there = either (length s) i (λ k. true-false false (sym (ap begins_empty (drop_of_length-le s k)) ∙ h) refl) (λ k. k)

  pub empty-step : blocks_from false number (lines_of (drop i s)) ≡ blocks_from false (number + 1) (lines_of (drop (i + end_size (drop i s)) s))
  unfolding begins_empty blocks_from line_at next_at end_at run
  empty-step =
      let d = drop-cons s i 0 empty-there in
      let p : line_end (get_or s i 0) ≡ true = sym (ap begins_empty d) ∙ h in
      let z : run (drop i s) ≡ 0 = ap run d ∙ rw p in
      let e : end_at s i ≡ i = omega (arith, z) in
      let l : line_at s i ≡ [] = ap (λ (n : ℕ). take n (drop i s)) z in
      let n : next_at s i ≡ i + end_size (drop i s) = ap (λ (k : ℕ). k + end_size (drop k s)) e in
      ap (blocks_from false number) (lines_step s i empty-there ∙ ap₂ (λ (x : Line) (k : ℕ). x ∷ lines_of (drop k s)) l n)
      ∙ ap (λ (k : ℕ). blocks_from false k (lines_of (drop (i + end_size (drop i s)) s))) (sym (add-one number))

pub empty-size : (s : List ℕ) (i : ℕ) → i < length s → (1 ≤ end_size (drop i s)) × (i + end_size (drop i s) ≤ length s)
empty-size s i h = (omega (arith, size-le (drop i s), length-drop i s), omega (arith, size-le (drop i s), length-drop i s))

-- ---- lines passed, from the place `at` to the place i

pub record Passing (s : List ℕ) (at line i number : ℕ) : Type 0 where
  pub onward : at ≤ i
  pub within : i ≤ length s
  pub numbered : number ≤ i + 1
  pub counted : number + length (filled (lines_of (drop i s))) ≡ line + length (filled (lines_of (drop at s)))
  pub left : unfilled (lines_of (drop i s)) ≡ unfilled (lines_of (drop at s))

pub passing-start : (s : List ℕ) (at line : ℕ) → at ≤ length s → line ≤ at + 1 → Passing s at line at line
passing-start s at line h k = record { onward = omega arith; within = h; numbered = k; counted = refl; left = refl }

module _ (s : List ℕ) (at line i number : ℕ) (p : Passing s at line i number) where
  pub passing_step : (l : Found) → begins_filled (drop i s) ≡ true → l ≡ found_at s i number → Ahead s i number l → Passing s at line l.next l.number
  passing_step l h e a =
      let w = (line-filled s i h).0 in
      let f = filled-step s i h in
      let n : l.next ≡ next_at s i = ap (λ (x : Found). x.next) e in
      record {
        onward = omega arith;
        within = a.within;
        numbered = omega arith;
        counted = rw n (omega (arith, ap length f.0));
        left = rw n (sym f.1 ∙ p.left);
      }

  pub passing-stop : begins_filled (drop i s) ≡ false → PassedTo s at line i number
  passing-stop h =
      let f = filled-stop s i h in
      record { onward = p.onward; within = p.within; numbered = p.numbered; counted = omega (arith, ap length f.0); left = sym f.1 ∙ p.left }

-- ---- lines joined

-- what further lines add to a text: an LF before each
unfoldable pub added : List Line → List ℕ
added [] = []
added (l ∷ ls) = LF ∷ l ++ added ls

pub joined-added : (l : Line) (ls : List Line) → joined (l ∷ ls) ≡ l ++ added ls
unfolding joined added
joined-added l [] = sym (append-nil l)
joined-added l (m ∷ ls) = ap (λ (x : List ℕ). l ++ LF ∷ x) (joined-added m ls)

-- one more line, behind the text t
pub added-line : (t : List ℕ) (b : ℕ) (l : Line) (ls : List Line) → t ++ added (filled ((b ∷ l) ∷ ls)) ≡ (t ++ LF ∷ b ∷ l) ++ added (filled ls)
unfolding added filled
added-line t b l ls = sym (append_assoc t (LF ∷ b ∷ l) (added (filled ls)))

pub added-stop : (t : List ℕ) (ls : List Line) → t ++ added (filled ([] ∷ ls)) ≡ t
unfolding added filled
added-stop t ls = append-nil t

added-filled : (ls : List Line) → length (added (filled ls)) ≤ length (added ls)
unfolding added filled
added-filled [] = omega arith
added-filled ([] ∷ ls) = omega arith
added-filled ((b ∷ l) ∷ ls) = omega (arith, length-append l (added (filled ls)), length-append l (added ls), added-filled ls)

joined-filled : (ls : List Line) → length (joined (filled ls)) ≤ length (joined ls)
unfolding joined filled
joined-filled [] = omega arith
joined-filled ([] ∷ ls) = omega arith
joined-filled ((b ∷ l) ∷ ls) =
    omega (arith, ap length (joined-added (b ∷ l) (filled ls)), ap length (joined-added (b ∷ l) ls), length-append l (added (filled ls)), length-append l (added ls), added-filled ls)

-- a block's lines, joined, are no longer than the text
pub gathered-short : (s : List ℕ) (at : ℕ) → length (joined (filled (lines_of (drop at s)))) ≤ length s
gathered-short s at = omega (arith, joined-filled (lines_of (drop at s)), joined-short (drop at s), length-drop at s)
