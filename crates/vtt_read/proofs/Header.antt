-- The byte order mark and the header.
use Prim.Native.Nat.{ℕ, ◌+◌, ◌<◌, ◌≤◌}
use mathlib.Core.Path.{◌≡◌, refl, sym, ap, ap₂, ◌∙◌}
use mathlib.Core.Bool.{true, false}
use mathlib.Core.List.{List, [], ◌∷◌}
use native.Mathlib.Omega.{arith}
use borrow.Author.Tests.{eq-eqb, ne_eqb}
use lib.Dec.{eqb}
use lib.ListN.{length, take, drop, get_or, drop_of_length-le}
use lib.Seq.{drop-cons, take-nil}
use Rattle.base.specs.Choice.{both}
use Rattle.base.proofs.Choice.{either}
use Rattle.base.proofs.Tests.{both-no}
use Rattle.utf8.specs.Strings.{starts_with}
use Rattle.text.specs.Rules.{webvtt}
use Rattle.verdict.specs.Judgement.{refuse, ◌gives◌at◌, ◌then◌}
use Rattle.vtt_lines.specs.Lines.{Line, lines_of, filled, unfilled, blocks_from, some_arrow}
use Rattle.vtt_lines.specs.Cursor.{run, line_at, next_at, PassedTo}
use Rattle.vtt_lines.proofs.Lines.{lines_end, lines_step}
use Rattle.vtt_lines.proofs.Blocks.{blocks-pass}
use Rattle.vtt_blocks.specs.Kinds.{opens}
use Rattle.vtt_blocks.specs.Found.{blocks_at, filled_at, left_at}
use Rattle.vtt_blocks.proofs.Words.{opens-some}
use Rattle.vtt_read.specs.Reading.{judge_blocks, cues_in, mark, unmarked, bad_header, judge_lines, cues_of_lines, judge_file, file_cues}
use Rattle.records_write.specs.Records.{pool_to}
use Rattle.vtt_read.specs.Steps.{Stands}

-- ---- the mark

pub mark-short : (s : List ℕ) → length s < 3 → s ≡ unmarked s
unfolding unmarked starts_with
mark-short [] h = refl
mark-short (a ∷ []) h = rw both-no
mark-short (a ∷ b ∷ []) h = simp both-no
mark-short (a ∷ b ∷ c ∷ s) h = absurd (omega arith)

module _ (s : List ℕ) (h : 3 ≤ length s) where
  mark-at : starts_with mark s ≡ both (eqb (get_or s 0 0) 0xEF) (both (eqb (get_or s 1 0) 0xBB) (both (eqb (get_or s 2 0) 0xBF) true))
  unfolding starts_with
  mark-at =
      let e = drop-cons s 0 0 (omega arith) ∙ ap (λ (x : List ℕ). get_or s 0 0 ∷ x) (drop-cons s 1 0 (omega arith) ∙ ap (λ (x : List ℕ). get_or s 1 0 ∷ x) (drop-cons s 2 0 (omega arith))) in
      ap (starts_with mark) e

  pub other-first : (get_or s 0 0 ≡ 0xEF → ⊥) → s ≡ unmarked s
  unfolding unmarked
  other-first a = rw (mark-at, ne_eqb (get_or s 0 0) 0xEF a)

  pub other-second : (get_or s 1 0 ≡ 0xBB → ⊥) → s ≡ unmarked s
  unfolding unmarked
  other-second b = rw (mark-at, ne_eqb (get_or s 1 0) 0xBB b, both-no)

  pub other-third : (get_or s 2 0 ≡ 0xBF → ⊥) → s ≡ unmarked s
  unfolding unmarked
  other-third c = simp (mark-at, ne_eqb (get_or s 2 0) 0xBF c, both-no)

  pub marked : get_or s 0 0 ≡ 0xEF → get_or s 1 0 ≡ 0xBB → get_or s 2 0 ≡ 0xBF → drop 3 s ≡ unmarked s
  unfolding unmarked
  marked a b c = rw (mark-at, eq-eqb (get_or s 0 0) 0xEF a, eq-eqb (get_or s 1 0) 0xBB b, eq-eqb (get_or s 2 0) 0xBF c)

-- ---- the header

first_of : (a b : Line) (x y : List Line) → a ∷ x ≡ b ∷ y → a ≡ b
first_of a b x y p = cc

bad-lines : (ls : List Line) → ((l : Line) (ms : List Line) → ls ≡ l ∷ ms → opens webvtt l ≡ false) → judge_lines ls ≡ refuse 19 1
unfolding judge_lines bad_header
bad-lines [] h = refl
bad-lines (l ∷ ms) h = rw (h l ms refl)

module _ (s : List ℕ) (start : ℕ) (is : drop start s ≡ unmarked s) where
  lines_are : lines_of (unmarked s) ≡ lines_of (drop start s)
  lines_are = ap lines_of (sym is)

  pub no-webvtt : opens webvtt (line_at s start) ≡ false → judge_file s ≡ refuse 19 1
  unfolding judge_file
  no-webvtt h = ap judge_lines lines_are ∙ bad-lines (lines_of (drop start s)) first
    where
      first : (l : Line) (ms : List Line) → lines_of (drop start s) ≡ l ∷ ms → opens webvtt l ≡ false
      first l ms e =
          either (length s) start
          (λ k. let n : l ∷ ms ≡ [] = sym e ∙ lines_end s start k in absurd (omega (arith, ap length n)))
          (λ k. let q : line_at s start ≡ l = first_of (line_at s start) l _ ms (sym (lines_step s start k) ∙ e) in ap (opens webvtt) (sym q) ∙ h)

  -- the first line opens with the word
  module _ (h : opens webvtt (line_at s start) ≡ true) where
    there : start < length s
    unfolding webvtt line_at
    there =
        either (length s) start
        (λ k. let w = opens-some 0x57 (0x45 ∷ 0x42 ∷ 0x56 ∷ 0x54 ∷ 0x54 ∷ []) (line_at s start) h in
        let e : line_at s start ≡ [] = ap (λ (t : List ℕ). take (run t) t) (drop_of_length-le s k) ∙ take-nil (run []) in absurd (omega (arith, ap length (sym e ∙ w.2))))
        (λ k. k)

    abbrev later : List Line
    later = lines_of (drop (next_at s start) s)

    first_line : lines_of (drop start s) ≡ line_at s start ∷ later
    first_line = lines_step s start there

    split : (filled_at s start ≡ line_at s start ∷ filled later) × (left_at s start ≡ unfilled later)
    unfolding filled unfilled webvtt
    split =
        let w = opens-some 0x57 (0x45 ∷ 0x42 ∷ 0x56 ∷ 0x54 ∷ 0x54 ∷ []) (line_at s start) h in
        let e = first_line ∙ ap (λ (l : Line). l ∷ later) w.2 in
        (ap filled e ∙ ap (λ (l : Line). l ∷ filled later) (sym w.2), ap unfilled e)

    judged : judge_file s ≡ bad_header (line_at s start) later gives 19 at 1 then judge_blocks 0 0 (blocks_from true 2 later)
    unfolding judge_file judge_lines
    judged = ap judge_lines (lines_are ∙ first_line)

    pub header-arrow : some_arrow (filled_at s start) ≡ true → judge_file s ≡ refuse 19 1
    unfolding bad_header
    header-arrow a = judged ∙ rw (h, sym (ap some_arrow split.0) ∙ a)

    pub header-on : (place number : ℕ) → some_arrow (filled_at s start) ≡ false → PassedTo s start 1 place number
        → Stands s (record { at = place; line = number; count = 0; before = 0; size = 0 })
    unfolding bad_header file_cues cues_of_lines pool_to
    header-on place number a p =
        let n : 2 + length (filled later) ≡ number = omega (arith, p.counted, ap length split.0) in
        let left : blocks_from true 2 later ≡ blocks_at s place number = blocks-pass 2 later ∙ ap₂ (blocks_from false) n (sym (p.left ∙ split.1)) in
        record {
          inside = p.within;
          numbered = p.numbered;
          few = omega arith;
          small = omega arith;
          verdict = judged ∙ rw (h, sym (ap some_arrow split.0) ∙ a) (ap (judge_blocks 0 0) left);
          cues = ap cues_in (sym left) ∙ sym (ap cues_of_lines (lines_are ∙ first_line));
          counted = omega arith;
          sized = refl;
        }
