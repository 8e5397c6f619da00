-- Where a file is refused: at one of its lines, by one of six numbers; by 6 at the timing line of a cue, for its texts.
use Prim.Native.Nat.{ℕ, suc, ◌-◌, ◌≤◌, ◌<◌, max}
use mathlib.Core.Path.{◌≡◌, refl, sym, ap, ap₂, ◌∙◌, subst, subst⁻¹}
use mathlib.Core.Logic.{◌⊎◌, inl, inr, ⊎_elim}
use mathlib.Core.Bool.{Bool, true, false, not}
use mathlib.Core.Option.{Option, none, some}
use mathlib.Core.List.{List, [], ◌∷◌, Memᴰ}
use native.Mathlib.Omega.{arith}
use lib.Dec.{leb, ltb}
use lib.ListN.{length, drop, get_or, length-drop}
use Rattle.base.specs.Choice.{pick, both, any_of}
use Rattle.base.proofs.Choice.{by-test, true-false}
use Rattle.viable.specs.Judged.{Judged, Right, Bad}
use Rattle.viable.specs.FirstBad.{judged_by}
use Rattle.verdict.specs.declared.Refusal.{Refusal}
use Rattle.verdict.specs.Verdict.{Verdict, Fine, Refused}
use Rattle.verdict.specs.Judgement.{fault, bad_text, ◌gives◌at◌, text_at, ◌then◌}
use Rattle.text.specs.Rules.{identifier_text, payload_text}
use Rattle.text.specs.Beginnings.{identifier_begun, payload_begun}
use Rattle.cues.specs.Caption.{caption, long_texts, judge_texts, bad_times, judge_content, judge_caption}
use Rattle.vtt_lines.specs.Lines.{Line, lines_of, joined, filled, blocks_from, holds_arrow, some_arrow}
use Rattle.vtt_timing.specs.Timing.{Timing, timing_of}
use Rattle.vtt_blocks.specs.Kinds.{Kind, note, style, other, NOTE, STYLE, REGION, opens, names, timed, plain_kind, kind_of}
use Rattle.vtt_blocks.proofs.Blocks.{block, kind-first, kind-second, kind-alone, kind-plain}
use Rattle.vtt_read.specs.Reading.{judge_kind, count_after, start_after, judge_blocks, unmarked, bad_header, judge_lines, judge_file}
use Rattle.vtt_laws.proofs.Lines.{line_is, left-are, before-is}

-- the numbers but 6
abbrev pub numbers : List ℕ
numbers = 9 ∷ 10 ∷ 11 ∷ 18 ∷ 19 ∷ []

is-9 : Memᴰ 9 numbers
is-9 = Memᴰ.head refl

is-10 : Memᴰ 10 numbers
is-10 = Memᴰ.tail (Memᴰ.head refl)

is-11 : Memᴰ 11 numbers
is-11 = Memᴰ.tail (Memᴰ.tail (Memᴰ.head refl))

is-18 : Memᴰ 18 numbers
is-18 = Memᴰ.tail (Memᴰ.tail (Memᴰ.tail (Memᴰ.head refl)))

is-19 : Memᴰ 19 numbers
is-19 = Memᴰ.tail (Memᴰ.tail (Memᴰ.tail (Memᴰ.tail (Memᴰ.head refl))))

-- by 6: its place is that of a timing line, and the texts of that line's cue are refused by it
pub record BadCue (ls : List Line) (w : Refusal) : Type 0 where
  pub number : w.number ≡ 6
  pub later : 1 < w.place
  pub timing : Timing
  pub line : timing_of (get_or ls (w.place - 1) []) ≡ some timing
  pub texts : judge_texts (get_or ls (w.place - 2) []) timing.settings (joined (filled (drop w.place ls))) w.place ≡ Refused w

-- by another number, with no offset; or by 6
abbrev pub Why : List Line → Refusal → Type 0
Why ls w = (Memᴰ w.number numbers × (w.offset ≡ 0)) ⊎ BadCue ls w

module _ (all : List Line) where
  -- no refusal, or one at a line
  abbrev Placed : Verdict → Type 0
  Placed Fine = Unit {0}
  Placed (Refused w) = (1 ≤ w.place) × (w.place ≤ max 1 (length all)) × Why all w

  then-placed : (v w : Verdict) → Placed v → Placed w → Placed (v then w)
  then-placed Fine w a b = b
  then-placed (Refused r) w a b = a

  module _ (p : ℕ) (h : 1 ≤ p) (k : p ≤ max 1 (length all)) where
    gives-placed : (t : Bool) (n : ℕ) → Memᴰ n numbers → Placed (t gives n at p)
    unfolding fault
    gives-placed true n m = (h, k, inl (m, refl))
    gives-placed false n m = tt

    -- the cue whose timing line is line p
    module _ (later : 1 < p) (s : Timing) (is : timing_of (get_or all (p - 1) []) ≡ some s) where
      texts-placed : (i j t : Judged) → judge_texts (get_or all (p - 2) []) s.settings (joined (filled (drop p all))) p ≡ text_at p i then text_at p j then text_at p t
          → Placed (text_at p i then text_at p j then text_at p t)
      unfolding bad_text
      texts-placed (Bad q) j t e = (h, k, inr (record { number = refl; later = later; timing = s; line = is; texts = e }))
      texts-placed Right (Bad q) t e = (h, k, inr (record { number = refl; later = later; timing = s; line = is; texts = e }))
      texts-placed Right Right (Bad q) e = (h, k, inr (record { number = refl; later = later; timing = s; line = is; texts = e }))
      texts-placed Right Right Right e = tt

      caption-placed : (before : ℕ) → Placed (judge_caption 1000 359999999 before (caption s.start s.end (get_or all (p - 2) []) s.settings (joined (filled (drop p all)))) p)
      unfolding judge_caption judge_content judge_texts
      caption-placed before =
          let i = judged_by identifier_text identifier_begun (get_or all (p - 2) []) in
          let j = judged_by identifier_text identifier_begun s.settings in
          let t = judged_by payload_text payload_begun (joined (filled (drop p all))) in
          let l = long_texts (length (get_or all (p - 2) [])) (length s.settings) (length (joined (filled (drop p all)))) in
          let x = bad_times 1000 359999999 s.start s.end in
          let y = ltb s.start before in
          then-placed (l gives 9 at p) _ (gives-placed l 9 is-9)
          (then-placed (text_at p i then text_at p j then text_at p t) (x gives 10 at p then y gives 11 at p) (texts-placed i j t refl)
          (then-placed (x gives 10 at p) (y gives 11 at p) (gives-placed x 10 is-10) (gives-placed y 11 is-11)))

  -- ---- a block

  -- the kind of a block whose timing line is line t
  abbrev timed_at : ℕ → Kind
  timed_at t = timed t (get_or all (t - 2) []) (timing_of (get_or all (t - 1) [])) (filled (drop t all))

  timed-placed : (n k before t : ℕ) → 1 < t → t ≤ max 1 (length all) → Placed (judge_kind n k before (timed_at t))
  unfolding judge_kind
  timed-placed n k before t a b = go (timing_of (get_or all (t - 1) [])) refl
    where
      go : (o : Option Timing) → timing_of (get_or all (t - 1) []) ≡ o → Placed (judge_kind n k before (timed t (get_or all (t - 2) []) o (filled (drop t all))))
      go none e = gives-placed t (omega arith) b true 19 is-19
      go (some s) e = then-placed (leb 1024 k gives 9 at t) _ (gives-placed t (omega arith) b (leb 1024 k) 9 is-9) (caption-placed t (omega arith) b a s e before)

  plain-placed : (n k before : ℕ) (l : Line) (ls : List Line) → 1 ≤ n → n ≤ max 1 (length all) → Placed (judge_kind n k before (plain_kind l ls))
  unfolding plain_kind judge_kind
  plain-placed n k before l ls a b = chosen (any_of (names STYLE l) (names REGION l)) (both (opens NOTE l) (not (some_arrow (l ∷ ls))))
    where
      chosen : (x y : Bool) → Placed (judge_kind n k before (pick x style (pick y note other)))
      chosen true y = gives-placed n a b true 18 is-18
      chosen false true = tt
      chosen false false = gives-placed n a b true 19 is-19

  timed-is : (t : ℕ) (id l : Line) (ls : List Line) → get_or all (t - 2) [] ≡ id → get_or all (t - 1) [] ≡ l → drop t all ≡ ls → timed_at t ≡ timed t id (timing_of l) (filled ls)
  timed-is t id l ls a b c =
      ap (λ (x : Line). timed t x (timing_of (get_or all (t - 1) [])) (filled (drop t all))) a ∙ ap₂ (λ (x : Line) (xs : List Line). timed t id (timing_of x) (filled xs)) b c

  there : (i : ℕ) (l : Line) (ls : List Line) → drop i all ≡ l ∷ ls → i < length all
  there i l ls d = omega (arith, length-drop i all, ap length d)

  -- one that begins at line i + 1, behind an empty line
  module _ (k before i : ℕ) (l : Line) (later : 0 < i) (empty : get_or all (i - 1) [] ≡ []) where
    of-kind : (ls : List Line) (K : Kind) → kind_of (block (suc i) l ls) ≡ K → Placed (judge_kind (suc i) k before K) → Placed (judge_kind (suc i) k before (kind_of (block (suc i) l ls)))
    of-kind ls K q m = subst⁻¹ (λ (x : Kind). Placed (judge_kind (suc i) k before x)) q m

    first-placed : (ls : List Line) → drop i all ≡ l ∷ ls → holds_arrow l ≡ true → Placed (judge_kind (suc i) k before (kind_of (block (suc i) l (filled ls))))
    first-placed ls d a =
        let q : suc i - 2 ≡ i - 1 = omega arith in
        of-kind (filled ls) (timed_at (suc i))
        (kind-first (suc i) l (filled ls) a ∙ sym (timed-is (suc i) [] l ls (ap (λ (j : ℕ). get_or all j []) q ∙ empty) (before-is all i l ls d) (left-are all i l ls d)))
        (timed-placed (suc i) k before (suc i) (omega arith) (omega (arith, there i l ls d)))

    alone-placed : (ls : List Line) → drop i all ≡ l ∷ ls → holds_arrow l ≡ false → Placed (judge_kind (suc i) k before (kind_of (block (suc i) l [])))
    alone-placed ls d a = of-kind [] _ (kind-alone (suc i) l a) (plain-placed (suc i) k before l [] (omega arith) (omega (arith, there i l ls d)))

    second-placed : (m : Line) (ls : List Line) → drop i all ≡ l ∷ m ∷ ls → holds_arrow l ≡ false → Placed (judge_kind (suc i) k before (kind_of (block (suc i) l (m ∷ filled ls))))
    second-placed m ls d a =
        let e = left-are all i l (m ∷ ls) d in
        let q : suc (suc i) - 2 ≡ i = omega arith in
        by-test (holds_arrow m)
        (λ f. of-kind (m ∷ filled ls) (timed_at (suc (suc i)))
        (kind-second (suc i) l m (filled ls) a f
        ∙ sym (timed-is (suc (suc i)) l m ls (ap (λ (j : ℕ). get_or all j []) q ∙ line_is all i l (m ∷ ls) d) (before-is all (suc i) m ls e) (left-are all (suc i) m ls e)))
        (timed-placed (suc i) k before (suc (suc i)) (omega arith) (omega (arith, there (suc i) m ls e))))
        (λ f. of-kind (m ∷ filled ls) _ (kind-plain (suc i) l m (filled ls) a f) (plain-placed (suc i) k before l (m ∷ filled ls) (omega arith) (omega (arith, there i l (m ∷ ls) d))))

    block-placed : (ls : List Line) → drop i all ≡ l ∷ ls → Placed (judge_kind (suc i) k before (kind_of (block (suc i) l (filled ls))))
    unfolding filled
    block-placed [] d = by-test (holds_arrow l) (first-placed [] d) (alone-placed [] d)
    block-placed ([] ∷ ls) d = by-test (holds_arrow l) (first-placed ([] ∷ ls) d) (alone-placed ([] ∷ ls) d)
    block-placed ((c ∷ m) ∷ ls) d = by-test (holds_arrow l) (first-placed ((c ∷ m) ∷ ls) d) (second-placed (c ∷ m) ls d)

  -- ---- the blocks

  blocks-placed : (ls : List Line) (inside : Bool) (i k before : ℕ) → 0 < i → drop i all ≡ ls → (inside ≡ false → get_or all (i - 1) [] ≡ []) → Placed (judge_blocks k before (blocks_from inside (suc i) ls))
  unfolding blocks_from judge_blocks
  blocks-placed [] inside i k before p d h = tt
  blocks-placed ([] ∷ ls) inside i k before p d h = blocks-placed ls false (suc i) k before (omega arith) (left-are all i [] ls d) (λ e. before-is all i [] ls d)
  blocks-placed ((b ∷ l) ∷ ls) true i k before p d h = blocks-placed ls true (suc i) k before (omega arith) (left-are all i (b ∷ l) ls d) (true-false true refl)
  blocks-placed ((b ∷ l) ∷ ls) false i k before p d h =
      let K = kind_of (block (suc i) (b ∷ l) (filled ls)) in
      then-placed (judge_kind (suc i) k before K) (judge_blocks (count_after k K) (start_after before K) (blocks_from true (suc (suc i)) ls))
      (block-placed k before i (b ∷ l) p (h refl) ls d)
      (blocks-placed ls true (suc i) (count_after k K) (start_after before K) (omega arith) (left-are all i (b ∷ l) ls d) (true-false true refl))

-- ---- the file

lines-placed : (ls : List Line) → Placed ls (judge_lines ls)
unfolding judge_lines
lines-placed [] = gives-placed [] 1 (omega arith) (omega arith) true 19 is-19
lines-placed (l ∷ ls) =
    then-placed (l ∷ ls) (bad_header l ls gives 19 at 1) (judge_blocks 0 0 (blocks_from true 2 ls))
    (gives-placed (l ∷ ls) 1 (omega arith) (omega arith) (bad_header l ls) 19 is-19)
    (blocks-placed (l ∷ ls) ls true 1 0 0 (omega arith) refl (true-false true refl))

module _ (file : List ℕ) (w : Refusal) (e : judge_file file ≡ Refused w) where
  placed : Placed (lines_of (unmarked file)) (Refused w)
  unfolding judge_file
  placed = subst (Placed (lines_of (unmarked file))) e (lines-placed (lines_of (unmarked file)))

  pub refused_why : Why (lines_of (unmarked file)) w
  refused_why = placed.2

  pub refused-line : (1 ≤ w.place) × (w.place ≤ max 1 (length (lines_of (unmarked file)))) × Memᴰ w.number (6 ∷ 9 ∷ 10 ∷ 11 ∷ 18 ∷ 19 ∷ [])
  refused-line = (placed.0, placed.1, ⊎_elim (λ m. Memᴰ.tail m.0) (λ b. Memᴰ.head b.number) refused_why)
