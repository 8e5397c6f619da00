-- The lines with `-->` of a file without fault are the timing lines of its cues, in order.
use Prim.Native.Nat.{ℕ, zero, suc, ◌-◌, ◌<◌}
use mathlib.Core.Path.{◌≡◌, refl, sym, ap, ◌∙◌, subst}
use mathlib.Core.Bool.{Bool, true, false, not}
use mathlib.Core.Option.{Option, some}
use mathlib.Core.List.{List, [], ◌∷◌}
use native.Mathlib.Omega.{arith}
use native.Mathlib.Nat.{add-zero, not-suc-le-zero}
use native.Mathlib.Numerals.{add-one}
use lib.ListN.{length, drop, get_or}
use lib.Seq.{drop-drop, get_or-drop}
use Rattle.base.proofs.Choice.{by-test}
use Rattle.base.proofs.Tests.{one-of-second}
use Rattle.verdict.specs.Verdict.{Fine}
use Rattle.verdict.specs.Judgement.{◌gives◌at◌}
use Rattle.verdict.proofs.Judgement.{both-fine, not-given}
use Rattle.text.specs.Rules.{webvtt}
use Rattle.cues.specs.Caption.{Caption, caption}
use Rattle.vtt_lines.specs.Lines.{Line, lines_of, joined, filled, Block, blocks_from, holds_arrow, some_arrow}
use Rattle.vtt_timing.specs.Timing.{Timing, timing_of}
use Rattle.vtt_blocks.specs.Kinds.{Kind, cue, opens, timed, plain_kind, kind_of}
use Rattle.vtt_blocks.proofs.Blocks.{block, arrow-none, kind-first, kind-second, kind-alone, kind-plain}
use Rattle.vtt_read.specs.Reading.{judge_kind, judge_blocks, cues_in, unmarked, bad_header, judge_lines, cues_of_lines, judge_file, file_cues}
use Rattle.vtt_laws.specs.Arrows.{arrows_from, arrow_lines}
use Rattle.vtt_laws.proofs.Records.{nothing}
use Rattle.vtt_laws.proofs.Arrows.{first-none, rest-none, arrows-yes, arrows-no}
use Rattle.vtt_laws.proofs.Blocks.{judged-cue, judged-plain, judged, behind-cue, behind-note, cues-cue, cues-note}

-- the caption is the cue whose timing line is line t
pub record AtLine (ls : List Line) (t : ℕ) (c : Caption) : Type 0 where
  pub later : 0 < t
  pub timing : Timing
  pub line : timing_of (get_or ls t []) ≡ some timing
  pub start : c.start ≡ timing.start
  pub end : c.end ≡ timing.end
  pub settings : c.settings ≡ timing.settings
  pub identifier : c.identifier ≡ get_or ls (t - 1) []
  pub payload : c.payload ≡ joined (filled (drop (suc t) ls))

-- one by one
abbrev Matched : List Line → List ℕ → List Caption → Type 0
Matched ls [] [] = Unit {0}
Matched ls [] (c ∷ cs) = ⊥
Matched ls (t ∷ ts) [] = ⊥
Matched ls (t ∷ ts) (c ∷ cs) = AtLine ls t c × Matched ls ts cs

module _ (all : List Line) where
  -- lines i and on
  pub line_is : (i : ℕ) (l : Line) (ls : List Line) → drop i all ≡ l ∷ ls → get_or all i [] ≡ l
  line_is i l ls d = ap (λ (k : ℕ). get_or all k []) (sym (add-zero i)) ∙ sym (get_or-drop i all 0 []) ∙ ap (λ (x : List Line). get_or x 0 []) d

  pub left-are : (i : ℕ) (l : Line) (ls : List Line) → drop i all ≡ l ∷ ls → drop (suc i) all ≡ ls
  left-are i l ls d = ap (λ (k : ℕ). drop k all) (sym (add-one i)) ∙ sym (drop-drop 1 i all) ∙ ap (drop 1) d

  -- the lines from i on and their blocks match, within a block or behind an empty line
  abbrev Ends : Bool → ℕ → List Line → Type 0
  Ends inside i ls = Matched all (arrows_from i ls) (cues_in (blocks_from inside (suc i) ls))

  -- and so do those behind a block's first lines
  abbrev Goes : ℕ → List Line → Type 0
  Goes i ls = (k before : ℕ) → some_arrow (filled ls) ≡ false → judge_blocks k before (blocks_from true (suc i) ls) ≡ Fine → Ends true i ls

  -- a block whose timing line is line t, and what is behind that line
  timed-block : (b : Block) (k before t : ℕ) (id l : Line) (left : List Line) → 0 < t → drop t all ≡ l ∷ left → id ≡ get_or all (t - 1) []
      → kind_of b ≡ timed (suc t) id (timing_of l) (filled left) → judge_blocks k before (b ∷ blocks_from true (suc (suc t)) left) ≡ Fine → Goes (suc t) left
      → Matched all (t ∷ arrows_from (suc t) left) (cues_in (b ∷ blocks_from true (suc (suc t)) left))
  timed-block b k before t id l left p d n q e go =
      let bs = blocks_from true (suc (suc t)) left in
      let w = judged-cue b.line k before (suc t) id (timing_of l) (filled left) (subst (λ (x : Kind). judge_kind b.line k before x ≡ Fine) q (judged b bs k before e)) in
      let s = w.0 in
      let c = caption s.start s.end id s.settings (joined (filled left)) in
      let r : kind_of b ≡ cue (suc t) c = q ∙ ap (λ (o : Option Timing). timed (suc t) id o (filled left)) w.1 in
      rw (cues-cue b bs (suc t) c r) (
        record {
          later = p;
          timing = s;
          line = ap timing_of (line_is t l left d) ∙ w.1;
          start = refl;
          end = refl;
          settings = refl;
          identifier = n;
          payload = ap (λ (x : List Line). joined (filled x)) (sym (left-are t l left d));
        },
        go (suc k) s.start w.2 (behind-cue b bs k before e (suc t) c r),
      )

  -- a block without timing line, from line i on
  plain-block : (b : Block) (k before i : ℕ) (l : Line) (left : List Line) → holds_arrow l ≡ false
      → kind_of b ≡ plain_kind l (filled left) → judge_blocks k before (b ∷ blocks_from true (suc (suc i)) left) ≡ Fine → Goes (suc i) left
      → Matched all (arrows_from i (l ∷ left)) (cues_in (b ∷ blocks_from true (suc (suc i)) left))
  plain-block b k before i l left h q e go =
      let bs = blocks_from true (suc (suc i)) left in
      let w = judged-plain b.line k before l (filled left) (subst (λ (x : Kind). judge_kind b.line k before x ≡ Fine) q (judged b bs k before e)) in
      rw (arrows-no i l left h, cues-note b bs (q ∙ w.0)) (go k before (rest-none l (filled left) w.1) (behind-note b bs k before e (q ∙ w.0)))

  ends-none : (inside : Bool) (i : ℕ) → Ends inside i []
  unfolding arrows_from blocks_from cues_in
  ends-none true i = tt
  ends-none false i = tt

  pub before-is : (i : ℕ) (l : Line) (ls : List Line) → drop i all ≡ l ∷ ls → get_or all (suc i - 1) [] ≡ l
  before-is i l ls d = let q : suc i - 1 ≡ i = omega arith in ap (λ (k : ℕ). get_or all k []) q ∙ line_is i l ls d

  -- the lines from i on, behind an empty one
  abbrev Begins : ℕ → List Line → Type 0
  Begins i ls = (k before : ℕ) → get_or all (i - 1) [] ≡ [] → judge_blocks k before (blocks_from false (suc i) ls) ≡ Fine → Ends false i ls

  -- the lines behind the first one
  abbrev others : List Line → List Line
  others [] = []
  others (l ∷ ls) = ls

  block-begins : (i b : ℕ) (l : Line) (ls : List Line) → 0 < i → drop i all ≡ (b ∷ l) ∷ ls → Goes (suc i) ls → Goes (suc (suc i)) (others ls) → Begins i ((b ∷ l) ∷ ls)
  unfolding blocks_from
  block-begins i b l [] p d go far k before h e =
      by-test (holds_arrow (b ∷ l))
      (λ a. rw (arrows-yes i (b ∷ l) [] a) (timed-block (block (suc i) (b ∷ l) []) k before i [] (b ∷ l) [] p d (sym h) (kind-first (suc i) (b ∷ l) [] a) e go))
      (λ a. plain-block (block (suc i) (b ∷ l) []) k before i (b ∷ l) [] a (kind-alone (suc i) (b ∷ l) a) e go)
  block-begins i b l ([] ∷ ls) p d go far k before h e =
      by-test (holds_arrow (b ∷ l))
      (λ a. rw (arrows-yes i (b ∷ l) ([] ∷ ls) a) (timed-block (block (suc i) (b ∷ l) []) k before i [] (b ∷ l) ([] ∷ ls) p d (sym h) (kind-first (suc i) (b ∷ l) [] a) e go))
      (λ a. plain-block (block (suc i) (b ∷ l) []) k before i (b ∷ l) ([] ∷ ls) a (kind-alone (suc i) (b ∷ l) a) e go)
  block-begins i b l ((c ∷ m) ∷ ls) p d go far k before h e =
      let block-is = block (suc i) (b ∷ l) ((c ∷ m) ∷ filled ls) in
      by-test (holds_arrow (b ∷ l))
      (λ a. rw (arrows-yes i (b ∷ l) ((c ∷ m) ∷ ls) a) (timed-block block-is k before i [] (b ∷ l) ((c ∷ m) ∷ ls) p d (sym h) (kind-first (suc i) (b ∷ l) ((c ∷ m) ∷ filled ls) a) e go))
      (λ a. by-test (holds_arrow (c ∷ m))
      (λ f. rw (arrows-no i (b ∷ l) ((c ∷ m) ∷ ls) a, arrows-yes (suc i) (c ∷ m) ls f)
      (timed-block block-is k before (suc i) (b ∷ l) (c ∷ m) ls (omega arith) (left-are i (b ∷ l) ((c ∷ m) ∷ ls) d) (sym (before-is i (b ∷ l) ((c ∷ m) ∷ ls) d))
      (kind-second (suc i) (b ∷ l) (c ∷ m) (filled ls) a f) e far))
      (λ f. plain-block block-is k before i (b ∷ l) ((c ∷ m) ∷ ls) a (kind-plain (suc i) (b ∷ l) (c ∷ m) (filled ls) a f) e go))

  matched : (i : ℕ) (ls : List Line) → 0 < i → drop i all ≡ ls → Begins i ls × Goes i ls × Goes (suc i) (others ls)
  unfolding blocks_from
  matched i [] p d = ((λ k before h e. ends-none false i), (λ k before h e. ends-none true i), λ k before h e. ends-none true (suc i))
  matched i ([] ∷ ls) p d =
      let r = matched (suc i) ls (omega arith) (left-are i [] ls d) in (
        (λ k before h e. rw (arrows-no i [] ls arrow-none) (r.0 k before (before-is i [] ls d) e)),
        (λ k before h e. rw (arrows-no i [] ls arrow-none) (r.0 k before (before-is i [] ls d) e)),
        r.1,
      )
  matched i ((b ∷ l) ∷ ls) p d =
      let r = matched (suc i) ls (omega arith) (left-are i (b ∷ l) ls d) in (
        block-begins i b l ls p d r.1 r.2,
        (λ k before h e. rw (arrows-no i (b ∷ l) ls (first-none (b ∷ l) (filled ls) h)) (r.1 k before (rest-none (b ∷ l) (filled ls) h) e)),
        r.1,
      )

-- ---- the file

lines-matched : (ls : List Line) → judge_lines ls ≡ Fine → Matched ls (arrow_lines ls) (cues_of_lines ls)
unfolding judge_lines cues_of_lines arrow_lines bad_header
lines-matched [] e = let z : ◌≡◌ {A = ℕ} 0 1 = cc in absurd (omega arith)
lines-matched (l ∷ ls) e =
    let a = both-fine (bad_header l ls gives 19 at 1) (judge_blocks 0 0 (blocks_from true 2 ls)) e in
    let n = one-of-second (not (opens webvtt l)) (some_arrow (l ∷ filled ls)) (not-given (bad_header l ls) 19 1 a.0) in
    rw (arrows-no 0 l ls (first-none l (filled ls) n)) ((matched (l ∷ ls) 1 ls (omega arith) refl).1 0 0 (rest-none l (filled ls) n) a.1)

matched-length : (ls : List Line) (ts : List ℕ) (cs : List Caption) → Matched ls ts cs → length ts ≡ length cs
matched-length ls [] [] m = refl
matched-length ls [] (c ∷ cs) m = absurd m
matched-length ls (t ∷ ts) [] m = absurd m
matched-length ls (t ∷ ts) (c ∷ cs) m = ap suc (matched-length ls ts cs m.1)

matched-at : (ls : List Line) (ts : List ℕ) (cs : List Caption) → Matched ls ts cs → (i : ℕ) → i < length cs → AtLine ls (get_or ts i 0) (get_or cs i nothing)
matched-at ls [] [] m i h = absurd (not-suc-le-zero h)
matched-at ls [] (c ∷ cs) m i h = absurd m
matched-at ls (t ∷ ts) [] m i h = absurd m
matched-at ls (t ∷ ts) (c ∷ cs) m zero h = m.0
matched-at ls (t ∷ ts) (c ∷ cs) m (suc i) h = matched-at ls ts cs m.1 i (omega arith)

module _ (file : List ℕ) (e : judge_file file ≡ Fine) where
  file-matched : Matched (lines_of (unmarked file)) (arrow_lines (lines_of (unmarked file))) (file_cues file)
  unfolding judge_file file_cues
  file-matched = lines-matched (lines_of (unmarked file)) e

  pub arrows-many : length (arrow_lines (lines_of (unmarked file))) ≡ length (file_cues file)
  arrows-many = matched-length (lines_of (unmarked file)) (arrow_lines (lines_of (unmarked file))) (file_cues file) file-matched

  pub cue-line : (i : ℕ) → i < length (file_cues file) → AtLine (lines_of (unmarked file)) (get_or (arrow_lines (lines_of (unmarked file))) i 0) (get_or (file_cues file) i nothing)
  cue-line = matched-at (lines_of (unmarked file)) (arrow_lines (lines_of (unmarked file))) (file_cues file) file-matched
