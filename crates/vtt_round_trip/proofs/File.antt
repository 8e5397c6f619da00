-- The file that is written: its lines, its blocks, and what is read of them.
use Prim.Native.Nat.{ℕ, suc, ◌+◌, ◌<◌, ◌≤◌}
use mathlib.Core.Path.{◌≡◌, refl, sym, ap, ap₂, ◌∙◌, subst, subst⁻¹}
use mathlib.Core.Bool.{true, false, not}
use mathlib.Core.Option.{Option}
use mathlib.Core.List.{List, [], ◌∷◌, ◌++◌, map, append_assoc, append-nil}
use native.Mathlib.Omega.{arith}
use borrow.Author.Tests.{lt-leb, ne_eqb, eqb-true, not-true}
use lib.Dec.{eqb}
use lib.ListN.{length}
use Rattle.base.specs.Choice.{both}
use Rattle.base.proofs.Choice.{both_left, both_right, true-false}
use Rattle.utf8.specs.Strings.{LF, starts_with, ends_line}
use Rattle.utf8.specs.Utf8.{utf8}
use Rattle.text.specs.Rules.{webvtt, configuration_text}
use Rattle.verdict.specs.Verdict.{Fine}
use Rattle.cues.specs.Caption.{Caption, caption, SoundCaption}
use Rattle.cues.proofs.Sound.{caption-fine-iff}
use Rattle.vtt_lines.specs.Lines.{Line, lines_of, joined, Block, blocks_from, holds_arrow, some_arrow}
use Rattle.vtt_timing.specs.Timing.{Timing, timing_of}
use Rattle.vtt_blocks.specs.Kinds.{cue, opens, timed, kind_of}
use Rattle.vtt_blocks.proofs.Blocks.{block, kind-first, kind-second}
use Rattle.vtt_read.specs.Reading.{judge_kind, judge_blocks, cues_in, unmarked, bad_header, judge_lines, cues_of_lines, judge_file, file_cues}
use Rattle.vtt_write.specs.Writing.{line_text, timing_text, cue_text, file_of}
use Rattle.vtt_laws.proofs.Sound.{Sounds}
use Rattle.vtt_laws.proofs.Blocks.{cues-cue}
use Rattle.vtt_round_trip.specs.Premises.{first_of, Header}
use Rattle.vtt_round_trip.proofs.Lines.{Filled, line_of, lines-lf, lines-some, lines-break, lines-text, one_line, ends-none, filled_is, lines-no-arrow}
use Rattle.vtt_round_trip.proofs.Blocks.{filled-stop, filled-tail, pass-stop, block-next, block_last}
use Rattle.vtt_round_trip.proofs.Timing.{timing-read, timing-arrow, timing-in-line, timing-some}
use Rattle.vtt_round_trip.proofs.Writable.{Writable, Writables}

-- ---- lines

-- the lines of a cue
abbrev cue_lines : Caption → List Line
cue_lines c = line_of c.identifier ++ timing_text c ∷ lines_of c.payload

-- of cues, an empty line between
abbrev cues_lines : List Caption → List Line
cues_lines [] = []
cues_lines (c ∷ []) = cue_lines c
cues_lines (c ∷ d ∷ cs) = cue_lines c ++ [] ∷ cues_lines (d ∷ cs)

line-of : (s : List ℕ) (x : ℕ) (r : List ℕ) → s ≡ x ∷ r → line_of s ≡ s ∷ []
line-of s x r e = ap line_of e ∙ ap (λ (l : Line). l ∷ []) (sym e)

cue-lines : (c : Caption) → Writable c → (r : List ℕ) → lines_of (cue_text c ++ r) ≡ cue_lines c ++ lines_of r
unfolding cue_text
cue-lines c w r =
    let t = timing-in-line c w.settings-in in
    let x = timing-some c in
    let p = line_text c.payload ++ r in
    ap lines_of (append_assoc (line_text c.identifier) (line_text (timing_text c) ++ line_text c.payload) r
    ∙ ap (λ (s : List ℕ). line_text c.identifier ++ s) (append_assoc (line_text (timing_text c)) (line_text c.payload) r))
    ∙ lines-text c.identifier (line_text (timing_text c) ++ p) (ends-none c.identifier w.identifier-in)
    ∙ ap₂ (λ (a b : List Line). a ++ b) (one_line c.identifier w.identifier-in)
    (lines-text (timing_text c) p (ends-none (timing_text c) t)
    ∙ ap₂ (λ (a b : List Line). a ++ b) (one_line (timing_text c) t ∙ line-of (timing_text c) x.0 x.1 x.2) (lines-text c.payload r w.payload-end))
    ∙ sym (append_assoc (line_of c.identifier) (timing_text c ∷ lines_of c.payload) (lines_of r))

cues-lines : (cs : List Caption) → Writables cs → lines_of (joined (map cue_text cs)) ≡ cues_lines cs
unfolding joined lines_of
cues-lines [] w = refl
cues-lines (c ∷ []) w = ap lines_of (sym (append-nil (cue_text c))) ∙ cue-lines c w.0 [] ∙ append-nil (cue_lines c)
cues-lines (c ∷ d ∷ cs) w =
    let r = joined (map cue_text (d ∷ cs)) in
    cue-lines c w.0 (LF ∷ r) ∙ ap (λ (x : List Line). cue_lines c ++ x) (lines-lf r ∙ ap (λ (x : List Line). [] ∷ x) (cues-lines (d ∷ cs) w.1))

-- ---- blocks

-- the block of a cue with identifier i, and the number of its timing line
abbrev block_of : ℕ → Caption → List ℕ → Block
block_of n c [] = block n (timing_text c) (lines_of c.payload)
block_of n c (b ∷ i) = block n (b ∷ i) (timing_text c ∷ lines_of c.payload)

abbrev timing_line : ℕ → List ℕ → ℕ
timing_line n [] = n
timing_line n (b ∷ i) = suc n

timing-filled : (c : Caption) → Writable c → Filled (timing_text c ∷ lines_of c.payload)
timing-filled c w = let x = timing-some c in subst⁻¹ (λ (l : Line). Filled (l ∷ lines_of c.payload)) x.2 w.payload-filled

cue-last : (c : Caption) → Writable c → (n : ℕ) (i : List ℕ) → blocks_from false n (line_of i ++ timing_text c ∷ lines_of c.payload) ≡ block_of n c i ∷ []
cue-last c w n [] = block_last n (timing_text c) (lines_of c.payload) (timing-filled c w)
cue-last c w n (b ∷ i) = block_last n (b ∷ i) (timing_text c ∷ lines_of c.payload) (timing-filled c w)

cue-next : (c : Caption) → Writable c → (n : ℕ) (i : List ℕ) (m : List Line)
    → blocks_from false n (line_of i ++ timing_text c ∷ lines_of c.payload ++ [] ∷ m)
    ≡ block_of n c i ∷ blocks_from false (suc (n + length (line_of i ++ timing_text c ∷ lines_of c.payload))) m
cue-next c w n [] m =
    block-next n (timing_text c) (lines_of c.payload) m (timing-filled c w) ∙ ap (λ (k : ℕ). block_of n c [] ∷ blocks_from false k m) (omega arith)
cue-next c w n (b ∷ i) m =
    block-next n (b ∷ i) (timing_text c ∷ lines_of c.payload) m (timing-filled c w) ∙ ap (λ (k : ℕ). block_of n c (b ∷ i) ∷ blocks_from false k m) (omega arith)

-- it is the cue that was written
timed-is : (c : Caption) → Writable c → (n : ℕ) (i : List ℕ) → c.identifier ≡ i → timed n i (timing_of (timing_text c)) (lines_of c.payload) ≡ cue n c
timed-is c w n i e =
    ap (λ (o : Option Timing). timed n i o (lines_of c.payload)) (timing-read c w.start-most w.end-most w.settings_begin w.settings_end)
    ∙ ap₂ (λ (x y : List ℕ). cue n (caption c.start c.end x c.settings y)) (sym e) w.payload-joins

kind_is : (c : Caption) → Writable c → (n : ℕ) (i : List ℕ) → c.identifier ≡ i → kind_of (block_of n c i) ≡ cue (timing_line n i) c
kind_is c w n [] e = kind-first n (timing_text c) (lines_of c.payload) (timing-arrow c) ∙ timed-is c w n [] e
kind_is c w n (b ∷ i) e =
    kind-second n (b ∷ i) (timing_text c) (lines_of c.payload) (ap holds_arrow (sym e) ∙ w.identifier-arrow) (timing-arrow c) ∙ timed-is c w (suc n) (b ∷ i) e

-- ---- judgement and cues

judge-step : (k before t : ℕ) (c : Caption) (b : Block) (bs : List Block) → kind_of b ≡ cue t c → SoundCaption 1000 359999999 before c → k < 1024
    → judge_blocks (suc k) c.start bs ≡ Fine → judge_blocks k before (b ∷ bs) ≡ Fine
unfolding judge_blocks judge_kind
judge-step k before t c b bs e s l r = rw (e, lt-leb 1024 k l, (caption-fine-iff 1000 359999999 before t c).1 s) r

judge-none : (k before : ℕ) → judge_blocks k before [] ≡ Fine
unfolding judge_blocks
judge-none k before = refl

cues-none : cues_in [] ≡ []
unfolding cues_in
cues-none = refl

-- reading the lines of cues gives the cues
reads : (cs : List Caption) (k before n : ℕ) → Writables cs → Sounds before cs → k + length cs ≤ 1024
    → (judge_blocks k before (blocks_from false n (cues_lines cs)) ≡ Fine) × (cues_in (blocks_from false n (cues_lines cs)) ≡ cs)
unfolding blocks_from
reads [] k before n w s l = (judge-none k before, cues-none)
reads (c ∷ []) k before n w s l =
    let t = timing_line n c.identifier in
    let b = block_of n c c.identifier in
    let e = cue-last c w.0 n c.identifier in
    let q = kind_is c w.0 n c.identifier refl in (
      ap (judge_blocks k before) e ∙ judge-step k before t c b [] q s.0 (omega arith) (judge-none (suc k) c.start),
      ap cues_in e ∙ cues-cue b [] t c q ∙ ap (λ (x : List Caption). c ∷ x) cues-none,
    )
reads (c ∷ d ∷ cs) k before n w s l =
    let t = timing_line n c.identifier in
    let b = block_of n c c.identifier in
    let m = suc (n + length (cue_lines c)) in
    let bs = blocks_from false m (cues_lines (d ∷ cs)) in
    let e = cue-next c w.0 n c.identifier (cues_lines (d ∷ cs)) in
    let q = kind_is c w.0 n c.identifier refl in
    let r = reads (d ∷ cs) (suc k) c.start m w.1 s.1 (omega arith) in (
      ap (judge_blocks k before) e ∙ judge-step k before t c b bs q s.0 (omega arith) r.0,
      ap cues_in e ∙ cues-cue b bs t c q ∙ ap (λ (x : List Caption). c ∷ x) r.1,
    )

-- ---- the whole file

configuration-parts : (s : List ℕ) → configuration_text s ≡ true → (starts_with webvtt s ≡ true) × (ends_line s ≡ false)
unfolding configuration_text
configuration-parts s h =
    let r = both_right (starts_with webvtt s) (both (not (ends_line s)) (utf8 s)) h in
    (both_left (starts_with webvtt s) (both (not (ends_line s)) (utf8 s)) h, not-true (ends_line s) (both_left (not (ends_line s)) (utf8 s) r))

none-starts : starts_with webvtt [] ≡ false
unfolding starts_with webvtt
none-starts = refl

-- no byte order mark stands before `WEBVTT`
no-mark : (s r : List ℕ) → starts_with webvtt s ≡ true → unmarked (s ++ r) ≡ s ++ r
unfolding unmarked starts_with webvtt
no-mark [] r h = true-false false h refl
no-mark (b ∷ s) r h =
    let e = eqb-true b 0x57 (both_left (eqb b 0x57) (starts_with (0x45 ∷ 0x42 ∷ 0x56 ∷ 0x54 ∷ 0x54 ∷ []) s) h) in
    rw (ne_eqb b 0xEF (omega arith))

file-unmarked : (s : List ℕ) (cs : List Caption) → configuration_text s ≡ true → unmarked (file_of s cs) ≡ file_of s cs
unfolding file_of
file-unmarked s cs h = no-mark s (LF ∷ LF ∷ joined (map cue_text cs)) (configuration-parts s h).0

file-lines : (s : List ℕ) (cs : List Caption) → configuration_text s ≡ true → Writables cs → lines_of (file_of s cs) ≡ lines_of s ++ [] ∷ cues_lines cs
unfolding file_of
file-lines [] cs h w = true-false (starts_with webvtt []) (configuration-parts [] h).0 none-starts
file-lines (b ∷ s) cs h w =
    lines-break b s (LF ∷ joined (map cue_text cs)) (configuration-parts (b ∷ s) h).1
    ∙ ap (λ (x : List Line). lines_of (b ∷ s) ++ x) (lines-lf (joined (map cue_text cs)) ∙ ap (λ (x : List Line). [] ∷ x) (cues-lines cs w))

-- behind the header the blocks begin
header-passed : (l : Line) (ls m : List Line) → opens webvtt l ≡ true → some_arrow (l ∷ ls) ≡ false → Filled ls
    → (judge_lines ((l ∷ ls) ++ [] ∷ m) ≡ judge_blocks 0 0 (blocks_from false (suc (2 + length ls)) m))
    × (cues_of_lines ((l ∷ ls) ++ [] ∷ m) ≡ cues_in (blocks_from false (suc (2 + length ls)) m))
unfolding judge_lines bad_header cues_of_lines
header-passed l ls m o a f =
    let p = pass-stop 2 ls m f in
    (rw (o, filled-stop ls m f, a, p), ap cues_in p)

pub file-reads : (s : List ℕ) (cs : List Caption) → configuration_text s ≡ true → Header s → Writables cs → Sounds 0 cs → length cs ≤ 1024
    → (judge_file (file_of s cs) ≡ Fine) × (file_cues (file_of s cs) ≡ cs)
unfolding judge_file file_cues
file-reads [] cs h p w so l = true-false (starts_with webvtt []) (configuration-parts [] h).0 none-starts
file-reads (b ∷ s) cs h p w so l =
    let x = lines-some b s in
    let e : lines_of (unmarked (file_of (b ∷ s) cs)) ≡ (x.0 ∷ x.1) ++ [] ∷ cues_lines cs =
    ap lines_of (file-unmarked (b ∷ s) cs h) ∙ file-lines (b ∷ s) cs h w ∙ ap (λ (y : List Line). y ++ [] ∷ cues_lines cs) x.2 in
    let o : opens webvtt x.0 ≡ true = ap (λ (y : List Line). opens webvtt (first_of y)) (sym x.2) ∙ p.first_taken in
    let a : some_arrow (x.0 ∷ x.1) ≡ false = ap some_arrow (sym x.2) ∙ lines-no-arrow (b ∷ s) p.no_arrow in
    let f : Filled (x.0 ∷ x.1) = subst Filled x.2 (filled_is (lines_of (b ∷ s)) p.no_empty) in
    let q = header-passed x.0 x.1 (cues_lines cs) o a (filled-tail x.0 x.1 f) in
    let r = reads cs 0 0 (suc (2 + length x.1)) w so (omega arith) in
    (ap judge_lines e ∙ q.0 ∙ r.0, ap cues_of_lines e ∙ q.1 ∙ r.1)
