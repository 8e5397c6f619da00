-- A block in which no fault is found: a cue with a timing line, or a NOTE; and what is judged behind it.
use Prim.Native.Nat.{ℕ, suc}
use mathlib.Core.Path.{◌≡◌, refl, ap, subst}
use mathlib.Core.Bool.{Bool, true, false, not}
use mathlib.Core.Option.{Option, none, some}
use mathlib.Core.List.{List, ◌∷◌}
use native.Mathlib.Omega.{arith}
use borrow.Author.Tests.{not-true}
use lib.Dec.{leb}
use Rattle.base.specs.Choice.{pick, both, any_of}
use Rattle.base.proofs.Choice.{both_right}
use Rattle.verdict.specs.Verdict.{Fine}
use Rattle.verdict.specs.Judgement.{◌gives◌at◌, ◌then◌}
use Rattle.verdict.proofs.Judgement.{both-fine}
use Rattle.cues.specs.Caption.{Caption, caption, judge_caption}
use Rattle.cues.proofs.Sound.{caption-fine-iff}
use Rattle.vtt_lines.specs.Lines.{Line, joined, Block, some_arrow}
use Rattle.vtt_timing.specs.Timing.{Timing}
use Rattle.vtt_blocks.specs.Kinds.{Kind, cue, note, style, other, NOTE, STYLE, REGION, opens, names, timed, plain_kind, kind_of}
use Rattle.vtt_read.specs.Reading.{judge_kind, count_after, start_after, judge_blocks, with_cue, cues_in}
use Rattle.vtt_laws.proofs.Arrows.{payload-none}

-- ---- what is found without fault

-- a block with a timing line: it is well formed, and no line behind it holds `-->`
pub judged-cue : (n k before t : ℕ) (l : Line) (o : Option Timing) (ls : List Line) → judge_kind n k before (timed t l o ls) ≡ Fine → (s : Timing) × (o ≡ some s) × (some_arrow ls ≡ false)
unfolding judge_kind
judged-cue n k before t l none ls e = let z : ◌≡◌ {A = ℕ} 0 1 = cc in absurd (omega arith)
judged-cue n k before t l (some s) ls e =
    let c = caption s.start s.end l s.settings (joined ls) in
    let w = both-fine (leb 1024 k gives 9 at t) (judge_caption 1000 359999999 before c t) e in
    (s, refl, payload-none ls ((caption-fine-iff 1000 359999999 before t c).0 w.1).payload_right)

-- a block without timing line: a NOTE, and no line of it holds `-->`
pub judged-plain : (n k before : ℕ) (l : Line) (ls : List Line) → judge_kind n k before (plain_kind l ls) ≡ Fine → (plain_kind l ls ≡ note) × (some_arrow (l ∷ ls) ≡ false)
unfolding plain_kind judge_kind
judged-plain n k before l ls e =
    let w = chosen (any_of (names STYLE l) (names REGION l)) (both (opens NOTE l) (not (some_arrow (l ∷ ls)))) e in
    (w.0, not-true (some_arrow (l ∷ ls)) (both_right (opens NOTE l) (not (some_arrow (l ∷ ls))) w.1))
  where
    chosen : (x y : Bool) → judge_kind n k before (pick x style (pick y note other)) ≡ Fine → (pick x style (pick y note other) ≡ note) × (y ≡ true)
    chosen true y h = let z : ◌≡◌ {A = ℕ} 0 1 = cc in absurd (omega arith)
    chosen false true h = (refl, refl)
    chosen false false h = let z : ◌≡◌ {A = ℕ} 0 1 = cc in absurd (omega arith)

-- ---- the block, and those behind it

module _ (b : Block) (bs : List Block) (k before : ℕ) (e : judge_blocks k before (b ∷ bs) ≡ Fine) where
  pub judged : judge_kind b.line k before (kind_of b) ≡ Fine
  unfolding judge_blocks
  judged = (both-fine (judge_kind b.line k before (kind_of b)) _ e).0

  behind-kind : (K : Kind) → kind_of b ≡ K → judge_blocks (count_after k K) (start_after before K) bs ≡ Fine
  unfolding judge_blocks
  behind-kind K q =
      (both-fine (judge_kind b.line k before K) _ (subst (λ (x : Kind). judge_kind b.line k before x then judge_blocks (count_after k x) (start_after before x) bs ≡ Fine) q e)).1

  pub behind-cue : (t : ℕ) (c : Caption) → kind_of b ≡ cue t c → judge_blocks (suc k) c.start bs ≡ Fine
  behind-cue t c q = behind-kind (cue t c) q

  pub behind-note : kind_of b ≡ note → judge_blocks k before bs ≡ Fine
  behind-note q = behind-kind note q

pub cues-cue : (b : Block) (bs : List Block) (t : ℕ) (c : Caption) → kind_of b ≡ cue t c → cues_in (b ∷ bs) ≡ c ∷ cues_in bs
unfolding cues_in
cues-cue b bs t c q = ap (λ (x : Kind). with_cue x (cues_in bs)) q

pub cues-note : (b : Block) (bs : List Block) → kind_of b ≡ note → cues_in (b ∷ bs) ≡ cues_in bs
unfolding cues_in
cues-note b bs q = ap (λ (x : Kind). with_cue x (cues_in bs)) q
