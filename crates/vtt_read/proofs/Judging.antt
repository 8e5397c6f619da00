-- The judgement of the blocks from a place on, by what is found there; and times of 100 hours or more.
use Prim.Native.Nat.{ℕ}
use mathlib.Core.Path.{◌≡◌, ap, ap₂, ◌∙◌}
use mathlib.Core.Bool.{false}
use mathlib.Core.List.{List}
use native.Mathlib.Omega.{arith}
use Rattle.verdict.specs.Judgement.{◌then◌}
use Rattle.cues.specs.Caption.{caption, bad_times, judge_content}
use Rattle.cues.proofs.Capped.{times-early, content-capped}
use Rattle.timestamps.specs.Timestamps.{capped}
use Rattle.vtt_lines.specs.Lines.{Block}
use Rattle.vtt_blocks.specs.Kinds.{Kind}
use Rattle.vtt_blocks.specs.Found.{blocks_at, FoundAt}
use Rattle.vtt_read.specs.Reading.{judge_kind, count_after, start_after, judge_blocks, with_cue, cues_in}

module _ (s : List ℕ) (place line : ℕ) (kind : Kind) (left : List Block) (f : FoundAt s place line kind left) where
  -- a block that is found is judged, and then those that are left
  pub found-verdict : (k before : ℕ) → judge_blocks k before (blocks_at s place line) ≡ judge_kind line k before kind then judge_blocks (count_after k kind) (start_after before kind) left
  unfolding judge_blocks
  found-verdict k before =
      ap (judge_blocks k before) f.is
      ∙ ap₂ (λ (n : ℕ) (x : Kind). judge_kind n k before x then judge_blocks (count_after k x) (start_after before x) left) f.first_line f.kind_is

  pub found-cues : cues_in (blocks_at s place line) ≡ with_cue kind (cues_in left)
  unfolding cues_in
  found-cues = ap cues_in f.is ∙ ap (λ (x : Kind). with_cue x (cues_in left)) f.kind_is

-- ---- a time of 100 hours or more is refused, whatever it is taken for

-- times that are taken are not capped
pub times-same : (a b : ℕ) → bad_times 1000 359999999 a b ≡ false → (capped a ≡ a) × (capped b ≡ b)
unfolding capped
times-same a b h = let w = times-early 1000 a b h in (omega arith, omega arith)

pub content-same : (before p a b : ℕ) (i t y : List ℕ) → judge_content 1000 359999999 before (caption (capped a) (capped b) i t y) p ≡ judge_content 1000 359999999 before (caption a b i t y) p
unfolding capped
content-same before p a b i t y = content-capped 1000 a b before p i t y
