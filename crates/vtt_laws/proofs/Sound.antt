-- The cues of a file in which no fault is found: each is sound behind the one before, and there are at most 1,024.
use Prim.Native.Nat.{ℕ, suc, ◌+◌, ◌≤◌}
use mathlib.Core.Path.{◌≡◌}
use mathlib.Core.Bool.{true}
use mathlib.Core.List.{List, [], ◌∷◌}
use native.Mathlib.Omega.{arith}
use borrow.Author.Tests.{leb-false}
use lib.Dec.{leb}
use lib.ListN.{length}
use Rattle.verdict.specs.Verdict.{Fine}
use Rattle.verdict.specs.Judgement.{◌gives◌at◌, ◌then◌}
use Rattle.verdict.proofs.Judgement.{both-fine, not-given}
use Rattle.cues.specs.Caption.{Caption, judge_caption, SoundCaption}
use Rattle.cues.proofs.Sound.{caption-fine-iff}
use Rattle.vtt_lines.specs.Lines.{Line, lines_of, Block, blocks_from}
use Rattle.vtt_blocks.specs.Kinds.{Kind, cue, untimed, note, style, other, kind_of}
use Rattle.vtt_read.specs.Reading.{judge_kind, count_after, start_after, judge_blocks, with_cue, cues_in, unmarked, bad_header, judge_lines, cues_of_lines, judge_file, file_cues}

-- each is sound behind the one before
abbrev pub Sounds : ℕ → List Caption → Type 0
Sounds before [] = Unit {0}
Sounds before (c ∷ cs) = SoundCaption 1000 359999999 before c × Sounds c.start cs

blocks-sound : (bs : List Block) (k before : ℕ) → judge_blocks k before bs ≡ Fine → Sounds before (cues_in bs) × (k ≤ 1024 → k + length (cues_in bs) ≤ 1024)
unfolding judge_blocks cues_in judge_kind
blocks-sound [] k before e = (tt, λ h. omega arith)
blocks-sound (b ∷ bs) k before e = by_kind (kind_of b) e (λ j f h. blocks-sound bs j f h)
  where
    by_kind : (K : Kind) → judge_kind b.line k before K then judge_blocks (count_after k K) (start_after before K) bs ≡ Fine
        → ((j f : ℕ) → judge_blocks j f bs ≡ Fine → Sounds f (cues_in bs) × (j ≤ 1024 → j + length (cues_in bs) ≤ 1024))
        → Sounds before (with_cue K (cues_in bs)) × (k ≤ 1024 → k + length (with_cue K (cues_in bs)) ≤ 1024)
    by_kind (cue t c) h r =
        let a = both-fine (judge_kind b.line k before (cue t c)) (judge_blocks (suc k) c.start bs) h in
        let d = both-fine (leb 1024 k gives 9 at t) (judge_caption 1000 359999999 before c t) a.0 in
        let few = leb-false 1024 k (not-given (leb 1024 k) 9 t d.0) in
        let w = r (suc k) c.start a.1 in
        let v = w.1 few in
        (((caption-fine-iff 1000 359999999 before t c).0 d.1, w.0), λ l. omega arith)
    by_kind (untimed t) h r = let z : ◌≡◌ {A = ℕ} 0 1 = cc in absurd (omega arith)
    by_kind note h r = r k before h
    by_kind style h r = let z : ◌≡◌ {A = ℕ} 0 1 = cc in absurd (omega arith)
    by_kind other h r = let z : ◌≡◌ {A = ℕ} 0 1 = cc in absurd (omega arith)

lines-sound : (ls : List Line) → judge_lines ls ≡ Fine → Sounds 0 (cues_of_lines ls) × (length (cues_of_lines ls) ≤ 1024)
unfolding judge_lines cues_of_lines
lines-sound [] e = let z : ◌≡◌ {A = ℕ} 0 1 = cc in absurd (omega arith)
lines-sound (l ∷ ls) e =
    let a = both-fine (bad_header l ls gives 19 at 1) (judge_blocks 0 0 (blocks_from true 2 ls)) e in
    let w = blocks-sound (blocks_from true 2 ls) 0 0 a.1 in
    let v = w.1 (omega arith) in
    (w.0, omega arith)

pub file-sound : (file : List ℕ) → judge_file file ≡ Fine → Sounds 0 (file_cues file) × (length (file_cues file) ≤ 1024)
unfolding judge_file file_cues
file-sound file e = lines-sound (lines_of (unmarked file)) e
