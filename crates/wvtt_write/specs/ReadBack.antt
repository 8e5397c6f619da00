-- What reading says of a sample that was written. Proved in proofs/ReadBack.antt.
use Rattle.std.specs.Prelude.{◌≡◌, List}
use Rattle.verdict.specs.Verdict.{Fine}
use Rattle.timeline.specs.Cues.{Body}
use Rattle.wvtt.specs.Sample.{judge_sample}
use Rattle.wvtt.specs.Sound.{AllSound}
use Rattle.wvtt_cues.specs.Cues.{sample_cues}
use Rattle.wvtt_write.specs.Written.{sample_bytes}

-- it has no fault
abbrev pub SampleFine : Type 0
SampleFine = (ys : List Body) → AllSound ys → judge_sample (sample_bytes ys) ≡ Fine

-- and its cues come back in their order
abbrev pub SampleHeld : Type 0
SampleHeld = (ys : List Body) → AllSound ys → sample_cues (sample_bytes ys) ≡ ys
