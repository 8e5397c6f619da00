-- Terms of the contracts of private functions.
use Rattle.std.specs.Prelude.{ℕ, ltb}
use Rattle.verdict.specs.Judgement.{◌gives◌at◌}
use Rattle.wvtt_entry_write.specs.Written.{Written}
use Rattle.wvtt_entry_write.specs.Writing.{unless_faulty}

-- this size, or 9 where 4 bytes do not hold it
abbrev pub sized : ℕ → Written
sized n = unless_faulty (ltb 4294967295 n gives 9 at 0) n
