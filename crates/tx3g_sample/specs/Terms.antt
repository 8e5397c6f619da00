-- Terms of the contracts of private functions.
use Rattle.std.specs.Prelude.{ℕ}
use Rattle.verdict.specs.Verdict.{Verdict, Fine, Refused}
use Rattle.tx3g_sample.specs.Text.{Text, Whole, Bad as BadText}

-- a text of n characters, or its refusal
abbrev pub text_read : Verdict → ℕ → Text
text_read Fine n = Whole n
text_read (Refused r) n = BadText r
