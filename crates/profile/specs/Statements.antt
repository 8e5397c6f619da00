-- What is promised of the profile. Proved in proofs/.
use Rattle.std.specs.Prelude.{◌≡◌, true, List, ℕ}
use Rattle.viable.specs.FirstBad.{bytes, Judges}
use Rattle.profile.specs.Grammar.{Profile}
use Rattle.profile.specs.Machine.{judge}

-- the judge says yes exactly for payloads of the profile, and otherwise names the first byte that no payload of it could have there, or the length where it ends too early
abbrev pub ProfileJudged : Type 0
ProfileJudged = Judges Profile judge

-- a payload of the profile is made of bytes
abbrev pub ProfileBytes : Type 0
ProfileBytes = (s : List ℕ) → Profile s → bytes s ≡ true
