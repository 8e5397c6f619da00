-- Terms of the contracts of private functions.
use Rattle.std.specs.Prelude.{ℕ}
use Rattle.verdict.specs.Verdict.{Verdict, Fine, Refused}
use Rattle.wvtt.specs.Kinds.{vsid, iden, sttg, payl}
use Rattle.wvtt_cues.specs.declared.Places.{Places}
use Rattle.wvtt_cues.specs.Held.{Held, Refused as Stopped, End}
use Rattle.wvtt_cues.specs.Cues.{placed}

-- the places of the four bodies, with a box of kind j
unfoldable pub places_of : Places → ℕ → ℕ → ℕ → Places
unfolding placed
places_of x j b n =
    record { vsid = placed j vsid b n x.vsid; iden = placed j iden b n x.iden; sttg = placed j sttg b n x.sttg; payl = placed j payl b n x.payl }

-- where no box stands: a refused header, or the end
abbrev pub ended : Verdict → Held
ended Fine = End
ended (Refused r) = Stopped r
