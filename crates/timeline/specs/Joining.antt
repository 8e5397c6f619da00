-- Terms of the contracts of crates rows and gather: unpacking as the code does it. Whether a sample held a cue is told by where the cue ends so far, and their
-- order by the least index that may come next. `joined_is` says that on positive durations this is `unpack`, so nobody has to believe it.
use Rattle.std.specs.Prelude.{ℕ, suc, ◌+◌, ◌≡◌, List, [], ◌∷◌, ◌++◌, leb, ltb, eqb, length, get_or, set}
use Rattle.std.proofs.Math.Option.{Option, none, some}
use Rattle.base.specs.Choice.{pick}
use Rattle.timeline.specs.Cues.{Body, Cue, same_body}
use Rattle.timeline.specs.Tracks.{Sample, Positive}
use Rattle.timeline.specs.Unpacking.{no_cue, fresh, till, index_of, Unpacked, stopped, done, unpack}

-- after a body: refused by a number, or the cues so far and the least index that may come next in the sample
pub data Taking : Type 0 where
  refused : ℕ → Taking
  going : List Cue → ℕ → Taking

-- a body whose ID stands at index j: twice in the sample, back after a gap, other texts, out of order
unfoldable pub again : ℕ → ℕ → List Cue → ℕ → Body → ℕ → Taking
again b e cs k y j =
    pick (eqb (get_or cs j no_cue).end e) (refused 12)
    (pick (ltb (get_or cs j no_cue).end b) (refused 13)
    (pick (same_body (get_or cs j no_cue).body y)
    (pick (leb k j) (going (set cs j (till e (get_or cs j no_cue))) (suc j)) (refused 11))
    (refused 14)))

-- a body whose ID is new comes last, as one of at most 1,024
abbrev pub on_index : ℕ → ℕ → List Cue → ℕ → Body → Option ℕ → Taking
on_index b e cs k y none = pick (ltb (length cs) 1024) (going (cs ++ fresh b e y ∷ []) (suc (length cs))) (refused 9)
on_index b e cs k y (some j) = again b e cs k y j

-- a body without ID is refused
abbrev pub with_id : Option ℕ → Taking → Taking
with_id none r = refused 17
with_id (some n) r = r

unfoldable pub take_body : ℕ → ℕ → List Cue → ℕ → Body → Taking
unfolding again index_of
take_body b e cs k y = with_id y.id (on_index b e cs k y (index_of y.id cs))

abbrev pub on_taking : Taking → (List Cue → ℕ → Taking) → Taking
on_taking (refused n) f = refused n
on_taking (going cs k) f = f cs k

-- the bodies of a sample, one after the other
unfoldable pub all_taken : ℕ → ℕ → List Cue → ℕ → List Body → Taking
unfolding take_body
all_taken b e cs k [] = going cs k
all_taken b e cs k (y ∷ ys) = on_taking (take_body b e cs k y) (λ cs2 k2. all_taken b e cs2 k2 ys)

abbrev pub on_sample : Taking → ℕ → (List Cue → Unpacked) → Unpacked
on_sample (refused n) i f = stopped n i
on_sample (going cs k) i f = f cs

-- the samples from number i on, which begins at b
unfoldable pub unpack_from : ℕ → ℕ → List Cue → List Sample → Unpacked
unfolding all_taken
unpack_from b i cs [] = done cs
unpack_from b i cs (s ∷ ss) = on_sample (all_taken b (b + s.duration) cs 0 s.held) i (λ cs2. unpack_from (b + s.duration) (suc i) cs2 ss)

unfoldable pub joined : List Sample → Unpacked
unfolding unpack_from
joined track = unpack_from 0 0 [] track

-- on positive durations this is unpacking
abbrev pub JoinedIs : Type 0
JoinedIs = (track : List Sample) → Positive track → joined track ≡ unpack track
