-- Unpacking, at ticks: the cues of a track in order of first appearance, equal IDs joined over neighbouring samples. Document 01, 'Tracks and packing', 'Order'.
use Rattle.std.specs.Prelude.{ℕ, suc, ◌+◌, ◌≤◌, ◌≡◌, ◌↔◌, Bool, true, false, not, List, [], ◌∷◌, ◌++◌, ltb, length, get_or, set}
use Rattle.std.proofs.Math.Option.{Option, none, some}
use Rattle.base.specs.Choice.{pick, any_of}
use Rattle.timeline.specs.Cues.{Body, Cue, Proper, Named, same_id, same_body}
use Rattle.timeline.specs.Tracks.{Sample, total, Positive, Right}

unfoldable pub no_cue : Cue
no_cue = record { start = 0; end = 0; body = record { id = none; identifier = []; settings = []; payload = [] } }

-- a body that first appears in the sample from b to e
unfoldable pub fresh : ℕ → ℕ → Body → Cue
fresh b e y = record { start = b; end = e; body = y }

-- the cue, now ending at e
unfoldable pub till : ℕ → Cue → Cue
till e c = record { start = c.start; end = e; body = c.body }

abbrev pub or_next : Bool → Option ℕ → Option ℕ
or_next true r = some 0
or_next false none = none
or_next false (some j) = some (suc j)

-- the index of the cue with this ID
unfoldable pub index_of : Option ℕ → List Cue → Option ℕ
index_of n [] = none
index_of n (c ∷ cs) = or_next (same_id c.body.id n) (index_of n cs)

-- one of the bodies has this ID
unfoldable pub has_id : Option ℕ → List Body → Bool
has_id n [] = false
has_id n (y ∷ ys) = any_of (same_id y.id n) (has_id n ys)

abbrev pub after : ℕ → Option ℕ → Bool
after j none = false
after j (some i) = ltb j i

-- one of the bodies first appeared after cue j
unfoldable pub has_newer : List Cue → ℕ → List Body → Bool
has_newer cs j [] = false
has_newer cs j (y ∷ ys) = any_of (after j (index_of y.id cs)) (has_newer cs j ys)

-- after a body: the number of its fault, or the cues that are known
pub data Known : Type 0 where
  faulty : ℕ → Known
  known : List Cue → Known

-- A body y in the sample that ends at e. `last` is what the sample directly before holds, `earlier` what stands before y in its own sample.
-- The ID is that of cue j: it was not in the sample directly before (13), its texts are others (14), a cue before it in the sample is newer (11); else cue j goes on.
unfoldable pub goes_on : ℕ → List Body → List Body → List Cue → Body → ℕ → Known
unfolding has_id has_newer
goes_on e last earlier cs y j =
    pick (not (has_id y.id last)) (faulty 13)
    (pick (not (same_body (get_or cs j no_cue).body y)) (faulty 14)
    (pick (has_newer cs j earlier) (faulty 11)
    (known (set cs j (till e (get_or cs j no_cue))))))

-- an ID that is new is of a cue that comes last, as one of at most 1,024 (9)
abbrev pub by_index : ℕ → ℕ → List Body → List Body → List Cue → Body → Option ℕ → Known
by_index b e last earlier cs y none = pick (ltb (length cs) 1024) (known (cs ++ fresh b e y ∷ [])) (faulty 9)
by_index b e last earlier cs y (some j) = goes_on e last earlier cs y j

abbrev pub if_named : Option ℕ → Known → Known
if_named none r = faulty 17
if_named (some n) r = r

-- a body of the sample from b to e: without ID (17); its ID is among the earlier ones of this sample (12); else by the cues that are known
unfoldable pub read_body : ℕ → ℕ → List Body → List Body → List Cue → Body → Known
unfolding goes_on index_of has_id
read_body b e last earlier cs y = if_named y.id (pick (has_id y.id earlier) (faulty 12) (by_index b e last earlier cs y (index_of y.id cs)))

abbrev pub on_known : Known → (List Cue → Known) → Known
on_known (faulty n) f = faulty n
on_known (known cs) f = f cs

-- the bodies of a sample, one after the other
unfoldable pub read_all : ℕ → ℕ → List Body → List Body → List Cue → List Body → Known
unfolding read_body
read_all b e last earlier cs [] = known cs
read_all b e last earlier cs (y ∷ ys) = on_known (read_body b e last earlier cs y) (λ cs2. read_all b e last (earlier ++ y ∷ []) cs2 ys)

-- refused by a number at a sample, or the list
pub data Unpacked : Type 0 where
  stopped : ℕ → ℕ → Unpacked
  done : List Cue → Unpacked

abbrev pub on_read : Known → ℕ → (List Cue → Unpacked) → Unpacked
on_read (faulty n) i f = stopped n i
on_read (known cs) i f = f cs

-- the samples from number i on, which begins at b behind a sample that holds `last`
unfoldable pub read_from : ℕ → ℕ → List Body → List Cue → List Sample → Unpacked
unfolding read_all
read_from b i last cs [] = done cs
read_from b i last cs (s ∷ ss) = on_read (read_all b (b + s.duration) last [] cs s.held) i (λ cs2. read_from (b + s.duration) (suc i) s.held cs2 ss)

unfoldable pub unpack : List Sample → Unpacked
unfolding read_from
unpack track = read_from 0 0 [] [] track

-- cs is the list of the track: proper, with IDs, at most 1,024, and the track is right for it
pub record ListOf (cs : List Cue) (track : List Sample) : Type 0 where
  pub proper : Proper cs (total track)
  pub ids : Named cs
  pub few : length cs ≤ 1024
  pub right : Right cs (total track) track

-- unpacking answers a list exactly if it is the list of the track
abbrev pub UnpacksExactly : Type 0
UnpacksExactly = (cs : List Cue) (track : List Sample) → Positive track → (unpack track ≡ done cs) ↔ ListOf cs track
