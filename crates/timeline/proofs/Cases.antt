-- Closed examples of the check and of unpacking, computed, over the cues of document 01's first case.
use Prim.Native.Nat.{◌<◌, ◌≤◌, suc, zero, ℕ}
use mathlib.Core.Path.{◌≡◌, ap, refl, subst, sym}
use mathlib.Core.Logic.{◌≢◌, inl, inr}
use mathlib.Core.Option.{Option, none, some}
use mathlib.Core.List.Memᴰ
use mathlib.Core.List.{List, Memᴰ, [], ◌∷◌, map}
use native.Mathlib.Omega.{arith}
use lib.ListN.{get_or}
use Rattle.base.specs.Choice.{same_list}
use Rattle.timeline.specs.Cues.{Body, Cue, Pairs, Proper, same_body, same_id}
use Rattle.timeline.specs.Tracks.{Sample}
use Rattle.timeline.specs.Packing.{marks, packed}
use Rattle.timeline.specs.Checking.{accepted, check, short, wrong}
use Rattle.timeline.specs.Unpacking.{done, fresh, stopped, till, unpack}
use Rattle.timeline.proofs.Nearest.{cuts_by}
use Rattle.timeline.proofs.Indexed.{mem_index}

abbrev cue : ℕ → ℕ → ℕ → Cue
cue n a b = record { start = a; end = b; body = record { id = some n; identifier = []; settings = []; payload = 72 ∷ 105 ∷ [] } }

abbrev three : List Cue
three = cue 1 11000 12500 ∷ cue 2 13000 18000 ∷ cue 3 17000 20000 ∷ []

pub own-track : check three 20000 (packed three 20000) ≡ accepted
unfolding packed check same_id same_list
own-track = refl

-- a track with a further cut is accepted; one that ends early is short; one that shows a cue at its end tick is wrong there
abbrev held : List ℕ → List Body
held [] = []
held (n ∷ ns) = record { id = some n; identifier = []; settings = []; payload = 72 ∷ 105 ∷ [] } ∷ held ns

abbrev sample : ℕ → List ℕ → Sample
sample d ns = record { duration = d; held = held ns }

pub further-cut : check three 20000 (sample 11000 [] ∷ sample 700 (1 ∷ []) ∷ sample 800 (1 ∷ []) ∷ sample 500 [] ∷ sample 4000 (2 ∷ []) ∷ sample 1000 (2 ∷ 3 ∷ []) ∷ sample 2000 (3 ∷ []) ∷ []) ≡ accepted
unfolding check same_id same_list
further-cut = refl

pub early : check three 20000 (sample 11000 [] ∷ sample 1500 (1 ∷ []) ∷ []) ≡ short 2
unfolding check same_id same_list
early = refl

pub late-cut : check three 20000 (sample 11000 [] ∷ sample 1501 (1 ∷ []) ∷ sample 499 [] ∷ []) ≡ wrong 1
unfolding check same_id same_list
late-cut = refl

pub other-order : check three 20000 (sample 11000 [] ∷ sample 1500 (1 ∷ []) ∷ sample 500 [] ∷ sample 4000 (2 ∷ []) ∷ sample 1000 (3 ∷ 2 ∷ []) ∷ []) ≡ wrong 4
unfolding check same_id same_list
other-order = refl

pub past_the_end : check three 20000 (sample 11000 [] ∷ sample 1500 (1 ∷ []) ∷ sample 500 [] ∷ sample 4000 (2 ∷ []) ∷ sample 1000 (2 ∷ 3 ∷ []) ∷ sample 2001 (3 ∷ []) ∷ []) ≡ wrong 5
unfolding check same_id same_list
past_the_end = refl

pub unpacked : unpack (packed three 20000) ≡ done three
unfolding packed unpack same_id same_list same_body fresh till
unpacked = refl

pub out_of_order : unpack (sample 1 (1 ∷ []) ∷ sample 1 (2 ∷ 1 ∷ []) ∷ []) ≡ stopped 11 1
unfolding unpack same_id same_list same_body fresh
out_of_order = refl

pub gap : unpack (sample 1 (1 ∷ []) ∷ sample 1 [] ∷ sample 1 (1 ∷ []) ∷ []) ≡ stopped 13 2
unfolding unpack same_id same_list same_body fresh
gap = refl

pub twice : unpack (sample 1 (1 ∷ 1 ∷ []) ∷ []) ≡ stopped 12 0
unfolding unpack same_id same_list same_body fresh
twice = refl

-- by search, with fuel for each mark
pub searched : cuts_by 20000 (marks three 20000) 7 0 ≡ 0 ∷ 11000 ∷ 12500 ∷ 13000 ∷ 17000 ∷ 18000 ∷ 20000 ∷ []
unfolding cuts_by marks
searched = refl

-- the premises can be met: the three cues are a proper list
below-three : (P : ℕ → Type 0) → P 0 → P 1 → P 2 → (i : ℕ) → i < 3 → P i
below-three P a b c zero h = a
below-three P a b c (suc zero) h = b
below-three P a b c (suc (suc zero)) h = c
below-three P a b c (suc (suc (suc i))) h = absurd (omega arith)

each : (P : Cue → Type 0) → P (cue 1 11000 12500) → P (cue 2 13000 18000) → P (cue 3 17000 20000) → (c : Cue) → Memᴰ c three → P c
each P x y z c m =
    let w = mem_index three c (cue 0 0 0) m in
    subst P (sym w.2) (below-three (λ i. P (get_or three i (cue 0 0 0))) x y z w.0 w.1)

pairs : (R : Cue → Cue → Type 0) → R (cue 1 11000 12500) (cue 2 13000 18000) → R (cue 1 11000 12500) (cue 3 17000 20000) → R (cue 2 13000 18000) (cue 3 17000 20000) → Pairs R three
unfolding Pairs
pairs R x y z = (
  (λ d m. elim (Memᴰ.cases_cons m) [ inl q ↦ subst (R (cue 1 11000 12500)) (sym q) x | inr k ↦ subst (R (cue 1 11000 12500)) (sym (Memᴰ.eq_of_singleton k)) y ]),
  ((λ d m. subst (R (cue 2 13000 18000)) (sym (Memᴰ.eq_of_singleton m)) z), ((λ d m. absurd (Memᴰ.not-nil m)), tt)),
)

code : Option ℕ → ℕ
code none = 0
code (some n) = n

pub three-proper : Proper three 20000
unfolding code
three-proper = record {
  lasts = each (λ c. c.start < c.end) (omega arith) (omega arith) (omega arith);
  ends = each (λ c. c.end ≤ 20000) (omega arith) (omega arith) (omega arith);
  ordered = pairs (λ c d. c.start ≤ d.start) (omega arith) (omega arith) (omega arith);
  distinct = pairs (λ c d. d.body.id ≢ c.body.id) (λ q. omega (arith, ap code q)) (λ q. omega (arith, ap code q)) (λ q. omega (arith, ap code q));
}
