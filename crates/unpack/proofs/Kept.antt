-- What holds of every body in a track holds of every cue of its list.
use Prim.Native.Nat.{ℕ, suc, ◌+◌, ◌<◌}
use mathlib.Core.Path.{◌≡◌, refl, sym, ap, ◌∙◌, subst}
use mathlib.Core.Bool.{Bool, true, false}
use mathlib.Core.Option.{Option, none, some}
use mathlib.Core.List.{List, [], ◌∷◌, ◌++◌, Memᴰ}
use native.Mathlib.Omega.{arith}
use native.Mathlib.Nat.{not-suc-le-zero}
use lib.Dec.{eqb, ltb, leb}
use lib.ListN.{length, get_or, set, length-append, length-set, get_or-append}
use lib.Seq.{get_or_at, get_or-set_same, get_or-set_other}
use borrow.Author.Tests.{eqb-true, eqb-false}
use Rattle.base.specs.Choice.{pick}
use Rattle.base.proofs.Choice.{either, by-test}
use Rattle.timeline.specs.Cues.{Body, Cue, same_body}
use Rattle.timeline.specs.Tracks.{Sample, Positive}
use Rattle.timeline.specs.Unpacking.{no_cue, fresh, till, index_of, Unpacked, stopped, done, unpack}
use Rattle.timeline.proofs.Joined.{joined_is}
use Rattle.timeline.specs.Joining.{joined, Taking, refused, going, again, on_index, with_id, take_body, on_taking, all_taken, on_sample, unpack_from}

module _ (P : Body → Type 0) where
  -- it holds of every cue
  abbrev pub EachCue : List Cue → Type 0
  EachCue cs = (i : ℕ) → i < length cs → P (get_or cs i no_cue).body

  -- it holds of every body
  unfoldable pub EachBody : List Body → Type 0
  EachBody [] = Unit {0}
  EachBody (y ∷ ys) = P y × EachBody ys

  abbrev Still : Taking → Type 0
  Still (refused n) = Unit {0}
  Still (going cs k) = EachCue cs

  abbrev Found : Unpacked → Type 0
  Found (stopped n i) = Unit {0}
  Found (done cs) = EachCue cs

  one_more : (cs : List Cue) (c : Cue) → EachCue cs → P c.body → EachCue (cs ++ c ∷ [])
  one_more cs c h p i l =
      either (suc i) (length cs)
      (λ a. subst (λ (x : Cue). P x.body) (sym (get_or-append cs (c ∷ []) no_cue i a)) (h i a))
      (λ a. let e : length cs ≡ i = omega (arith, l, length-append cs (c ∷ [])) in subst (λ (x : Cue). P x.body) (sym (get_or_at cs c [] no_cue i e)) p)

  till-body : (e : ℕ) (c : Cue) → (till e c).body ≡ c.body
  unfolding till
  till-body e c = refl

  one_ended : (cs : List Cue) (j e : ℕ) → EachCue cs → EachCue (set cs j (till e (get_or cs j no_cue)))
  one_ended cs j e h i l =
      let n : i < length cs = omega (arith, l, length-set cs j (till e (get_or cs j no_cue))) in
      by-test (eqb i j)
      (λ q. let w = eqb-true i j q in
      subst P (sym (ap (λ (x : ℕ). (get_or (set cs j (till e (get_or cs j no_cue))) x no_cue).body) w
      ∙ ap (λ (c : Cue). c.body) (get_or-set_same cs j (till e (get_or cs j no_cue)) no_cue (omega arith)) ∙ till-body e (get_or cs j no_cue) ∙ ap (λ (x : ℕ). (get_or cs x no_cue).body) (sym w))) (h i n))
      (λ q. subst (λ (c : Cue). P c.body) (sym (get_or-set_other cs j i (till e (get_or cs j no_cue)) no_cue (eqb-false i j q))) (h i n))

  fresh-body : (b e : ℕ) (y : Body) → (fresh b e y).body ≡ y
  unfolding fresh
  fresh-body b e y = refl

  again-still : (b e : ℕ) (cs : List Cue) (k : ℕ) (y : Body) (j : ℕ) → EachCue cs → Still (again b e cs k y j)
  unfolding again
  again-still b e cs k y j h = go (eqb (get_or cs j no_cue).end e) (ltb (get_or cs j no_cue).end b) (same_body (get_or cs j no_cue).body y) (leb k j)
    where
      go : (s t u v : Bool) → Still (pick s (refused 12) (pick t (refused 13) (pick u (pick v (going (set cs j (till e (get_or cs j no_cue))) (suc j)) (refused 11)) (refused 14))))
      go true t u v = tt
      go false true u v = tt
      go false false true true = one_ended cs j e h
      go false false true false = tt
      go false false false v = tt

  take-still : (b e : ℕ) (cs : List Cue) (k : ℕ) (y : Body) → EachCue cs → P y → Still (take_body b e cs k y)
  unfolding take_body
  take-still b e cs k y h p = named y.id (on_index b e cs k y (index_of y.id cs)) (placed (index_of y.id cs))
    where
      named : (o : Option ℕ) (t : Taking) → Still t → Still (with_id o t)
      named none t s = tt
      named (some n) t s = s

      room : (c : Bool) → Still (pick c (going (cs ++ fresh b e y ∷ []) (suc (length cs))) (refused 9))
      room true = one_more cs (fresh b e y) h (subst P (sym (fresh-body b e y)) p)
      room false = tt

      placed : (o : Option ℕ) → Still (on_index b e cs k y o)
      placed none = room (ltb (length cs) 1024)
      placed (some j) = again-still b e cs k y j h

  all-still : (b e : ℕ) (ys : List Body) (cs : List Cue) (k : ℕ) → EachCue cs → EachBody ys → Still (all_taken b e cs k ys)
  unfolding all_taken EachBody
  all-still b e [] cs k h p = h
  all-still b e (y ∷ ys) cs k h p = go (take_body b e cs k y) (take-still b e cs k y h p.0) (λ cs2 k2 q. all-still b e ys cs2 k2 q p.1)
    where
      go : (t : Taking) → Still t → ((cs2 : List Cue) (k2 : ℕ) → EachCue cs2 → Still (all_taken b e cs2 k2 ys)) → Still (on_taking t (λ cs2 k2. all_taken b e cs2 k2 ys))
      go (refused n) s f = tt
      go (going cs2 k2) s f = f cs2 k2 s

  from_found : (track : List Sample) (b i : ℕ) (cs : List Cue) → EachCue cs → ((s : Sample) → Memᴰ s track → EachBody s.held) → Found (unpack_from b i cs track)
  unfolding unpack_from
  from_found [] b i cs h p = h
  from_found (s ∷ ss) b i cs h p = go (all_taken b (b + s.duration) cs 0 s.held) (all-still b (b + s.duration) s.held cs 0 h (p s (Memᴰ.head refl)))
      (λ cs2 q. from_found ss (b + s.duration) (suc i) cs2 q (λ x m. p x (Memᴰ.tail m)))
    where
      go : (t : Taking) → Still t → ((cs2 : List Cue) → EachCue cs2 → Found (unpack_from (b + s.duration) (suc i) cs2 ss)) → Found (on_sample t i (λ cs2. unpack_from (b + s.duration) (suc i) cs2 ss))
      go (refused n) q f = tt
      go (going cs2 k2) q f = f cs2 q

  pub unpack-keeps : (track : List Sample) (cs : List Cue) → Positive track → ((s : Sample) → Memᴰ s track → EachBody s.held) → unpack track ≡ done cs → EachCue cs
  unfolding joined
  unpack-keeps track cs pos p e = subst Found (joined_is track pos ∙ e) (from_found track 0 0 [] (λ i l. absurd (not-suc-le-zero l)) p)
