-- Laws of specs/Cues.antt for the loops: where bodies stand, and the first cue.
use Prim.Native.Nat.{ℕ, ◌≤◌}
use mathlib.Core.Path.{◌≡◌, refl, ap, ◌∙◌}
use mathlib.Core.List.{List}
use mathlib.Core.Bool.{Bool, true, false}
use native.Mathlib.Omega.{arith}
use lib.Dec.{eqb}
use lib.ListN.{length}
use borrow.Author.Tests.{eq-eqb, ne_eqb}
use Rattle.base.specs.Choice.{pick}
use Rattle.boxes.specs.declared.Step.{Step}
use Rattle.boxes.specs.declared.Step.TheVariants.{Box, Refused as Stopped, End as Ended}
use Rattle.boxes.specs.Boxes.{step_at, stopped_by, on_step, boxes_in, passed}
use Rattle.boxes.proofs.Laws.{boxes-at, boxes-box, passed-box, passed-stop, NoBox}
use Rattle.wvtt.specs.Kinds.{vttc, vsid, iden, sttg, payl}
use Rattle.boxes.specs.declared.Part.{Part}
use Rattle.wvtt_cues.specs.declared.Places.{Places}
use Rattle.verdict.specs.declared.Refusal.{Refusal}
use Rattle.verdict.specs.Verdict.{Fine, Refused}
use Rattle.wvtt_cues.specs.declared.Parts.{Parts}
use Rattle.wvtt_cues.specs.Inner.{Whole, Refused as Broken}
use Rattle.wvtt_cues.specs.Cues.{nowhere, placed, body_of, with_id, parts_of, if_whole, inner_of, cue_by, next_cue}
use Rattle.wvtt_cues.specs.Terms.{places_of, ended}

-- a box, and the rest
body-box : (j : ℕ) (x : Part) (s : List ℕ) (at end k b n : ℕ) → step_at s at end ≡ Box k b n
    → body_of j (placed k j b n x) (boxes_in s n end) ≡ body_of j x (boxes_in s at end)
unfolding body_of
body-box j x s at end k b n e = rw (boxes-box s at end k b n e)

-- no further box
body-stop : (j : ℕ) (x : Part) (s : List ℕ) (at end : ℕ) (t : Step) → step_at s at end ≡ t → NoBox t → body_of j x (boxes_in s at end) ≡ x
unfolding body_of
body-stop j x s at end t e h = rw (boxes-at s at end, e) (go t h)
  where
    go : (u : Step) → NoBox u → body_of j x (on_step u at (λ n. boxes_in s n end)) ≡ x
    go (Box k b n) h = absurd h
    go (Stopped r) h = refl
    go Ended h = refl

placed-inside : (b : Bool) (from end : ℕ) (x : Part) (l : ℕ) → end ≤ l → x.end ≤ l → (pick b (record { from = from; end = end }) x).end ≤ l
placed-inside true from end x l h k = h
placed-inside false from end x l h k = k

-- what is left to read from `at`, with the places so far, gives the whole of the places
pub record Kept (s : List ℕ) (from end at : ℕ) (x : Places) : Type 0 where
  of_id : body_of vsid x.vsid (boxes_in s at end) ≡ body_of vsid nowhere (boxes_in s from end)
  of_identifier : body_of iden x.iden (boxes_in s at end) ≡ body_of iden nowhere (boxes_in s from end)
  of_settings : body_of sttg x.sttg (boxes_in s at end) ≡ body_of sttg nowhere (boxes_in s from end)
  of_payload : body_of payl x.payl (boxes_in s at end) ≡ body_of payl nowhere (boxes_in s from end)
  whole : passed (boxes_in s at end) ≡ passed (boxes_in s from end)
  pub inside : x.vsid.end ≤ length s

module _ (s : List ℕ) (from end : ℕ) where
  pub kept-start : Kept s from end from (record { vsid = nowhere; iden = nowhere; sttg = nowhere; payl = nowhere })
  unfolding nowhere
  kept-start = record { of_id = refl; of_identifier = refl; of_settings = refl; of_payload = refl; whole = refl; inside = omega arith }

  pub kept-box : (at : ℕ) (x : Places) (k b n : ℕ) → n ≤ length s → step_at s at end ≡ Box k b n → Kept s from end at x → Kept s from end n (places_of x k b n)
  unfolding places_of placed
  kept-box at x k b n h e m = record {
    of_id = body-box vsid x.vsid s at end k b n e ∙ m.of_id;
    of_identifier = body-box iden x.iden s at end k b n e ∙ m.of_identifier;
    of_settings = body-box sttg x.sttg s at end k b n e ∙ m.of_settings;
    of_payload = body-box payl x.payl s at end k b n e ∙ m.of_payload;
    whole = passed-box s at end k b n e ∙ m.whole;
    inside = placed-inside (eqb k vsid) b n x.vsid (length s) h m.inside;
  }

  pub kept-stop : (at : ℕ) (x : Places) (t : Step) → step_at s at end ≡ t → NoBox t → Kept s from end at x
      → if_whole (stopped_by t) (with_id s x.vsid x.iden x.sttg x.payl) ≡ inner_of s (boxes_in s from end)
  unfolding parts_of
  kept-stop at x t e h m =
      rw (
        ← m.of_id,
        ← m.of_identifier,
        ← m.of_settings,
        ← m.of_payload,
        ← m.whole,
        ← passed-stop s at end t e h,
        body-stop vsid x.vsid s at end t e h,
        body-stop iden x.iden s at end t e h,
        body-stop sttg x.sttg s at end t e h,
        body-stop payl x.payl s at end t e h,
      )

  -- so a refused header is the answer, and at the end the places give the cue
  pub kept-refused : (at : ℕ) (x : Places) (t : Step) (r : Refusal) → step_at s at end ≡ t → NoBox t → Kept s from end at x → stopped_by t ≡ Refused r → Broken r ≡ inner_of s (boxes_in s from end)
  kept-refused at x t r e h m q = rw q at (kept-stop at x t e h m)

  pub kept-whole : (at : ℕ) (x : Places) (t : Step) (c : Parts) → step_at s at end ≡ t → NoBox t → Kept s from end at x → stopped_by t ≡ Fine → c ≡ with_id s x.vsid x.iden x.sttg x.payl
      → Whole c ≡ inner_of s (boxes_in s from end)
  kept-whole at x t c e h m q p = ap Whole p ∙ (rw q at (kept-stop at x t e h m))

-- the first cue: no further box, a cue, a box of another kind
pub next-stop : (s : List ℕ) (at end : ℕ) (t : Step) → step_at s at end ≡ t → NoBox t → next_cue s (boxes_in s at end) ≡ ended (stopped_by t)
unfolding next_cue
next-stop s at end t e h = rw (boxes-at s at end, e) (go t h)
  where
    go : (u : Step) → NoBox u → next_cue s (on_step u at (λ n. boxes_in s n end)) ≡ ended (stopped_by u)
    go (Box k b n) h = absurd h
    go (Stopped r) h = refl
    go Ended h = refl

module _ (s : List ℕ) (at end k b n : ℕ) (e : step_at s at end ≡ Box k b n) where
  pub next-found : k ≡ vttc → next_cue s (boxes_in s at end) ≡ cue_by (inner_of s (boxes_in s b n)) n
  unfolding next_cue
  next-found q = rw (boxes-box s at end k b n e, next_cue, eq-eqb k vttc q)

  pub next-other : (k ≡ vttc → ⊥) → next_cue s (boxes_in s n end) ≡ next_cue s (boxes_in s at end)
  unfolding next_cue
  next-other q = rw (boxes-box s at end k b n e, next_cue, ne_eqb k vttc q)
