-- Laws for the search of a body: no further box, a box of the kind, a box of another. An entry without fault has its fixed bytes.
use Prim.Native.Nat.{ℕ, ◌≤◌}
use mathlib.Core.Path.{◌≡◌, refl}
use mathlib.Core.List.{List, []}
use lib.ListN.{length}
use borrow.Author.Tests.{eq-eqb, ne_eqb}
use Rattle.verdict.specs.Verdict.{Fine}
use Rattle.verdict.proofs.Judgement.{both-fine}
use Rattle.boxes.specs.declared.Step.{Step}
use Rattle.boxes.specs.declared.Step.TheVariants.{Box, Refused as Stopped, End}
use Rattle.boxes.specs.Boxes.{step_at, on_step, boxes_in, judged}
use Rattle.boxes.proofs.Laws.{boxes-at, boxes-box, NoBox}
use Rattle.entry_head.specs.Head.{judge_head}
use Rattle.entry_head.proofs.Laws.{head_fixed}
use Rattle.std.specs.Prelude.{Option, Some, None}
use Rattle.boxes.specs.declared.Part.{Part}
use Rattle.wvtt_entry.specs.Entry.{wvtt, in_entry, end_entry, judge_entry}
use Rattle.wvtt_entry.specs.Reading.{first_body, entry_boxes}

pub body-stop : (k : ℕ) (s : List ℕ) (at end : ℕ) (t : Step) → step_at s at end ≡ t → NoBox t → ◌≡◌ {A = Option Part} None (first_body k (boxes_in s at end))
unfolding first_body
body-stop k s at end t e h = rw (boxes-at s at end, e) (go t h)
  where
    go : (u : Step) → NoBox u → ◌≡◌ {A = Option Part} None (first_body k (on_step u at (λ n. boxes_in s n end)))
    go (Box j b n) h = absurd h
    go (Stopped r) h = refl
    go End h = refl

module _ (k : ℕ) (s : List ℕ) (at end j b n : ℕ) (e : step_at s at end ≡ Box j b n) where
  pub body-found : j ≡ k → ◌≡◌ {A = Option Part} (Some (record { from = b; end = n })) (first_body k (boxes_in s at end))
  unfolding first_body
  body-found q = rw (boxes-box s at end j b n e, first_body, eq-eqb j k q)

  pub body-other : (j ≡ k → ⊥) → first_body k (boxes_in s n end) ≡ first_body k (boxes_in s at end)
  unfolding first_body
  body-other q = rw (boxes-box s at end j b n e, first_body, ne_eqb j k q)

-- an entry without fault: its head, and its boxes
pub entry-parts : (e : List ℕ) → judge_entry e ≡ Fine → (judge_head e 16 wvtt ≡ Fine) × (judged (in_entry e) end_entry [] (entry_boxes e) ≡ Fine)
unfolding judge_entry entry_boxes
entry-parts e h = both-fine (judge_head e 16 wvtt) (judged (in_entry e) end_entry [] (boxes_in e 16 (length e))) h

pub entry-fixed : (e : List ℕ) → judge_entry e ≡ Fine → 16 ≤ length e
entry-fixed e h = head_fixed e 16 wvtt (entry-parts e h).0
