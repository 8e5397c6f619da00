-- What holds of an entry that is written. Proved in proofs/Answers.antt and proofs/ReadBack.antt.
use Rattle.std.specs.Prelude.{ℕ, ◌<◌, ◌≤◌, ◌≡◌, List, Option as Maybe, Some, None, length}
use Rattle.std.proofs.Math.Option.{Option, none, some}
use Rattle.verdict.specs.declared.Refusal.{Refusal}
use Rattle.verdict.specs.Verdict.{Fine, Refused as Faulty}
use Rattle.verdict.specs.Judgement.{fault}
use Rattle.boxes.specs.Boxes.{part}
use Rattle.boxes.specs.declared.Part.{Part}
use Rattle.wvtt_entry.specs.Read.{Read, Whole, Refused as NotRead}
use Rattle.wvtt_entry.specs.Entry.{judge_entry}
use Rattle.wvtt_entry.specs.Reading.{read_entry}
use Rattle.wvtt_entry_write.specs.Written.{Done, Refused}
use Rattle.wvtt_entry_write.specs.Writing.{entry_bytes, judge_written, room_of, written_of}

-- The room law: where nothing is refused, `entry_room` says how many bytes the entry has. `write_entry` writes it where as many are lent, and refuses 15, place 0,
-- where fewer are. A refusal of the one is the other's, whatever is lent.
pub record RoomIsExact (c : List ℕ) (l : Option (List ℕ)) (index : ℕ) : Type 0 where
  pub needs : judge_written c l ≡ Fine → room_of c l ≡ Done (length (entry_bytes c l index))
  pub fits : (n room : ℕ) → room_of c l ≡ Done n → n ≤ room → written_of c l room ≡ Done n
  pub short : (n room : ℕ) → room_of c l ≡ Done n → room < n → written_of c l room ≡ Refused (fault 15 0)
  pub refused : (r : Refusal) (room : ℕ) → judge_written c l ≡ Faulty r → (room_of c l ≡ Refused r) × (written_of c l room ≡ Refused r)

abbrev pub RoomLaw : Type 0
RoomLaw = (c : List ℕ) (l : Option (List ℕ)) (index : ℕ) → RoomIsExact c l index

-- the label that stands at a part, if there is one
abbrev pub label_at : List ℕ → Maybe Part → Option (List ℕ)
label_at e (Some x) = some (part e x.from x.end)
label_at e None = none

-- what reading an entry gives: this index, and these texts where they stand in it
abbrev pub Gives : List ℕ → List ℕ → Option (List ℕ) → ℕ → Read → Type 0
Gives e c l index (Whole x) = (x.index ≡ index) × (part e x.configuration.from x.configuration.end ≡ c) × (label_at e x.label ≡ l)
Gives e c l index (NotRead r) = ⊥

-- an entry that was written has no fault, and reading it gives back what was written
abbrev pub ReadsBack : Type 0
ReadsBack =
    (c : List ℕ) (l : Option (List ℕ)) (index : ℕ) → index < 65536 → judge_written c l ≡ Fine
    → (judge_entry (entry_bytes c l index) ≡ Fine) × Gives (entry_bytes c l index) c l index (read_entry (entry_bytes c l index))
