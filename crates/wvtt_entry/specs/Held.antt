-- What holds of an entry that is read. Proved in proofs/Held.antt.
use Rattle.std.specs.Prelude.{ℕ, ◌+◌, ◌≤◌, ◌≡◌, List, ◌⊎◌, Bool, true, Option, Some, None, length}
use Rattle.verdict.specs.Verdict.{Fine, Refused as Faulty}
use Rattle.fields.specs.BigEndian.{be}
use Rattle.boxes.specs.Boxes.{Boxes, clean, broken, box, part}
use Rattle.text.specs.Rules.{configuration_text, label_text}
use Rattle.boxes.specs.declared.Part.{Part}
use Rattle.wvtt_entry.specs.Read.{Read, Whole, Refused}
use Rattle.wvtt_entry.specs.Entry.{vtt_c, vlab, judge_entry}
use Rattle.wvtt_entry.specs.Reading.{entry_boxes, read_entry}

-- a box of kind k, whose body is from b to n, stands among boxes
unfoldable pub Stands : ℕ → ℕ → ℕ → Boxes → Type 0
Stands k b n clean = ⊥
Stands k b n (broken r) = ⊥
Stands k b n (box p j c m rest) = ((j ≡ k) × (c ≡ b) × (m ≡ n)) ⊎ Stands k b n rest

-- A part is the body of the one box of kind k of an entry, and keeps the rule of its text. Behind the 16 fixed bytes stands the box's header,
-- its size and its type, and behind that the part, up to where the box ends.
pub record BodyOf (e : List ℕ) (k : ℕ) (rule : List ℕ → Bool) (x : Part) : Type 0 where
  pub place : ℕ
  pub behind : 16 ≤ place
  pub size : place + be 4 e place ≡ x.end
  pub kind : be 4 e (place + 4) ≡ k
  pub begins : x.from ≡ place + 8
  pub order : x.from ≤ x.end
  pub inside : x.end ≤ length e
  pub stands : Stands k x.from x.end (entry_boxes e)
  pub only : (b n : ℕ) → Stands k b n (entry_boxes e) → (b ≡ x.from) × (n ≡ x.end)
  pub right : rule (part e x.from x.end) ≡ true

-- a label is the body of the `vlab`; where there is none, no `vlab` stands among the boxes
abbrev pub LabelOf : List ℕ → Option Part → Type 0
LabelOf e (Some x) = BodyOf e vlab label_text x
LabelOf e None = (b n : ℕ) → Stands vlab b n (entry_boxes e) → ⊥

-- what an answer means: the entry has no fault, and these are its index, configuration and label; or the entry has this fault
abbrev pub Holds : List ℕ → Read → Type 0
Holds e (Whole x) = (judge_entry e ≡ Fine) × (x.index ≡ be 2 e 14) × BodyOf e vtt_c configuration_text x.configuration × LabelOf e x.label
Holds e (Refused r) = judge_entry e ≡ Faulty r

-- the answer of `read_entry`
abbrev pub EntryHolds : Type 0
EntryHolds = (e : List ℕ) → Holds e (read_entry e)
