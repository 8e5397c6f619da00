-- What a `wvtt` sample entry holds: the data reference index, and where the texts of its `vttC` and of its `vlab` stand.
use Rattle.std.specs.Prelude.{ℕ, List, Option, Some, None, eqb, length}
use Rattle.base.specs.Choice.{pick}
use Rattle.verdict.specs.Verdict.{Verdict, Fine, Refused as Faulty}
use Rattle.fields.specs.BigEndian.{be}
use Rattle.boxes.specs.Boxes.{Boxes, clean, broken, box, boxes_in}
use Rattle.boxes.specs.declared.Part.{Part}
use Rattle.wvtt_entry.specs.declared.Entry.{Entry}
use Rattle.wvtt_entry.specs.Read.{Read, Whole, Refused}
use Rattle.wvtt_entry.specs.Entry.{vtt_c, vlab, judge_entry}

-- where the body of the first box of kind k stands, if there is one
unfoldable pub first_body : ℕ → Boxes → Option Part
first_body k clean = None
first_body k (broken r) = None
first_body k (box p j b n rest) = pick (eqb j k) (Some (record { from = b; end = n })) (first_body k rest)

-- a body; 0 and 0 where there is none
abbrev pub or_nowhere : Option Part → Part
or_nowhere (Some x) = x
or_nowhere None = record { from = 0; end = 0 }

-- the boxes of an entry, behind its 16 fixed bytes
unfoldable pub entry_boxes : List ℕ → Boxes
entry_boxes e = boxes_in e 16 (length e)

-- what an entry without fault holds
unfoldable pub held_by : List ℕ → Entry
unfolding entry_boxes
held_by e =
    record {
      index = be 2 e 14;
      configuration = or_nowhere (first_body vtt_c (entry_boxes e));
      label = first_body vlab (entry_boxes e);
    }

abbrev pub unless_faulty : Verdict → Entry → Read
unless_faulty Fine x = Whole x
unless_faulty (Faulty r) x = Refused r

-- the answer: the entry's fault; else what it holds
unfoldable pub read_entry : List ℕ → Read
unfolding held_by
read_entry e = unless_faulty (judge_entry e) (held_by e)
