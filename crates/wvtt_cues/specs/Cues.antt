-- The cues that a sample holds: its `vttc` boxes from left to right, each by ID and the bytes of its three texts.
use Rattle.std.specs.Prelude.{ℕ, ◌-◌, List, [], ◌∷◌, eqb, length}
use Rattle.std.proofs.Math.Option.{none, some}
use Rattle.base.specs.Choice.{pick}
use Rattle.verdict.specs.Verdict.{Verdict, Fine, Refused}
use Rattle.fields.specs.BigEndian.{be}
use Rattle.boxes.specs.Boxes.{Boxes, clean, broken, box, boxes_in, passed, part}
use Rattle.timeline.specs.Cues.{Body}
use Rattle.wvtt.specs.Kinds.{vttc, vsid, iden, sttg, payl}
use Rattle.boxes.specs.declared.Part.{Part}
use Rattle.wvtt_cues.specs.declared.Parts.{Parts}
use Rattle.wvtt_cues.specs.Inner.{Inner, Whole, Refused as Broken}
use Rattle.wvtt_cues.specs.Held.{Held, Cue, Refused as Stopped, End}

-- no bytes
unfoldable pub nowhere : Part
nowhere = record { from = 0; end = 0 }

-- where the body of a box of kind j stands, if that is the kind k wanted; else x
unfoldable pub placed : ℕ → ℕ → ℕ → ℕ → Part → Part
placed j k b n x = pick (eqb j k) (record { from = b; end = n }) x

-- where the body of the box of a kind stands; x where there is none
unfoldable pub body_of : ℕ → Part → Boxes → Part
unfolding placed
body_of k x clean = x
body_of k x (broken r) = x
body_of k x (box p j b n rest) = body_of k (placed j k b n x) rest

-- the ID where the body of `vsid` stands, and where the three texts stand
unfoldable pub with_id : List ℕ → Part → Part → Part → Part → Parts
with_id s v i g t =
    record {
      named = eqb (v.end - v.from) 4;
      id = pick (eqb (v.end - v.from) 4) (be 4 s v.from) 0;
      identifier = i;
      settings = g;
      payload = t;
    }

-- the parts of a cue whose boxes are given
unfoldable pub parts_of : List ℕ → Boxes → Parts
parts_of s bs = with_id s (body_of vsid nowhere bs) (body_of iden nowhere bs) (body_of sttg nowhere bs) (body_of payl nowhere bs)

-- a cue by its parts, if its boxes are whole; else the refusal of the header at which they stop
abbrev pub if_whole : Verdict → Parts → Inner
if_whole Fine c = Whole c
if_whole (Refused r) c = Broken r

abbrev pub inner_of : List ℕ → Boxes → Inner
inner_of s bs = if_whole (passed bs) (parts_of s bs)

-- the bytes of a part
unfoldable pub text_of : List ℕ → Part → List ℕ
text_of s x = part s x.from x.end

-- a cue by its ID and the bytes of its texts
unfoldable pub held_by : List ℕ → Parts → Body
unfolding text_of
held_by s c =
    record {
      id = pick c.named (some c.id) none;
      identifier = text_of s c.identifier;
      settings = text_of s c.settings;
      payload = text_of s c.payload;
    }

-- a cue whose boxes are whole, and those behind it; one whose boxes are not ends the walk
abbrev pub held_then : List ℕ → Inner → List Body → List Body
held_then s (Whole c) ys = held_by s c ∷ ys
held_then s (Broken r) ys = []

-- the cues among the boxes of a sample
unfoldable pub cues_in : List ℕ → Boxes → List Body
unfolding held_by parts_of
cues_in s clean = []
cues_in s (broken r) = []
cues_in s (box p k b n rest) = pick (eqb k vttc) (held_then s (inner_of s (boxes_in s b n)) (cues_in s rest)) (cues_in s rest)

-- the cues of a sample
unfoldable pub sample_cues : List ℕ → List Body
unfolding cues_in
sample_cues s = cues_in s (boxes_in s 0 (length s))

-- a cue with the place after it, or the refusal among its boxes
abbrev pub cue_by : Inner → ℕ → Held
cue_by (Whole c) n = Cue c n
cue_by (Broken r) n = Stopped r

-- The first cue among boxes, with the place after it; or the refusal of the header that stands before it or among its boxes.
-- Document 01 leaves free what a sample holds that is refused for another reason. The answer goes by the boxes as they stand:
-- the last box of a kind counts, and a `vsid` that is not 4 bytes counts as none.
unfoldable pub next_cue : List ℕ → Boxes → Held
unfolding parts_of
next_cue s clean = End
next_cue s (broken r) = Stopped r
next_cue s (box p k b n rest) = pick (eqb k vttc) (cue_by (inner_of s (boxes_in s b n)) n) (next_cue s rest)
