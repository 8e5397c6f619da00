-- Writing a `wvtt` sample entry: its bytes, what is refused, and the whole answer. Document 01, 'WebVTT samples'.
use Rattle.std.specs.Prelude.{ℕ, ◌+◌, List, [], ◌∷◌, ◌++◌, Bool, true, false, ltb, length}
use Rattle.std.proofs.Math.Option.{Option, none, some}
use Rattle.base.specs.Choice.{pick}
use Rattle.base.specs.Over.{over}
use Rattle.verdict.specs.Verdict.{Verdict, Fine, Refused as Faulty}
use Rattle.verdict.specs.Judgement.{fault, text_at, ◌gives◌at◌, ◌then◌}
use Rattle.viable.specs.FirstBad.{judged_by}
use Rattle.fields.specs.BigEndian.{bytes}
use Rattle.boxes.specs.Written.{Item, item_bytes}
use Rattle.text.specs.Rules.{configuration_text, label_text}
use Rattle.text.specs.Beginnings.{configuration_begun, label_begun}
use Rattle.wvtt_entry.specs.Entry.{wvtt, vtt_c, vlab}
use Rattle.wvtt_entry_write.specs.Written.{Written, Done, Refused}

-- a label, if there is one
abbrev pub label_of : Bool → List ℕ → Option (List ℕ)
label_of true t = some t
label_of false t = none

-- the boxes of an entry: `vttC`, and `vlab` if there is a label
abbrev pub label_item : Option (List ℕ) → List Item
label_item none = []
label_item (some t) = record { kind = vlab; body = t } ∷ []

unfoldable pub entry_items : List ℕ → Option (List ℕ) → List Item
entry_items c l = record { kind = vtt_c; body = c } ∷ label_item l

-- how many bytes it has: 16 fixed ones, and for each box 8 and its text
abbrev pub label_size : Option (List ℕ) → ℕ
label_size none = 0
label_size (some t) = 8 + length t

unfoldable pub entry_size : List ℕ → Option (List ℕ) → ℕ
entry_size c l = 24 + length c + label_size l

-- the fixed bytes: size 4, type 4, six zeros, data reference index 2
unfoldable pub entry_head : ℕ → ℕ → List ℕ
entry_head size index = bytes 4 size ++ (bytes 4 wvtt ++ (bytes 6 0 ++ bytes 2 index))

-- the bytes of an entry
unfoldable pub entry_bytes : List ℕ → Option (List ℕ) → ℕ → List ℕ
unfolding entry_head entry_size entry_items
entry_bytes c l index = entry_head (entry_size c l) index ++ item_bytes (entry_items c l)

-- the texts by their rules: the configuration (place 0), and the label (place 1) if there is one
abbrev pub judge_label : Option (List ℕ) → Verdict
judge_label none = Fine
judge_label (some t) = text_at 1 (judged_by label_text label_begun t)

unfoldable pub judge_texts : List ℕ → Option (List ℕ) → Verdict
judge_texts c l = text_at 0 (judged_by configuration_text configuration_begun c) then judge_label l

-- what is refused: a size that 4 bytes do not hold (9), then bad texts (6)
unfoldable pub judge_written : List ℕ → Option (List ℕ) → Verdict
unfolding entry_size judge_texts
judge_written c l = ltb 4294967295 (entry_size c l) gives 9 at 0 then judge_texts c l

abbrev pub unless_faulty : Verdict → ℕ → Written
unless_faulty Fine n = Done n
unless_faulty (Faulty r) n = Refused r

-- the answer of `entry_room`: the fault, or how many bytes are needed
unfoldable pub room_of : List ℕ → Option (List ℕ) → Written
unfolding judge_written
room_of c l = unless_faulty (judge_written c l) (entry_size c l)

-- held against the room that is lent: 15
abbrev pub lent : Written → ℕ → Written
lent (Done n) room = pick (ltb room n) (Refused (fault 15 0)) (Done n)
lent (Refused r) room = Refused r

-- the answer of `write_entry`
unfoldable pub written_of : List ℕ → Option (List ℕ) → ℕ → Written
unfolding room_of
written_of c l room = lent (room_of c l) room

-- what an output d holds afterwards: the result p over its front, or else what it held
abbrev pub after : Written → List ℕ → List ℕ → List ℕ
after (Done n) p d = over p d
after (Refused r) p d = d
