-- The judgement of a `wvtt` sample entry: 16 bytes (size, type, 6 unjudged, data reference index), then boxes. Document 01, 'WebVTT samples'.
use Rattle.std.specs.Prelude.{ℕ, List, [], not, eqb, length}
use Rattle.base.specs.Choice.{pick, both, any_of}
use Rattle.verdict.specs.Verdict.{Verdict, Fine}
use Rattle.verdict.specs.Judgement.{◌gives◌at◌, text_at, ◌then◌}
use Rattle.viable.specs.FirstBad.{judged_by}
use Rattle.boxes.specs.Boxes.{boxes_in, judged, among, part}
use Rattle.text.specs.Rules.{configuration_text, label_text}
use Rattle.text.specs.Beginnings.{configuration_begun, label_begun}
use Rattle.entry_head.specs.Head.{judge_head}

-- `wvtt`; the boxes `vttC` (configuration) and `vlab` (label)
abbrev pub wvtt : ℕ
wvtt = 0x77767474

abbrev pub vtt_c : ℕ
vtt_c = 0x76747443

abbrev pub vlab : ℕ
vlab = 0x766C6162

-- the text of a box: of `vttC` a configuration, of `vlab` a label; others are passed over
unfoldable pub judge_content : List ℕ → ℕ → ℕ → ℕ → ℕ → Verdict
judge_content e p k b n =
    pick (eqb k vtt_c) (text_at p (judged_by configuration_text configuration_begun (part e b n)))
    (pick (eqb k vlab) (text_at p (judged_by label_text label_begun (part e b n)))
    Fine)

-- a box of an entry, with the kinds before it
unfoldable pub in_entry : List ℕ → List ℕ → ℕ → ℕ → ℕ → ℕ → Verdict
unfolding judge_content
in_entry e before p k b n = both (any_of (eqb k vtt_c) (eqb k vlab)) (among k before) gives 3 at p then judge_content e p k b n

-- at the end of an entry: the configuration must have been there
abbrev pub end_entry : List ℕ → Verdict
end_entry kinds = not (among vtt_c kinds) gives 4 at 0

-- the verdict on a sample entry
unfoldable pub judge_entry : List ℕ → Verdict
unfolding in_entry
judge_entry e = judge_head e 16 wvtt then judged (in_entry e) end_entry [] (boxes_in e 16 (length e))
