-- The judgement of a sample. Document 01, 'WebVTT samples' and 'Numbers given back'.
use Rattle.std.specs.Prelude.{ℕ, ◌-◌, List, [], Bool, not, ltb, leb, eqb, length}
use Rattle.base.specs.Choice.{pick, both, any_of}
use Rattle.verdict.specs.Verdict.{Verdict, Fine}
use Rattle.verdict.specs.Judgement.{◌gives◌at◌, text_at, ◌then◌}
use Rattle.fields.specs.BigEndian.{be}
use Rattle.viable.specs.FirstBad.{judged_by}
use Rattle.text.specs.Rules.{identifier_text, payload_text}
use Rattle.text.specs.Beginnings.{identifier_begun, payload_begun}
use Rattle.boxes.specs.Boxes.{boxes_in, passed, judged, among, times, part}
use Rattle.wvtt.specs.Kinds.{vttc, vtte, vsid, payl, line, single}

-- a source ID is 4 bytes, below 2^31
unfoldable pub judge_id : List ℕ → ℕ → ℕ → ℕ → Verdict
judge_id s p b n = ltb (n - b) 4 gives 1 at p then ltb 4 (n - b) gives 2 at p then leb 0x80000000 (be 4 s b) gives 8 at p

-- a text has at most `limit` bytes and follows its rule
unfoldable pub judge_text : (List ℕ → Bool) → (List ℕ → Bool) → ℕ → List ℕ → ℕ → ℕ → ℕ → Verdict
judge_text keeps begun limit s p b n = ltb limit (n - b) gives 9 at p then text_at p (judged_by keeps begun (part s b n))

-- the body of a box of a cue; others are passed over
unfoldable pub judge_body : List ℕ → ℕ → ℕ → ℕ → ℕ → Verdict
unfolding judge_id judge_text
judge_body s p k b n =
    pick (eqb k vsid) (judge_id s p b n)
    (pick (eqb k payl) (judge_text payload_text payload_begun 4095 s p b n)
    (pick (line k) (judge_text identifier_text identifier_begun 255 s p b n)
    Fine))

-- a box of a cue, with the kinds before it
unfoldable pub in_cue : List ℕ → List ℕ → ℕ → ℕ → ℕ → ℕ → Verdict
unfolding judge_body
in_cue s before p k b n = both (single k) (among k before) gives 3 at p then judge_body s p k b n

-- at the end of a cue whose box is at p: the payload must have been there
abbrev pub end_cue : ℕ → List ℕ → Verdict
end_cue p kinds = not (among payl kinds) gives 4 at p

-- a `vttc` at p whose body goes from b to n
unfoldable pub judge_cue : List ℕ → ℕ → ℕ → ℕ → Verdict
judge_cue s p b n = judged (in_cue s) (end_cue p) [] (boxes_in s b n)

-- a box of a sample: a cue; or `vtte`, whose body is whole boxes; others are passed over
unfoldable pub in_sample : List ℕ → List ℕ → ℕ → ℕ → ℕ → ℕ → Verdict
unfolding judge_cue
in_sample s before p k b n = pick (eqb k vttc) (judge_cue s p b n) (pick (eqb k vtte) (passed (boxes_in s b n)) Fine)

-- at the end of a sample that has so many `vttc` and so many `vtte`
abbrev pub end_counts : ℕ → ℕ → Verdict
end_counts cues empties = any_of (ltb 1 empties) (both (ltb 0 empties) (ltb 0 cues)) gives 5 at 0 then both (eqb cues 0) (eqb empties 0) gives 4 at 0

abbrev pub end_sample : List ℕ → Verdict
end_sample kinds = end_counts (times vttc kinds) (times vtte kinds)

-- the verdict on a sample
unfoldable pub judge_sample : List ℕ → Verdict
unfolding in_sample
judge_sample s = judged (in_sample s) end_sample [] (boxes_in s 0 (length s))
