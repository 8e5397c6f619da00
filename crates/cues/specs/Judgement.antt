-- The judgement of a list of cue records. Document 01, 'Cue records' and 'Order'.
use Rattle.std.specs.Prelude.{ℕ, zero, suc, ◌%◌, Bool, true, false, not, List, leb, ltb, eqb, length}
use Rattle.std.proofs.Math.Option.{Option, none, some}
use Rattle.base.specs.Choice.{any_of}
use Rattle.base.specs.First.{first}
use Rattle.times.specs.Times.{timeline_allowed}
use Rattle.verdict.specs.Verdict.{Verdict, Fine}
use Rattle.verdict.specs.Judgement.{refuse, ◌gives◌at◌, ◌then◌, each}
use Rattle.records.specs.Records.{count, source_id, start_ms, end_ms, identifier_length, settings_length, payload_length, reserved, texts_end, identifier_of, settings_of, payload_of}
use Rattle.cues.specs.Caption.{Caption, caption, long_texts, judge_content}

-- the ID is not below 2^31, or a reserved byte is not zero
unfoldable pub bad_value : List ℕ → ℕ → Bool
bad_value recs i = any_of (leb 2147483648 (source_id recs i)) (ltb 0 (reserved recs i))

-- offset plus lengths are past the pool
unfoldable pub past_pool : List ℕ → List ℕ → ℕ → Bool
past_pool recs pool i = ltb (length pool) (texts_end recs i)

-- the caption of record i
unfoldable pub caption_of : List ℕ → List ℕ → ℕ → Caption
caption_of recs pool i = caption (start_ms recs i) (end_ms recs i) (identifier_of recs pool i) (settings_of recs pool i) (payload_of recs pool i)

-- the start of the record before, 0 where there is none
unfoldable pub start_before : List ℕ → ℕ → ℕ
start_before recs zero = 0
start_before recs (suc i) = start_ms recs i

-- each record: 8, 9, 1, then its caption: 6, 10, 11; place its index
unfoldable pub judge_record : ℕ → ℕ → List ℕ → List ℕ → ℕ → Verdict
judge_record scale T recs pool i =
    bad_value recs i gives 8 at i
    then long_texts (identifier_length recs i) (settings_length recs i) (payload_length recs i) gives 9 at i
    then past_pool recs pool i gives 1 at i
    then judge_content scale T (start_before recs i) (caption_of recs pool i) i

abbrev pub found : Option ℕ → Bool
found none = false
found (some j) = true

-- the ID of record i stood earlier
unfoldable pub stood_earlier : List ℕ → ℕ → Bool
stood_earlier recs i = found (first (λ j. eqb (source_id recs j) (source_id recs i)) i)

abbrev pub twice_at : Option ℕ → Verdict
twice_at none = Fine
twice_at (some i) = refuse 12 i

-- 12, place the lowest index whose ID stood earlier
unfoldable pub judge_ids : List ℕ → ℕ → Verdict
judge_ids recs n = twice_at (first (stood_earlier recs) n)

-- scale and T (10), whole records (1), count (9), all place 0; then each record; then the IDs
unfoldable pub judge_list : ℕ → ℕ → List ℕ → List ℕ → Verdict
judge_list scale T recs pool =
    not (timeline_allowed scale T) gives 10 at 0
    then ltb 0 (length recs % 24) gives 1 at 0
    then ltb 1024 (count recs) gives 9 at 0
    then each (judge_record scale T recs pool) (count recs)
    then judge_ids recs (count recs)
