-- Reading a WebVTT file into records and pool. Document 02, K1.
use Rattle.std.specs.Prelude.{Ok}
use Rattle.std.specs.Prelude.{ℕ, suc, Bool, true, not, List, [], ◌∷◌, leb, ltb, length, drop}
use Rattle.std.proofs.Math.Option.{some}
use Rattle.base.specs.Choice.{pick, any_of}
use Rattle.base.specs.Over.{over}
use Rattle.utf8.specs.Strings.{starts_with}
use Rattle.text.specs.Rules.{webvtt}
use Rattle.times.specs.Times.{tick}
use Rattle.timeline.specs.Cues.{Cue}
use Rattle.verdict.specs.Verdict.{Verdict, Fine, Refused as Faulty}
use Rattle.verdict.specs.Judgement.{fault, refuse, ◌gives◌at◌, ◌then◌}
use Rattle.cues.specs.Caption.{Caption, judge_caption}
use Rattle.records_write.specs.Records.{records_of, pool_of}
use Rattle.vtt_lines.specs.Lines.{Line, lines_of, filled, Block, blocks_from, some_arrow}
use Rattle.vtt_blocks.specs.Kinds.{Kind, cue, untimed, note, style, other, opens, kind_of}
use Rattle.vtt_read.specs.FileRead.{FileRead, Done, Refused}

-- ---- the judgement of a block

-- a block whose first line has number n, behind k cues of which the last starts at `before`: each cue as packing judges it at scale 1,000 and T 359,999,999, the 1,025th 9
unfoldable pub judge_kind : ℕ → ℕ → ℕ → Kind → Verdict
judge_kind n k before (cue t c) = leb 1024 k gives 9 at t then judge_caption 1000 359999999 before c t
judge_kind n k before (untimed t) = refuse 19 t
judge_kind n k before note = Fine
judge_kind n k before style = refuse 18 n
judge_kind n k before other = refuse 19 n

-- the number of cues and the last one's start, behind a block
abbrev pub count_after : ℕ → Kind → ℕ
count_after k (cue t c) = suc k
count_after k (untimed t) = k
count_after k note = k
count_after k style = k
count_after k other = k

abbrev pub start_after : ℕ → Kind → ℕ
start_after before (cue t c) = c.start
start_after before (untimed t) = before
start_after before note = before
start_after before style = before
start_after before other = before

-- blocks are judged in file order
unfoldable pub judge_blocks : ℕ → ℕ → List Block → Verdict
unfolding judge_kind kind_of
judge_blocks k before [] = Fine
judge_blocks k before (b ∷ bs) = judge_kind b.line k before (kind_of b) then judge_blocks (count_after k (kind_of b)) (start_after before (kind_of b)) bs

abbrev pub with_cue : Kind → List Caption → List Caption
with_cue (cue t c) cs = c ∷ cs
with_cue (untimed t) cs = cs
with_cue note cs = cs
with_cue style cs = cs
with_cue other cs = cs

-- the cues of the blocks, in their order
unfoldable pub cues_in : List Block → List Caption
unfolding kind_of
cues_in [] = []
cues_in (b ∷ bs) = with_cue (kind_of b) (cues_in bs)

-- ---- the file

-- the byte order mark
abbrev pub mark : List ℕ
mark = 0xEF ∷ 0xBB ∷ 0xBF ∷ []

unfoldable pub unmarked : List ℕ → List ℕ
unmarked s = pick (starts_with mark s) (drop 3 s) s

-- the header: the `WEBVTT` line and further lines up to an empty one, no `-->` in them
unfoldable pub bad_header : Line → List Line → Bool
unfolding opens some_arrow filled
bad_header l ls = any_of (not (opens webvtt l)) (some_arrow (l ∷ filled ls))

-- the header is the block of line 1; then each block
unfoldable pub judge_lines : List Line → Verdict
unfolding bad_header judge_blocks blocks_from
judge_lines [] = refuse 19 1
judge_lines (l ∷ ls) = bad_header l ls gives 19 at 1 then judge_blocks 0 0 (blocks_from true 2 ls)

unfoldable pub cues_of_lines : List Line → List Caption
unfolding cues_in blocks_from
cues_of_lines [] = []
cues_of_lines (l ∷ ls) = cues_in (blocks_from true 2 ls)

unfoldable pub judge_file : List ℕ → Verdict
unfolding lines_of unmarked judge_lines
judge_file s = judge_lines (lines_of (unmarked s))

unfoldable pub file_cues : List ℕ → List Caption
unfolding lines_of unmarked cues_of_lines
file_cues s = cues_of_lines (lines_of (unmarked s))

-- ---- records and pool

-- a caption with an ID, at 1,000 ticks a second
unfoldable pub cue_with : ℕ → Caption → Cue
cue_with id c =
    record {
      start = tick 1000 c.start;
      end = tick 1000 c.end;
      body = record { id = some id; identifier = c.identifier; settings = c.settings; payload = c.payload };
    }

-- IDs are counted from k
unfoldable pub numbered_from : ℕ → List Caption → List Cue
unfolding cue_with
numbered_from k [] = []
numbered_from k (c ∷ cs) = cue_with k c ∷ numbered_from (suc k) cs

-- the records and the pool of a file, dense, as unpacking writes them, IDs counted from 0
unfoldable pub file_records : List ℕ → List ℕ
unfolding file_cues numbered_from
file_records s = records_of 1000 (numbered_from 0 (file_cues s))

unfoldable pub file_pool : List ℕ → List ℕ
unfolding file_cues numbered_from
file_pool s = pool_of (numbered_from 0 (file_cues s))

-- ---- the answer

abbrev pub answer_by : Verdict → FileRead → FileRead
answer_by Fine a = a
answer_by (Faulty r) a = Refused r

-- the room that reading needs, which is its answer where there is enough: how many cues, the lengths of records and pool
unfoldable pub read_room : List ℕ → FileRead
unfolding judge_file file_cues file_records file_pool
read_room s = answer_by (judge_file s) (Done (length (file_cues s)) (length (file_records s)) (length (file_pool s)))

-- 15: the records do not fit (place 0), the pool does not (place 1)
abbrev pub roomed : ℕ → ℕ → FileRead → FileRead
roomed records pool (Ok x) = pick (ltb records x.records) (Refused (fault 15 0)) (pick (ltb pool x.pool) (Refused (fault 15 1)) (Done x.cues x.records x.pool))
roomed records pool (Refused r) = Refused r

-- the answer, by the room that there is for records and pool
unfoldable pub read_of : List ℕ → ℕ → ℕ → FileRead
unfolding read_room
read_of s records pool = roomed records pool (read_room s)

-- an output: the bytes over its front on success, else as it was
abbrev pub out_of : FileRead → List ℕ → List ℕ → List ℕ
out_of (Ok x) new old = over new old
out_of (Refused r) new old = old
