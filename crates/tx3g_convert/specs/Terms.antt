-- Terms of the contracts of private functions: where the measuring and the writing of samples stand.
use Rattle.std.specs.Prelude.{ℕ, ◌+◌, ◌*◌, ◌≤◌, ◌<◌, ◌≡◌, Bool, true, false, not, List, leb, ltb, length}
use Rattle.base.specs.Choice.{any_of}
use Rattle.base.specs.Over.{wrote}
use Rattle.verdict.specs.Verdict.{Verdict, Fine, Refused}
use Rattle.text.specs.Rules.{payload_text}
use Rattle.times.specs.Times.{back}
use Rattle.records_write.specs.Records.{record_of, records_of, pool_of}
use Rattle.tx3g_entry.specs.Entry.{judge_entry}
use Rattle.tx3g_payload.specs.Statements.{has_zero}
use Rattle.tx3g_stock.specs.Stock.{judge_stock}
use Rattle.tx3g_convert.specs.declared.State.{State}
use Rattle.tx3g_convert.specs.Turn.{Turn, On, Stopped}
use Rattle.tx3g_convert.specs.Convert.{Told, told_of, counting, cue_of, ticks_of, stock_cues, judge_tolds}

abbrev pub told : ℕ → List ℕ → Told
told duration payload = record { duration = duration; payload = payload }

-- the payload rule refuses it for a zero byte and for nothing else
abbrev pub Ruled : List ℕ → Type 0
Ruled p = payload_text p ≡ not (has_zero p)

-- after k cues, a cue with a payload of n bytes is one too many, or its payload too long
abbrev pub past_limits : ℕ → ℕ → Bool
past_limits k n = any_of (leb 1024 k) (ltb 4095 n)

-- by n it is known whether a payload is too long; within the limits it keeps its rule
pub record Sized (k n : ℕ) (p : List ℕ) : Type 0 where
  pub long : ltb 4095 n ≡ ltb 4095 (length p)
  pub right : past_limits k n ≡ false → payload_text p ≡ true

-- the state behind a sample of d ticks with a payload of n bytes
abbrev pub behind_of : State → ℕ → ℕ → State
behind_of st d n = record { tick = st.tick + d; cues = counting (ltb 0 n) st.cues; size = st.size + n }

-- the state is within its limits, and is so behind a sample of d ticks
pub record Low (st : State) (d : ℕ) : Type 0 where
  pub ticks : st.tick + d < 281474976710656
  pub few : st.cues ≤ 1024
  pub small : st.size ≤ st.cues * 4095

-- the state, or the refusal of a verdict
abbrev pub turn_by : Verdict → State → Turn
turn_by Fine st = On st
turn_by (Refused r) st = Stopped r

-- no fault in the samples of a track, and the state behind the last
pub record Ended (scale : ℕ) (e table samples : List ℕ) (st : State) : Type 0 where
  pub fine : judge_tolds scale 0 0 0 (told_of e table samples) ≡ Fine
  pub total : st.tick ≡ ticks_of (told_of e table samples)
  pub counted : st.cues ≡ length (stock_cues e table samples)
  pub sized : st.size ≡ length (pool_of (stock_cues e table samples))
  pub low : Low st 0

-- the state behind all samples, or their refusal
abbrev pub MeasuredIs : ℕ → List ℕ → List ℕ → List ℕ → Turn → Type 0
MeasuredIs scale e table samples (On st) = Ended scale e table samples st
MeasuredIs scale e table samples (Stopped r) = judge_tolds scale 0 0 0 (told_of e table samples) ≡ Refused r

-- ---- writing

-- the cue of a payload can be written: short, within 100 hours, with room for its record and its text
pub record Fitting (scale : ℕ) (st : State) (d : ℕ) (payload records pool : List ℕ) : Type 0 where
  pub short : length payload ≤ 4095
  pub early : back scale (st.tick + d) ≤ 359999999
  pub records_fit : st.cues * 24 + 24 ≤ length records
  pub pool_fits : st.size + length payload ≤ length pool

-- the outputs with that cue, where the sample has one
abbrev pub records_with : Bool → ℕ → State → ℕ → List ℕ → List ℕ → List ℕ
records_with true scale st d payload old = wrote old (st.cues * 24) (record_of scale st.size (cue_of st.cues st.tick (told d payload)))
records_with false scale st d payload old = old

abbrev pub pool_with : Bool → State → List ℕ → List ℕ → List ℕ
pool_with true st payload old = wrote old st.size payload
pool_with false st payload old = old

-- a track without fault, and room for its records and its pool
pub record Ready (scale : ℕ) (e table samples records pool : List ℕ) : Type 0 where
  pub scaled : 0 < scale
  pub entry : judge_entry e ≡ Fine
  pub track : judge_stock e table samples ≡ Fine
  pub fine : judge_tolds scale 0 0 0 (told_of e table samples) ≡ Fine
  pub records_fit : length (records_of scale (stock_cues e table samples)) ≤ length records
  pub pool_fits : length (pool_of (stock_cues e table samples)) ≤ length pool
