-- What is promised of payloads made from old 3GPP samples. Proved in proofs/. Document 02, K9 and K11.
use Rattle.std.specs.Prelude.{ℕ, ◌<◌, ◌≡◌, true, List}
use Rattle.std.proofs.Math.Option.{Option}
use Rattle.viable.specs.FirstBad.{bytes}
use Rattle.verdict.specs.Verdict.{Fine}
use Rattle.code_points.specs.CodePoints.{scalars}
use Rattle.records.specs.Records.{payload_of as payload_at}
use Rattle.records_write.specs.Records.{records_of, pool_of}
use Rattle.profile.specs.Grammar.{Profile}
use Rattle.tx3g_sample.specs.Sample.{judge_sample}
use Rattle.tx3g_payload.specs.Payload.{payload_of}
use Rattle.tx3g_payload_write.specs.Sample.{payload_in}
use Rattle.tx3g_stock.specs.declared.Counts.{Counts}
use Rattle.tx3g_convert.specs.Converted.{Done}
use Rattle.tx3g_convert.specs.Convert.{stock_cues, convert_room}

-- the payload of any right characters is in the profile: tags are closed in the reverse of the order they were opened in, at most three stand in one another, and no
-- timestamp is written
abbrev pub StockWithin : Type 0
StockWithin = (ranges : ℕ → Option ℕ) (faces : Option ℕ → ℕ) (cs : List ℕ) → scalars cs ≡ true → Profile (payload_of ranges faces cs)

-- so is that of a sample without fault
abbrev pub SampleWithin : Type 0
SampleWithin = (e s : List ℕ) → bytes s ≡ true → judge_sample e s ≡ Fine → Profile (payload_in e s)

-- and that of each record that a conversion writes
abbrev pub StockCuesWithin : Type 0
StockCuesWithin =
    (scale : ℕ) (e table samples : List ℕ) (n r p T : ℕ) (c : Counts) → bytes samples ≡ true → convert_room scale e table samples ≡ Done n r p T c
    → (k : ℕ) → k < n → Profile (payload_at (records_of scale (stock_cues e table samples)) (pool_of (stock_cues e table samples)) k)
