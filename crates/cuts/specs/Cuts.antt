-- Terms of the contracts of functions that only packing calls: the cuts of records, and the bytes of the samples between them.
use Rattle.std.specs.Prelude.{ℕ, zero, suc, ◌+◌, ◌*◌, ◌≤◌, ◌<◌, ◌≡◌, Bool, List, [], ◌∷◌, ◌++◌, leb, ltb, length, get_or}
use Rattle.base.specs.Choice.{both, pick}
use Rattle.times.specs.Times.{tick}
use Rattle.timeline.specs.Packing.{sorted}
use Rattle.wvtt_write.specs.Written.{cue_size}
use Rattle.records.specs.Records.{start_ms, end_ms, identifier_length, settings_length, payload_length}

unfoldable pub start_tick : ℕ → List ℕ → ℕ → ℕ
start_tick scale recs i = tick scale (start_ms recs i)

unfoldable pub end_tick : ℕ → List ℕ → ℕ → ℕ
end_tick scale recs i = tick scale (end_ms recs i)

-- every start and end tick of the first k records
unfoldable pub ticks_to : ℕ → List ℕ → ℕ → List ℕ
ticks_to scale recs zero = []
ticks_to scale recs (suc k) = ticks_to scale recs k ++ start_tick scale recs k ∷ end_tick scale recs k ∷ []

-- the cuts of n records: 0, T and every start and end tick, each once, rising
unfoldable pub cuts_of : ℕ → ℕ → List ℕ → ℕ → List ℕ
unfolding ticks_to
cuts_of scale T recs n = sorted (0 ∷ T ∷ ticks_to scale recs n)

-- record k runs at tick b
unfoldable pub runs_at : ℕ → List ℕ → ℕ → ℕ → Bool
runs_at scale recs b k = both (leb (start_tick scale recs k) b) (ltb b (end_tick scale recs k))

-- the bytes of record k's cue
unfoldable pub record_size : List ℕ → ℕ → ℕ
record_size recs k = cue_size (identifier_length recs k) (settings_length recs k) (payload_length recs k)

-- the bytes of the cues of those of the first k records that run at tick b
unfoldable pub cues_size : ℕ → List ℕ → ℕ → ℕ → ℕ
unfolding runs_at record_size
cues_size scale recs b zero = 0
cues_size scale recs b (suc k) = cues_size scale recs b k + pick (runs_at scale recs b k) (record_size recs k) 0

-- a sample without cues has 8 bytes
abbrev pub or_empty : ℕ → ℕ
or_empty zero = 8
or_empty (suc n) = suc n

-- the bytes of the first i samples
unfoldable pub bytes_to : ℕ → ℕ → List ℕ → ℕ → ℕ → ℕ
unfolding cues_size cuts_of
bytes_to scale T recs n zero = 0
bytes_to scale T recs n (suc i) = bytes_to scale T recs n i + or_empty (cues_size scale recs (get_or (cuts_of scale T recs n) i 0) n)

-- each of n records ends after it starts
abbrev pub Lasting : ℕ → List ℕ → ℕ → Type 0
Lasting scale recs n = (i : ℕ) → i < n → start_tick scale recs i < end_tick scale recs i

-- n records on a timeline of T ticks: starts never fall, and each ends after it starts and by T
pub record Timed (scale T : ℕ) (recs : List ℕ) (n : ℕ) : Type 0 where
  pub whole : n * 24 ≤ length recs
  pub few : n ≤ 1024
  pub ordered : (i j : ℕ) → i ≤ j → j < n → start_tick scale recs i ≤ start_tick scale recs j
  pub lasts : Lasting scale recs n
  pub ends : (i : ℕ) → i < n → end_tick scale recs i ≤ T

-- b is cut number i
pub record CutAt (scale T : ℕ) (recs : List ℕ) (n i b : ℕ) : Type 0 where
  pub there : i < length (cuts_of scale T recs n)
  pub is : b ≡ get_or (cuts_of scale T recs n) i 0
