-- WebVTT timestamps: `mm:ss.mmm`, or two or more digits of hours and `:mm:ss.mmm`. Document 02, K1 and K5.
use Rattle.std.specs.Prelude.{ℕ, ◌+◌, ◌*◌, ◌/◌, ◌%◌, ◌≤◌, min, ◌≡◌, Bool, true, false, List, [], ◌∷◌, ◌++◌, leb, length, take, drop}
use Rattle.std.proofs.Math.Option.{Option, none, some}
use Rattle.base.specs.Choice.{pick, both, within}
use Rattle.utf8.specs.Utf8.{Range}
use Rattle.decimal.specs.Decimal.{value}
use Rattle.timestamps.specs.Timestamp.{Timestamp, Ms, Malformed}

-- each byte passes a test
abbrev pub All : (ℕ → Bool) → List ℕ → Type 0
All p [] = Unit {0}
All p (b ∷ s) = (p b ≡ true) × All p s

-- the bytes before the first that fails a test, and those from it on
unfoldable pub front : (ℕ → Bool) → List ℕ → List ℕ
front p [] = []
front p (b ∷ s) = pick (p b) (b ∷ front p s) []

unfoldable pub behind : (ℕ → Bool) → List ℕ → List ℕ
behind p [] = []
behind p (b ∷ s) = pick (p b) (behind p s) (b ∷ s)

-- `:` and `.`
abbrev pub COLON : ℕ
COLON = 0x3A

abbrev pub DOT : ℕ
DOT = 0x2E

unfoldable pub digit : ℕ → Bool
digit b = within 0x30 0x39 b

-- as many bytes as ranges, each in its own
unfoldable pub shaped : List Range → List ℕ → Bool
shaped [] [] = true
shaped [] (b ∷ s) = false
shaped (r ∷ rs) [] = false
shaped (r ∷ rs) (b ∷ s) = both (within r.0 r.1 b) (shaped rs s)

-- `mm:ss.mmm`: minutes and seconds are 00 to 59
abbrev pub minutes : List Range
minutes =
    (0x30, 0x35) ∷ (0x30, 0x39) ∷ (COLON, COLON)
    ∷ (0x30, 0x35) ∷ (0x30, 0x39) ∷ (DOT, DOT)
    ∷ (0x30, 0x39) ∷ (0x30, 0x39) ∷ (0x30, 0x39) ∷ []

-- the milliseconds of `mm:ss.mmm`
unfoldable pub minutes_ms : List ℕ → ℕ
minutes_ms s = value (take 2 s) * 60000 + value (take 2 (drop 3 s)) * 1000 + value (drop 6 s)

-- digits of hours, and what stands behind them
unfoldable pub hours_ms : List ℕ → List ℕ → Option ℕ
hours_ms h r = pick (both (leb 2 (length h)) (shaped ((COLON, COLON) ∷ minutes) r)) (some (value h * 3600000 + minutes_ms (drop 1 r))) none

-- the milliseconds of a timestamp; none where the bytes are no timestamp
unfoldable pub time_of : List ℕ → Option ℕ
time_of s = pick (shaped minutes s) (some (minutes_ms s)) (hours_ms (front digit s) (behind digit s))

-- a time as it is answered: one of 100 hours or more, which no list takes, as 100 hours
unfoldable pub capped : ℕ → ℕ
capped t = min t 360000000

abbrev pub answered : Option ℕ → Timestamp
answered none = Malformed
answered (some t) = Ms (capped t)

-- ---- as a time is written

-- n as two digits, as three
unfoldable pub two : ℕ → List ℕ
two n = (0x30 + n / 10) ∷ (0x30 + n % 10) ∷ []

unfoldable pub three : ℕ → List ℕ
unfolding two
three n = (0x30 + n / 100) ∷ two (n % 100)

-- `hh:mm:ss.mmm`
unfoldable pub time_text : ℕ → List ℕ
unfolding two three
time_text t = two (t / 3600000) ++ COLON ∷ two (t / 60000 % 60) ++ COLON ∷ two (t / 1000 % 60) ++ DOT ∷ three (t % 1000)

-- a time that is written is read again
abbrev pub TimesComeBack : Type 0
TimesComeBack = (t : ℕ) → t ≤ 359999999 → time_of (time_text t) ≡ some t
