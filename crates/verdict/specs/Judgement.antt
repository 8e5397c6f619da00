-- Judgements: the first fault wins. Document 01, 'Numbers given back'; document 02, K2.
use Rattle.std.specs.Prelude.{ℕ, zero, suc, Bool, true, false}
use Rattle.viable.specs.Judged.{Judged, Right, Bad}
use Rattle.verdict.specs.declared.Refusal.{Refusal}
use Rattle.verdict.specs.Verdict.{Verdict, Fine, Refused}

infixr 20 ◌then◌
infix 30 ◌gives◌at◌
-- number n at place p; `offset` is document 02's second place, 0 for every number but 6
unfoldable pub fault : ℕ → ℕ → Refusal
fault n p = record { number = n; place = p; offset = 0 }

-- bad text (6) at place p, whose first bad byte is q
unfoldable pub bad_text : ℕ → ℕ → Refusal
bad_text p q = record { number = 6; place = p; offset = q }

-- a refusal as it is passed on with another place
unfoldable pub moved : ℕ → Refusal → Refusal
moved p r = record { number = r.number; place = p; offset = r.offset }

abbrev pub refuse : ℕ → ℕ → Verdict
refuse n p = Refused (fault n p)

-- number n at place p, where the test says so
abbrev pub ◌gives◌at◌ : Bool → ℕ → ℕ → Verdict
true gives n at p = refuse n p
false gives n at p = Fine

-- a text at place p: 6 with its first bad byte, where it has one
abbrev pub text_at : ℕ → Judged → Verdict
text_at p Right = Fine
text_at p (Bad q) = Refused (bad_text p q)

-- the first fault wins
abbrev pub ◌then◌ : Verdict → Verdict → Verdict
Fine then w = w
Refused r then w = Refused r

-- the judgements of the numbers below n, in turn
unfoldable pub each : (ℕ → Verdict) → ℕ → Verdict
each f zero = Fine
each f (suc k) = each f k then f k
