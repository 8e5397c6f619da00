-- Where a text is bad: the first byte after which no continuation keeps the rule. Document 02, K2.
use Rattle.std.specs.Prelude.{ℕ, suc, ◌<◌, ◌≤◌, ◌≡◌, ◌⊎◌, ◌↔◌, Bool, true, false, List, [], ◌∷◌, ◌++◌, ltb, length, take}
use Rattle.base.specs.Choice.{pick, both}
use Rattle.viable.specs.Judged.{Judged, Right, Bad}

-- each number is a byte
unfoldable pub bytes : List ℕ → Bool
bytes [] = true
bytes (b ∷ s) = both (ltb b 256) (bytes s)

-- p has a continuation, in bytes, that keeps the rule
abbrev pub Continues : (List ℕ → Type 0) → List ℕ → Type 0
Continues Keeps p = (c : List ℕ) × (bytes c ≡ true) × Keeps (p ++ c)

-- p has none, whatever is appended
abbrev pub Ends : (List ℕ → Type 0) → List ℕ → Type 0
Ends Keeps p = (c : List ℕ) → Keeps (p ++ c) → ⊥

-- each beginning of up to q bytes has a continuation that keeps the rule; and the text ends there and does not keep it, or with byte q it has none any more
pub record FirstBad (Keeps : List ℕ → Type 0) (s : List ℕ) (q : ℕ) : Type 0 where
  pub upto : (k : ℕ) → k ≤ q → Continues Keeps (take k s)
  pub then : ((q ≡ length s) × (Keeps s → ⊥)) ⊎ ((q < length s) × Ends Keeps (take (suc q) s))

-- the texts that pass a test
abbrev pub Passes : (List ℕ → Bool) → List ℕ → Type 0
Passes keeps s = keeps s ≡ true

-- the first byte with which the text is no beginning any more, or else its length
unfoldable pub stops_at : (List ℕ → Bool) → List ℕ → ℕ
stops_at begun [] = 0
stops_at begun (b ∷ s) = pick (begun (b ∷ [])) (suc (stops_at (λ p. begun (b ∷ p)) s)) 0

abbrev pub right_or : Bool → (Unit {0} → ℕ) → Judged
right_or true f = Right
right_or false f = Bad (f tt)

-- the judgement of a text, by its rule and by a test of the rule's beginnings
unfoldable pub judged_by : (List ℕ → Bool) → (List ℕ → Bool) → List ℕ → Judged
judged_by keeps begun s = right_or (keeps s) (λ _. stops_at begun s)

-- a judgement that is right of exactly the texts that keep the rule, and bad at q of exactly those whose first bad byte is q
abbrev pub Judges : (List ℕ → Type 0) → (List ℕ → Judged) → Type 0
Judges Keeps judged = (s : List ℕ) → (judged s ≡ Right ↔ Keeps s) × ((q : ℕ) → judged s ≡ Bad q ↔ FirstBad Keeps s q)

-- so nobody has to believe the test of beginnings
abbrev pub JudgedIs : (List ℕ → Bool) → (List ℕ → Bool) → Type 0
JudgedIs keeps begun = Judges (Passes keeps) (judged_by keeps begun)
