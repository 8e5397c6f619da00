-- Terms of contracts: what a reader's answer says of the judge's answer. A reader knows a part of the state; what it does not know, the tags around it above all, is a parameter x.
use Rattle.std.specs.Prelude.{ℕ, ◌+◌, ◌≤◌, ◌≡◌, List, ◌∷◌, length, drop}
use Rattle.viable.specs.Judged.{Judged, Right, Bad as BadAt}
use Rattle.profile.specs.declared.Tag.{Tag}
use Rattle.profile.specs.Spot.{Spot, Past, Bad}
use Rattle.profile.specs.Machine.{Mode, State, at, Text, judge_from}

abbrev pub shift : ℕ → Judged → Judged
shift p Right = Right
shift p (BadAt q) = BadAt (p + q)

-- the whole answer, if the byte at p is read in the state t
unfoldable pub from : List ℕ → ℕ → State → Judged
from s p t = shift p (judge_from (drop p s) t)

abbrev pub Within : List ℕ → ℕ → Spot → Type 0
Within s p (Past n) = (p ≤ n) × (n ≤ length s)
Within s p (Bad q) = Unit {0}

abbrev pub Leads : List ℕ → ℕ → State → Spot → State → Type 0
Leads s p a (Past n) b = from s p a ≡ from s n b
Leads s p a (Bad q) b = from s p a ≡ BadAt q

-- the answer r of a reader at p: up to the place in it the state goes from a to b; or the answer of the whole is this place
pub record Reads (X : Type 0) (s : List ℕ) (p : ℕ) (r : Spot) (a b : X → State) : Type 0 where
  pub bounds : Within s p r
  pub leads : (x : X) → Leads s p (a x) r (b x)

-- a mode to go on in, the open tags, the least time
abbrev pub Anywhere : Type 0
Anywhere = Mode × List Tag × ℕ

abbrev pub goes_on : Anywhere → State
goes_on x = at x.0 x.1 x.2

-- the open tags and the least time
abbrev pub Around : Type 0
Around = List Tag × ℕ

-- in text
abbrev pub texted : Around → State
texted e = at Text e.0 e.1

-- in text behind a start tag
abbrev pub opened : Tag → Around → State
opened x e = at Text (x ∷ e.0) e.1
