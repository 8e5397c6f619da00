-- Terms of contracts: the states that the readers of tags go through.
use Rattle.std.specs.Prelude.{ℕ, ◌+◌, ◌≤◌, ◌<◌, ◌≡◌, Bool, true, false, List, [], ◌∷◌, ◌++◌, length, get_or}
use Rattle.profile.specs.declared.Tag.{Tag}
use Rattle.profile.specs.declared.Tag.TheVariants.{Bold, Italic, Underline, Classed, Voice, Lang, Ruby, Rt}
use Rattle.profile.specs.Spot.{Spot, Past, Bad}
use Rattle.profile.specs.Grammar.{name}
use Rattle.profile.specs.Machine.{State, at, Text, Lt, LtR, Name, Dot, Class, Noting, lit, in_ruby}
use Rattle.profile.specs.Readings.{Reads, Around}
use Rattle.profile_tags.specs.Named.{Named, Found, Wrong}

-- ---- in a start tag

-- the tag, the open tags around it, the least time
abbrev pub Head : Type 0
Head = Tag × List Tag × ℕ

-- behind its name or a class; behind the . of a class; in a class; in the annotation; behind its >
abbrev pub naming : Head → State
naming h = at (Name h.0) h.1 h.2

abbrev pub dotting : Head → State
dotting h = at (Dot h.0) h.1 h.2

abbrev pub classing : Head → State
classing h = at (Class h.0) h.1 h.2

abbrev pub noting : Bool → Head → State
noting said h = at (Noting h.0 said) h.1 h.2

abbrev pub ended : Head → State
ended h = at Text (h.0 ∷ h.1) h.2

-- ---- a start tag's name

-- where one more tag may be opened; ruby: directly inside ruby
abbrev pub Here : Bool → Type 0
Here ruby = (st : List Tag) × ℕ × (length st < 16) × (in_ruby st ≡ ruby)

-- behind <, behind <r, behind the name
abbrev pub lesses : (ruby : Bool) → Here ruby → State
lesses ruby x = at Lt x.0 x.1

abbrev pub LtRs : (ruby : Bool) → Here ruby → State
LtRs ruby x = at LtR x.0 x.1

abbrev pub names : (ruby : Bool) → Tag → Here ruby → State
names ruby t x = at (Name t) x.0 x.1

abbrev pub named_of : Spot → Tag → Named
named_of (Past n) x = Found n x
named_of (Bad q) x = Wrong q

-- a name's reader at p, from the state a: up to the place it found the state goes on behind the name; or the answer of the whole is this place
abbrev pub NamedIs : List ℕ → ℕ → (ruby : Bool) → Named → ((r : Bool) → Here r → State) → Type 0
NamedIs s p ruby (Found n x) a = Reads (Here ruby) s p (Past n) (a ruby) (names ruby x)
NamedIs s p ruby (Wrong q) a = Reads (Here ruby) s p (Bad q) (a ruby) (a ruby)

-- a start tag: behind it the tag is open
abbrev pub StartIs : List ℕ → ℕ → Bool → Named → Type 0
StartIs s p ruby (Found n x) = Reads (Here ruby) s p (Past n) (lesses ruby) (λ h. at Text (x ∷ h.0) h.1)
StartIs s p ruby (Wrong q) = Reads (Here ruby) s p (Bad q) (lesses ruby) (lesses ruby)

-- ---- a name of one letter, and >

abbrev pub number : Tag → ℕ
number Bold = 0
number Italic = 1
number Underline = 2
number Classed = 3
number Voice = 4
number Lang = 5
number Ruby = 6
number Rt = 7

abbrev pub ShortIs : List ℕ → ℕ → Tag → Bool → Type 0
ShortIs s p x true = (p + 2 ≤ length s) × (name x ≡ get_or s p 0 ∷ []) × (get_or s (p + 1) 0 ≡ 62)
ShortIs s p x false = Unit {0}

-- ---- an end tag

-- behind </ : its name and > are to come
abbrev pub closes : Tag → Around → State
closes x e = at (lit (name x ++ (62 ∷ [])) Text) e.0 e.1
