-- Terms of contracts: what the answers of the readers of text, spans and content say of the judge's answer.
use Rattle.std.specs.Prelude.{ℕ, ◌+◌, ◌≤◌, ◌<◌, ◌≡◌, Bool, true, false, ◌⊎◌, List, [], ◌∷◌, length, get_or}
use Rattle.viable.specs.Judged.{Judged, Right, Bad as BadAt}
use Rattle.profile.specs.declared.Tag.{Tag}
use Rattle.profile.specs.Spot.{Spot, Past, Bad}
use Rattle.profile.specs.Grammar.{plain_byte}
use Rattle.profile.specs.Machine.{State, at, Text, Lt, in_ruby}
use Rattle.profile.specs.Readings.{from, Reads, Around, texted}
use Rattle.profile_tags.specs.Terms.{closes}
use Rattle.profile_judge.specs.Part.{Part, On, Wrong}

abbrev pub part_of : Spot → ℕ → Part
part_of (Past n) low = On n low
part_of (Bad q) low = Wrong q

-- plain text ends here: at the end, or before & or <
abbrev pub Marked : List ℕ → ℕ → Type 0
Marked s p = p < length s → plain_byte (get_or s p 0) ≡ false

-- it ends here, or goes on at `end`
abbrev pub FewIs : List ℕ → ℕ → ℕ → ℕ → Type 0
FewIs s p end n = Reads Around s p (Past n) texted texted × (n ≤ end) × (n < end → plain_byte (get_or s n 0) ≡ false)

abbrev pub PlainIs : List ℕ → ℕ → ℕ → Type 0
PlainIs s p n = Reads Around s p (Past n) texted texted × Marked s n

-- a timestamp may begin at p, behind <
abbrev pub Timely : List ℕ → ℕ → Type 0
Timely s p = (p < length s) × (get_or s p 0 ≤ 57) × (get_or s p 0 ≡ 47 → ⊥)

-- an escape or a timestamp; a tag or the end
abbrev pub MarkIs : List ℕ → ℕ → Bool → Type 0
MarkIs s p true = (p < length s) × ((get_or s p 0 ≡ 0x26) ⊎ ((get_or s p 0 ≡ 0x3C) × Timely s (p + 1)))
MarkIs s p false = (p < length s → get_or s p 0 ≡ 0x3C) × (p + 1 < length s → (get_or s (p + 1) 0 ≡ 47) ⊎ (57 < get_or s (p + 1) 0))

-- in text, whatever tags are open
abbrev pub in_text : ℕ → List Tag → State
in_text low st = at Text st low

abbrev pub TextIs : List ℕ → ℕ → ℕ → Part → Type 0
TextIs s p low (On n up) = Reads (List Tag) s p (Past n) (in_text low) (in_text up)
TextIs s p low (Wrong q) = Reads (List Tag) s p (Bad q) (in_text low) (in_text low)

abbrev pub Stops : List ℕ → Part → Type 0
Stops s (On n up) = MarkIs s n false
Stops s (Wrong q) = Unit {0}

-- a byte or more is read
abbrev pub Further : ℕ → Part → Type 0
Further p (On n up) = p < n
Further p (Wrong q) = Unit {0}

-- the open tags, where `left` more may be opened
abbrev pub Room : ℕ → Bool → Type 0
Room left ruby = (st : List Tag) × (length st + left ≡ 16) × (in_ruby st ≡ ruby)

abbrev pub texts : (left : ℕ) (ruby : Bool) → ℕ → Room left ruby → State
texts left ruby low x = at Text x.0 low

abbrev pub less_at : (left : ℕ) (ruby : Bool) → ℕ → Room left ruby → State
less_at left ruby low x = at Lt x.0 low

abbrev pub SpanIs : List ℕ → ℕ → ℕ → Bool → ℕ → Part → Type 0
SpanIs s p left ruby low (On n up) = Reads (Room left ruby) s p (Past n) (less_at left ruby low) (texts left ruby up)
SpanIs s p left ruby low (Wrong q) = Reads (Room left ruby) s p (Bad q) (less_at left ruby low) (less_at left ruby low)

-- where content ends: with no tag open the payload is right; else the end tag of the innermost follows
abbrev pub ended : List ℕ → ℕ → List Tag → ℕ → Judged
ended s n [] up = Right
ended s n (x ∷ st) up = from s n (closes x (st, up))

abbrev pub ContentIs : List ℕ → ℕ → ℕ → Bool → ℕ → Part → Type 0
ContentIs s p left ruby low (On n up) = (p ≤ n) × (n ≤ length s) × ((x : Room left ruby) → from s p (texts left ruby low x) ≡ ended s n x.0 up)
ContentIs s p left ruby low (Wrong q) = (x : Room left ruby) → from s p (texts left ruby low x) ≡ BadAt q
