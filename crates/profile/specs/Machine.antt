-- Terms of contracts: the judge as a machine over bytes. Its state is a mode, the open tags, and the least time that may come next. Nobody has to believe it:
-- `Statements` speaks of the grammar alone.
use Rattle.std.specs.Prelude.{ℕ, suc, ◌+◌, ◌-◌, ◌*◌, Bool, true, false, List, [], ◌∷◌, ◌++◌, eqb, leb, ltb, length}
use Rattle.std.proofs.Math.Option.{Option, none, some}
use Rattle.base.specs.Choice.{pick}
use Rattle.viable.specs.Judged.{Judged, Right, Bad}
use Rattle.profile.specs.declared.Tag.{Tag}
use Rattle.profile.specs.declared.Tag.TheVariants.{Bold, Italic, Underline, Classed, Voice, Lang, Ruby, Rt}
use Rattle.profile.specs.Grammar.{name, noted, is_ruby}

-- what a number is for the judge: & < > or . ; a space or tab; a line end; any other byte; no byte
pub data Kind : Type 0 where
  And : Kind
  Less : Kind
  More : Kind
  Point : Kind
  Blank : Kind
  Break : Kind
  Other : Kind
  Beyond : Kind

unfoldable pub kind : ℕ → Kind
kind b =
    pick (eqb b 0x26) And
    (pick (eqb b 0x3C) Less
    (pick (eqb b 0x3E) More
    (pick (eqb b 0x2E) Point
    (pick (eqb b 0x20) Blank
    (pick (eqb b 0x09) Blank
    (pick (eqb b 0x0A) Break
    (pick (eqb b 0x0D) Break
    (pick (ltb b 256) Other
    Beyond))))))))

-- a place of a timestamp: its lowest and its highest byte, and the milliseconds that a step between them counts
abbrev pub Place : Type 0
Place = ℕ × ℕ × ℕ

-- hh:mm:ss.mmm>
unfoldable pub clock : List Place
clock = (0x30, 0x39, 36000000) ∷ (0x30, 0x39, 3600000) ∷ (0x3A, 0x3A, 0) ∷ (0x30, 0x35, 600000) ∷ (0x30, 0x39, 60000) ∷ (0x3A, 0x3A, 0)
    ∷ (0x30, 0x35, 10000) ∷ (0x30, 0x39, 1000) ∷ (0x2E, 0x2E, 0) ∷ (0x30, 0x39, 100) ∷ (0x30, 0x39, 10) ∷ (0x30, 0x39, 1) ∷ (0x3E, 0x3E, 0) ∷ []

pub data Mode : Type 0 where
  -- in text
  Text : Mode
  -- behind &, and behind &l; the mode behind the escape
  Amp : Mode → Mode
  AmpL : Mode → Mode
  -- these bytes, then the mode
  Lit : ℕ → List ℕ → Mode → Mode
  -- behind <, and behind <r
  Lt : Mode
  LtR : Mode
  -- behind a start tag's name; behind the . of a class; in a class; in an annotation
  Name : Tag → Mode
  Dot : Tag → Mode
  Class : Tag → Mode
  Noting : Tag → Bool → Mode
  -- in a time: the place to come, those behind it, the milliseconds so far
  Stamp : Place → List Place → ℕ → Mode

pub data State : Type 0 where
  at : Mode → List Tag → ℕ → State

-- directly inside ruby
abbrev pub in_ruby : List Tag → Bool
in_ruby [] = false
in_ruby (x ∷ st) = is_ruby x

-- these bytes, none or more, then the mode
abbrev pub lit : List ℕ → Mode → Mode
lit [] k = k
lit (c ∷ cs) k = Lit c cs k

-- the mode that a table has for a byte
unfoldable pub find : ℕ → List (ℕ × Mode) → Option Mode
find b [] = none
find b (p ∷ ps) = pick (eqb b p.0) (some p.1) (find b ps)

abbrev pub on_found : Option Mode → List Tag → ℕ → Option State
on_found none st low = none
on_found (some m) st low = some (at m st low)

-- behind & : amp; gt; l nbsp; rlm;
unfoldable pub escapes : Mode → List (ℕ × Mode)
escapes k = (97, Lit 109 (112 ∷ 59 ∷ []) k) ∷ (103, Lit 116 (59 ∷ []) k) ∷ (108, AmpL k) ∷ (110, Lit 98 (115 ∷ 112 ∷ 59 ∷ []) k) ∷ (114, Lit 108 (109 ∷ 59 ∷ []) k) ∷ []

-- behind &l : t; rm;
unfoldable pub escapes_l : Mode → List (ℕ × Mode)
escapes_l k = (116, Lit 59 [] k) ∷ (114, Lit 109 (59 ∷ []) k) ∷ []

-- behind < : b i u c v lang r
unfoldable pub tags : List (ℕ × Mode)
tags = (98, Name Bold) ∷ (105, Name Italic) ∷ (117, Name Underline) ∷ (99, Name Classed) ∷ (118, Name Voice) ∷ (108, Lit 97 (110 ∷ 103 ∷ []) (Name Lang)) ∷ (114, LtR) ∷ []

-- behind <r : uby, and directly inside ruby t
unfoldable pub tags_r : Bool → List (ℕ × Mode)
tags_r true = (117, Lit 98 (121 ∷ []) (Name Ruby)) ∷ (116, Name Rt) ∷ []
tags_r false = (117, Lit 98 (121 ∷ []) (Name Ruby)) ∷ []

-- the most that the places can bring
unfoldable pub most : List Place → ℕ
most [] = 0
most (p ∷ ps) = (p.1 - p.0) * p.2 + most ps

abbrev pub timed_on : List Place → ℕ → List Tag → ℕ → Option State
timed_on [] m st low = some (at Text st (suc m))
timed_on (p ∷ ps) m st low = some (at (Stamp p ps m) st low)

-- a byte of a time: it fits, and a time of at least low can still be reached
unfoldable pub timing : Place → List Place → ℕ → List Tag → ℕ → ℕ → Option State
timing p ps m st low b =
    pick (leb p.0 b)
    (pick (leb b p.1)
    (pick (leb low (m + (b - p.0) * p.2 + most ps)) (timed_on ps (m + (b - p.0) * p.2) st low) none) none) none

abbrev pub clocked : List Place → List Tag → ℕ → ℕ → Option State
clocked [] st low b = none
clocked (p ∷ ps) st low b = timing p ps 0 st low b

-- behind </ : the name of the innermost open tag and >
abbrev pub closing : List Tag → ℕ → Option State
closing [] low = none
closing (x ∷ st) low = some (at (lit (name x ++ (62 ∷ [])) Text) st low)

abbrev pub on_text : Kind → List Tag → ℕ → Option State
on_text And st low = some (at (Amp Text) st low)
on_text Less st low = some (at Lt st low)
on_text More st low = some (at Text st low)
on_text Point st low = some (at Text st low)
on_text Blank st low = some (at Text st low)
on_text Break st low = some (at Text st low)
on_text Other st low = some (at Text st low)
on_text Beyond st low = none

-- behind a name or in a class (`inside`): . again, or the annotation, or >, or a further character of the class
abbrev pub on_head : Tag → Bool → Bool → Kind → List Tag → ℕ → Option State
on_head x inside noted And st low = none
on_head x inside noted Less st low = none
on_head x inside true More st low = none
on_head x inside false More st low = some (at Text (x ∷ st) low)
on_head x inside noted Point st low = some (at (Dot x) st low)
on_head x inside true Blank st low = some (at (Noting x false) st low)
on_head x inside false Blank st low = none
on_head x inside noted Break st low = none
on_head x true noted Other st low = some (at (Class x) st low)
on_head x false noted Other st low = none
on_head x inside noted Beyond st low = none

abbrev pub on_dot : Tag → Kind → List Tag → ℕ → Option State
on_dot x And st low = none
on_dot x Less st low = none
on_dot x More st low = none
on_dot x Point st low = none
on_dot x Blank st low = none
on_dot x Break st low = none
on_dot x Other st low = some (at (Class x) st low)
on_dot x Beyond st low = none

abbrev pub on_note : Tag → Bool → Kind → List Tag → ℕ → Option State
on_note x said And st low = some (at (Amp (Noting x true)) st low)
on_note x said Less st low = some (at (Noting x true) st low)
on_note x true More st low = some (at Text (x ∷ st) low)
on_note x false More st low = none
on_note x said Point st low = some (at (Noting x true) st low)
on_note x said Blank st low = some (at (Noting x said) st low)
on_note x said Break st low = none
on_note x said Other st low = some (at (Noting x true) st low)
on_note x said Beyond st low = none

unfoldable pub step : State → ℕ → Option State
step (at Text st low) b = on_text (kind b) st low
step (at (Amp k) st low) b = on_found (find b (escapes k)) st low
step (at (AmpL k) st low) b = on_found (find b (escapes_l k)) st low
step (at (Lit c cs k) st low) b = pick (eqb b c) (some (at (lit cs k) st low)) none
step (at Lt st low) b =
    pick (eqb b 47) (closing st low)
    (pick (leb b 57) (clocked clock st low b)
    (pick (ltb (length st) 16) (on_found (find b tags) st low) none))
step (at LtR st low) b = on_found (find b (tags_r (in_ruby st))) st low
step (at (Name x) st low) b = on_head x false (noted x) (kind b) st low
step (at (Dot x) st low) b = on_dot x (kind b) st low
step (at (Class x) st low) b = on_head x true (noted x) (kind b) st low
step (at (Noting x said) st low) b = on_note x said (kind b) st low
step (at (Stamp p ps m) st low) b = timing p ps m st low b

abbrev pub no_tag : List Tag → Bool
no_tag [] = true
no_tag (x ∷ st) = false

-- the text may end here
abbrev pub final : State → Bool
final (at Text st low) = no_tag st
final (at (Amp k) st low) = false
final (at (AmpL k) st low) = false
final (at (Lit c cs k) st low) = false
final (at Lt st low) = false
final (at LtR st low) = false
final (at (Name x) st low) = false
final (at (Dot x) st low) = false
final (at (Class x) st low) = false
final (at (Noting x said) st low) = false
final (at (Stamp p ps m) st low) = false

abbrev pub later : Judged → Judged
later Right = Right
later (Bad q) = Bad (suc q)

abbrev pub on_step : Option State → (State → Judged) → Judged
on_step none go = Bad 0
on_step (some s) go = go s

-- yes, or the place of the first byte at which no state is left, or the length where the last state is not final
unfoldable pub judge_from : List ℕ → State → Judged
judge_from [] s = pick (final s) Right (Bad 0)
judge_from (b ∷ w) s = on_step (step s b) (λ t. later (judge_from w t))

unfoldable pub judge : List ℕ → Judged
judge s = judge_from s (at Text [] 0)
