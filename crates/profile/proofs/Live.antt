-- From every state that is reached some text leads to the end.
use Prim.Native.Nat.{ℕ, suc, ◌+◌, ◌-◌, ◌*◌, ◌≤◌, ◌<◌}
use mathlib.Core.Path.{◌≡◌, refl}
use mathlib.Core.Bool.{Bool, true, false}
use mathlib.Core.Option.{Option, none, some}
use mathlib.Core.List.{List, [], ◌∷◌, ◌++◌}
use native.Mathlib.Omega.{arith}
use native.Mathlib.Nat.{le_refl}
use lib.Dec.{eqb, leb, ltb, lit≤, lit<}
use lib.ListN.{length}
use borrow.Author.Tests.{leb-true, eq-eqb}
use Rattle.base.specs.Choice.{pick}
use Rattle.profile.specs.Machine.{Kind, And, Less, More, Point, Blank, Break, Other, Beyond}
use Rattle.profile.specs.declared.Tag.{Tag}
use Rattle.profile.specs.declared.Tag.TheVariants.{Bold, Ruby}
use Rattle.profile.specs.Grammar.{one_of, besides, name, noted, amp, note_end, note_more, without, with}
use Rattle.profile.specs.Machine.{Place, clock, kind, Mode, Text, Amp, AmpL, Lit, Lt, LtR, Name, Dot, Class, Noting, Stamp, State, at, in_ruby, lit, find, on_found, escapes, escapes_l, tags, tags_r, most, timed_on, timing, clocked, closing, on_text, on_head, on_dot, on_note, step}
use Rattle.profile.proofs.Clock.{Timed, timed-end, timed-on}
use Rattle.profile.proofs.Accepts.{Acc, escape-acc, close-acc, ruby-acc, name-acc, Headed, note-acc, annotation-acc, timed-acc}

-- each place has a byte
pub Ordered : List Place → Type 0
Ordered [] = Unit {0}
Ordered (p ∷ ps) = (p.0 ≤ p.1) × Ordered ps

-- what holds of the states that are reached: in a time, a time of at least low can still be reached
unfoldable pub Good : Mode → ℕ → Type 0
Good Text low = Unit {0}
Good (Amp k) low = Good k low
Good (AmpL k) low = Good k low
Good (Lit c cs k) low = Good k low
Good Lt low = Unit {0}
Good LtR low = Unit {0}
Good (Name x) low = Unit {0}
Good (Dot x) low = Unit {0}
Good (Class x) low = Unit {0}
Good (Noting x said) low = Unit {0}
Good (Stamp p ps m) low = (low ≤ m + most (p ∷ ps)) × Ordered (p ∷ ps)

abbrev pub GoodState : State → Type 0
GoodState (at m st low) = Good m low

abbrev pub GoodOn : Option State → Type 0
GoodOn none = Unit {0}
GoodOn (some s) = GoodState s

-- the end tags that close what is open
pub closers : List Tag → List ℕ
closers [] = []
closers (x ∷ st) = 60 ∷ 47 ∷ (name x ++ (62 ∷ closers st))

text-live : (st : List Tag) (low : ℕ) → Acc (closers st) (at Text st low)
unfolding closers Acc
text-live [] low = refl
text-live (x ∷ st) low = close-acc (closers st) st low x (text-live st low)

lit-live : (w cs : List ℕ) (k : Mode) (st : List Tag) (low : ℕ) → Acc w (at k st low) → Acc (cs ++ w) (at (lit cs k) st low)
unfolding Acc step
lit-live w [] k st low a = a
lit-live w (c ∷ cs) k st low a = rw (eq-eqb c c refl) (lit-live w cs k st low a)

-- the highest bytes
tops : List Place → List ℕ
tops [] = []
tops (p ∷ ps) = p.1 ∷ tops ps

tops-timed : (ps : List Place) (m : ℕ) → Ordered ps → (v : ℕ) × Timed ps m (tops ps) v × (v ≡ m + most ps)
unfolding tops most Ordered
tops-timed [] m o = (m, timed-end, omega arith)
tops-timed (p ∷ ps) m o =
    let r = tops-timed ps (m + (p.1 - p.0) * p.2) o.1 in
    (r.0, timed-on {p = p} o.0 (le_refl p.1) r.1, omega (arith, r.2))

head_live : (x : Tag) (st : List Tag) (low : ℕ) (n : Bool) → noted x ≡ n → (t : List ℕ) × Headed st low x t
unfolding besides one_of
head_live x st low false e = (_, annotation-acc st low x (closers (x ∷ st)) without e (text-live (x ∷ st) low))
head_live x st low true e =
    (_, annotation-acc st low x (closers (x ∷ st)) (with {b = 32} refl (note_more {b = 97} refl note_end)) e (text-live (x ∷ st) low))

less-live : (st : List Tag) (low : ℕ) → (t : List ℕ) × Acc t (at Lt st low)
unfolding Acc step kind closers
less-live [] low = (name Bold ++ (62 ∷ closers (Bold ∷ [])), name-acc (62 ∷ closers (Bold ∷ [])) [] low Bold (lit< tt) refl (annotation-acc [] low Bold (closers (Bold ∷ [])) without refl (text-live (Bold ∷ []) low)).0)
less-live (x ∷ st) low = (47 ∷ (name x ++ (62 ∷ closers st)), close-acc (closers st) st low x (text-live st low))

live-mode : (m : Mode) (st : List Tag) (low : ℕ) → Good m low → (t : List ℕ) × Acc t (at m st low)
unfolding Acc step kind find escapes_l Good besides one_of
live-mode Text st low g = (closers st, text-live st low)
live-mode (Amp k) st low g = let r = live-mode k st low g in (97 ∷ 109 ∷ 112 ∷ 59 ∷ r.0, escape-acc r.0 st low k amp r.1)
live-mode (AmpL k) st low g = let r = live-mode k st low g in (116 ∷ 59 ∷ r.0, r.1)
live-mode (Lit c cs k) st low g = let r = live-mode k st low g in ((c ∷ cs) ++ r.0, lit-live r.0 (c ∷ cs) k st low r.1)
live-mode Lt st low g = less-live st low
live-mode LtR st low g =
    let h = annotation-acc st low Ruby (closers (Ruby ∷ st)) without refl (text-live (Ruby ∷ st) low) in
    (117 ∷ 98 ∷ 121 ∷ 62 ∷ closers (Ruby ∷ st), ruby-acc (62 ∷ closers (Ruby ∷ st)) st low (in_ruby st) h.0)
live-mode (Name x) st low g = let r = head_live x st low (noted x) refl in (r.0, r.1.0)
live-mode (Dot x) st low g = let r = head_live x st low (noted x) refl in (97 ∷ r.0, r.1.1)
live-mode (Class x) st low g = let r = head_live x st low (noted x) refl in (r.0, r.1.1)
live-mode (Noting x said) st low g = (97 ∷ 62 ∷ closers (x ∷ st), note-acc st low x (closers (x ∷ st)) (note_more {said = said} {b = 97} refl note_end) (text-live (x ∷ st) low))
live-mode (Stamp p ps m) st low g =
    let r = tops-timed (p ∷ ps) m g.1 in
    (tops (p ∷ ps) ++ closers st, timed-acc (closers st) st low r.1 (omega (arith, r.2)) (text-live st (suc r.0)))

pub live : (s : State) → GoodState s → (t : List ℕ) × Acc t s
live (at m st low) g = live-mode m st low g

-- a step keeps it
AllGood : List (ℕ × Mode) → ℕ → Type 0
AllGood [] low = Unit {0}
AllGood (p ∷ ps) low = Good p.1 low × AllGood ps low

picked-good : (c : Bool) (m : Mode) (o : Option Mode) (st : List Tag) (low : ℕ) → Good m low → GoodOn (on_found o st low) → GoodOn (on_found (pick c (some m) o) st low)
picked-good true m o st low g h = g
picked-good false m o st low g h = h

find-good : (b : ℕ) (t : List (ℕ × Mode)) (st : List Tag) (low : ℕ) → AllGood t low → GoodOn (on_found (find b t) st low)
unfolding find AllGood
find-good b [] st low g = tt
find-good b (p ∷ ps) st low g = picked-good (eqb b p.0) p.1 (find b ps) st low g.0 (find-good b ps st low g.1)

lit-good : (cs : List ℕ) (k : Mode) (low : ℕ) → Good k low → Good (lit cs k) low
unfolding Good
lit-good [] k low g = g
lit-good (c ∷ cs) k low g = g

litted-good : (t : Bool) (cs : List ℕ) (k : Mode) (st : List Tag) (low : ℕ) → Good k low → GoodOn (pick t (some (at (lit cs k) st low)) none)
litted-good true cs k st low g = lit-good cs k low g
litted-good false cs k st low g = tt

timed_on-good : (ps : List Place) (m : ℕ) (st : List Tag) (low : ℕ) → low ≤ m + most ps → Ordered ps → GoodOn (timed_on ps m st low)
unfolding Good
timed_on-good [] m st low l o = tt
timed_on-good (p ∷ ps) m st low l o = (l, o)

time-good : (p : Place) (ps : List Place) (m : ℕ) (st : List Tag) (low b : ℕ) → Ordered ps → GoodOn (timing p ps m st low b)
unfolding timing
time-good p ps m st low b o = go (leb p.0 b) (leb b p.1) (leb low (m + (b - p.0) * p.2 + most ps)) refl
  where
    go : (x y z : Bool) → leb low (m + (b - p.0) * p.2 + most ps) ≡ z → GoodOn (pick x (pick y (pick z (timed_on ps (m + (b - p.0) * p.2) st low) none) none) none)
    go true true true e = timed_on-good ps (m + (b - p.0) * p.2) st low (leb-true low (m + (b - p.0) * p.2 + most ps) e) o
    go true true false e = tt
    go true false z e = tt
    go false y z e = tt

clock-good : (st : List Tag) (low b : ℕ) → GoodOn (clocked clock st low b)
unfolding clock Ordered
clock-good st low b = time-good _ _ 0 st low b
    (lit≤ tt, (lit≤ tt, (lit≤ tt, (lit≤ tt, (lit≤ tt, (lit≤ tt, (lit≤ tt, (lit≤ tt, (lit≤ tt, (lit≤ tt, (lit≤ tt, (lit≤ tt, tt))))))))))))

closing-good : (st : List Tag) (low : ℕ) → GoodOn (closing st low)
unfolding Good
closing-good [] low = tt
closing-good (x ∷ st) low = lit-good (name x ++ (62 ∷ [])) Text low tt

less-good : (b : ℕ) (st : List Tag) (low : ℕ) (p q r : Bool) → GoodOn (pick p (closing st low) (pick q (clocked clock st low b) (pick r (on_found (find b tags) st low) none)))
unfolding AllGood Good tags
less-good b st low true q r = closing-good st low
less-good b st low false true r = clock-good st low b
less-good b st low false false true = find-good b tags st low (tt, (tt, (tt, (tt, (tt, (tt, (tt, tt)))))))
less-good b st low false false false = tt

ruby-good : (b : ℕ) (r : Bool) (st : List Tag) (low : ℕ) → GoodOn (on_found (find b (tags_r r)) st low)
unfolding AllGood Good tags_r
ruby-good b true st low = find-good b (tags_r true) st low (tt, (tt, tt))
ruby-good b false st low = find-good b (tags_r false) st low (tt, tt)

module _ (st : List Tag) (low : ℕ) where
  text-good : (k : Kind) → GoodOn (on_text k st low)
  unfolding Good
  text-good And = tt
  text-good Less = tt
  text-good More = tt
  text-good Point = tt
  text-good Blank = tt
  text-good Break = tt
  text-good Other = tt
  text-good Beyond = tt

  head-good : (x : Tag) (i n : Bool) (k : Kind) → GoodOn (on_head x i n k st low)
  unfolding Good
  head-good x i n And = tt
  head-good x i n Less = tt
  head-good x i true More = tt
  head-good x i false More = tt
  head-good x i n Point = tt
  head-good x i true Blank = tt
  head-good x i false Blank = tt
  head-good x i n Break = tt
  head-good x true n Other = tt
  head-good x false n Other = tt
  head-good x i n Beyond = tt

  dot_good : (x : Tag) (k : Kind) → GoodOn (on_dot x k st low)
  unfolding Good
  dot_good x And = tt
  dot_good x Less = tt
  dot_good x More = tt
  dot_good x Point = tt
  dot_good x Blank = tt
  dot_good x Break = tt
  dot_good x Other = tt
  dot_good x Beyond = tt

  note-good : (x : Tag) (said : Bool) (k : Kind) → GoodOn (on_note x said k st low)
  unfolding Good
  note-good x said And = tt
  note-good x said Less = tt
  note-good x true More = tt
  note-good x false More = tt
  note-good x said Point = tt
  note-good x said Blank = tt
  note-good x said Break = tt
  note-good x said Other = tt
  note-good x said Beyond = tt

pub step-good : (s : State) (b : ℕ) → GoodState s → GoodOn (step s b)
unfolding step Good AllGood escapes escapes_l Ordered
step-good (at Text st low) b g = text-good st low (kind b)
step-good (at (Amp k) st low) b g = find-good b (escapes k) st low (g, (g, (g, (g, (g, tt)))))
step-good (at (AmpL k) st low) b g = find-good b (escapes_l k) st low (g, (g, tt))
step-good (at (Lit c cs k) st low) b g = litted-good (eqb b c) cs k st low g
step-good (at Lt st low) b g = less-good b st low (eqb b 47) (leb b 57) (ltb (length st) 16)
step-good (at LtR st low) b g = ruby-good b (in_ruby st) st low
step-good (at (Name x) st low) b g = head-good st low x false (noted x) (kind b)
step-good (at (Dot x) st low) b g = dot_good st low x (kind b)
step-good (at (Class x) st low) b g = head-good st low x true (noted x) (kind b)
step-good (at (Noting x said) st low) b g = note-good st low x said (kind b)
step-good (at (Stamp p ps m) st low) b g = time-good p ps m st low b g.1.1
