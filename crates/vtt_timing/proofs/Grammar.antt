-- The definition reads exactly the timing lines.
use Prim.Native.Nat.{ℕ, ◌≤◌}
use mathlib.Core.Path.{◌≡◌, refl, sym, ap, ap₂, ◌∙◌, subst}
use mathlib.Core.Logic.{◌≢◌, ◌⊎◌, inl, inr}
use mathlib.Core.Bool.{Bool, true, false}
use mathlib.Core.Option.{Option, none, some}
use mathlib.Core.List.{List, [], ◌∷◌, ◌++◌, append-nil}
use native.Mathlib.Omega.{arith}
use borrow.Author.Tests.{eqb-true, ne_eqb, leb-true, not-true, not-false}
use lib.Dec.{leb, eqb}
use lib.ListN.{length, drop}
use Rattle.base.specs.Choice.{pick, both, within}
use Rattle.base.proofs.Choice.{by-test, true-false, both_left, both_right}
use Rattle.utf8.specs.Utf8.{Range}
use Rattle.utf8.specs.Strings.{starts_with}
use Rattle.utf8.specs.Forbidden.{arrow}
use Rattle.vtt_lines.specs.Lines.{Line}
use Rattle.timestamps.specs.Timestamps.{All, front, behind, COLON, digit, shaped, minutes, hours_ms, time_of}
use Rattle.vtt_timing.specs.Timing.{blank, unblank, begins, trimmed, Timing, timing, after_word, timing_of}
use Rattle.vtt_timing.specs.Grammar.{Blanks, ended, TimingLine, TimingMeans}
use Rattle.timestamps.proofs.Runs.{all_append, front-stop, front-all, behind-stop, behind-all, all-behind, all-front, front-behind, behind-begins}

-- ---- times hold no blank

pub high-unblank : (b : ℕ) → 33 ≤ b → unblank b ≡ true
unfolding unblank blank
high-unblank b h = rw (ne_eqb b 32 (omega arith), ne_eqb b 9 (omega arith))

abbrev High : List Range → Type 0
High [] = Unit {0}
High (r ∷ rs) = (33 ≤ r.0) × High rs

low-bound : (lo hi b : ℕ) → within lo hi b ≡ true → lo ≤ b
unfolding within
low-bound lo hi b h = leb-true lo b (both_left (leb lo b) (leb b hi) h)

shaped-unblank : (rs : List Range) (s : List ℕ) → High rs → shaped rs s ≡ true → All unblank s
unfolding shaped
shaped-unblank [] [] h e = tt
shaped-unblank [] (b ∷ s) h e = true-false false e refl
shaped-unblank (r ∷ rs) [] h e = tt
shaped-unblank (r ∷ rs) (b ∷ s) h e =
    let l = low-bound r.0 r.1 b (both_left (within r.0 r.1 b) (shaped rs s) e) in
    (high-unblank b (omega (arith, h.0)), shaped-unblank rs s h.1 (both_right (within r.0 r.1 b) (shaped rs s) e))

high-minutes : High minutes
high-minutes = (omega arith, (omega arith, (omega arith, (omega arith, (omega arith, (omega arith, (omega arith, (omega arith, (omega arith, tt)))))))))

pub digits-unblank : (s : List ℕ) → All digit s → All unblank s
unfolding digit
digits-unblank [] h = tt
digits-unblank (b ∷ s) h = (high-unblank b (omega (arith, low-bound 48 57 b h.0)), digits-unblank s h.1)

some-pick : (b : Bool) (m k : ℕ) → pick b (some k) none ≡ some m → b ≡ true
some-pick true m k e = refl
some-pick false m k e = let z : ◌≡◌ {A = ℕ} 0 1 = cc in absurd (omega arith)

hours-unblank : (h r : List ℕ) (m : ℕ) → All digit h → hours_ms h r ≡ some m → All unblank (h ++ r)
unfolding hours_ms
hours-unblank h r m d e =
    let b = some-pick (both (leb 2 (length h)) (shaped ((COLON, COLON) ∷ minutes) r)) m _ e in
    all_append unblank h r (digits-unblank h d) (shaped-unblank ((COLON, COLON) ∷ minutes) r (omega arith, high-minutes) (both_right (leb 2 (length h)) (shaped ((COLON, COLON) ∷ minutes) r) b))

time-unblank : (s : List ℕ) (m : ℕ) → time_of s ≡ some m → All unblank s
unfolding time_of
time-unblank s m e =
    by-test (shaped minutes s) (λ t. shaped-unblank minutes s high-minutes t)
    (λ t. let h : hours_ms (front digit s) (behind digit s) ≡ some m = rw t at e in
    subst (All unblank) (front-behind digit s) (hours-unblank (front digit s) (behind digit s) m (all-front digit s) h))

time-none : time_of [] ≡ none
unfolding time_of shaped hours_ms front behind
time-none = refl

time-some : (s : List ℕ) (m : ℕ) → time_of s ≡ some m → s ≢ []
time-some s m e q =
    let h : ◌≡◌ {A = Option ℕ} none (some m) = sym time-none ∙ ap time_of (sym q) ∙ e in
    let z : ◌≡◌ {A = ℕ} 0 1 = cc in
    absurd (omega arith)

-- ---- a byte in front

pub blank-unblank : (x : ℕ) → blank x ≡ true → unblank x ≡ false
unfolding unblank
blank-unblank x h = rw h

pub unblank-blank : (x : ℕ) → unblank x ≡ false → blank x ≡ true
unfolding unblank
unblank-blank x h = not-false (blank x) h

pub unblank-not : (x : ℕ) → unblank x ≡ true → blank x ≡ false
unfolding unblank
unblank-not x h = not-true (blank x) h

-- a list that is not empty
some_of : (s : List ℕ) → s ≢ [] → (x : ℕ) × (r : List ℕ) × (s ≡ x ∷ r)
some_of [] h = absurd (h refl)
some_of (x ∷ r) h = (x, r, refl)

pub not_none : (x : ℕ) (r : List ℕ) → x ∷ r ≢ []
not_none x r e = let z : ◌≡◌ {A = ℕ} 0 1 = cc in absurd (omega arith)

-- ---- a timing line is read

-- a run up to a byte that fails, the run given by its first byte
word-front : (a w r : List ℕ) → All unblank a → Blanks w → (front unblank (a ++ (w ++ r)) ≡ a) × (behind unblank (a ++ (w ++ r)) ≡ w ++ r)
word-front a w r h b = go w b.0 (all-behind blank w b.1)
  where
    go : (v : List ℕ) → v ≢ [] → All blank v → (front unblank (a ++ (v ++ r)) ≡ a) × (behind unblank (a ++ (v ++ r)) ≡ v ++ r)
    go [] n k = absurd (n refl)
    go (x ∷ v) n k = (front-stop unblank a x (v ++ r) h (blank-unblank x k.0), behind-stop unblank a x (v ++ r) h (blank-unblank x k.0))

rest-front : (a r : List ℕ) → All unblank a → ended r ≡ true → (front unblank (a ++ r) ≡ a) × (behind unblank (a ++ r) ≡ r)
rest-front a [] h e = (ap (front unblank) (append-nil a) ∙ front-all unblank a h, ap (behind unblank) (append-nil a) ∙ behind-all unblank a h)
rest-front a (x ∷ r) h e = (front-stop unblank a x r h (blank-unblank x e), behind-stop unblank a x r h (blank-unblank x e))

blanks-behind : (w a r : List ℕ) → Blanks w → a ≢ [] → All unblank a → behind blank (w ++ (a ++ r)) ≡ a ++ r
blanks-behind w [] r b n h = absurd (n refl)
blanks-behind w (x ∷ a) r b n h = behind-stop blank w x (a ++ r) (all-behind blank w b.1) (unblank-not x h.0)

blanks-begin : (w r : List ℕ) → Blanks w → begins blank (w ++ r) ≡ true
blanks-begin [] r b = absurd (b.0 refl)
blanks-begin (x ∷ w) r b = (all-behind blank (x ∷ w) b.1).0

parts : (l u s t : List ℕ) (x y : ℕ) → after_word l ≡ 0x2D ∷ 0x2D ∷ 0x3E ∷ u → begins blank u ≡ true → behind blank u ≡ s
    → time_of (front unblank l) ≡ some x → time_of (front unblank s) ≡ some y → trimmed (behind unblank s) ≡ t
    → timing_of l ≡ some (record { start = x; end = y; settings = t })
unfolding timing_of starts_with
parts l u s t x y a i b c d e = rw (a, i, b, c, d, e)

refl-dash : blank 0x2D ≡ false
unfolding blank
refl-dash = refl

line_read : (l : Line) (t : Timing) → TimingLine l t → timing_of l ≡ some t
unfolding after_word
line_read l t g =
    let a = time-unblank g.first t.start g.start_is in
    let b = time-unblank g.second t.end g.end_is in
    let u = g.after ++ (g.second ++ g.rest) in
    let w = word-front g.first g.before (arrow ++ (g.after ++ (g.second ++ g.rest))) a g.some_before in
    let v = rest-front g.second g.rest b g.rest_apart in
    let d : blank 0x2D ≡ false = refl-dash in
    parts l u (g.second ++ g.rest) t.settings t.start t.end
    (ap (λ (x : List ℕ). behind blank (behind unblank x)) g.is ∙ ap (behind blank) w.1 ∙ behind-stop blank g.before 0x2D (0x2D ∷ 0x3E ∷ (g.after ++ (g.second ++ g.rest))) (all-behind blank g.before g.some_before.1) d)
    (blanks-begin g.after (g.second ++ g.rest) g.some_after)
    (blanks-behind g.after g.second g.rest g.some_after (time-some g.second t.end g.end_is) b)
    (ap time_of (ap (front unblank) g.is ∙ w.0) ∙ g.start_is)
    (ap time_of v.0 ∙ g.end_is)
    (ap trimmed v.1 ∙ g.settings_is)

-- ---- what is read is a timing line

pub starts-split : (p s : List ℕ) → starts_with p s ≡ true → (b : List ℕ) × (s ≡ p ++ b)
unfolding starts_with
starts-split [] s h = (s, refl)
starts-split (x ∷ p) [] h = true-false false h refl
starts-split (x ∷ p) (y ∷ s) h =
    let e = eqb-true y x (both_left (eqb y x) (starts_with p s) h) in
    let r = starts-split p s (both_right (eqb y x) (starts_with p s) h) in
    (r.0, ap₂ ◌∷◌ e r.1)

timing-parts : (o : Bool) (a b : Option ℕ) (s : List ℕ) (t : Timing) → timing o a b s ≡ some t
    → (o ≡ true) × (a ≡ some t.start) × (b ≡ some t.end) × (s ≡ t.settings)
timing-parts false a b s t e = let z : ◌≡◌ {A = ℕ} 0 1 = cc in absurd (omega arith)
timing-parts true none b s t e = let z : ◌≡◌ {A = ℕ} 0 1 = cc in absurd (omega arith)
timing-parts true (some x) none s t e = let z : ◌≡◌ {A = ℕ} 0 1 = cc in absurd (omega arith)
timing-parts true (some x) (some y) s t e =
    let q : ◌≡◌ {A = Timing} (record { start = x; end = y; settings = s }) t = cc in
    (refl, ap (λ (r : Timing). some r.start) q, ap (λ (r : Timing). some r.end) q, ap (λ (r : Timing). r.settings) q)

front-blanks : (x : ℕ) (r : List ℕ) → blank x ≡ true → front blank (x ∷ r) ≢ []
unfolding front
front-blanks x r h = rw h (not_none x (front blank r))

begun : (u : List ℕ) → begins blank u ≡ true → front blank u ≢ []
begun [] h = true-false false h refl
begun (x ∷ r) h = front-blanks x r h

only-blanks : (u : List ℕ) → behind blank (front blank u) ≡ []
only-blanks u = behind-all blank (front blank u) (all-front blank u)

after_none : behind blank [] ≡ []
unfolding behind
after_none = refl

gap : (l u : List ℕ) → after_word l ≡ arrow ++ u → front blank (behind unblank l) ≢ []
unfolding after_word
gap l u e = go (behind-begins unblank l)
  where
    go : (behind unblank l ≡ []) ⊎ ((x : ℕ) × (r : List ℕ) × (behind unblank l ≡ x ∷ r) × (unblank x ≡ false)) → front blank (behind unblank l) ≢ []
    go (inl q) f =
        let h : arrow ++ u ≡ [] = sym e ∙ ap (behind blank) q ∙ after_none in
        not_none 0x2D (0x2D ∷ 0x3E ∷ u) h
    go (inr w) f = front-blanks w.0 w.1 (unblank-blank w.0 w.3) (ap (front blank) (sym w.2) ∙ f)

apart : (s : List ℕ) → ended (behind unblank s) ≡ true
apart s = go (behind-begins unblank s)
  where
    go : (behind unblank s ≡ []) ⊎ ((x : ℕ) × (r : List ℕ) × (behind unblank s ≡ x ∷ r) × (unblank x ≡ false)) → ended (behind unblank s) ≡ true
    go (inl q) = ap ended q
    go (inr w) = ap ended w.2 ∙ unblank-blank w.0 w.3

read-line : (l : Line) (t : Timing) → timing_of l ≡ some t → TimingLine l t
unfolding timing_of after_word
read-line l t e =
    let w = timing-parts (both (starts_with arrow (after_word l)) (begins blank (drop 3 (after_word l)))) (time_of (front unblank l)) (time_of (front unblank (behind blank (drop 3 (after_word l))))) (trimmed (behind unblank (behind blank (drop 3 (after_word l))))) t e in
    let p = starts-split arrow (after_word l) (both_left (starts_with arrow (after_word l)) (begins blank (drop 3 (after_word l))) w.0) in
    let d : drop 3 (after_word l) ≡ p.0 = ap (drop 3) p.1 in
    let b : begins blank p.0 ≡ true = ap (begins blank) (sym d) ∙ both_right (starts_with arrow (after_word l)) (begins blank (drop 3 (after_word l))) w.0 in
    record {
      first = front unblank l;
      before = front blank (behind unblank l);
      after = front blank p.0;
      second = front unblank (behind blank p.0);
      rest = behind unblank (behind blank p.0);
      is = sym (front-behind unblank l)
          ∙ ap (λ (x : List ℕ). front unblank l ++ x)
          (sym (front-behind blank (behind unblank l))
          ∙ ap (λ (x : List ℕ). front blank (behind unblank l) ++ x)
          (p.1 ∙ ap (λ (x : List ℕ). arrow ++ x) (sym (front-behind blank p.0) ∙ ap (λ (x : List ℕ). front blank p.0 ++ x) (sym (front-behind unblank (behind blank p.0))))));
      start_is = w.1;
      some_before = (gap l p.0 p.1, only-blanks (behind unblank l));
      some_after = (begun p.0 b, only-blanks p.0);
      end_is = ap (λ (x : List ℕ). time_of (front unblank (behind blank x))) (sym d) ∙ w.2;
      rest_apart = apart (behind blank p.0);
      settings_is = ap (λ (x : List ℕ). trimmed (behind unblank (behind blank x))) (sym d) ∙ w.3;
    }

pub timing-means : TimingMeans
timing-means l t = (read-line l t, line_read l t)
