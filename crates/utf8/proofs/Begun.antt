-- The beginnings of UTF-8, and of UTF-8 under one more rule.
use Prim.Native.Nat.{ℕ, ◌<◌, ◌≤◌}
use mathlib.Core.Path.{◌≡◌, refl, ap, ap₂}
use mathlib.Core.Bool.{Bool, true, false, not}
use mathlib.Core.List.{List, [], ◌∷◌, ◌++◌, append_assoc, append-nil}
use mathlib.Core.Option.{Option, none, some}
use native.Mathlib.Omega.{arith}
use borrow.Author.Tests.{leb-true, le-leb, lt-ltb, ne_eqb, not-true}
use lib.Dec.{eqb, leb}
use lib.Seq.{append_snoc}
use Rattle.base.specs.Choice.{both, any_of, within}
use Rattle.base.proofs.Choice.{both_left, both_right, by-test, true-false}
use Rattle.base.proofs.Tests.{both-no}
use Rattle.utf8.specs.Utf8.{Range, Row, rows, follow_in, follow, on_some, judge, utf8, begun, utf8_begun}
use Rattle.utf8.specs.Strings.{GREATER, starts_with, starts_with_any, has_any}
use Rattle.utf8.specs.Forbidden.{not_in_line, not_in_payload, forbidden, keeps, keeps_begun}
use Rattle.viable.specs.FirstBad.{bytes}
use Rattle.viable.proofs.FirstBad.{Beginnings, bytes-append}
use Rattle.utf8.specs.declared.Rule.{Rule}
use Rattle.utf8.specs.declared.Rule.TheVariants.{Any, Line, Payload}
use Rattle.utf8.proofs.Windows.{any-more}

-- each range asks for bytes past ASCII, and for one at least
abbrev asks_for : Range → Bool
asks_for r = both (within 0x80 r.1 r.0) (leb r.1 0xFF)

abbrev asking : List Range → Bool
asking [] = true
asking (r ∷ rs) = both (asks_for r) (asking rs)

abbrev if_some : Option (List Range) → Bool
if_some none = true
if_some (some rs) = asking rs

abbrev each-asking : List Row → Bool
each-asking [] = true
each-asking (r ∷ rs) = both (asking r.1) (each-asking rs)

followed : (rs : List Row) (b : ℕ) → each-asking rs ≡ true → if_some (follow_in rs b) ≡ true
unfolding follow_in
followed [] b h = refl
followed (r ∷ rs) b h =
    by-test (within r.0.0 r.0.1 b)
    (λ e. rw e (both_left (asking r.1) (each-asking rs) h))
    (λ e. rw e (followed rs b (both_right (asking r.1) (each-asking rs) h)))

follows : (b : ℕ) → if_some (follow b) ≡ true
unfolding follow rows within
follows b = followed rows b refl

-- bytes past ASCII
abbrev pub High : List ℕ → Type 0
High [] = Unit {0}
High (b ∷ c) = (0x80 ≤ b) × (b < 256) × High c

high-bytes : (c : List ℕ) → High c → bytes c ≡ true
unfolding bytes
high-bytes [] h = refl
high-bytes (b ∷ c) h = rw (lt-ltb b 256 h.1) (high-bytes c h.2)

-- what the ranges ask for, the lowest bytes
abbrev lows : List Range → List ℕ
lows [] = []
lows (r ∷ rs) = r.0 ∷ lows rs

judge-lows : (rs : List Range) → asking rs ≡ true → High (lows rs) × (judge (lows rs) rs ≡ true)
unfolding judge within
judge-lows [] h = (tt, refl)
judge-lows (r ∷ rs) h =
    let v = both_left (asks_for r) (asking rs) h in
    let w = both_left (within 0x80 r.1 r.0) (leb r.1 0xFF) v in
    let m = leb-true r.1 0xFF (both_right (within 0x80 r.1 r.0) (leb r.1 0xFF) v) in
    let t = judge-lows rs (both_right (asks_for r) (asking rs) h) in
    let a = leb-true 0x80 r.0 (both_left (leb 0x80 r.0) (leb r.0 r.1) w) in
    let z = both_right (leb 0x80 r.0) (leb r.0 r.1) w in
    let y = leb-true r.0 r.1 z in
    ((a, omega arith, t.0), rw (le-leb r.0 r.0 (omega arith), z) t.1)

pub both-pass : (a b : Bool) → a ≡ true → b ≡ true → both a b ≡ true
both-pass true b h k = k
both-pass false b h k = h

-- the end of a character that was begun
abbrev Ended : (List ℕ → Bool) → Type 0
Ended f = (c : List ℕ) × High c × (f c ≡ true)

ended_some : (p : List ℕ) (o : Option (List Range)) → if_some o ≡ true → ((rs : List Range) → asking rs ≡ true → begun p rs ≡ true → Ended (λ c. judge (p ++ c) rs))
    → on_some o (λ rs. begun p rs) ≡ true → Ended (λ c. on_some o (λ rs. judge (p ++ c) rs))
ended_some p none a f h = true-false false h refl
ended_some p (some rs) a f h = f rs a h

ended : (p : List ℕ) (rs : List Range) → asking rs ≡ true → begun p rs ≡ true → Ended (λ c. judge (p ++ c) rs)
unfolding begun judge
ended [] rs a h = let t = judge-lows rs a in (lows rs, t.0, t.1)
ended (b ∷ p) [] a h = ended_some p (follow b) (follows b) (λ rs x y. ended p rs x y) h
ended (b ∷ p) (r ∷ rs) a h =
    let t = ended p rs (both_right (asks_for r) (asking rs) a) (both_right (within r.0 r.1 b) (begun p rs) h) in
    (t.0, t.1, both-pass (within r.0 r.1 b) (judge (p ++ t.0) rs) (both_left (within r.0 r.1 b) (begun p rs) h) t.2)

on_some_lem : {A : Type 0} (o : Option A) (f g : A → Bool) → ((a : A) → f a ≡ true → g a ≡ true) → on_some o f ≡ true → on_some o g ≡ true
on_some_lem none f g k h = h
on_some_lem (some a) f g k h = k a h

judge-begun : (p c : List ℕ) (rs : List Range) → judge (p ++ c) rs ≡ true → begun p rs ≡ true
unfolding begun judge
judge-begun [] c rs h = refl
judge-begun (b ∷ p) c [] h = on_some_lem (follow b) (λ rs. judge (p ++ c) rs) (λ rs. begun p rs) (λ rs k. judge-begun p c rs k) h
judge-begun (b ∷ p) c (r ∷ rs) h =
    rw (both_left (within r.0 r.1 b) (judge (p ++ c) rs) h) (judge-begun p c rs (both_right (within r.0 r.1 b) (judge (p ++ c) rs) h))

-- whole characters, and then whole characters
judge-more : (t u : List ℕ) (rs : List Range) → judge u [] ≡ true → judge t rs ≡ true → judge (t ++ u) rs ≡ true
unfolding judge
judge-more [] u [] k h = k
judge-more [] u (r ∷ rs) k h = true-false false h refl
judge-more (b ∷ t) u [] k h = on_some_lem (follow b) (λ rs. judge t rs) (λ rs. judge (t ++ u) rs) (λ rs x. judge-more t u rs k x) h
judge-more (b ∷ t) u (r ∷ rs) k h =
    rw (both_left (within r.0 r.1 b) (judge t rs) h) (judge-more t u rs k (both_right (within r.0 r.1 b) (judge t rs) h))

pub utf8-begins : (p c : List ℕ) → utf8 (p ++ c) ≡ true → utf8_begun p ≡ true
unfolding utf8 utf8_begun
utf8-begins p c h = judge-begun p c [] h

-- UTF-8 under one more rule: its beginnings take every byte past ASCII, and with one letter more they keep the rule
abbrev pub letter : List ℕ
letter = 0x61 ∷ []

module _ (safe fair : List ℕ → Bool)
    (more : (p : List ℕ) (b : ℕ) → 0x80 ≤ b → fair p ≡ true → fair (p ++ (b ∷ [])) ≡ true)
    (stop : (p : List ℕ) → fair p ≡ true → safe (p ++ letter) ≡ true)
  where
    more-high : (c p : List ℕ) → High c → fair p ≡ true → fair (p ++ c) ≡ true
    more-high [] p h o = rw (append-nil p) o
    more-high (b ∷ c) p h o = rw (← append_snoc p b c) (more-high c (p ++ (b ∷ [])) h.2 (more p b h.0 o))

    -- some text goes on from p
    pub goes_on : (p : List ℕ) → utf8_begun p ≡ true → fair p ≡ true → (c : List ℕ) × (bytes c ≡ true) × (utf8 (p ++ c) ≡ true) × (safe (p ++ c) ≡ true)
    unfolding utf8 utf8_begun judge follow follow_in rows within bytes
    goes_on p u o =
        let t = ended p [] refl u in
        (t.0 ++ letter, bytes-append t.0 letter (high-bytes t.0 t.1) refl, rw (← append_assoc p t.0 letter) (judge-more (p ++ t.0) letter [] refl t.2), rw (← append_assoc p t.0 letter) (stop (p ++ t.0) (more-high t.0 p t.1 o)))

    pub text-begins : ((p c : List ℕ) → safe (p ++ c) ≡ true → fair p ≡ true) → Beginnings (λ s. both (utf8 s) (safe s)) (λ p. both (utf8_begun p) (fair p))
    text-begins begins = record {
      continued = λ p h.
          let t = goes_on p (both_left (utf8_begun p) (fair p) h) (both_right (utf8_begun p) (fair p) h) in
          (t.0, t.1, rw t.2 t.3);
      begins = λ p c h.
          rw (utf8-begins p c (both_left (utf8 (p ++ c)) (safe (p ++ c)) h)) (begins p c (both_right (utf8 (p ++ c)) (safe (p ++ c)) h));
    }

-- the string is not empty, and does not end in b
abbrev pub Apart : ℕ → List ℕ → Type 0
Apart b [] = ⊥
Apart b (x ∷ []) = b ≡ x → ⊥
Apart b (x ∷ y ∷ w) = Apart b (y ∷ w)

abbrev pub AllApart : ℕ → List (List ℕ) → Type 0
AllApart b [] = Unit {0}
AllApart b (w ∷ ws) = Apart b w × AllApart b ws

starts-last : (w s : List ℕ) (b : ℕ) → Apart b w → starts_with w (s ++ (b ∷ [])) ≡ starts_with w s
unfolding starts_with
starts-last [] s b o = absurd o
starts-last (x ∷ []) [] b o = rw (ne_eqb b x o)
starts-last (x ∷ []) (y ∷ s) b o = refl
starts-last (x ∷ z ∷ w) [] b o = both-no (eqb b x)
starts-last (x ∷ z ∷ w) (y ∷ s) b o = ap (both (eqb y x)) (starts-last (z ∷ w) s b o)

starts-any-last : (ws : List (List ℕ)) (s : List ℕ) (b : ℕ) → AllApart b ws → starts_with_any ws (s ++ (b ∷ [])) ≡ starts_with_any ws s
unfolding starts_with_any
starts-any-last [] s b o = refl
starts-any-last (w ∷ ws) s b o = ap₂ any_of (starts-last w s b o.0) (starts-any-last ws s b o.1)

starts_none : (ws : List (List ℕ)) (b : ℕ) → AllApart b ws → starts_with_any ws [] ≡ false
unfolding starts_with_any
starts_none [] b o = refl
starts_none ([] ∷ ws) b o = absurd o.0
starts_none ((x ∷ w) ∷ ws) b o = starts_none ws b o.1

-- a byte in which none of the strings ends
pub any_last : (ws : List (List ℕ)) (s : List ℕ) (b : ℕ) → AllApart b ws → has_any ws (s ++ (b ∷ [])) ≡ has_any ws s
unfolding has_any
any_last ws [] b o = rw (starts-any-last ws [] b o, starts_none ws b o)
any_last ws (x ∷ s) b o = ap₂ any_of (starts-any-last ws (x ∷ s) b o) (any_last ws s b o)

pub past-line : (b : ℕ) → GREATER < b → AllApart b not_in_line
unfolding not_in_line
past-line b h = (λ e. omega arith, (λ e. omega arith, (λ e. omega arith, (λ e. omega arith, tt))))

pub past-payload : (b : ℕ) → GREATER < b → AllApart b not_in_payload
unfolding not_in_payload
past-payload b h = (λ e. omega arith, (λ e. omega arith, (λ e. omega arith, (λ e. omega arith, (λ e. omega arith, tt)))))

-- what is in no text is in no beginning
pub none-begins : (ws : List (List ℕ)) (p c : List ℕ) → not (has_any ws (p ++ c)) ≡ true → not (has_any ws p) ≡ true
none-begins ws p c h =
    by-test (has_any ws p) (λ e. true-false (has_any ws (p ++ c)) (any-more ws p c e) (not-true (has_any ws (p ++ c)) h)) (λ e. rw e)

past : (rule : Rule) (b : ℕ) → GREATER < b → AllApart b (forbidden rule)
unfolding forbidden
past Any b h = tt
past Line b h = past-line b h
past Payload b h = past-payload b h

-- a byte past `>`
pub none_last : (rule : Rule) (p : List ℕ) (b : ℕ) → GREATER < b → has_any (forbidden rule) (p ++ (b ∷ [])) ≡ has_any (forbidden rule) p
none_last rule p b h = any_last (forbidden rule) p b (past rule b h)

pub utf8-begun : Beginnings utf8 utf8_begun
utf8-begun = record {
  continued = λ p h. let t = goes_on (λ _. true) (λ _. true) (λ p b l h. refl) (λ p h. refl) p h refl in (t.0, t.1, t.2);
  begins = utf8-begins;
}

pub keeps-begun : (rule : Rule) → Beginnings (keeps rule) (keeps_begun rule)
unfolding keeps keeps_begun
keeps-begun rule =
    text-begins (λ s. not (has_any (forbidden rule) s)) (λ s. not (has_any (forbidden rule) s))
    (λ p b l h. rw (none_last rule p b (omega arith)) h)
    (λ p h. rw (none_last rule p 0x61 (omega arith)) h)
    (none-begins (forbidden rule))

-- what is no beginning does not keep the rule
pub not-begun : (rule : Rule) (s : List ℕ) → keeps_begun rule s ≡ false → keeps rule s ≡ false
not-begun rule s h =
    by-test (keeps rule s)
    (λ e. true-false (keeps_begun rule s) ((keeps-begun rule).begins s [] (rw (append-nil s) e)) h)
    (λ e. e)
