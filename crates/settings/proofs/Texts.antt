-- Bytes that pass a test; and texts of a line, which fall into two at a byte that cannot stand within a character or a forbidden string.
use Prim.Native.Nat.{ℕ, suc, ◌<◌, ◌≤◌}
use mathlib.Core.Path.{◌≡◌, refl, ap, ap₂, ◌∙◌}
use mathlib.Core.Bool.{Bool, true, false, not}
use mathlib.Core.List.{List, [], ◌∷◌, ◌++◌}
use mathlib.Core.Option.{Option, none, some}
use native.Mathlib.Omega.{arith}
use native.Mathlib.Nat.{not-suc-le-zero}
use borrow.Author.Tests.{leb-true, not-true, ne_eqb}
use lib.Dec.{eqb, leb}
use lib.ListN.{length}
use Rattle.base.specs.Choice.{both, any_of, within}
use Rattle.base.proofs.Choice.{both_left, both_right, by-test, true-false}
use Rattle.base.proofs.Tests.{both-no, one-of-no}
use Rattle.utf8.specs.Utf8.{Range, Row, rows, follow_in, follow, on_some, judge, utf8}
use Rattle.utf8.specs.Strings.{CR, LF, DASH, GREATER, starts_with, starts_with_any, has_any}
use Rattle.utf8.specs.Forbidden.{arrow, not_in_line}
use Rattle.utf8.proofs.Ranges.{inside, below, in-range}
use Rattle.text.specs.Rules.{identifier_text}
use Rattle.text.proofs.Rules.{empty-line}
use Rattle.timestamps.specs.Timestamps.{All, front}

-- ---- bytes that pass a test

-- bytes that pass one test pass another that follows from it
pub all_so : (p q : ℕ → Bool) → ((b : ℕ) → p b ≡ true → q b ≡ true) → (s : List ℕ) → All p s → All q s
all_so p q f [] h = tt
all_so p q f (b ∷ s) h = (f b h.0, all_so p q f s h.1)

-- all bytes pass if the front that passes is no shorter than the whole: of bytes that are known this computes
pub all_whole : (p : ℕ → Bool) (s : List ℕ) → leb (length s) (length (front p s)) ≡ true → All p s
unfolding front
all_whole p s h = go s (leb-true (length s) (length (front p s)) h)
  where
    go : (s : List ℕ) → length s ≤ length (front p s) → All p s
    go [] k = tt
    go (b ∷ s) k =
        by-test (p b)
        (λ e. let l : suc (length s) ≤ suc (length (front p s)) = rw e at k in (e, go s (omega arith)))
        (λ e. let l : suc (length s) ≤ 0 = rw e at k in absurd (not-suc-le-zero l))

-- ---- UTF-8 at an ASCII byte

-- behind the first byte of a character come bytes past ASCII
abbrev High : List Range → Type 0
High [] = Unit {0}
High (r ∷ rs) = (0x80 ≤ r.0) × High rs

abbrev HighRows : List Row → Type 0
HighRows [] = Unit {0}
HighRows (r ∷ rs) = High r.1 × HighRows rs

abbrev HighSome : Option (List Range) → Type 0
HighSome none = Unit {0}
HighSome (some rs) = High rs

-- so do the bytes that follow any byte, and none follows an ASCII byte
follow-in : (rs : List Row) (b : ℕ) → HighRows rs → HighSome (follow_in rs b)
unfolding follow_in
follow-in [] b h = tt
follow-in (r ∷ rs) b h = by-test (within r.0.0 r.0.1 b) (λ e. rw e h.0) (λ e. rw e (follow-in rs b h.1))

follow-high : (b : ℕ) → HighSome (follow b)
unfolding follow rows
follow-high b = follow-in rows b (omega arith)

follow-ascii : (c : ℕ) → c < 0x80 → follow c ≡ some []
unfolding follow follow_in rows
follow-ascii c h = rw (inside 0x00 0x7F c (omega arith) (omega arith))

-- an ASCII byte in front of a text
pub utf8-ascii : (c : ℕ) (t : List ℕ) → c < 0x80 → utf8 (c ∷ t) ≡ utf8 t
unfolding utf8 judge
utf8-ascii c t h = rw (follow-ascii c h)

cut-some : (o : Option (List Range)) (f g : List Range → Bool) (x : Bool) → HighSome o → ((rs : List Range) → High rs → f rs ≡ both (g rs) x) → on_some o f ≡ both (on_some o g) x
cut-some none f g x a k = refl
cut-some (some rs) f g x a k = k rs a

both-more : (a b c : Bool) → both a (both b c) ≡ both (both a b) c
both-more true b c = refl
both-more false b c = refl

judge-cut : (a : List ℕ) (c : ℕ) (t : List ℕ) (rs : List Range) → c < 0x80 → High rs → judge (a ++ c ∷ t) rs ≡ both (judge a rs) (judge (c ∷ t) [])
unfolding judge
judge-cut [] c t [] l k = refl
judge-cut [] c t (r ∷ rs) l k = rw (below r.0 r.1 c (omega (arith, k.0)))
judge-cut (b ∷ a) c t [] l k = cut-some (follow b) (λ rs. judge (a ++ c ∷ t) rs) (λ rs. judge a rs) (judge (c ∷ t) []) (follow-high b) (λ rs x. judge-cut a c t rs l x)
judge-cut (b ∷ a) c t (r ∷ rs) l k = rw (judge-cut a c t rs l k.1) (both-more (within r.0 r.1 b) (judge a rs) (judge (c ∷ t) []))

-- bytes with an ASCII byte among them are UTF-8 exactly if those before it and those behind it are
pub utf8-cut : (a : List ℕ) (c : ℕ) (t : List ℕ) → c < 0x80 → utf8 (a ++ c ∷ t) ≡ both (utf8 a) (utf8 t)
unfolding utf8
utf8-cut a c t l = judge-cut a c t [] l tt ∙ ap (both (judge a [])) (utf8-ascii c t l)

-- ---- strings at a byte that stands in none of them

-- the byte is none of the string's
abbrev pub out_of : ℕ → List ℕ → Bool
out_of c [] = true
out_of c (x ∷ p) = both (not (eqb c x)) (out_of c p)

-- nor of any of the strings, of which none is empty
abbrev pub out_of_any : ℕ → List (List ℕ) → Bool
out_of_any c [] = true
out_of_any c (p ∷ ps) = both (both (leb 1 (length p)) (out_of c p)) (out_of_any c ps)

starts-cut : (p s : List ℕ) (c : ℕ) (t : List ℕ) → out_of c p ≡ true → starts_with p (s ++ c ∷ t) ≡ starts_with p s
unfolding starts_with
starts-cut [] s c t h = refl
starts-cut (x ∷ p) [] c t h = rw (not-true (eqb c x) (both_left (not (eqb c x)) (out_of c p) h))
starts-cut (x ∷ p) (b ∷ s) c t h = ap (both (eqb b x)) (starts-cut p s c t (both_right (not (eqb c x)) (out_of c p) h))

starts-any-cut : (ps : List (List ℕ)) (s : List ℕ) (c : ℕ) (t : List ℕ) → out_of_any c ps ≡ true → starts_with_any ps (s ++ c ∷ t) ≡ starts_with_any ps s
unfolding starts_with_any
starts-any-cut [] s c t h = refl
starts-any-cut (p ∷ ps) s c t h =
    let k = both_left (both (leb 1 (length p)) (out_of c p)) (out_of_any c ps) h in
    ap₂ any_of (starts-cut p s c t (both_right (leb 1 (length p)) (out_of c p) k)) (starts-any-cut ps s c t (both_right (both (leb 1 (length p)) (out_of c p)) (out_of_any c ps) h))

starts_none : (ps : List (List ℕ)) (c : ℕ) → out_of_any c ps ≡ true → starts_with_any ps [] ≡ false
unfolding starts_with_any
starts_none [] c h = refl
starts_none ([] ∷ ps) c h = true-false false h refl
starts_none ((x ∷ p) ∷ ps) c h = starts_none ps c (both_right (both (leb 1 (length (x ∷ p))) (out_of c (x ∷ p))) (out_of_any c ps) h)

one-of-more : (a b c : Bool) → any_of a (any_of b c) ≡ any_of (any_of a b) c
one-of-more true b c = refl
one-of-more false b c = refl

-- a string stands in bytes with such a byte among them if it stands before it or behind it
pub any-cut : (ps : List (List ℕ)) (s : List ℕ) (c : ℕ) (t : List ℕ) → out_of_any c ps ≡ true → has_any ps (s ++ c ∷ t) ≡ any_of (has_any ps s) (has_any ps t)
unfolding has_any
any-cut ps [] c t h = rw (starts-any-cut ps [] c t h, starts_none ps c h)
any-cut ps (b ∷ s) c t h = rw (starts-any-cut ps (b ∷ s) c t h, any-cut ps s c t h) (one-of-more (starts_with_any ps (b ∷ s)) (has_any ps s) (has_any ps t))

-- ---- texts of a line

-- an ASCII byte of no forbidden string: not 0, CR, LF, `-` or `>`
unfoldable pub seam : ℕ → Bool
unfolding not_in_line
seam c = both (leb c 0x7F) (out_of_any c not_in_line)

both-cut : (u v x y : Bool) → both (both u v) (not (any_of x y)) ≡ both (both u (not x)) (both v (not y))
both-cut true v true y = both-no v
both-cut true v false y = refl
both-cut false v x y = refl

-- a text of a line falls into two there
pub line-cut : (a : List ℕ) (c : ℕ) (t : List ℕ) → seam c ≡ true → identifier_text (a ++ c ∷ t) ≡ both (identifier_text a) (identifier_text t)
unfolding identifier_text seam
line-cut a c t h =
    let l = leb-true c 0x7F (both_left (leb c 0x7F) (out_of_any c not_in_line) h) in
    rw (utf8-cut a c t (omega arith), any-cut not_in_line a c t (both_right (leb c 0x7F) (out_of_any c not_in_line) h))
    (both-cut (utf8 a) (utf8 t) (has_any not_in_line a) (has_any not_in_line t))

-- an ASCII byte past the space, and not `>`, in which each `-->` ends
unfoldable pub safe : ℕ → Bool
safe b = both (within 0x21 0x7F b) (not (eqb b GREATER))

-- what the test means
safe-is : (b : ℕ) → safe b ≡ true → (0x21 ≤ b) × (b ≤ 0x7F) × (eqb b GREATER ≡ false)
unfolding safe
safe-is b h =
    let i = in-range 0x21 0x7F b (both_left (within 0x21 0x7F b) (not (eqb b GREATER)) h) in
    (i.0, i.1, not-true (eqb b GREATER) (both_right (within 0x21 0x7F b) (not (eqb b GREATER)) h))

-- of the strings only `-->` can begin with it, and does not in bytes that are all safe
safe-begins : (b : ℕ) (s : List ℕ) → safe b ≡ true → starts_with_any not_in_line (b ∷ s) ≡ starts_with arrow (b ∷ s)
unfolding starts_with_any not_in_line
safe-begins b s h =
    let l = (safe-is b h).0 in
    rw (ne_eqb b 0 (λ e. omega (arith, l, e)), ne_eqb b CR (λ e. omega (arith, l, e)), ne_eqb b LF (λ e. omega (arith, l, e))) (one-of-no (starts_with arrow (b ∷ s)))

arrow-free : (b : ℕ) (s : List ℕ) → All safe s → starts_with arrow (b ∷ s) ≡ false
unfolding starts_with
arrow-free b [] h = both-no (eqb b DASH)
arrow-free b (c ∷ []) h = simp both-no
arrow-free b (c ∷ d ∷ s) h = simp ((safe-is d h.1.0).2, both-no)

-- safe bytes are a text of a line
pub line-safe : (s : List ℕ) → All safe s → identifier_text s ≡ true
unfolding identifier_text has_any
line-safe [] h = empty-line
line-safe (b ∷ s) h =
    let l = (safe-is b h.0).1 in
    rw (utf8-ascii b s (omega arith), safe-begins b s h.0, arrow-free b s h.1) (line-safe s h.1)
