-- Laws of timestamps: parts of a text by the bytes at their places, and hours of any number of digits.
use Prim.Native.Nat.{ℕ, zero, suc, ◌+◌, ◌-◌, ◌*◌, min, ◌<◌, ◌≤◌}
use mathlib.Core.Path.{◌≡◌, refl, sym, ap, ◌∙◌}
use mathlib.Core.Bool.{Bool, true, false}
use mathlib.Core.Option.{none, some}
use mathlib.Core.List.{List, [], ◌∷◌}
use native.Mathlib.Omega.{arith}
use native.Mathlib.Nat.{zero-add}
use borrow.Author.Tests.{le-leb, lt-leb, leb-true}
use lib.Dec.{leb}
use lib.ListN.{length, take, drop, get_or, length-drop, drop_of_length-le}
use lib.Seq.{drop-cons, drop-drop, take_all}
use Rattle.base.specs.Choice.{pick, both, within}
use Rattle.base.proofs.Choice.{by-test, true-false, either, both_left, both_right}
use Rattle.base.proofs.Tests.{both-no, both_yes}
use Rattle.utf8.specs.Utf8.{Range}
use Rattle.utf8.proofs.Ranges.{in-range, inside}
use Rattle.decimal.specs.Decimal.{value, value_from}
use Rattle.timestamps.specs.Timestamp.{Ms}
use Rattle.timestamps.specs.Timestamps.{front, behind, COLON, DOT, digit, shaped, minutes, minutes_ms, hours_ms, time_of, capped}

-- ---- bytes at their places

two_at : (s : List ℕ) (i : ℕ) → i + 2 ≤ length s → take 2 (drop i s) ≡ get_or s i 0 ∷ get_or s (i + 1) 0 ∷ []
two_at s i h =
    let a = drop-cons s i 0 (omega arith) in
    let b = drop-cons s (suc i) 0 (omega arith) in
    let e : i + 1 ≡ suc i = omega arith in
    rw (e, a, b)

pub two-value : (s : List ℕ) (i : ℕ) → i + 2 ≤ length s → value (take 2 (drop i s)) ≡ (get_or s i 0 - 48) * 10 + (get_or s (i + 1) 0 - 48)
unfolding value value_from
two-value s i h = ap value (two_at s i h) ∙ ap (λ (x : ℕ). x * 10 + (get_or s (i + 1) 0 - 48)) (zero-add (get_or s i 0 - 48))

nine-at : (s : List ℕ) (i : ℕ) → i + 9 ≤ length s
    → take 9 (drop i s) ≡ get_or s i 0 ∷ get_or s (i + 1) 0 ∷ get_or s (i + 2) 0 ∷ get_or s (i + 3) 0 ∷ get_or s (i + 3 + 1) 0 ∷ get_or s (i + 3 + 2) 0 ∷ get_or s (i + 6) 0 ∷ get_or s (i + 6 + 1) 0 ∷ get_or s (i + 6 + 2) 0 ∷ []
nine-at s i h =
    let e1 : i + 1 ≡ suc i = omega arith in
    let e2 : i + 2 ≡ suc (suc i) = omega arith in
    let e3 : i + 3 ≡ suc (suc (suc i)) = omega arith in
    let e4 : suc (suc (suc i)) + 1 ≡ suc (suc (suc (suc i))) = omega arith in
    let e5 : suc (suc (suc i)) + 2 ≡ suc (suc (suc (suc (suc i)))) = omega arith in
    let e6 : i + 6 ≡ suc (suc (suc (suc (suc (suc i))))) = omega arith in
    let e7 : suc (suc (suc (suc (suc (suc i))))) + 1 ≡ suc (suc (suc (suc (suc (suc (suc i)))))) = omega arith in
    let e8 : suc (suc (suc (suc (suc (suc i))))) + 2 ≡ suc (suc (suc (suc (suc (suc (suc (suc i))))))) = omega arith in
    rw (
      e1,
      e2,
      e3,
      e4,
      e5,
      e6,
      e7,
      e8,
      drop-cons s i 0 (omega arith),
      drop-cons s (suc i) 0 (omega arith),
      drop-cons s (suc (suc i)) 0 (omega arith),
      drop-cons s (suc (suc (suc i))) 0 (omega arith),
      drop-cons s (suc (suc (suc (suc i)))) 0 (omega arith),
      drop-cons s (suc (suc (suc (suc (suc i))))) 0 (omega arith),
      drop-cons s (suc (suc (suc (suc (suc (suc i)))))) 0 (omega arith),
      drop-cons s (suc (suc (suc (suc (suc (suc (suc i))))))) 0 (omega arith),
      drop-cons s (suc (suc (suc (suc (suc (suc (suc (suc i)))))))) 0 (omega arith),
    )

-- the tests of `mm:ss.mmm`, three by three
regroup : (a b c d e f g h k : Bool) → both a (both b (both c (both d (both e (both f (both g (both h (both k true)))))))) ≡ both (both a (both b c)) (both (both d (both e f)) (both g (both h k)))
regroup false b c d e f g h k = refl
regroup true false c d e f g h k = refl
regroup true true false d e f g h k = refl
regroup true true true false e f g h k = refl
regroup true true true true false f g h k = refl
regroup true true true true true false g h k = refl
regroup true true true true true true g h k = ap (λ (x : Bool). both g (both h x)) (both_yes k)

-- two digits and a mark, and three digits, at a place
abbrev pub pair_at : List ℕ → ℕ → ℕ → ℕ → Bool
pair_at s i most mark = both (within 48 most (get_or s i 0)) (both (within 48 57 (get_or s (i + 1) 0)) (within mark mark (get_or s (i + 2) 0)))

abbrev pub thousand_at : List ℕ → ℕ → Bool
thousand_at s i = both (within 48 57 (get_or s i 0)) (both (within 48 57 (get_or s (i + 1) 0)) (within 48 57 (get_or s (i + 2) 0)))

pub minutes-at : (s : List ℕ) (i : ℕ) → i + 9 ≤ length s → shaped minutes (take 9 (drop i s)) ≡ both (pair_at s i 53 COLON) (both (pair_at s (i + 3) 53 DOT) (thousand_at s (i + 6)))
unfolding shaped
minutes-at s i h = ap (shaped minutes) (nine-at s i h) ∙ regroup
    (within 48 53 (get_or s i 0)) (within 48 57 (get_or s (i + 1) 0)) (within COLON COLON (get_or s (i + 2) 0))
    (within 48 53 (get_or s (i + 3) 0)) (within 48 57 (get_or s (i + 3 + 1) 0)) (within DOT DOT (get_or s (i + 3 + 2) 0))
    (within 48 57 (get_or s (i + 6) 0)) (within 48 57 (get_or s (i + 6 + 1) 0)) (within 48 57 (get_or s (i + 6 + 2) 0))

pub minutes-value : (s : List ℕ) (i : ℕ) → i + 9 ≤ length s
    → minutes_ms (take 9 (drop i s)) ≡ value (take 2 (drop i s)) * 60000 + value (take 2 (drop (i + 3) s)) * 1000 + (value (take 2 (drop (i + 6) s)) * 10 + (get_or s (i + 8) 0 - 48))
unfolding minutes_ms value value_from
minutes-value s i h =
    let e : i + 6 + 2 ≡ i + 8 = omega arith in
    ap minutes_ms (nine-at s i h)
    ∙ simp (two-value s i (omega arith), two-value s (i + 3) (omega arith), two-value s (i + 6) (omega arith), e, zero-add)

digit-to : (most b : ℕ) → most ≤ 57 → within 48 most b ≡ true → digit b ≡ true
unfolding digit
digit-to most b h w = let r = in-range 48 most b w in inside 48 57 b r.0 (omega (arith, r.1))

pub digit-bounds : (b : ℕ) → digit b ≡ true → (48 ≤ b) × (b ≤ 57)
unfolding digit
digit-bounds b h = in-range 48 57 b h

-- a pair's digits, and the most that they are
module _ (s : List ℕ) (i most mark : ℕ) (small : most ≤ 57) (h : pair_at s i most mark ≡ true) where
  pub pair-first : digit (get_or s i 0) ≡ true
  pair-first = digit-to most (get_or s i 0) small (both_left (within 48 most (get_or s i 0)) _ h)

  second-mark : both (within 48 57 (get_or s (i + 1) 0)) (within mark mark (get_or s (i + 2) 0)) ≡ true
  second-mark = both_right (within 48 most (get_or s i 0)) _ h

  pub pair-second : digit (get_or s (i + 1) 0) ≡ true
  unfolding digit
  pair-second = both_left (within 48 57 (get_or s (i + 1) 0)) _ second-mark

  pub pair-mark : get_or s (i + 2) 0 ≡ mark
  pair-mark =
      let r = in-range mark mark (get_or s (i + 2) 0) (both_right (within 48 57 (get_or s (i + 1) 0)) (within mark mark (get_or s (i + 2) 0)) second-mark) in
      omega (arith, r.0, r.1)

  pub pair-most : i + 2 ≤ length s → value (take 2 (drop i s)) ≤ (most - 48) * 10 + 9
  pair-most l =
      let a = in-range 48 most (get_or s i 0) (both_left (within 48 most (get_or s i 0)) _ h) in
      let b = digit-bounds (get_or s (i + 1) 0) pair-second in
      omega (arith, two-value s i l, a.0, a.1, b.0, b.1)

-- the parts of `mm:ss.mmm`
module _ (s : List ℕ) (i : ℕ) (l : i + 9 ≤ length s) (h : shaped minutes (take 9 (drop i s)) ≡ true) where
  parts : both (pair_at s i 53 COLON) (both (pair_at s (i + 3) 53 DOT) (thousand_at s (i + 6))) ≡ true
  parts = sym (minutes-at s i l) ∙ h

  pub minutes-pair : pair_at s i 53 COLON ≡ true
  minutes-pair = both_left (pair_at s i 53 COLON) _ parts

  rest : both (pair_at s (i + 3) 53 DOT) (thousand_at s (i + 6)) ≡ true
  rest = both_right (pair_at s i 53 COLON) _ parts

  pub seconds-pair : pair_at s (i + 3) 53 DOT ≡ true
  seconds-pair = both_left (pair_at s (i + 3) 53 DOT) _ rest

  thousand : thousand_at s (i + 6) ≡ true
  thousand = both_right (pair_at s (i + 3) 53 DOT) _ rest

  pub ms-first : digit (get_or s (i + 6) 0) ≡ true
  unfolding digit
  ms-first = both_left (within 48 57 (get_or s (i + 6) 0)) _ thousand

  last-two : both (within 48 57 (get_or s (i + 6 + 1) 0)) (within 48 57 (get_or s (i + 6 + 2) 0)) ≡ true
  last-two = both_right (within 48 57 (get_or s (i + 6) 0)) _ thousand

  pub ms-second : digit (get_or s (i + 6 + 1) 0) ≡ true
  unfolding digit
  ms-second = both_left (within 48 57 (get_or s (i + 6 + 1) 0)) _ last-two

  pub ms-third : digit (get_or s (i + 8) 0) ≡ true
  unfolding digit
  ms-third =
      let e : i + 6 + 2 ≡ i + 8 = omega arith in
      ap (λ (k : ℕ). within 48 57 (get_or s k 0)) (sym e) ∙ both_right (within 48 57 (get_or s (i + 6 + 1) 0)) _ last-two

-- ---- digits, and hours

front-more : (s : List ℕ) (i : ℕ) → i < length s → digit (get_or s i 0) ≡ true → front digit (drop i s) ≡ get_or s i 0 ∷ front digit (drop (i + 1) s)
unfolding front
front-more s i h d = let e : i + 1 ≡ suc i = omega arith in rw (drop-cons s i 0 h, d, e)

front-stop : (s : List ℕ) (i : ℕ) → i < length s → digit (get_or s i 0) ≡ false → front digit (drop i s) ≡ []
unfolding front
front-stop s i h d = rw (drop-cons s i 0 h, d)

front-end : (s : List ℕ) (i : ℕ) → length s ≤ i → front digit (drop i s) ≡ []
unfolding front
front-end s i h = rw (drop_of_length-le s h)

-- a number above m may be taken for m, and stays it with more digits
cap-from : (m w : ℕ) (ds : List ℕ) → min (value_from (min w m) ds) m ≡ min (value_from w ds) m
unfolding value_from
cap-from m w [] = omega arith
cap-from m w (d ∷ ds) =
    let e : min (min w m * 10 + (d - 48)) m ≡ min (w * 10 + (d - 48)) m = omega arith in
    sym (cap-from m (min w m * 10 + (d - 48)) ds) ∙ ap (λ (x : ℕ). min (value_from x ds) m) e ∙ cap-from m (w * 10 + (d - 48)) ds

module _ (s : List ℕ) (m : ℕ) where
  -- i digits are read, v is their number or m, and the digits from i on are left
  pub record Counting (i v : ℕ) : Type 0 where
    pub inside : i ≤ length s
    pub small : v ≤ m
    pub counts : i + length (front digit (drop i s)) ≡ length (front digit s)
    pub numbers : min (value_from v (front digit (drop i s))) m ≡ min (value (front digit s)) m

  pub counting-start : Counting 0 0
  unfolding value
  counting-start = record { inside = omega arith; small = omega arith; counts = zero-add _; numbers = refl }

  pub counting_more : (i v w : ℕ) → i < length s → digit (get_or s i 0) ≡ true → w ≡ min (v * 10 + (get_or s i 0 - 48)) m → Counting i v → Counting (i + 1) w
  unfolding value_from
  counting_more i v w h d e k =
      let f = front-more s i h d in
      let b = get_or s i 0 - 48 in
      record {
        inside = omega arith;
        small = omega arith;
        counts = omega (arith, ap length f, k.counts);
        numbers = ap (λ (x : ℕ). min (value_from x (front digit (drop (i + 1) s))) m) e
            ∙ cap-from m (v * 10 + b) (front digit (drop (i + 1) s))
            ∙ ap (λ (x : List ℕ). min (value_from v x) m) (sym f)
            ∙ k.numbers;
      }

  counting-done : (i v : ℕ) → front digit (drop i s) ≡ [] → Counting i v → (i ≡ length (front digit s)) × (v ≡ min (value (front digit s)) m)
  unfolding value_from
  counting-done i v f k = let e : v ≡ min v m = omega (arith, k.small) in
      (omega (arith, ap length f, k.counts), e ∙ ap (λ (x : List ℕ). min (value_from v x) m) (sym f) ∙ k.numbers)

  pub counting-stop : (i v : ℕ) → i < length s → digit (get_or s i 0) ≡ false → Counting i v → (i ≡ length (front digit s)) × (v ≡ min (value (front digit s)) m)
  counting-stop i v h d k = counting-done i v (front-stop s i h d) k

  pub counting-end : (i v : ℕ) → length s ≤ i → Counting i v → (i ≡ length (front digit s)) × (v ≡ min (value (front digit s)) m)
  counting-end i v h k = counting-done i v (front-end s i h) k

-- ---- the whole timestamp

within-not : (b c : ℕ) → (b ≡ c → ⊥) → within c c b ≡ false
unfolding within
within-not b c h =
    by-test (leb c b)
    (λ e. by-test (leb b c) (λ f. absurd (h (omega (arith, leb-true c b e, leb-true b c f)))) (λ f. rw (e, f)))
    (λ e. rw e)

shaped-length : (rs : List Range) (s : List ℕ) → shaped rs s ≡ true → length s ≡ length rs
unfolding shaped
shaped-length [] [] h = refl
shaped-length [] (b ∷ s) h = true-false false h refl
shaped-length (r ∷ rs) [] h = true-false false h refl
shaped-length (r ∷ rs) (b ∷ s) h = ap suc (shaped-length rs s (both_right (within r.0 r.1 b) (shaped rs s) h))

-- bytes of another number have not the shape
pub shaped-not : (rs : List Range) (s : List ℕ) → (length s ≡ length rs → ⊥) → shaped rs s ≡ false
shaped-not rs s h = by-test (shaped rs s) (λ e. absurd (h (shaped-length rs s e))) (λ e. e)

pub behind-drop : (p : ℕ → Bool) (s : List ℕ) → behind p s ≡ drop (length (front p s)) s
unfolding front behind
behind-drop p [] = refl
behind-drop p (b ∷ s) = by-test (p b) (λ e. rw e (behind-drop p s)) (λ e. rw e)

pub front-most : (p : ℕ → Bool) (s : List ℕ) → length (front p s) ≤ length s
unfolding front
front-most p [] = omega arith
front-most p (b ∷ s) = by-test (p b) (λ e. rw e (omega (arith, front-most p s))) (λ e. rw e (omega arith))

-- hours above 100 may be taken for 100
pub long-capped : (h m x y : ℕ) → x ≡ min h 100 → y ≡ m → Ms (capped (x * 3600000 + y)) ≡ Ms (capped (h * 3600000 + m))
unfolding capped
long-capped h m x y p q = ap Ms (omega arith)

module _ (s : List ℕ) (n : ℕ) (is : n ≡ length (front digit s)) where
  left_is : behind digit s ≡ drop n s
  left_is = behind-drop digit s ∙ ap (λ (k : ℕ). drop k s) (sym is)

  pub few-digits : n < 2 → hours_ms (front digit s) (behind digit s) ≡ none
  unfolding hours_ms
  few-digits h = rw (← is, lt-leb 2 n h)

  pub other_length : (length s - n ≡ 10 → ⊥) → hours_ms (front digit s) (behind digit s) ≡ none
  unfolding hours_ms
  other_length h =
      let l : length (drop n s) ≡ length s - n = length-drop n s in
      rw (left_is, shaped-not ((COLON, COLON) ∷ minutes) (drop n s) (λ e. h (sym l ∙ e)), both-no)

  module _ (h : length s - n ≡ 10) where
    past-hours : n < length s
    past-hours = omega arith

    tail-is : drop 1 (drop n s) ≡ take 9 (drop (n + 1) s)
    tail-is =
        let e : n + 1 ≡ suc n = omega arith in
        let d : drop 1 (drop n s) ≡ drop (n + 1) s = drop-drop 1 n s in
        let l : length (drop (n + 1) s) ≡ 9 = omega (arith, length-drop (n + 1) s) in
        d ∙ sym (take_all 9 (drop (n + 1) s) (omega (arith, l)))

    shape_is : shaped ((COLON, COLON) ∷ minutes) (drop n s) ≡ both (within COLON COLON (get_or s n 0)) (shaped minutes (take 9 (drop (n + 1) s)))
    unfolding shaped
    shape_is =
        ap (shaped ((COLON, COLON) ∷ minutes)) (drop-cons s n 0 past-hours)
        ∙ ap (λ (x : List ℕ). both (within COLON COLON (get_or s n 0)) (shaped minutes x)) (sym (ap (drop 1) (drop-cons s n 0 past-hours)) ∙ tail-is)

    pub no-colon : (get_or s n 0 ≡ 58 → ⊥) → hours_ms (front digit s) (behind digit s) ≡ none
    unfolding hours_ms
    no-colon c =
        let w : within COLON COLON (get_or s n 0) ≡ false = within-not (get_or s n 0) COLON c in
        rw (left_is, shape_is, w, both-no)

    pub no-minutes : shaped minutes (take 9 (drop (n + 1) s)) ≡ false → hours_ms (front digit s) (behind digit s) ≡ none
    unfolding hours_ms
    no-minutes m = rw (left_is, shape_is, m, both-no, both-no)

    pub long-is : 2 ≤ n → get_or s n 0 ≡ 58 → shaped minutes (take 9 (drop (n + 1) s)) ≡ true
        → hours_ms (front digit s) (behind digit s) ≡ some (value (front digit s) * 3600000 + minutes_ms (take 9 (drop (n + 1) s)))
    unfolding hours_ms within
    long-is t c m = rw (left_is, shape_is, m, c, ← is, le-leb 2 n t, tail-is)

-- ---- twelve bytes

front-holds : (p : ℕ → Bool) (s : List ℕ) (i : ℕ) → i < length (front p s) → p (get_or s i 0) ≡ true
unfolding front
front-holds p [] i h = absurd (omega (arith, h))
front-holds p (b ∷ s) zero h = by-test (p b) (λ e. e) (λ e. absurd (omega (arith, h, ap (λ (x : Bool). length (pick x (b ∷ front p s) [])) e)))
front-holds p (b ∷ s) (suc i) h =
    by-test (p b)
    (λ e. front-holds p s i (omega (arith, h, ap (λ (x : Bool). length (pick x (b ∷ front p s) [])) e)))
    (λ e. absurd (omega (arith, h, ap (λ (x : Bool). length (pick x (b ∷ front p s) [])) e)))

module _ (s : List ℕ) (l : length s ≡ 12) where
  module _ (h : pair_at s 0 57 COLON ≡ true) where
    two-front : front digit s ≡ take 2 (drop 0 s)
    unfolding digit within
    two-front =
        let a = front-more s 0 (omega arith) (pair-first s 0 57 COLON (omega arith) h) in
        let b = front-more s 1 (omega arith) (pair-second s 0 57 COLON (omega arith) h) in
        let c = front-stop s 2 (omega arith) (ap digit (pair-mark s 0 57 COLON (omega arith) h)) in
        a ∙ ap (λ (x : List ℕ). get_or s 0 0 ∷ x) (b ∙ ap (λ (x : List ℕ). get_or s 1 0 ∷ x) c) ∙ sym (two_at s 0 (omega arith))

    two-count : 2 ≡ length (front digit s)
    two-count = sym (ap length (two-front ∙ two_at s 0 (omega arith)))

    pub usual-no-minutes : shaped minutes (take 9 (drop 3 s)) ≡ false → hours_ms (front digit s) (behind digit s) ≡ none
    usual-no-minutes m = no-minutes s 2 two-count (omega arith) m

    pub usual-is : shaped minutes (take 9 (drop 3 s)) ≡ true → hours_ms (front digit s) (behind digit s) ≡ some (value (take 2 (drop 0 s)) * 3600000 + minutes_ms (take 9 (drop 3 s)))
    usual-is m =
        long-is s 2 two-count (omega arith) (omega arith) (pair-mark s 0 57 COLON (omega arith) h) m
        ∙ ap (λ (x : List ℕ). some (value x * 3600000 + minutes_ms (take 9 (drop 3 s)))) two-front

  -- two digits that end the hours have no colon behind them
  lone-two : pair_at s 0 57 COLON ≡ false → 2 ≡ length (front digit s) → hours_ms (front digit s) (behind digit s) ≡ none
  unfolding digit within
  lone-two h is =
      let a : digit (get_or s 0 0) ≡ true = front-holds digit s 0 (omega arith) in
      let b : digit (get_or s 1 0) ≡ true = front-holds digit s 1 (omega arith) in
      no-colon s 2 is (omega arith) (λ e. true-false (pair_at s 0 57 COLON) (rw (a, b, e)) h)

  pub usual-not : pair_at s 0 57 COLON ≡ false → hours_ms (front digit s) (behind digit s) ≡ none
  usual-not h =
      let n = length (front digit s) in
      either 2 n
      (λ m. either n 2 (λ k. lone-two h (omega (arith, m, k))) (λ k. other_length s n refl (λ e. omega (arith, l, k, e))))
      (λ m. few-digits s n refl m)

pub uncapped : (t : ℕ) → t ≤ 360000000 → Ms t ≡ Ms (capped t)
unfolding capped
uncapped t h = ap Ms (omega arith)

-- nine bytes are `mm:ss.mmm` or no timestamp; other ones begin with hours
pub nine-is : (s : List ℕ) → length s ≡ 9 → shaped minutes (take 9 (drop 0 s)) ≡ true → time_of s ≡ some (minutes_ms (take 9 (drop 0 s)))
unfolding time_of
nine-is s l h =
    let e = take_all 9 s (omega (arith, l)) in
    rw (sym (ap (shaped minutes) e) ∙ h, e)

pub nine-not : (s : List ℕ) → length s ≡ 9 → shaped minutes (take 9 (drop 0 s)) ≡ false → time_of s ≡ none
unfolding time_of
nine-not s l h =
    let e = take_all 9 s (omega (arith, l)) in
    rw (sym (ap (shaped minutes) e) ∙ h) (other_length s (length (front digit s)) refl (λ k. omega (arith, l)))

pub not-nine : (s : List ℕ) → (length s ≡ 9 → ⊥) → time_of s ≡ hours_ms (front digit s) (behind digit s)
unfolding time_of
not-nine s h = rw (shaped-not minutes s h)
