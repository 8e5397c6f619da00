-- Lines joined where they stand.
use Prim.Native.Nat.{ℕ, zero, suc, ◌+◌, ◌-◌, ◌<◌, ◌≤◌}
use mathlib.Core.Path.{◌≡◌, refl, sym, ap, ap₂, ◌∙◌, subst}
use mathlib.Core.Bool.{Bool, true, false}
use mathlib.Core.List.{List, [], ◌∷◌, ◌++◌, append_assoc, append-nil}
use native.Mathlib.Omega.{arith}
use lib.ListN.{length, take, drop, get_or, length-append, length-take, length-drop}
use lib.Seq.{drop-cons, drop-drop, take-add, append_snoc}
use Rattle.utf8.specs.Strings.{LF}
use Rattle.vtt_lines.specs.Lines.{Line, lines_of, joined, filled}
use Rattle.vtt_lines.specs.Cursor.{found_at, Ahead, begins_filled, joint, JoinedAt, ScannedTo}
use Rattle.vtt_lines.specs.declared.Line.{Line as Found}
use Rattle.vtt_lines.proofs.Blocks.{added, gathered-short, filled-found, filled-stop}
use Rattle.vtt_lines.proofs.Gathering.{more, more-line, more-none, more-some}

-- the bytes from one place to before another
abbrev text_in : List ℕ → ℕ → ℕ → List ℕ
text_in s a b = take (b - a) (drop a s)

-- in two parts
in_two : (s : List ℕ) (a b c : ℕ) → a ≤ b → b ≤ c → text_in s a c ≡ text_in s a b ++ text_in s b c
in_two s a b c h k =
    let e : c - a ≡ (b - a) + (c - b) = omega arith in
    let q : a + (b - a) ≡ b = omega arith in
    ap (λ (n : ℕ). take n (drop a s)) e ∙ take-add (b - a) (c - b) (drop a s) ∙ ap (λ (x : List ℕ). text_in s a b ++ take (c - b) x) (drop-drop (b - a) a s ∙ ap (λ (n : ℕ). drop n s) q)

-- a byte in front
in-front : (s : List ℕ) (b c : ℕ) → b < length s → b < c → text_in s b c ≡ get_or s b 0 ∷ text_in s (b + 1) c
in-front s b c h k =
    let e : c - b ≡ suc (c - (b + 1)) = omega arith in
    let q : suc b ≡ b + 1 = omega arith in
    ap₂ (λ (n : ℕ) (x : List ℕ). take n x) e (drop-cons s b 0 h) ∙ ap (λ (n : ℕ). get_or s b 0 ∷ take (c - (b + 1)) (drop n s)) q

append-joint : (a r : List ℕ) → a ++ LF ∷ r ≡ a ++ (LF ∷ []) ++ r
append-joint a r = sym (append_snoc a LF r)

-- n bytes of the text `whole`, from `start` on, end at `end`, where they stand if they are plain; lines are left, the first at i
pub record Scanning (whole s : List ℕ) (start n end : ℕ) (plain : Bool) (i : ℕ) (lines : List Line) : Type 0 where
  pub text : List ℕ
  pub sized : n ≡ length text
  pub ahead : text ++ more n lines ≡ whole
  pub first : n ≡ 0 → (i ≡ start) × (end ≡ start)
  pub ordered : start ≤ end
  pub before : end ≤ i
  pub same : plain ≡ true → text_in s start end ≡ text

pub scanning-start : (s : List ℕ) (start : ℕ) (lines : List Line) → Scanning (joined lines) s start 0 start true start lines
scanning-start s start lines =
    let e : start - start ≡ 0 = omega arith in
    record { text = []; sized = refl; ahead = refl; first = λ _. (refl, refl); ordered = omega arith; before = omega arith; same = λ _. ap (λ (n : ℕ). take n (drop start s)) e }

module _ (whole s : List ℕ) (start n end : ℕ) (plain : Bool) (i : ℕ) where
  -- the text goes on with the line
  goes : (e : ℕ) (t : List ℕ) → n ≡ length t → (n ≡ 0 → (i ≡ start) × (end ≡ start)) → start ≤ end → end ≤ i → i < length s → i ≤ e → JoinedAt s n end i → text_in s start end ≡ t
      → text_in s start e ≡ t ++ joint n ++ text_in s i e
  goes e [] z f o b l k j p = go n z f j
    where
      go : (m : ℕ) → m ≡ 0 → (m ≡ 0 → (i ≡ start) × (end ≡ start)) → JoinedAt s m end i → text_in s start e ≡ [] ++ joint m ++ text_in s i e
      go zero y g q = ap (λ (x : ℕ). text_in s x e) (sym (g refl).0)
      go (suc m) y g q = absurd (omega arith)
  goes e (x ∷ t) z f o b l k j p = go n z j
    where
      go : (m : ℕ) → m ≡ suc (length t) → JoinedAt s m end i → text_in s start e ≡ (x ∷ t) ++ joint m ++ text_in s i e
      go zero y q = absurd (omega arith)
      go (suc m) y q =
          let u : text_in s end e ≡ LF ∷ text_in s i e = in-front s end e (omega (arith, q.0)) (omega (arith, q.0)) ∙ ap₂ (λ (w : ℕ) (v : ℕ). w ∷ text_in s v e) q.1 (sym q.0) in
          in_two s start end e o (omega (arith, q.0)) ∙ ap₂ ◌++◌ p u ∙ append-joint (x ∷ t) (text_in s i e)

  scanning-step : (l : Line) (lines : List Line) (m e k : ℕ) (on : Bool) → 0 < length l → l ≡ text_in s i e → i < length s → i ≤ e → e ≤ k
      → Scanning whole s start n end plain i (l ∷ lines) → m ≡ n + length (joint n) + length l → (on ≡ true → (plain ≡ true) × JoinedAt s n end i)
      → Scanning whole s start m e on k lines
  scanning-step l lines m e k on h is c o z g em j =
      let t = g.text in
      let p = length-append t (joint n) in
      let q = length-append (t ++ joint n) l in
      let a : t ++ joint n ++ l ++ added lines ≡ t ++ (joint n ++ (l ++ added lines)) = simp append_assoc in
      record {
        text = t ++ joint n ++ l;
        sized = omega (arith, g.sized);
        ahead = rw (more-some m lines (omega arith)) (a ∙ ap (λ (x : List ℕ). t ++ x) (sym (more-line n l lines)) ∙ g.ahead);
        first = λ w. absurd (omega (arith, w));
        ordered = omega (arith, g.ordered, g.before);
        before = z;
        same = λ w. goes e t g.sized g.first g.ordered g.before c o (j w).1 (g.same (j w).0) ∙ ap (λ (x : List ℕ). t ++ joint n ++ x) (sym is);
      }

  -- the line at i is next
  pub scanned-step : (l : Found) (number m : ℕ) (on : Bool) → begins_filled (drop i s) ≡ true → i < length s → l ≡ found_at s i number → Ahead s i number l
      → Scanning whole s start n end plain i (filled (lines_of (drop i s))) → m ≡ n + length (joint n) + (l.end - i) → (on ≡ true → (plain ≡ true) × JoinedAt s n end i)
      → Scanning whole s start m l.end on l.next (filled (lines_of (drop l.next s)))
  scanned-step l number m on h c e a g em j =
      let f = filled-found s i l number h e in
      let z : length (take (l.end - i) (drop i s)) ≡ l.end - i = length-take (l.end - i) (drop i s) ∙ omega (arith, length-drop i s, a.follows, a.within) in
      scanning-step (take (l.end - i) (drop i s)) (filled (lines_of (drop l.next s))) m l.end l.next on f.1 refl c a.ends a.follows
      (subst (Scanning whole s start n end plain i) f.0 g) (omega (arith, em, z)) j

-- the block has ended
pub scanned-stop : (s : List ℕ) (start n end : ℕ) (plain : Bool) (i : ℕ) → i ≤ length s → begins_filled (drop i s) ≡ false
    → Scanning (joined (filled (lines_of (drop start s)))) s start n end plain i (filled (lines_of (drop i s))) → ScannedTo s start n end plain
scanned-stop s start n end plain i w h g =
    let a : g.text ++ more n [] ≡ joined (filled (lines_of (drop start s))) = ap (λ (ls : List Line). g.text ++ more n ls) (sym (filled-stop s i h).0) ∙ g.ahead in
    let e : g.text ≡ joined (filled (lines_of (drop start s))) = sym (append-nil g.text) ∙ ap (λ (x : List ℕ). g.text ++ x) (sym (more-none n)) ∙ a in
    record {
      sized = g.sized ∙ ap length e;
      short = omega (arith, g.sized, ap length e, gathered-short s start);
      ordered = g.ordered;
      within = omega (arith, g.before);
      same = λ p. g.same p ∙ e;
    }

-- the lengths fit
pub scanned-fits : (s : List ℕ) (start n end : ℕ) (plain : Bool) (i : ℕ) (lines : List Line) → Scanning (joined (filled (lines_of (drop start s)))) s start n end plain i lines → n ≤ length s
scanned-fits s start n end plain i lines g = omega (arith, g.sized, ap length g.ahead, length-append g.text (more n lines), gathered-short s start)

-- ---- the joint

pub joint-none : (n b : ℕ) → n ≡ 0 → b ≡ n + length (joint n) + b
joint-none zero b e = omega arith
joint-none (suc n) b e = absurd (omega arith)

pub joint-some : (n b : ℕ) → (n ≡ 0 → ⊥) → n + 1 + b ≡ n + length (joint n) + b
joint-some zero b h = absurd (h refl)
joint-some (suc n) b h = refl

pub joined-none : (s : List ℕ) (n end i : ℕ) → n ≡ 0 → JoinedAt s n end i
joined-none s zero end i e = tt
joined-none s (suc n) end i e = absurd (omega arith)

pub joined-some : (s : List ℕ) (n end i : ℕ) → (i ≡ end + 1) × (get_or s end 0 ≡ LF) → JoinedAt s n end i
joined-some s zero end i h = tt
joined-some s (suc n) end i h = h
