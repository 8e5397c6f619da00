-- Lines joined into a buffer: the LF before a line, its bytes, and line after line.
use Prim.Native.Nat.{ℕ, zero, suc, ◌+◌, ◌-◌, ◌<◌, ◌≤◌}
use mathlib.Core.Path.{◌≡◌, refl, sym, ap, ◌∙◌, subst}
use mathlib.Core.Bool.{true, false}
use mathlib.Core.List.{List, [], ◌∷◌, ◌++◌, append_assoc, append-nil}
use native.Mathlib.Omega.{arith}
use lib.ListN.{length, take, drop, set, length-append, length-set}
use lib.Seq.{paste, take-length}
use Rattle.base.specs.Over.{over, wrote}
use Rattle.base.proofs.Over.{over-nil, over-wrote, wrote-nil, sets-wrote, paste-wrote}
use Rattle.utf8.specs.Strings.{LF}
use Rattle.vtt_lines.specs.Lines.{Line, lines_of, joined, filled}
use Rattle.vtt_lines.specs.Cursor.{found_at, begins_filled, joint, WrittenTo, GatheredTo}
use Rattle.vtt_lines.specs.declared.Line.{Line as Found}
use Rattle.vtt_lines.proofs.Blocks.{added, joined-added, gathered-short, filled-found, filled-stop}

-- ---- the LF that joins a line to a text of n bytes

-- n with the LF's byte, and what is written
abbrev pub Joined : List ℕ → List ℕ → ℕ → ℕ → Type 0
Joined d after n end = (end ≡ n + length (joint n)) × WrittenTo d after n (joint n)

pub joint-none : (d : List ℕ) (n : ℕ) → n ≡ 0 → Joined d d n n
joint-none d zero e = (refl, record { kept = refl; written = λ _. wrote-nil d 0 })
joint-none d (suc n) e = absurd (omega arith)

joint-one : (n : ℕ) → (n ≡ 0 → ⊥) → joint n ≡ LF ∷ []
joint-one zero h = absurd (h refl)
joint-one (suc n) h = refl

module _ (d : List ℕ) (n : ℕ) (some : n ≡ 0 → ⊥) where
  pub joint-full : length d < n + 1 → Joined d d n (n + 1)
  joint-full h = rw (joint-one n some) (refl, record { kept = refl; written = λ k. absurd (omega arith) })

  pub joint-put : n + 1 ≤ length d → Joined d (set d n LF) n (n + 1)
  joint-put h = rw (joint-one n some) (refl, record { kept = length-set d n LF; written = λ k. sets-wrote d n (LF ∷ []) k })

-- ---- bytes behind a text of n bytes

module _ (d : List ℕ) (n : ℕ) (v : List ℕ) where
  pub bytes-full : length d < n + length v → WrittenTo d d n v
  bytes-full h = record { kept = refl; written = λ k. absurd (omega arith) }

  pub bytes-put : (after : List ℕ) (i : ℕ) → i ≡ length v → after ≡ paste d n v i → length after ≡ length d → WrittenTo d after n v
  bytes-put after i e p l =
      let q : paste d n v i ≡ wrote d n v = ap (paste d n v) e ∙ paste-wrote d n v (length v) (omega arith) ∙ ap (wrote d n) (take-length v) in
      record { kept = l; written = λ _. p ∙ q }

-- ---- line after line

-- what lines add to a text of n bytes
abbrev pub more : ℕ → List Line → List ℕ
more zero ls = joined ls
more (suc n) ls = added ls

pub more-line : (n : ℕ) (l : Line) (ls : List Line) → more n (l ∷ ls) ≡ joint n ++ (l ++ added ls)
unfolding added
more-line zero l ls = joined-added l ls
more-line (suc n) l ls = refl

pub more-none : (n : ℕ) → more n [] ≡ []
unfolding joined added
more-none zero = refl
more-none (suc n) = refl

pub more-some : (n : ℕ) (ls : List Line) → 0 < n → more n ls ≡ added ls
more-some zero ls h = absurd (omega arith)
more-some (suc n) ls h = refl

-- n bytes of the text `whole` stand over d, as far as they fit; lines are left
pub record Gathering (whole d : List ℕ) (n : ℕ) (after : List ℕ) (lines : List Line) : Type 0 where
  pub text : List ℕ
  pub sized : n ≡ length text
  pub ahead : text ++ more n lines ≡ whole
  pub kept : length after ≡ length d
  pub written : n ≤ length d → after ≡ over text d

pub gathering-start : (lines : List Line) (d : List ℕ) → Gathering (joined lines) d 0 d lines
gathering-start lines d = record { text = []; sized = refl; ahead = refl; kept = refl; written = λ _. over-nil d }

module _ (whole d : List ℕ) (n : ℕ) (now : List ℕ) where
  -- one more line
  gathering-step : (l : Line) (lines : List Line) (m k : ℕ) (mid after : List ℕ) → 0 < length l → Gathering whole d n now (l ∷ lines)
      → m ≡ n + length (joint n) → WrittenTo now mid n (joint n) → k ≡ m + length l → WrittenTo mid after m l → Gathering whole d k after lines
  gathering-step l lines m k mid after h g em wm ek wk =
      let t = g.text in
      let p = length-append t (joint n) in
      let q = length-append (t ++ joint n) l in
      let e : t ++ joint n ++ l ++ added lines ≡ t ++ (joint n ++ (l ++ added lines)) = simp append_assoc in
      record {
        text = t ++ joint n ++ l;
        sized = omega (arith, g.sized);
        ahead = rw (more-some k lines (omega arith)) (e ∙ ap (λ (x : List ℕ). t ++ x) (sym (more-line n l lines)) ∙ g.ahead);
        kept = wk.kept ∙ wm.kept ∙ g.kept;
        written = λ r.
            let o = g.written (omega arith) in
            let a : mid ≡ over (t ++ joint n) d = wm.written (omega (arith, g.kept)) ∙ ap (λ (x : List ℕ). wrote x n (joint n)) o ∙ over-wrote t d (joint n) n g.sized in
            wk.written (omega (arith, g.kept, wm.kept)) ∙ ap (λ (x : List ℕ). wrote x m l) a ∙ over-wrote (t ++ joint n) d l m (omega (arith, g.sized));
      }

  -- no line is left
  gathering-stop : Gathering whole d n now [] → (n ≡ length whole) × (n ≤ length d → now ≡ over whole d)
  gathering-stop g =
      let e : g.text ≡ whole = sym (append-nil g.text) ∙ ap (λ (x : List ℕ). g.text ++ x) (sym (more-none n)) ∙ g.ahead in
      (g.sized ∙ ap length e, λ h. g.written h ∙ ap (λ (x : List ℕ). over x d) e)

  -- the line at i is next
  pub gathered-step : (s : List ℕ) (i : ℕ) (l : Found) (number m k : ℕ) (mid after : List ℕ) → begins_filled (drop i s) ≡ true → l ≡ found_at s i number
      → Gathering whole d n now (filled (lines_of (drop i s))) → m ≡ n + length (joint n) → WrittenTo now mid n (joint n)
      → k ≡ m + length (take (l.end - i) (drop i s)) → WrittenTo mid after m (take (l.end - i) (drop i s)) → Gathering whole d k after (filled (lines_of (drop l.next s)))
  gathered-step s i l number m k mid after h e g em wm ek wk =
      let f = filled-found s i l number h e in
      gathering-step (take (l.end - i) (drop i s)) (filled (lines_of (drop l.next s))) m k mid after f.1 (subst (Gathering whole d n now) f.0 g) em wm ek wk

-- the block has ended
pub gathered-stop : (s d : List ℕ) (at i n : ℕ) (now : List ℕ) → begins_filled (drop i s) ≡ false → Gathering (joined (filled (lines_of (drop at s)))) d n now (filled (lines_of (drop i s))) → GatheredTo s at d now n
gathered-stop s d at i n now h g =
    let w = gathering-stop (joined (filled (lines_of (drop at s)))) d n now (subst (Gathering (joined (filled (lines_of (drop at s)))) d n now) (filled-stop s i h).0 g) in
    record { sized = w.0; short = omega (arith, w.0, gathered-short s at); kept = g.kept; written = w.1 }

-- the lengths fit
pub gathered-fits : (s d : List ℕ) (at n : ℕ) (now : List ℕ) (lines : List Line) → Gathering (joined (filled (lines_of (drop at s)))) d n now lines → n ≤ length s
gathered-fits s d at n now lines g = omega (arith, g.sized, ap length g.ahead, length-append g.text (more n lines), gathered-short s at)

pub joint-short : (n : ℕ) → length (joint n) ≤ 1
joint-short zero = omega arith
joint-short (suc n) = omega arith
