-- Blocks by their lines, and by the places of their lines.
use Prim.Native.Nat.{ℕ, suc, ◌+◌, ◌-◌, ◌<◌, ◌≤◌}
use mathlib.Core.Path.{◌≡◌, refl, sym, ap, ap₂, ◌∙◌, subst, subst⁻¹}
use mathlib.Core.Bool.{true, false}
use mathlib.Core.Option.{Option}
use mathlib.Core.List.{List, [], ◌∷◌}
use native.Mathlib.Omega.{arith}
use native.Mathlib.Numerals.{add-one}
use lib.ListN.{length, take, drop, length-take, length-drop, drop_of_length-le}
use lib.Seq.{take-nil}
use Rattle.base.proofs.Choice.{either, true-false}
use Rattle.utf8.specs.Strings.{has_any}
use Rattle.cues.specs.Caption.{caption}
use Rattle.vtt_lines.specs.Lines.{Line, lines_of, joined, filled, unfilled, Block, blocks_from, holds_arrow}
use Rattle.vtt_lines.specs.Cursor.{line_at, end_at, next_at, found_at, Ahead}
use Rattle.vtt_lines.specs.declared.Line.{Line as Read}
use Rattle.vtt_lines.proofs.Lines.{lines_end, lines_step}
use Rattle.vtt_lines.proofs.Blocks.{blocks-pass}
use Rattle.vtt_lines.proofs.Places.{line_is}
use Rattle.vtt_timing.specs.Timing.{Timing, timing_of}
use Rattle.vtt_blocks.specs.declared.Place.{Place}
use Rattle.vtt_blocks.specs.declared.Found.{Found}
use Rattle.vtt_blocks.specs.declared.Found.TheVariants.{Empty, Cue, Untimed, Note, Style, Other}
use Rattle.vtt_blocks.specs.Kinds.{Kind, cue, untimed, style, other, timed, plain_kind, later_kind, kind_of}
use Rattle.vtt_blocks.specs.Found.{text_in, blocks_at, filled_at, left_at, Further, EmptyAt, FoundAt, KindAt, CueAt, TimedAt, TimedIs, PlainIs, FoundIs}

-- ---- by lines

abbrev pub block : ℕ → Line → List Line → Block
block n l ls = record { line = n; first = l; rest = ls }

pub arrow-none : holds_arrow [] ≡ false
unfolding holds_arrow has_any
arrow-none = refl

-- a line with an arrow is not empty
some-line : (l : Line) → holds_arrow l ≡ true → (b : ℕ) × (m : Line) × (l ≡ b ∷ m)
some-line [] h = true-false false (sym arrow-none ∙ h) refl
some-line (b ∷ m) h = (b, m, refl)

pub kind-first : (n : ℕ) (l : Line) (ls : List Line) → holds_arrow l ≡ true → kind_of (block n l ls) ≡ timed n [] (timing_of l) ls
unfolding kind_of
kind-first n l ls h = rw h

pub kind-second : (n : ℕ) (l m : Line) (ls : List Line) → holds_arrow l ≡ false → holds_arrow m ≡ true → kind_of (block n l (m ∷ ls)) ≡ timed (suc n) l (timing_of m) ls
unfolding kind_of later_kind
kind-second n l m ls h k = rw (h, k)

pub kind-alone : (n : ℕ) (l : Line) → holds_arrow l ≡ false → kind_of (block n l []) ≡ plain_kind l []
unfolding kind_of later_kind
kind-alone n l h = rw h

pub kind-plain : (n : ℕ) (l m : Line) (ls : List Line) → holds_arrow l ≡ false → holds_arrow m ≡ false → kind_of (block n l (m ∷ ls)) ≡ plain_kind l (m ∷ ls)
unfolding kind_of later_kind
kind-plain n l m ls h k = rw (h, k)

-- the line m ends the block, if it is empty, or goes on with it
kind-neither : (n : ℕ) (l m : Line) (ls : List Line) → holds_arrow l ≡ false → holds_arrow m ≡ false → kind_of (block n l (filled (m ∷ ls))) ≡ plain_kind l (filled (m ∷ ls))
unfolding filled
kind-neither n l [] ls h k = kind-alone n l h
kind-neither n l (b ∷ m) ls h k = kind-plain n l (b ∷ m) (filled ls) h k

blocks-some : (n b : ℕ) (l : Line) (ls : List Line) → blocks_from false n ((b ∷ l) ∷ ls) ≡ block n (b ∷ l) (filled ls) ∷ blocks_from false (n + 1 + length (filled ls)) (unfilled ls)
unfolding blocks_from
blocks-some n b l ls = rw add-one (ap (λ (bs : List Block). block n (b ∷ l) (filled ls) ∷ bs) (blocks-pass (suc n) ls))

blocks-empty : (n : ℕ) (ls : List Line) → blocks_from false n ([] ∷ ls) ≡ blocks_from false (n + 1) ls
unfolding blocks_from
blocks-empty n ls = rw add-one

-- ---- by places

some_bytes : (l : Line) → (length l ≡ 0 → ⊥) → (b : ℕ) × (m : Line) × (l ≡ b ∷ m)
some_bytes [] h = absurd (h refl)
some_bytes (b ∷ m) h = (b, m, refl)

module _ (s : List ℕ) (at line : ℕ) (h : at < length s) where
  lines_are : lines_of (drop at s) ≡ line_at s at ∷ lines_of (drop (next_at s at) s)
  lines_are = lines_step s at h

  pub empty_left : line_at s at ≡ [] → blocks_at s at line ≡ blocks_at s (next_at s at) (line + 1)
  empty_left e =
      ap (blocks_from false line) (lines_are ∙ ap (λ (l : Line). l ∷ lines_of (drop (next_at s at) s)) e)
      ∙ blocks-empty line (lines_of (drop (next_at s at) s))

  module _ (l : Line) (is : l ≡ line_at s at) (some : length l ≡ 0 → ⊥) where
    -- the block that begins there
    abbrev next : ℕ
    next = next_at s at

    block_at : blocks_at s at line ≡ block line l (filled_at s next) ∷ blocks_from false (line + 1 + length (filled_at s next)) (left_at s next)
    block_at =
        let w = some_bytes l some in
        ap (blocks_from false line) (lines_are ∙ ap (λ (x : Line). x ∷ lines_of (drop next s)) (sym is ∙ w.2))
        ∙ blocks-some line w.0 w.1 (lines_of (drop next s))
        ∙ ap (λ (x : Line). block line x (filled_at s next) ∷ blocks_from false (line + 1 + length (filled_at s next)) (left_at s next)) (sym w.2)

    pub first-cue : holds_arrow l ≡ true → FoundAt s at line (timed line [] (timing_of l) (filled_at s next)) (blocks_from false (line + 1 + length (filled_at s next)) (left_at s next))
    first-cue a = record { block = block line l (filled_at s next); is = block_at; kind_is = kind-first line l (filled_at s next) a; first_line = refl }

    module _ (m : Line) (m-is : m ≡ text_in s next (end_at s next)) where
      pub plain_at : holds_arrow l ≡ false → holds_arrow m ≡ false → FoundAt s at line (plain_kind l (filled_at s next)) (blocks_from false (line + 1 + length (filled_at s next)) (left_at s next))
      unfolding filled
      plain_at a b = record {
        block = block line l (filled_at s next);
        is = block_at;
        first_line = refl;
        kind_is = either (length s) next
            (λ k. let e = lines_end s next k in rw e (kind-alone line l a))
            (λ k. let e = lines_step s next k in rw e (kind-neither line l (line_at s next) (lines_of (drop (next_at s next) s)) a (ap holds_arrow (sym (m-is ∙ line_is s next)) ∙ b)));
      }

      -- a second line with an arrow is there
      pub second-there : holds_arrow m ≡ true → next < length s
      second-there b =
          either (length s) next
          (λ k. let e : drop next s ≡ [] = drop_of_length-le s k in
          true-false false (sym arrow-none ∙ ap holds_arrow (sym (m-is ∙ ap (take (end_at s next - next)) e ∙ take-nil (end_at s next - next))) ∙ b) refl)
          (λ k. k)

      pub second-cue : holds_arrow l ≡ false → holds_arrow m ≡ true
          → FoundAt s at line (timed (line + 1) l (timing_of m) (filled_at s (next_at s next))) (blocks_from false (line + 1 + 1 + length (filled_at s (next_at s next))) (left_at s (next_at s next)))
      unfolding filled unfilled
      second-cue a b =
          let w = some-line m b in
          let later = lines_of (drop (next_at s next) s) in
          let e : lines_of (drop next s) ≡ m ∷ later = lines_step s next (second-there b) ∙ ap (λ (x : Line). x ∷ later) (sym (m-is ∙ line_is s next)) in
          let f : filled_at s next ≡ m ∷ filled later = ap filled (e ∙ ap (λ (x : Line). x ∷ later) w.2) ∙ ap (λ (x : Line). x ∷ filled later) (sym w.2) in
          let u : left_at s next ≡ unfilled later = ap unfilled (e ∙ ap (λ (x : Line). x ∷ later) w.2) in
          let n : line + 1 + length (filled_at s next) ≡ line + 1 + 1 + length (filled later) = omega (arith, ap length f) in
          record {
            block = block line l (filled_at s next);
            is = block_at ∙ ap₂ (λ (k : ℕ) (ls : List Line). block line l (filled_at s next) ∷ blocks_from false k ls) n u;
            kind_is = ap (λ (ls : List Line). kind_of (block line l ls)) f ∙ kind-second line l m (filled later) a b ∙ ap (λ (k : ℕ). timed k l (timing_of m) (filled later)) (sym (add-one line));
            first_line = refl;
          }

-- ---- what is found

-- a cue by its timing line
module _ (s : List ℕ) (at line identifier from end n payload : ℕ) (l : Line)
    (found : FoundAt s at line (timed n l (timing_of (text_in s from end)) (filled_at s payload)) (blocks_from false (n + 1 + length (filled_at s payload)) (left_at s payload)))
    (identifier_is : text_in s at identifier ≡ l) (begun : at ≤ identifier) (within : identifier ≤ length s) (further : Further s at payload (n + 1)) where
  of-kind : (k : Kind) → timed n l (timing_of (text_in s from end)) (filled_at s payload) ≡ k → FoundAt s at line k (blocks_from false (n + 1 + length (filled_at s payload)) (left_at s payload))
  of-kind k e = record { block = found.block; is = found.is; kind_is = found.kind_is ∙ e; first_line = found.first_line }

  cue-at : (c : Place) → TimedAt s identifier from end n payload c → CueAt s at line c
  cue-at c t =
      let says = caption t.says.start t.says.end l t.says.settings (joined (filled_at s payload)) in
      let k = of-kind (cue n says) (ap (λ (o : Option Timing). timed n l o (filled_at s payload)) t.is) in
      let p = t.payload_is in
      let q = t.line_is in
      record {
        says = says;
        found = subst⁻¹ (λ (x : ℕ). FoundAt s at line (cue c.line says) (blocks_from false (c.line + 1 + length (filled_at s x)) (left_at s x))) p
            (subst⁻¹ (λ (x : ℕ). FoundAt s at line (cue x says) (blocks_from false (x + 1 + length (filled_at s payload)) (left_at s payload))) q k);
        start_is = t.start_is;
        end_is = t.end_is;
        identifier_is = ap (text_in s at) t.identifier_is ∙ identifier_is;
        settings_is = t.settings_is;
        payload_is = ap (λ (x : ℕ). joined (filled_at s x)) p;
        identifier_from = omega (arith, t.identifier_is);
        identifier_within = omega (arith, t.identifier_is);
        ordered = t.ordered;
        settings_within = t.within;
        further = subst⁻¹ (λ (x : ℕ). Further s at c.payload (x + 1)) q (subst⁻¹ (λ (x : ℕ). Further s at x (n + 1)) p further);
      }

  pub timed-found : (r : Found) → TimedIs s identifier from end n payload r → FoundIs s at line r
  timed-found (Empty place number) t = absurd t
  timed-found (Cue c) t = cue-at c t
  timed-found (Untimed k) t = record {
    left = blocks_from false (n + 1 + length (filled_at s payload)) (left_at s payload);
    found = of-kind (untimed k) (ap (λ (o : Option Timing). timed n l o (filled_at s payload)) t.0 ∙ ap untimed (sym t.1));
  }
  timed-found (Note place number) t = absurd t
  timed-found Style t = absurd t
  timed-found Other t = absurd t

-- a block without timing line
module _ (s : List ℕ) (at line next : ℕ) (l : Line) (found : FoundAt s at line (plain_kind l (filled_at s next)) (blocks_from false (line + 1 + length (filled_at s next)) (left_at s next)))
    (onward : at < next) where
  as-kind : (k : Kind) → plain_kind l (filled_at s next) ≡ k → KindAt s at line k
  as-kind k e = record {
    left = blocks_from false (line + 1 + length (filled_at s next)) (left_at s next);
    found = record { block = found.block; is = found.is; kind_is = found.kind_is ∙ e; first_line = found.first_line };
  }

  pub plain-found : (r : Found) → PlainIs s l next (line + 1) r → FoundIs s at line r
  plain-found (Empty place number) t = absurd t
  plain-found (Cue c) t = absurd t
  plain-found (Untimed k) t = absurd t
  plain-found (Note place number) t =
      let p = t.1 in
      let n : line + 1 + length (filled_at s next) ≡ number = sym p.counted in
      record {
        further = record { onward = omega (arith, p.onward); within = p.within; numbered = p.numbered };
        found = record {
          block = found.block;
          is = found.is ∙ ap₂ (λ (k : ℕ) (ls : List Line). found.block ∷ blocks_from false k ls) n (sym p.left);
          kind_is = found.kind_is ∙ t.0;
          first_line = found.first_line;
        };
      }
  plain-found Style t = as-kind style t
  plain-found Other t = as-kind other t

-- ---- by the lines that are read

module _ (s : List ℕ) (at line : ℕ) (f : Read) (is : f ≡ found_at s at line) (a : Ahead s at line f) (h : at < length s) where
  next_is : f.next ≡ next_at s at
  next_is = ap (λ (x : Read). x.next) is

  number_is : f.number ≡ line + 1
  number_is = ap (λ (x : Read). x.number) is

  first-is : text_in s at f.end ≡ line_at s at
  first-is = ap (λ (x : Read). text_in s at x.end) is ∙ line_is s at

  onward : at < f.next
  onward = omega (arith, a.moves)

  pub next-numbered : line ≤ at + 1 → f.number ≤ f.next + 1
  next-numbered l = omega (arith, number_is, onward)

  some_first : (f.end ≡ at → ⊥) → length (text_in s at f.end) ≡ 0 → ⊥
  some_first n e = n (omega (arith, e, length-take (f.end - at) (drop at s), length-drop at s, a.ends, a.follows, a.within))

  pub empty-found : line ≤ at + 1 → f.end ≡ at → EmptyAt s at line f.next f.number
  empty-found l e =
      let z : f.end - at ≡ 0 = omega (arith, e) in
      record {
        further = record { onward = onward; within = a.within; numbered = next-numbered l };
        left = empty_left s at line h (sym first-is ∙ ap (λ (k : ℕ). take k (drop at s)) z) ∙ ap₂ (blocks_at s) (sym next_is) (sym number_is);
      }

  module _ (some : f.end ≡ at → ⊥) where
    pub first_found : line ≤ at + 1 → holds_arrow (text_in s at f.end) ≡ true → (r : Found) → TimedIs s at at f.end line f.next r → FoundIs s at line r
    first_found l b r t =
        let e : text_in s at at ≡ [] = ap (λ (k : ℕ). take k (drop at s)) none_between in
        timed-found s at line at at f.end line f.next []
        (subst⁻¹ (λ (x : ℕ). FoundAt s at line (timed line [] (timing_of (text_in s at f.end)) (filled_at s x)) (blocks_from false (line + 1 + length (filled_at s x)) (left_at s x))) next_is
        (first-cue s at line h (text_in s at f.end) first-is (some_first some) b))
        e (omega arith) (omega arith)
        (record { onward = onward; within = a.within; numbered = omega (arith, onward) }) r t
      where
        none_between : at - at ≡ 0
        none_between = omega arith

    module _ (no_arrow : holds_arrow (text_in s at f.end) ≡ false) (g : Read) (g-is : g ≡ found_at s f.next f.number) (b : Ahead s f.next f.number g) where
      second_is : text_in s f.next g.end ≡ text_in s (next_at s at) (end_at s (next_at s at))
      second_is = ap (λ (x : Read). text_in s f.next x.end) g-is ∙ ap (λ (x : ℕ). text_in s x (end_at s x)) next_is

      last-is : g.next ≡ next_at s (next_at s at)
      last-is = ap (λ (x : Read). x.next) g-is ∙ ap (next_at s) next_is

      pub second-found : line ≤ at + 1 → holds_arrow (text_in s f.next g.end) ≡ true → (r : Found) → TimedIs s f.end f.next g.end f.number g.next r → FoundIs s at line r
      second-found l k r t =
          let m = text_in s f.next g.end in
          timed-found s at line f.end f.next g.end f.number g.next (text_in s at f.end)
          (subst⁻¹ (λ (n : ℕ). FoundAt s at line (timed n (text_in s at f.end) (timing_of m) (filled_at s g.next)) (blocks_from false (n + 1 + length (filled_at s g.next)) (left_at s g.next))) number_is
          (subst⁻¹ (λ (x : ℕ). FoundAt s at line (timed (line + 1) (text_in s at f.end) (timing_of m) (filled_at s x)) (blocks_from false (line + 1 + 1 + length (filled_at s x)) (left_at s x))) last-is
          (second-cue s at line h (text_in s at f.end) first-is (some_first some) m second_is no_arrow k)))
          refl a.ends (omega (arith, a.follows, a.within))
          (record { onward = omega (arith, onward, b.ends, b.follows); within = b.within; numbered = omega (arith, number_is, onward, b.moves, second-line k) }) r t
        where
          second-line : holds_arrow (text_in s f.next g.end) ≡ true → f.next < length s
          second-line k = subst⁻¹ (λ (x : ℕ). x < length s) next_is (second-there s at line h (text_in s at f.end) first-is (some_first some) (text_in s f.next g.end) second_is k)

      pub plain-block : holds_arrow (text_in s f.next g.end) ≡ false → (r : Found) → PlainIs s (text_in s at f.end) f.next f.number r → FoundIs s at line r
      plain-block k r t =
          plain-found s at line f.next (text_in s at f.end)
          (subst⁻¹ (λ (x : ℕ). FoundAt s at line (plain_kind (text_in s at f.end) (filled_at s x)) (blocks_from false (line + 1 + length (filled_at s x)) (left_at s x))) next_is
          (plain_at s at line h (text_in s at f.end) first-is (some_first some) (text_in s f.next g.end) second_is no_arrow k))
          onward r (subst (λ (n : ℕ). PlainIs s (text_in s at f.end) f.next n r) number_is t)
