-- A timing line's settings as a part of the file, and the kinds of a block without timing line.
use Prim.Native.Nat.{ℕ, ◌+◌, ◌-◌, ◌≤◌}
use mathlib.Core.Path.{◌≡◌, refl, sym, ap, ◌∙◌}
use mathlib.Core.Bool.{true, false}
use mathlib.Core.List.{List}
use native.Mathlib.Omega.{arith}
use lib.ListN.{length, take, drop, length-take}
use lib.Seq.{length-take-le, take-add, drop_at, take-take, drop-drop}
use Rattle.base.proofs.Tests.{both-no, one-of-yes}
use Rattle.vtt_lines.specs.Lines.{Line, holds_arrow, some_arrow}
use Rattle.vtt_timing.specs.Read.{TimesIn}
use Rattle.vtt_blocks.specs.Kinds.{style, note, other, NOTE, STYLE, REGION, opens, names, plain_kind}
use Rattle.vtt_blocks.specs.Found.{text_in, TimedAt}

text_in-text : (s : List ℕ) (from end f t : ℕ) → f ≤ t → t ≤ length (text_in s from end) → text_in (text_in s from end) f t ≡ text_in s (from + f) (from + t)
text_in-text s from end f t h k =
    let x = drop from s in
    let n = end - from in
    let l : t ≤ length x = omega (arith, length-take n x) in
    let m : t ≤ n = omega (arith, length-take n x) in
    let e : n ≡ f + (n - f) = omega arith in
    let q : from + t - (from + f) ≡ t - f = omega arith in
    let d : drop f (take n x) ≡ take (n - f) (drop f x) =
    ap (λ (i : ℕ). drop f (take i x)) e ∙ ap (drop f) (take-add f (n - f) x) ∙ drop_at (take f x) (take (n - f) (drop f x)) f (length-take-le f x (omega arith)) in
    ap (take (t - f)) d ∙ take-take (t - f) (n - f) (drop f x) (omega arith) ∙ ap (take (t - f)) (drop-drop f from s) ∙ ap (λ (i : ℕ). take i (drop (from + f) s)) (sym q)

-- the settings end within the file
pub settings_end : (s : List ℕ) (from end a b f t : ℕ) → from ≤ end → end ≤ length s → TimesIn (text_in s from end) a b f t → (from + f ≤ from + t) × (from + t ≤ length s)
settings_end s from end a b f t h k w = (omega (arith, w.ordered), omega (arith, w.within, length-take (end - from) (drop from s)))

pub timed-at : (s : List ℕ) (identifier from end line payload a b f t : ℕ) → from ≤ end → end ≤ length s → TimesIn (text_in s from end) a b f t
    → TimedAt s identifier from end line payload (record { identifier = identifier; start = a; end = b; from = from + f; to = from + t; line = line; payload = payload })
timed-at s identifier from end line payload a b f t h k w = record {
  says = w.says;
  is = w.is;
  start_is = w.start_is;
  end_is = w.end_is;
  settings_is = sym (text_in-text s from end f t w.ordered w.within) ∙ w.settings_is;
  ordered = (settings_end s from end a b f t h k w).0;
  within = (settings_end s from end a b f t h k w).1;
  identifier_is = refl;
  line_is = refl;
  payload_is = refl;
}

-- ---- kinds

module _ (l : Line) (ls : List Line) where
  pub is-style : names STYLE l ≡ true → plain_kind l ls ≡ style
  unfolding plain_kind
  is-style h = rw h

  pub is_region : names REGION l ≡ true → plain_kind l ls ≡ style
  unfolding plain_kind
  is_region h = rw (h, one-of-yes)

  module _ (a : names STYLE l ≡ false) (b : names REGION l ≡ false) where
    pub is-other : opens NOTE l ≡ false → plain_kind l ls ≡ other
    unfolding plain_kind
    is-other h = rw (a, b, h)

    module _ (d : holds_arrow l ≡ false) where
      pub is-marked : some_arrow ls ≡ true → plain_kind l ls ≡ other
      unfolding plain_kind some_arrow
      is-marked h = rw (a, b, d, h, both-no)

      pub is-note : opens NOTE l ≡ true → some_arrow ls ≡ false → plain_kind l ls ≡ note
      unfolding plain_kind some_arrow
      is-note h k = rw (a, b, d, h, k)
