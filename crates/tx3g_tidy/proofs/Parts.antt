-- A tidy text, written stretch by stretch.
use Prim.Native.Nat.{ℕ, ◌+◌, ◌-◌, ◌≤◌}
use mathlib.Core.Path.{◌≡◌, refl, sym, ap, ◌∙◌}
use mathlib.Core.Bool.{false}
use mathlib.Core.List.{List, [], ◌++◌, append_assoc, append-nil}
use native.Mathlib.Omega.{arith}
use lib.ListN.{length, take, drop, length-append, length-drop, take-append-drop}
use lib.Seq.{take_at}
use Rattle.base.specs.Over.{over, wrote}
use Rattle.base.proofs.Over.{in_three, over-nil, over-wrote, length_over}
use Rattle.boxes.specs.Boxes.{part}
use Rattle.wvtt_write.proofs.Laws.{length_part}
use Rattle.code_points.specs.CodePoints.{encode, joined}
use Rattle.tx3g_style.specs.Style.{styles_of}
use Rattle.tx3g_payload.specs.Points.{points8}
use Rattle.tx3g_payload.specs.Left.{text_left}
use Rattle.tx3g_payload.specs.Payload.{escape}
use Rattle.tx3g_payload_write.specs.declared.Stretch.{Stretch}
use Rattle.tx3g_payload_write.specs.Sample.{characters_at, payload_in}
use Rattle.tx3g_payload_write.specs.Terms.{Spelled, opens, closes, WalkAt, StretchIs}
use Rattle.tx3g_payload_write.proofs.Tags.{joined-append}
use Rattle.tx3g_payload_write.proofs.Texts.{Walked}
use Rattle.tx3g_tidy.specs.Tidy.{Ahead, Behind}
use Rattle.tx3g_tidy.specs.Escapes.{shown, extras}
use Rattle.tx3g_tidy.proofs.Escapes.{shown-joined, shown-none}
use Rattle.tx3g_tidy.proofs.Reaching.{onward, Reached, begins, all-onward, none-onward, behind, moves-on, first-onward}

-- a part of a text in which nothing is escaped
pub plain-part : (s : List ℕ) (from end : ℕ) → from ≤ end → end ≤ length s → extras (part s from end) ≡ 0
    → (joined shown (part s from end) ≡ part s from (from + (end - from))) × (length (joined shown (part s from end)) ≡ end - from)
plain-part s from end h l none =
    let z : from + (end - from) ≡ end = omega arith in
    let same : joined shown (part s from end) ≡ part s from (from + (end - from)) = shown-none (part s from end) none ∙ ap (part s from) (sym z) in
    (same, ap length same ∙ length_part s from (end - from) (omega (arith, z, l)))

pub plain-wrote : (d d₂ s : List ℕ) (at from end : ℕ) → from ≤ end → end ≤ length s → extras (part s from end) ≡ 0 → d₂ ≡ wrote d at (part s from (from + (end - from)))
    → (at + (end - from) ≡ at + length (joined shown (part s from end))) × (d₂ ≡ wrote d at (joined shown (part s from end)))
plain-wrote d d₂ s at from end h l none e = let w = plain-part s from end h l none in (omega (arith, w.1), e ∙ ap (wrote d at) (sym w.0))

-- tags, a text between them, and end tags
module _ (d d₁ d₂ d₃ t : List ℕ) (at begun mid r face : ℕ) where
  pub part-wrote : at + length t + 21 ≤ length d
      → (begun ≡ at + length (opens face)) × (begun ≤ at + 9) × (d₁ ≡ wrote d at (opens face))
      → (mid ≡ begun + length t) × (d₂ ≡ wrote d₁ begun t)
      → (r ≡ mid + length (closes face)) × (r ≤ mid + 12) × (d₃ ≡ wrote d₂ mid (closes face))
      → (r ≡ at + length (opens face ++ (t ++ closes face))) × (d₃ ≡ wrote d at (opens face ++ (t ++ closes face)))
  part-wrote room a b c =
      let m = length-append (opens face) (t ++ closes face) in
      let j = length-append t (closes face) in
      (omega (arith, a.0, b.0, c.0, m, j), in_three d d₁ d₂ d₃ (opens face) t (closes face) at begun mid a.2 b.1 c.2 a.0 b.0 (omega (arith, a.0, a.1, room)))

-- the bytes from one place to another are those of the characters between them
between : (t : List ℕ) (at count next : ℕ) → Spelled false (drop at t) → Behind t at count next → joined encode (take count (points8 (drop at t))) ≡ part t at next
unfolding part
between t at count next w b =
    let cs : List ℕ = points8 (drop at t) in
    let a : List ℕ = joined encode (take count cs) in
    let rest : joined encode (drop count cs) ≡ drop next t = ap (joined encode) (sym b.is) ∙ b.spells.bytes_are in
    let whole : drop at t ≡ a ++ drop next t =
    sym w.bytes_are ∙ (ap (joined encode) (sym (take-append-drop count cs)) ∙ (joined-append encode (take count cs) (drop count cs) ∙ ap (λ (x : List ℕ). a ++ x) rest)) in
    let size : length a ≡ next - at = omega (arith, ap length whole, length-append a (drop next t), length-drop at t, length-drop next t, b.goes, b.here) in
    sym (ap (take (next - at)) whole ∙ take_at a (drop next t) (next - at) size)

-- how far the payload is written to a buffer, from a text t of which n characters are counted
pub record Laid (e s : List ℕ) (n : ℕ) (t old out : List ℕ) (left q k at bytes : ℕ) : Type 0 where
  pub on : Reached e s n left q k
  pub so_far : List ℕ
  pub stands : out ≡ over so_far old
  pub counts : bytes ≡ length so_far
  pub is : so_far ++ onward e s k on.after ≡ payload_in e s
  pub here : at ≤ length t
  pub spells : Spelled false (drop at t)
  pub points : points8 (drop at t) ≡ drop k (characters_at s)

module _ (e s : List ℕ) (n : ℕ) (t old : List ℕ) where
  pub lays : (left q : ℕ) → Walked s n false t → text_left (characters_at s) ≡ characters_at s → WalkAt s left q 0 (styles_of s) → Laid e s n t old old left q 0 0 0
  lays left q w h a =
      let c : length (characters_at s) ≡ n = sym (ap length w.points) ∙ w.many in
      record {
        on = begins e s n left q c h a;
        so_far = [];
        stands = over-nil old;
        counts = refl;
        is = all-onward e s n left q c h a;
        here = omega arith;
        spells = w.spells;
        points = w.points;
      }

  module _ (lent : length old ≡ 4128) (short : length (payload_in e s) ≤ 4095) (out : List ℕ) (left q k at bytes : ℕ) (g : Laid e s n t old out left q k at bytes) where
    -- the buffer keeps its length
    pub laid_kept : length out ≡ 4128
    laid_kept = ap length g.stands ∙ (length_over g.so_far old (omega (arith, lent, short, ap length g.is, length-append g.so_far (onward e s k g.on.after))) ∙ lent)

    -- no character is left
    pub laid-all : n ≤ k → (bytes ≡ length (payload_in e s)) × (out ≡ over (payload_in e s) old)
    laid-all l =
        let whole : g.so_far ≡ payload_in e s = sym (append-nil g.so_far) ∙ (ap (λ (x : List ℕ). g.so_far ++ x) (sym (none-onward e s n left q k g.on l)) ∙ g.is) in
        (g.counts ∙ ap length whole, g.stands ∙ ap (λ (x : List ℕ). over x old) whole)

    module _ (p : Stretch) (w : StretchIs e s n k p) where
      pub to-come : Ahead t at (p.end - k)
      to-come = record { here = g.here; spells = g.spells; many = omega (arith, w.ends, w.goes, ap length g.points, length-drop k (characters_at s), g.on.many) }

      module _ (next : ℕ) (b : Behind t at (p.end - k) next) where
        abbrev bytes_of : List ℕ
        bytes_of = opens p.face ++ (joined shown (part t at next) ++ closes p.face)

        rest_of : List ℕ
        rest_of = onward e s p.end (moves-on e s n left q k g.on p w).after

        first_of : onward e s k g.on.after ≡ bytes_of ++ rest_of
        unfolding rest_of
        first_of =
            let cs : List ℕ = take (p.end - k) (drop k (characters_at s)) in
            let text : joined escape cs ≡ joined shown (part t at next) =
            shown-joined cs ∙ ap (joined shown) (ap (λ (x : List ℕ). joined encode (take (p.end - k) x)) (sym g.points) ∙ between t at (p.end - k) next g.spells b) in
            first-onward e s n left q k g.on p w ∙ ap (λ (x : List ℕ). (opens p.face ++ (x ++ closes p.face)) ++ rest_of) text

        pub has_room : bytes + length (joined shown (part t at next)) + 21 ≤ 4128
        has_room =
            let x : List ℕ = joined shown (part t at next) in
            omega (arith, short, g.counts, ap length g.is, length-append g.so_far (onward e s k g.on.after), ap length first_of, length-append bytes_of rest_of, length-append (opens p.face) (x ++ closes p.face), length-append x (closes p.face))

        pub lays-on : (r : ℕ) (out₂ : List ℕ) → (r ≡ bytes + length bytes_of) × (out₂ ≡ wrote out bytes bytes_of) → Laid e s n t old out₂ p.left p.next p.end next r
        unfolding rest_of
        lays-on r out₂ h =
            record {
              on = moves-on e s n left q k g.on p w;
              so_far = g.so_far ++ bytes_of;
              stands = h.1 ∙ (ap (λ (x : List ℕ). wrote x bytes bytes_of) g.stands ∙ over-wrote g.so_far old bytes_of bytes g.counts);
              counts = omega (arith, h.0, g.counts, length-append g.so_far bytes_of);
              is = append_assoc g.so_far bytes_of rest_of ∙ (ap (λ (x : List ℕ). g.so_far ++ x) (sym first_of) ∙ g.is);
              here = b.here;
              spells = b.spells;
              points = b.is ∙ (ap (drop (p.end - k)) g.points ∙ behind e s n left q k g.on p w);
            }
