-- The stretches of a text, one behind the other, are its payload.
use Prim.Native.Nat.{ℕ, suc, ◌+◌, ◌-◌, ◌≤◌, ◌<◌}
use mathlib.Core.Path.{◌≡◌, refl, sym, ap, ap₂, ◌∙◌}
use mathlib.Core.Logic.{◌⊎◌, inl, inr}
use mathlib.Core.Bool.{Bool, true, false}
use mathlib.Core.List.{List, [], ◌∷◌, ◌++◌, append_assoc, append-nil}
use native.Mathlib.Omega.{arith}
use lib.ListN.{length, drop, length-append, length-drop}
use Rattle.base.specs.Over.{over, wrote}
use Rattle.base.proofs.Over.{over-nil, over-wrote, length_over}
use Rattle.timeline.specs.Cues.{same_id as same_mark}
use Rattle.tx3g_style.specs.Style.{styles_of}
use Rattle.tx3g_payload.specs.Payload.{each_of, stretches, wrapped, write_out, payload_of}
use Rattle.tx3g_payload_write.specs.declared.Stretch.{Stretch}
use Rattle.tx3g_payload_write.specs.declared.Made.{Made}
use Rattle.tx3g_payload_write.specs.Sample.{range_at, face_of, payload_in}
use Rattle.tx3g_payload_write.specs.Terms.{points_by, Spelled, lefts_of, after_of, stretch_bytes, WalkAt, StretchIs, StretchMade, MadeIs}
use Rattle.tx3g_payload_write.proofs.Runs.{stretches-run}
use Rattle.tx3g_payload_write.proofs.Texts.{Walked}

-- what is to be written from a place of the text on
unfoldable pub ahead : List ℕ → List ℕ → Bool → List ℕ → ℕ → Made → List ℕ
ahead e s u t k m = write_out (face_of e s) (stretches (each_of (range_at s) k m.after (points_by u (drop m.at t))))

-- how far the payload of a text t of n characters is made
pub record Onward (e s : List ℕ) (n : ℕ) (u : Bool) (t old out : List ℕ) (left q k : ℕ) (m : Made) : Type 0 where
  pub so_far : List ℕ
  pub stands : out ≡ over so_far old
  pub counts : m.bytes ≡ length so_far
  pub fits : m.bytes ≤ 4095
  pub is : so_far ++ ahead e s u t k m ≡ payload_in e s
  pub here : m.at ≤ length t
  pub spells : Spelled u (drop m.at t)
  pub many : k + length (points_by u (drop m.at t)) ≡ n
  pub walk : (k ≡ n) ⊎ WalkAt s left q k (styles_of s)

module _ (e s : List ℕ) (n : ℕ) (u : Bool) (t old : List ℕ) where
  pub sets-out : (left q : ℕ) → Walked s n u t → WalkAt s left q 0 (styles_of s) → Onward e s n u t old old left q 0 (record { at = 0; after = true; bytes = 0 })
  unfolding payload_in payload_of ahead
  sets-out left q w a =
      record {
        so_far = [];
        stands = over-nil old;
        counts = refl;
        fits = omega arith;
        is = ap (λ (cs : List ℕ). write_out (face_of e s) (stretches (each_of (range_at s) 0 true cs))) w.points;
        here = omega arith;
        spells = w.spells;
        many = omega (arith, w.many);
        walk = inr a;
      }

  -- where a character is left, the walk goes on
  pub walks : (out : List ℕ) (left q k : ℕ) (m : Made) → Onward e s n u t old out left q k m → k < n → WalkAt s left q k (styles_of s)
  walks out left q k m g l = go g.walk
    where
      go : (k ≡ n) ⊎ WalkAt s left q k (styles_of s) → WalkAt s left q k (styles_of s)
      go (inl h) = absurd (omega (arith, h, l))
      go (inr h) = h

  -- the buffer keeps its length
  pub kept : length old ≡ 4128 → (out : List ℕ) (left q k : ℕ) (m : Made) → Onward e s n u t old out left q k m → length out ≡ 4128
  kept lent out left q k m g = ap length g.stands ∙ (length_over g.so_far old (omega (arith, g.counts, g.fits, lent)) ∙ lent)

  module _ (lent : length old ≡ 4128) (out out₂ : List ℕ) (left q k : ℕ) (m : Made) (g : Onward e s n u t old out left q k m) (p : Stretch) (w : StretchIs e s n k p) (r : Made)
      (z : StretchMade t u (p.end - k) p.face m.at m.after m.bytes out out₂ r) where
    abbrev bytes_of : List ℕ
    bytes_of = stretch_bytes t u (p.end - k) p.face m.at m.after

    -- the stretch, and what is behind it
    first_of : ahead e s u t k m ≡ bytes_of ++ write_out (face_of e s) (stretches (each_of (range_at s) p.end (after_of m.after (p.end - k) (points_by u (drop m.at t))) (drop (p.end - k) (points_by u (drop m.at t)))))
    unfolding ahead write_out stretch_bytes
    first_of =
        let cs : List ℕ = points_by u (drop m.at t) in
        let d : p.end - k ≡ suc (p.end - k - 1) = omega (arith, w.goes) in
        let run = stretches-run (range_at s) w.mark (p.end - k - 1) k p.end m.after cs (omega (arith, w.goes)) w.same (omega (arith, w.goes, w.ends, g.many)) (last w.other) in
        ap (write_out (face_of e s)) run
        ∙ ap₂ (λ (f x : ℕ). wrapped f (lefts_of m.after x cs) ++ write_out (face_of e s) (stretches (each_of (range_at s) p.end (after_of m.after x cs) (drop x cs)))) (sym w.face_is) (sym d)
      where
        last : (p.end ≡ n) ⊎ (same_mark w.mark (range_at s p.end) ≡ false) → (length (points_by u (drop m.at t)) ≡ suc (p.end - k - 1)) ⊎ (same_mark w.mark (range_at s p.end) ≡ false)
        last (inl h) = inl (omega (arith, h, g.many, w.goes))
        last (inr h) = inr h

    pub goes_on : r.bytes ≤ 4095 → Onward e s n u t old out₂ p.left p.next p.end r
    unfolding ahead
    goes_on l =
        let f = z.fits l in
        let a = length-append g.so_far bytes_of in
        record {
          so_far = g.so_far ++ bytes_of;
          stands = f.1 ∙ (ap (λ (x : List ℕ). wrote x m.bytes bytes_of) g.stands ∙ over-wrote g.so_far old bytes_of m.bytes g.counts);
          counts = omega (arith, f.0, g.counts, a);
          fits = l;
          is = append_assoc g.so_far bytes_of _
              ∙ (ap (λ (x : List ℕ). g.so_far ++ x) (ap (λ (x : List ℕ). bytes_of ++ x)
              (ap₂ (λ (b : Bool) (cs : List ℕ). write_out (face_of e s) (stretches (each_of (range_at s) p.end b cs))) (z.after_is l) (z.ahead l)) ∙ sym first_of) ∙ g.is);
          here = z.here l;
          spells = z.rest l;
          many = omega (arith, ap length (z.ahead l), length-drop (p.end - k) (points_by u (drop m.at t)), g.many, w.goes, w.ends);
          walk = w.walk;
        }

    kept_on : length out₂ ≡ length old
    kept_on = z.kept ∙ (kept lent out left q k m g ∙ sym lent)

    -- too long
    pub too_long : 4095 < r.bytes → MadeIs (payload_in e s) old out₂ r.bytes
    unfolding ahead
    too_long l =
        let y = z.past l in
        let a = length-append g.so_far (ahead e s u t k m) in
        let b = ap length first_of in
        let c = length-append bytes_of (write_out (face_of e s) (stretches (each_of (range_at s) p.end (after_of m.after (p.end - k) (points_by u (drop m.at t))) (drop (p.end - k) (points_by u (drop m.at t)))))) in
        record {
          kept = kept_on;
          most = z.most;
          fits = λ h. absurd (omega (arith, h, l));
          past = λ h. omega (arith, y, a, b, c, g.counts, ap length g.is);
        }

  -- no character is left
  pub comes_home : (out : List ℕ) (left q k : ℕ) (m : Made) → length old ≡ 4128 → Onward e s n u t old out left q k m → n ≤ k → MadeIs (payload_in e s) old out m.bytes
  unfolding ahead write_out stretches each_of
  comes_home out left q k m lent g l =
      let none : points_by u (drop m.at t) ≡ [] = empty (points_by u (drop m.at t)) (omega (arith, g.many, l)) in
      let whole : g.so_far ≡ payload_in e s =
      sym (append-nil g.so_far) ∙ (ap (λ (cs : List ℕ). g.so_far ++ write_out (face_of e s) (stretches (each_of (range_at s) k m.after cs))) (sym none) ∙ g.is) in
      record {
        kept = kept lent out left q k m g ∙ sym lent;
        most = omega (arith, g.fits);
        fits = λ h. (g.counts ∙ ap length whole, g.stands ∙ ap (λ (x : List ℕ). over x old) whole);
        past = λ h. absurd (omega (arith, h, g.fits));
      }
    where
      empty : (cs : List ℕ) → length cs ≤ 0 → cs ≡ []
      empty [] h = refl
      empty (c ∷ cs) h = absurd (omega arith)
