-- The walk over the stretches of a text of which all characters are left.
use Prim.Native.Nat.{ℕ, suc, ◌+◌, ◌-◌, ◌≤◌, ◌<◌}
use mathlib.Core.Path.{◌≡◌, refl, sym, ap, ap₂, ◌∙◌}
use mathlib.Core.Logic.{◌⊎◌, inl, inr}
use mathlib.Core.Bool.{Bool, true, false}
use mathlib.Core.List.{List, [], ◌∷◌, ◌++◌}
use native.Mathlib.Omega.{arith}
use lib.ListN.{length, take, drop, length-drop, length-take, drop_of_length-le}
use lib.Seq.{drop-drop}
use Rattle.timeline.specs.Cues.{same_id as same_mark}
use Rattle.code_points.specs.CodePoints.{joined}
use Rattle.tx3g_style.specs.Style.{styles_of}
use Rattle.tx3g_payload.specs.Left.{left_from, text_left}
use Rattle.tx3g_payload.specs.Payload.{each_of, stretches, escape, wrapped, write_out, payload_of}
use Rattle.tx3g_payload_write.specs.declared.Stretch.{Stretch}
use Rattle.tx3g_payload_write.specs.Sample.{characters_at, range_at, face_of, payload_in}
use Rattle.tx3g_payload_write.specs.Terms.{opens, closes, lefts_of, after_of, WalkAt, StretchIs}
use Rattle.tx3g_payload_write.proofs.Runs.{stretches-run}
use Rattle.tx3g_payload_write.proofs.Tags.{face-tags}
use Rattle.tx3g_tidy.proofs.Staying.{lefts-stay, rest-stays}

-- characters in the tags of a face
tagged_is : (face : ℕ) (cs : List ℕ) → 0 < length cs → wrapped face cs ≡ opens face ++ (joined escape cs ++ closes face)
tagged_is face [] h = absurd (omega arith)
tagged_is face (c ∷ cs) h = face-tags face (joined escape (c ∷ cs))

-- what is written from character k on
unfoldable pub onward : List ℕ → List ℕ → ℕ → Bool → List ℕ
onward e s k after = write_out (face_of e s) (stretches (each_of (range_at s) k after (drop k (characters_at s))))

-- the walk stands at character k of n
pub record Reached (e s : List ℕ) (n left q k : ℕ) : Type 0 where
  pub after : Bool
  pub stays : left_from after (drop k (characters_at s)) ≡ drop k (characters_at s)
  pub here : k ≤ n
  pub many : length (characters_at s) ≡ n
  pub walk : (k ≡ n) ⊎ WalkAt s left q k (styles_of s)

module _ (e s : List ℕ) (n : ℕ) where
  pub begins : (left q : ℕ) → length (characters_at s) ≡ n → text_left (characters_at s) ≡ characters_at s → WalkAt s left q 0 (styles_of s) → Reached e s n left q 0
  unfolding text_left
  begins left q c h w = record { after = true; stays = h; here = omega arith; many = c; walk = inr w }

  -- all is to be written
  pub all-onward : (left q : ℕ) (c : length (characters_at s) ≡ n) (h : text_left (characters_at s) ≡ characters_at s) (w : WalkAt s left q 0 (styles_of s)) → onward e s 0 (begins left q c h w).after ≡ payload_in e s
  unfolding payload_in payload_of onward begins
  all-onward left q c h w = refl

  module _ (left q k : ℕ) (g : Reached e s n left q k) where
    -- where a character is left, the walk goes on
    pub walks : k < n → WalkAt s left q k (styles_of s)
    walks l = go g.walk
      where
        go : (k ≡ n) ⊎ WalkAt s left q k (styles_of s) → WalkAt s left q k (styles_of s)
        go (inl h) = absurd (omega (arith, h, l))
        go (inr h) = h

    -- no character is left
    pub none-onward : n ≤ k → onward e s k g.after ≡ []
    unfolding onward write_out stretches each_of
    none-onward l = rw (drop_of_length-le (characters_at s) {i = k} (omega (arith, g.many, l)))

    module _ (p : Stretch) (w : StretchIs e s n k p) where
      abbrev cs : List ℕ
      cs = drop k (characters_at s)

      pub behind : drop (p.end - k) cs ≡ drop p.end (characters_at s)
      behind = let z : k + (p.end - k) ≡ p.end = omega (arith, w.goes) in drop-drop (p.end - k) k (characters_at s) ∙ ap (λ (y : ℕ). drop y (characters_at s)) z

      pub moves-on : Reached e s n p.left p.next p.end
      moves-on =
          record {
            after = after_of g.after (p.end - k) cs;
            stays = rw (← behind) (rest-stays g.after (p.end - k) cs g.stays);
            here = w.ends;
            many = g.many;
            walk = w.walk;
          }

      -- the stretch in its tags, and what is behind it
      pub first-onward : onward e s k g.after ≡ (opens p.face ++ (joined escape (take (p.end - k) cs) ++ closes p.face)) ++ onward e s p.end moves-on.after
      unfolding onward write_out moves-on after_of
      first-onward =
          let x : ℕ = p.end - k in
          let d : x ≡ suc (x - 1) = omega (arith, w.goes) in
          let some : 0 < length (take x cs) = omega (arith, length-take x cs, length-drop k (characters_at s), g.many, w.goes, w.ends) in
          let run = stretches-run (range_at s) w.mark (x - 1) k p.end g.after cs (omega (arith, w.goes)) w.same (omega (arith, w.goes, w.ends, g.many, length-drop k (characters_at s))) (last w.other) in
          ap (write_out (face_of e s)) run
          ∙ (ap₂ (λ (f y : ℕ). wrapped f (lefts_of g.after y cs) ++ write_out (face_of e s) (stretches (each_of (range_at s) p.end (after_of g.after y cs) (drop y cs)))) (sym w.face_is) (sym d)
          ∙ ap₂ (λ (a b : List ℕ). a ++ write_out (face_of e s) (stretches (each_of (range_at s) p.end (after_of g.after x cs) b))) (ap (wrapped p.face) (lefts-stay g.after x cs g.stays) ∙ tagged_is p.face (take x cs) some) behind)
        where
          last : (p.end ≡ n) ⊎ (same_mark w.mark (range_at s p.end) ≡ false) → (length cs ≡ suc (p.end - k - 1)) ⊎ (same_mark w.mark (range_at s p.end) ≡ false)
          last (inl h) = inl (omega (arith, h, g.many, w.goes, length-drop k (characters_at s)))
          last (inr h) = inr h
