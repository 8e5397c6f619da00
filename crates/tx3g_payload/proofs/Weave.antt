-- A payload is what is left of the text, escaped, with tags between.
use Prim.Native.Nat.{ℕ, suc}
use mathlib.Core.Path.{◌≡◌, refl, ap, ◌∙◌}
use mathlib.Core.Bool.{Bool, true, false}
use mathlib.Core.Option.{Option}
use mathlib.Core.List.{List, [], ◌∷◌, ◌++◌, append_assoc, append-nil}
use native.Mathlib.Omega.{arith}
use Rattle.base.proofs.Choice.{by-test}
use Rattle.timeline.specs.Cues.{same_id as same_mark}
use Rattle.code_points.specs.CodePoints.{joined}
use Rattle.tx3g_payload.specs.Left.{is_break, left_of, left_from, text_left}
use Rattle.tx3g_payload.specs.Payload.{Stretch, each_of, onto, stretches, escape, Letter, bold, italic, underline, flag, tagged, in_face, wrapped, write_out, payload_of}
use Rattle.tx3g_payload.specs.Statements.{Woven, done, char, opened, closed, OnlyTags}

pub woven-append : {a b p q : List ℕ} → Woven a p → Woven b q → Woven (a ++ b) (p ++ q)
woven-append done w = w
woven-append (char c v) w = rw append_assoc (char c (woven-append v w))
woven-append (opened x v) w = opened x (woven-append v w)
woven-append (closed x v) w = closed x (woven-append v w)

pub woven-text : (cs : List ℕ) → Woven cs (joined escape cs)
unfolding joined
woven-text [] = done
woven-text (c ∷ cs) = char c (woven-text cs)

woven-tagged : (t : Bool) (x : Letter) (cs s : List ℕ) → Woven cs s → Woven cs (tagged t x s)
woven-tagged true x cs s w = opened x (rw (append-nil cs) at (woven-append w (closed x done)))
woven-tagged false x cs s w = w

woven-wrapped : (face : ℕ) (cs : List ℕ) → Woven cs (wrapped face cs)
unfolding in_face
woven-wrapped face [] = done
woven-wrapped face (c ∷ cs) =
    let s = joined escape (c ∷ cs) in
    let u = woven-tagged (flag 4 face) underline (c ∷ cs) s (woven-text (c ∷ cs)) in
    let i = woven-tagged (flag 2 face) italic (c ∷ cs) (tagged (flag 4 face) underline s) u in
    woven-tagged (flag 1 face) bold (c ∷ cs) (tagged (flag 2 face) italic (tagged (flag 4 face) underline s)) i

-- what is left of several stretches
unfoldable pub lefts : List Stretch → List ℕ
lefts [] = []
lefts (q ∷ qs) = q.left ++ lefts qs

woven-out : (faces : Option ℕ → ℕ) (qs : List Stretch) → Woven (lefts qs) (write_out faces qs)
unfolding lefts write_out
woven-out faces [] = done
woven-out faces (q ∷ qs) = woven-append (woven-wrapped (faces q.mark) q.left) (woven-out faces qs)

lefts-onto : (p : Stretch) (qs : List Stretch) → lefts (onto p qs) ≡ p.left ++ lefts qs
unfolding lefts onto
lefts-onto p [] = refl
lefts-onto p (q ∷ qs) = by-test (same_mark p.mark q.mark) (λ e. rw e (append_assoc p.left q.left (lefts qs))) (λ e. rw e)

lefts-stretches : (ps : List Stretch) → lefts (stretches ps) ≡ lefts ps
unfolding lefts stretches
lefts-stretches [] = refl
lefts-stretches (p ∷ ps) = lefts-onto p (stretches ps) ∙ ap (λ (s : List ℕ). p.left ++ s) (lefts-stretches ps)

lefts-each : (ranges : ℕ → Option ℕ) (k : ℕ) (after : Bool) (cs : List ℕ) → lefts (each_of ranges k after cs) ≡ left_from after cs
unfolding lefts each_of left_from
lefts-each ranges k after [] = refl
lefts-each ranges k after (c ∷ cs) = ap (λ (s : List ℕ). left_of after c cs ++ s) (lefts-each ranges (suc k) (is_break c) cs)

pub only-tags : OnlyTags
unfolding payload_of text_left
only-tags ranges faces cs =
    let ps = each_of ranges 0 true cs in
    let e : lefts (stretches ps) ≡ left_from true cs = lefts-stretches ps ∙ lefts-each ranges 0 true cs in
    rw e at (woven-out faces (stretches ps))

pub front-none : (a b : List ℕ) → a ++ b ≡ [] → (a ≡ []) × (b ≡ [])
front-none [] b h = (refl, h)
front-none (x ∷ a) b h = let z : ◌≡◌ {A = ℕ} 0 1 = cc in absurd (omega arith)

-- nothing left, nothing written
nothing-out : (faces : Option ℕ → ℕ) (qs : List Stretch) → lefts qs ≡ [] → write_out faces qs ≡ []
unfolding lefts write_out
nothing-out faces [] h = refl
nothing-out faces (q ∷ qs) h =
    let e = front-none q.left (lefts qs) h in
    rw e.0 (nothing-out faces qs e.1)

pub nothing_written : (ranges : ℕ → Option ℕ) (faces : Option ℕ → ℕ) (cs : List ℕ) → text_left cs ≡ [] → payload_of ranges faces cs ≡ []
unfolding payload_of text_left
nothing_written ranges faces cs h =
    let ps = each_of ranges 0 true cs in
    nothing-out faces (stretches ps) (lefts-stretches ps ∙ lefts-each ranges 0 true cs ∙ h)
