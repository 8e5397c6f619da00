-- The judge says yes exactly for the texts of the grammar, and otherwise names the first byte that no text could have there.
use Prim.Native.Nat.{ℕ, suc, ◌+◌, ◌-◌, ◌≤◌, ◌<◌}
use mathlib.Core.Path.{◌≡◌, refl, sym, ap, ◌∙◌, subst}
use mathlib.Core.Logic.{inl, inr}
use mathlib.Core.Bool.{Bool, true, false}
use mathlib.Core.Option.{Option, none, some}
use mathlib.Core.List.{List, [], ◌∷◌, ◌++◌, append_assoc, append-nil}
use native.Mathlib.Omega.{arith}
use lib.ListN.{length, take, drop, take-append-drop}
use lib.Seq.{take-take}
use Rattle.base.specs.Choice.{pick}
use Rattle.base.proofs.Choice.{either}
use Rattle.viable.specs.Judged.{Judged, Right, Bad}
use Rattle.viable.specs.FirstBad.{Continues}
use Rattle.viable.proofs.FirstBad.{bytes-behind, Says, judges-by}
use Rattle.profile.specs.Grammar.{Profile}
use Rattle.profile.specs.Machine.{Text, State, at, step, final, later, on_step, judge_from, judge}
use Rattle.profile.specs.Statements.{ProfileJudged}
use Rattle.profile.proofs.ByteKinds.{never}
use Rattle.profile.proofs.Bytes.{profile-bytes}
use Rattle.profile.proofs.Times.{above-rising, rising-above}
use Rattle.profile.proofs.Accepts.{Acc, content-acc}
use Rattle.profile.proofs.Sound.{content-of}
use Rattle.profile.proofs.Live.{Good, GoodState, GoodOn, live, step-good}

-- what an answer says of the texts that the machine reads to the end
abbrev Means : State → List ℕ → Judged → Type 0
Means s w Right = Acc w s
Means s w (Bad q) =
    (q ≤ length w) × ((t : List ℕ) × Acc (take q w ++ t) s) × ((t : List ℕ) → q < length w → Acc (take (suc q) w ++ t) s → ⊥) × (Acc w s → ⊥)

stopped : (s : State) → GoodState s → (f : Bool) → final s ≡ f → Means s [] (pick f Right (Bad 0))
unfolding Acc
stopped s g true e = e
stopped s g false e = (omega arith, live s g, λ t l a. omega arith, λ a. never (sym e ∙ a))

stepped : (s : State) (b : ℕ) (w : List ℕ) (t : State) (v : Judged) → step s b ≡ some t → Means t w v → Means s (b ∷ w) (later v)
unfolding Acc
stepped s b w t Right e h = rw e h
stepped s b w t (Bad q) e h =
    (omega arith, (h.1.0, rw e h.1.1), λ u l a. h.2 u (omega arith) (rw e at a), λ a. h.3 (rw e at a))

moved : (s : State) (b : ℕ) (w : List ℕ) → GoodState s → (o : Option State) → step s b ≡ o → GoodOn o → ((t : State) → GoodState t → Means t w (judge_from w t))
    → Means s (b ∷ w) (on_step o (λ t. later (judge_from w t)))
unfolding Acc
moved s b w g none e k go = (omega arith, live s g, λ t l a. rw e at a, λ a. rw e at a)
moved s b w g (some t) e k go = stepped s b w t (judge_from w t) e (go t k)

means : (w : List ℕ) (s : State) → GoodState s → Means s w (judge_from w s)
unfolding judge_from
means [] s g = stopped s g (final s) refl
means (b ∷ w) s g = moved s b w g (step s b) refl (step-good s b g) (λ t k. means w t k)

end_read : (up : ℕ) → Acc [] (at Text [] up)
unfolding Acc
end_read up = refl

-- the texts that the machine reads to the end are those of the grammar
read-profile : (s : List ℕ) → Acc s (at Text [] 0) → Profile s
unfolding Profile
read-profile s a = let r = content-of s 0 a in (r.0, r.1, above-rising 0 r.0 r.2)

profile-read : (s : List ℕ) → Profile s → Acc s (at Text [] 0)
unfolding Profile
profile-read s p =
    subst (λ (l : List ℕ). Acc l (at Text [] 0)) (append-nil s) (content-acc p.1 0 (rising-above 0 p.0 (λ y m. omega arith) p.2) [] [] refl refl (end_read _))

shorter : (s : List ℕ) (q k : ℕ) (t : List ℕ) → k ≤ q → take q s ++ t ≡ take k s ++ (drop k (take q s) ++ t)
shorter s q k t h =
    ap (λ (l : List ℕ). l ++ t) (sym (take-append-drop k (take q s)) ∙ ap (λ (l : List ℕ). l ++ drop k (take q s)) (take-take k q s h))
    ∙ append_assoc (take k s) (drop k (take q s)) t

-- a beginning that the machine can go on from has a continuation, in bytes
continued : (p c : List ℕ) → Profile (p ++ c) → Continues Profile p
continued p c h = (c, bytes-behind p c (profile-bytes (p ++ c) h), h)

told : (s : List ℕ) (v : Judged) → Means (at Text [] 0) s v → Says Profile s v
told s Right h = read-profile s h
told s (Bad q) h =
    record {
      upto = λ k l. continued (take k s) (drop k (take q s) ++ h.1.0) (subst Profile (shorter s q k h.1.0 l) (read-profile (take q s ++ h.1.0) h.1.1));
      then =
          either (length s) q
          (λ l. inl (omega (arith, h.0), λ p. h.3 (profile-read s p)))
          (λ l. inr (l, λ t p. h.2 t l (profile-read (take (suc q) s ++ t) p)));
    }

pub profile-judged : ProfileJudged
unfolding judge Good
profile-judged = judges-by Profile judge (λ s. told s (judge s) (means s (at Text [] 0) tt))
