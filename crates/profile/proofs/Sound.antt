-- What the machine reads to its end is a text of the grammar.
use Prim.Native.Nat.{ℕ, suc, ◌+◌, ◌-◌, ◌*◌, ◌≤◌, ◌<◌}
use mathlib.Core.Path.{◌≡◌, refl, sym, ap, ap₂, ◌∙◌, subst}
use mathlib.Core.Logic.{◌⊎◌, inl, inr}
use mathlib.Core.Bool.{Bool, true, false}
use mathlib.Core.Option.{Option, none, some}
use mathlib.Core.List.{List, [], ◌∷◌, ◌++◌, append_assoc, append-nil}
use native.Mathlib.Omega.{arith}
use lib.Dec.{eqb, leb, ltb}
use lib.ListN.{length}
use borrow.Author.Tests.{ltb-true, leb-true, eqb-true}
use Rattle.base.specs.Choice.{pick}
use Rattle.timestamps.specs.Timestamps.{time_text}
use Rattle.profile.specs.Machine.{Kind, And, Less, More, Point, Blank, Break, Other, Beyond}
use Rattle.profile.specs.declared.Tag.{Tag}
use Rattle.profile.specs.declared.Tag.TheVariants.{Bold, Italic, Underline, Classed, Voice, Lang, Ruby, Rt}
use Rattle.profile.specs.Grammar.{name, noted, allowed, Escape, amp, lt, gt, nbsp, lrm, rlm, Chars, no_char, a_char, Classes, no_class, a_class, Note, note_end, note_blank, note_more, note_escape, Annotation, without, with, Content, empty, plain, escaped, stamp, span}
use Rattle.profile.specs.Machine.{Place, clock, kind, Mode, Text, Amp, AmpL, Lit, Lt, LtR, Name, Dot, Class, Noting, Stamp, State, at, in_ruby, lit, find, on_found, escapes, escapes_l, tags, tags_r, most, timed_on, timing, clocked, closing, on_text, on_head, on_dot, on_note, step, final}
use Rattle.profile.proofs.ByteKinds.{never, plain_kind, note_kind, other_kind, blank_kind, plain_is, class-is, note-is, blank-is, code}
use Rattle.profile.proofs.Clock.{Timed, timed-end, timed-on, timed-written}
use Rattle.profile.proofs.Times.{Above, next, next-append, above-append}
use Rattle.profile.proofs.Accepts.{on_type, Acc}

-- content, and then what T says
record Part (n : ℕ) (r : Bool) (T : ℕ → List ℕ → Type 0) (low : ℕ) (w : List ℕ) : Type 0 where
  pub front : List ℕ
  pub back : List ℕ
  pub times : List ℕ
  pub split : w ≡ front ++ back
  pub content : Content n r times front
  pub above : Above low times
  pub tail : T (next low times) back

-- the end tags of the open tags, with content behind each
Tail : List Tag → ℕ → List ℕ → Type 0
Tail [] low w = w ≡ []
Tail (x ∷ st) low w = (v : List ℕ) × (w ≡ 60 ∷ 47 ∷ (name x ++ (62 ∷ v))) × Part (length st) (in_ruby st) (λ l u. Tail st l u) low v

abbrev Rest : List Tag → ℕ → List ℕ → Type 0
Rest st low w = Part (length st) (in_ruby st) (λ l u. Tail st l u) low w

-- what may follow in each mode
abbrev Head : Tag → List Tag → ℕ → List ℕ → Type 0
Head x st low w = (cs : List ℕ) × (a : List ℕ) × (v : List ℕ) × Classes cs × Annotation (noted x) a × (w ≡ cs ++ (a ++ (62 ∷ v))) × Rest (x ∷ st) low v

abbrev InClass : Tag → List Tag → ℕ → List ℕ → Type 0
InClass x st low w = (bs : List ℕ) × (u : List ℕ) × Chars bs × (w ≡ bs ++ u) × Head x st low u

abbrev Clocked : List Place → ℕ → List Tag → ℕ → List ℕ → Type 0
Clocked ps m st low w = (bs : List ℕ) × (v : ℕ) × (u : List ℕ) × Timed ps m bs v × (low ≤ v) × (w ≡ bs ++ u) × Rest st (suc v) u

R : Mode → List Tag → ℕ → List ℕ → Type 0
R Text st low w = Rest st low w
R (Amp k) st low w = (e : List ℕ) × (v : List ℕ) × Escape e × (w ≡ e ++ v) × R k st low v
R (AmpL k) st low w = (e : List ℕ) × (v : List ℕ) × Escape (108 ∷ e) × (w ≡ e ++ v) × R k st low v
R (Lit c cs k) st low w = (v : List ℕ) × (w ≡ c ∷ (cs ++ v)) × R k st low v
R Lt st low w = Rest st low (60 ∷ w)
R LtR st low w = (x : Tag) × (e : List ℕ) × (v : List ℕ) × (name x ≡ 114 ∷ e) × (allowed x (in_ruby st) ≡ true) × (w ≡ e ++ v) × Head x st low v
R (Name x) st low w = Head x st low w
R (Dot x) st low w = (b : ℕ) × (u : List ℕ) × (kind b ≡ Other) × (w ≡ b ∷ u) × InClass x st low u
R (Class x) st low w = InClass x st low w
R (Noting x said) st low w = (a : List ℕ) × (v : List ℕ) × Note said a × (w ≡ a ++ (62 ∷ v)) × Rest (x ∷ st) low v
R (Stamp p ps m) st low w = Clocked (p ∷ ps) m st low w

abbrev RR : List ℕ → State → Type 0
RR w (at m st low) = R m st low w

-- more content in front
module _ (n : ℕ) (r : Bool) (T : ℕ → List ℕ → Type 0) where
  part-plain : (low b : ℕ) (w : List ℕ) → plain_kind (kind b) ≡ true → Part n r T low w → Part n r T low (b ∷ w)
  part-plain low b w h p = record {
    front = b ∷ p.front;
    back = p.back;
    times = p.times;
    split = ap (λ (l : List ℕ). b ∷ l) p.split;
    content = plain (plain_is b ∙ h) p.content;
    above = p.above;
    tail = p.tail;
  }

  part-escape : (low : ℕ) (w e v : List ℕ) → Escape e → w ≡ e ++ v → Part n r T low v → Part n r T low (38 ∷ w)
  part-escape low w e v h q p = record {
    front = 38 ∷ (e ++ p.front);
    back = p.back;
    times = p.times;
    split = ap (λ (l : List ℕ). 38 ∷ l) (q ∙ ap (λ (l : List ℕ). e ++ l) p.split ∙ sym (append_assoc e p.front p.back));
    content = escaped h p.content;
    above = p.above;
    tail = p.tail;
  }

  part-stamp : (low : ℕ) (w u : List ℕ) (v : ℕ) → v < 360000000 → low ≤ v → w ≡ time_text v ++ (62 ∷ u) → Part n r T (suc v) u → Part n r T low (60 ∷ w)
  unfolding Above next
  part-stamp low w u v t l q p = record {
    front = 60 ∷ (time_text v ++ (62 ∷ p.front));
    back = p.back;
    times = v ∷ p.times;
    split = ap (λ (l : List ℕ). 60 ∷ l) (q ∙ ap (λ (l : List ℕ). time_text v ++ (62 ∷ l)) p.split ∙ sym (append_assoc (time_text v) (62 ∷ p.front) p.back));
    content = stamp v t p.content;
    above = (l, p.above);
    tail = p.tail;
  }

spelled : (n₁ cs a f b v v₂ w f₂ b₂ u : List ℕ) → w ≡ n₁ ++ u → u ≡ cs ++ (a ++ (62 ∷ v)) → v ≡ f ++ b → b ≡ 60 ∷ 47 ∷ (n₁ ++ (62 ∷ v₂)) → v₂ ≡ f₂ ++ b₂
    → 60 ∷ w ≡ (60 ∷ (n₁ ++ (cs ++ (a ++ 62 ∷ (f ++ (60 ∷ 47 ∷ (n₁ ++ (62 ∷ f₂)))))))) ++ b₂
spelled n₁ cs a f b v v₂ w f₂ b₂ u e₁ e₂ e₃ e₄ e₅ = rw (e₁, e₂, e₃, e₄, e₅) (simp append_assoc)

part-span : (x : Tag) (st : List Tag) (low : ℕ) (w u : List ℕ) → length st < 16 → allowed x (in_ruby st) ≡ true → w ≡ name x ++ u → Head x st low u → Rest st low (60 ∷ w)
unfolding Tail
part-span x st low w u l h q d =
    let p = d.6 in
    let t = p.tail in
    let p₂ = t.2 in
    record {
      front = 60 ∷ (name x ++ (d.0 ++ (d.1 ++ (62 ∷ (p.front ++ (60 ∷ 47 ∷ (name x ++ (62 ∷ p₂.front))))))));
      back = p₂.back;
      times = p.times ++ p₂.times;
      split = spelled (name x) d.0 d.1 p.front p.back d.2 t.0 w p₂.front p₂.back u q d.5 p.split t.1 p₂.split;
      content = span x l h d.3 d.4 p.content p₂.content;
      above = above-append low p.times p₂.times p.above p₂.above;
      tail = subst (λ (k : ℕ). Tail st k p₂.back) (sym (next-append low p.times p₂.times)) p₂.tail;
    }

part-close : (x : Tag) (st : List Tag) (low : ℕ) (w v : List ℕ) → w ≡ 60 ∷ 47 ∷ (name x ++ (62 ∷ v)) → Rest st low v → Rest (x ∷ st) low w
unfolding Tail Above next
part-close x st low w v e r = record { front = []; back = w; times = []; split = refl; content = empty; above = tt; tail = (v, e, r) }

-- back over one byte
module _ (b : ℕ) (w : List ℕ) (st : List Tag) (low : ℕ) where
  Found : List (ℕ × Mode) → Type 0
  Found [] = ⊥
  Found (p ∷ ps) = ((b ≡ p.0) × R p.1 st low w) ⊎ Found ps

  found-go : (p : ℕ × Mode) (ps : List (ℕ × Mode)) (c : Bool) → eqb b p.0 ≡ c → (on_type (on_found (find b ps) st low) (RR w) → Found ps)
      → on_type (on_found (pick c (some p.1) (find b ps)) st low) (RR w) → ((b ≡ p.0) × R p.1 st low w) ⊎ Found ps
  found-go p ps true e go h = inl (eqb-true b p.0 e, h)
  found-go p ps false e go h = inr (go h)

  find-back : (t : List (ℕ × Mode)) → on_type (on_found (find b t) st low) (RR w) → Found t
  unfolding find Found
  find-back [] h = h
  find-back (p ∷ ps) h = found-go p ps (eqb b p.0) refl (λ g. find-back ps g) h

  -- a byte, and what follows it
  on : {c : ℕ} {v : List ℕ} → b ≡ c → w ≡ v → b ∷ w ≡ c ∷ v
  on e q = ap₂ (λ (x : ℕ) (y : List ℕ). x ∷ y) e q

  text-back : (k : Kind) → kind b ≡ k → on_type (on_text k st low) (RR w) → Rest st low (b ∷ w)
  unfolding R
  text-back And e h = subst (λ (c : ℕ). Rest st low (c ∷ w)) (sym (code b And e)) (part-escape (length st) (in_ruby st) (λ l u. Tail st l u) low w h.0 h.1 h.2 h.3 h.4)
  text-back Less e h = subst (λ (c : ℕ). Rest st low (c ∷ w)) (sym (code b Less e)) h
  text-back More e h = part-plain (length st) (in_ruby st) (λ l u. Tail st l u) low b w (ap plain_kind e) h
  text-back Point e h = part-plain (length st) (in_ruby st) (λ l u. Tail st l u) low b w (ap plain_kind e) h
  text-back Blank e h = part-plain (length st) (in_ruby st) (λ l u. Tail st l u) low b w (ap plain_kind e) h
  text-back Break e h = part-plain (length st) (in_ruby st) (λ l u. Tail st l u) low b w (ap plain_kind e) h
  text-back Other e h = part-plain (length st) (in_ruby st) (λ l u. Tail st l u) low b w (ap plain_kind e) h
  text-back Beyond e h = absurd h

  amp-back : (k : Mode) → Found (escapes k) → R (Amp k) st low (b ∷ w)
  unfolding Found R escapes
  amp-back k (inl h) = (97 ∷ 109 ∷ 112 ∷ 59 ∷ [], h.1.0, amp, on h.0 h.1.1, h.1.2)
  amp-back k (inr (inl h)) = (103 ∷ 116 ∷ 59 ∷ [], h.1.0, gt, on h.0 h.1.1, h.1.2)
  amp-back k (inr (inr (inl h))) = (108 ∷ h.1.0, h.1.1, h.1.2, on h.0 h.1.3, h.1.4)
  amp-back k (inr (inr (inr (inl h)))) = (110 ∷ 98 ∷ 115 ∷ 112 ∷ 59 ∷ [], h.1.0, nbsp, on h.0 h.1.1, h.1.2)
  amp-back k (inr (inr (inr (inr (inl h))))) = (114 ∷ 108 ∷ 109 ∷ 59 ∷ [], h.1.0, rlm, on h.0 h.1.1, h.1.2)
  amp-back k (inr (inr (inr (inr (inr h))))) = absurd h

  ampl-back : (k : Mode) → Found (escapes_l k) → R (AmpL k) st low (b ∷ w)
  unfolding Found R escapes_l
  ampl-back k (inl h) = (116 ∷ 59 ∷ [], h.1.0, lt, on h.0 h.1.1, h.1.2)
  ampl-back k (inr (inl h)) = (114 ∷ 109 ∷ 59 ∷ [], h.1.0, lrm, on h.0 h.1.1, h.1.2)
  ampl-back k (inr (inr h)) = absurd h

  lit-rest : (cs : List ℕ) (k : Mode) → R (lit cs k) st low w → (v : List ℕ) × (w ≡ cs ++ v) × R k st low v
  unfolding R
  lit-rest [] k h = (w, refl, h)
  lit-rest (c ∷ cs) k h = h

  lit-back : (c : ℕ) (cs : List ℕ) (k : Mode) (t : Bool) → eqb b c ≡ t → on_type (pick t (some (at (lit cs k) st low)) none) (RR w) → R (Lit c cs k) st low (b ∷ w)
  unfolding R
  lit-back c cs k true e h = let r = lit-rest cs k h in (r.0, on (eqb-true b c e) r.1, r.2)
  lit-back c cs k false e h = absurd h

  time-on : (p : Place) (ps : List Place) (m : ℕ) → p.0 ≤ b → b ≤ p.1 → low ≤ m + (b - p.0) * p.2 + most ps
      → on_type (timed_on ps (m + (b - p.0) * p.2) st low) (RR w) → Clocked (p ∷ ps) m st low (b ∷ w)
  unfolding R most
  time-on p [] m h k l r = (b ∷ [], m + (b - p.0) * p.2, w, timed-on h k timed-end, omega arith, refl, r)
  time-on p (q ∷ qs) m h k l r = (b ∷ r.0, r.1, r.2, timed-on h k r.3, r.4, on refl r.5, r.6)

  time-back : (p : Place) (ps : List Place) (m : ℕ) → on_type (timing p ps m st low b) (RR w) → Clocked (p ∷ ps) m st low (b ∷ w)
  unfolding timing
  time-back p ps m h = go (leb p.0 b) (leb b p.1) (leb low (m + (b - p.0) * p.2 + most ps)) refl refl refl h
    where
      go : (x y z : Bool) → leb p.0 b ≡ x → leb b p.1 ≡ y → leb low (m + (b - p.0) * p.2 + most ps) ≡ z
          → on_type (pick x (pick y (pick z (timed_on ps (m + (b - p.0) * p.2) st low) none) none) none) (RR w) → Clocked (p ∷ ps) m st low (b ∷ w)
      go true true true e f g h = time-on p ps m (leb-true p.0 b e) (leb-true b p.1 f) (leb-true low (m + (b - p.0) * p.2 + most ps) g) h
      go true true false e f g h = absurd h
      go true false z e f g h = absurd h
      go false y z e f g h = absurd h

  clock-back : on_type (clocked clock st low b) (RR w) → Clocked clock 0 st low (b ∷ w)
  unfolding clock
  clock-back h = time-back (48, 57, 36000000) _ 0 h

  tag_back : length st < 16 → Found tags → Rest st low (60 ∷ b ∷ w)
  unfolding Found R tags name
  tag_back l (inl h) = part-span Bold st low (b ∷ w) w l refl (on h.0 refl) h.1
  tag_back l (inr (inl h)) = part-span Italic st low (b ∷ w) w l refl (on h.0 refl) h.1
  tag_back l (inr (inr (inl h))) = part-span Underline st low (b ∷ w) w l refl (on h.0 refl) h.1
  tag_back l (inr (inr (inr (inl h)))) = part-span Classed st low (b ∷ w) w l refl (on h.0 refl) h.1
  tag_back l (inr (inr (inr (inr (inl h))))) = part-span Voice st low (b ∷ w) w l refl (on h.0 refl) h.1
  tag_back l (inr (inr (inr (inr (inr (inl h)))))) = part-span Lang st low (b ∷ w) h.1.0 l refl (on h.0 h.1.1) h.1.2
  tag_back l (inr (inr (inr (inr (inr (inr (inl h))))))) =
      let r = h.1 in
      part-span r.0 st low (b ∷ w) r.2 l r.4 (on h.0 r.5 ∙ ap (λ (x : List ℕ). x ++ r.2) (sym r.3)) r.6
  tag_back l (inr (inr (inr (inr (inr (inr (inr h))))))) = absurd h

  ruby-back : (r : Bool) → in_ruby st ≡ r → Found (tags_r r) → R LtR st low (b ∷ w)
  unfolding Found R tags_r name
  ruby-back true e (inl h) = (Ruby, 117 ∷ 98 ∷ 121 ∷ [], h.1.0, refl, refl, on h.0 h.1.1, h.1.2)
  ruby-back true e (inr (inl h)) = (Rt, 116 ∷ [], w, refl, e, on h.0 refl, h.1)
  ruby-back true e (inr (inr h)) = absurd h
  ruby-back false e (inl h) = (Ruby, 117 ∷ 98 ∷ 121 ∷ [], h.1.0, refl, refl, on h.0 h.1.1, h.1.2)
  ruby-back false e (inr h) = absurd h

  dot-back : (x : Tag) → R (Dot x) st low w → b ≡ 46 → Head x st low (b ∷ w)
  unfolding R
  dot-back x h e =
      let i = h.4 in
      let d = i.4 in (
        46 ∷ h.0 ∷ (i.0 ++ d.0),
        d.1,
        d.2,
        a_class (class-is h.0 ∙ ap other_kind h.2) i.2 d.3,
        d.4,
        on e (h.3 ∙ ap (λ (l : List ℕ). h.0 ∷ l) (i.3 ∙ ap (λ (l : List ℕ). i.0 ++ l) d.5 ∙ sym (append_assoc i.0 d.0 (d.1 ++ (62 ∷ d.2))))),
        d.6,
      )

  annotated : (x : Tag) (n : Bool) {a : List ℕ} → noted x ≡ n → Annotation n a → Annotation (noted x) a
  annotated x n {a} e h = subst (λ (m : Bool). Annotation m a) (sym e) h

  name_back : (x : Tag) (n : Bool) → noted x ≡ n → (k : Kind) → kind b ≡ k → on_type (on_head x false n k st low) (RR w) → Head x st low (b ∷ w)
  unfolding R
  name_back x n e And q h = absurd h
  name_back x n e Less q h = absurd h
  name_back x true e More q h = absurd h
  name_back x false e More q h = ([], [], w, no_class, annotated x false e without, on (code b More q) refl, h)
  name_back x n e Point q h = dot-back x h (code b Point q)
  name_back x true e Blank q h = ([], b ∷ h.0, h.1, no_class, annotated x true e (with (blank-is b ∙ ap blank_kind q) h.2), on refl h.3, h.4)
  name_back x false e Blank q h = absurd h
  name_back x n e Break q h = absurd h
  name_back x n e Other q h = absurd h
  name_back x n e Beyond q h = absurd h

  class_back : (x : Tag) (n : Bool) → noted x ≡ n → (k : Kind) → kind b ≡ k → on_type (on_head x true n k st low) (RR w) → InClass x st low (b ∷ w)
  unfolding R
  class_back x n e And q h = absurd h
  class_back x n e Less q h = absurd h
  class_back x true e More q h = absurd h
  class_back x false e More q h = ([], b ∷ w, no_char, refl, name_back x false e More q h)
  class_back x n e Point q h = ([], b ∷ w, no_char, refl, name_back x n e Point q h)
  class_back x true e Blank q h = ([], b ∷ w, no_char, refl, name_back x true e Blank q h)
  class_back x false e Blank q h = absurd h
  class_back x n e Break q h = absurd h
  class_back x n e Other q h = (b ∷ h.0, h.1, a_char (class-is b ∙ ap other_kind q) h.2, on refl h.3, h.4)
  class_back x n e Beyond q h = absurd h

  note-back : (x : Tag) (said : Bool) (k : Kind) → kind b ≡ k → on_type (on_note x said k st low) (RR w) → R (Noting x said) st low (b ∷ w)
  unfolding R
  note-back x said And q h =
      let r = h.4 in (
        38 ∷ (h.0 ++ r.0),
        r.1,
        note_escape h.2 r.2,
        on (code b And q) (h.3 ∙ ap (λ (l : List ℕ). h.0 ++ l) r.3 ∙ sym (append_assoc h.0 r.0 (62 ∷ r.1))),
        r.4,
      )
  note-back x said Less q h = (b ∷ h.0, h.1, note_more (note-is b ∙ ap note_kind q) h.2, on refl h.3, h.4)
  note-back x true More q h = ([], w, note_end, on (code b More q) refl, h)
  note-back x false More q h = absurd h
  note-back x said Point q h = (b ∷ h.0, h.1, note_more (note-is b ∙ ap note_kind q) h.2, on refl h.3, h.4)
  note-back x said Blank q h = (b ∷ h.0, h.1, note_blank (blank-is b ∙ ap blank_kind q) h.2, on refl h.3, h.4)
  note-back x said Break q h = absurd h
  note-back x said Other q h = (b ∷ h.0, h.1, note_more (note-is b ∙ ap note_kind q) h.2, on refl h.3, h.4)
  note-back x said Beyond q h = absurd h

  on_dot-back : (x : Tag) (k : Kind) → kind b ≡ k → on_type (on_dot x k st low) (RR w) → R (Dot x) st low (b ∷ w)
  unfolding R
  on_dot-back x And q h = absurd h
  on_dot-back x Less q h = absurd h
  on_dot-back x More q h = absurd h
  on_dot-back x Point q h = absurd h
  on_dot-back x Blank q h = absurd h
  on_dot-back x Break q h = absurd h
  on_dot-back x Other q h = (b, w, q, refl, h)
  on_dot-back x Beyond q h = absurd h

close-back : (b : ℕ) (w : List ℕ) (st : List Tag) (low : ℕ) → b ≡ 47 → on_type (closing st low) (RR w) → Rest st low (60 ∷ b ∷ w)
unfolding R
close-back b w [] low e h = absurd h
close-back b w (x ∷ st) low e h =
    let r = lit-rest b w st low (name x ++ (62 ∷ [])) Text h in
    part-close x st low (60 ∷ b ∷ w) r.0 (ap (λ (l : List ℕ). 60 ∷ l) (on b w st low e (r.1 ∙ append_assoc (name x) (62 ∷ []) r.0))) r.2

less-back : (b : ℕ) (w : List ℕ) (st : List Tag) (low : ℕ) (p q r : Bool) → eqb b 47 ≡ p → ltb (length st) 16 ≡ r
    → on_type (pick p (closing st low) (pick q (clocked clock st low b) (pick r (on_found (find b tags) st low) none))) (RR w) → Rest st low (60 ∷ b ∷ w)
less-back b w st low true q r e l h = close-back b w st low (eqb-true b 47 e) h
less-back b w st low false true r e l h =
    let c = clock-back b w st low h in
    let t = timed-written c.0 c.1 c.3 in
    part-stamp (length st) (in_ruby st) (λ l u. Tail st l u) low (b ∷ w) c.2 c.1 t.0 c.4 (c.5 ∙ ap (λ (l : List ℕ). l ++ c.2) t.1 ∙ append_assoc (time_text c.1) (62 ∷ []) c.2) c.6
less-back b w st low false false true e l h = tag_back b w st low (ltb-true (length st) 16 l) (find-back b w st low tags h)
less-back b w st low false false false e l h = absurd h

back : (s : State) (b : ℕ) (w : List ℕ) → on_type (step s b) (RR w) → RR (b ∷ w) s
unfolding step R
back (at Text st low) b w h = text-back b w st low (kind b) refl h
back (at (Amp k) st low) b w h = amp-back b w st low k (find-back b w st low (escapes k) h)
back (at (AmpL k) st low) b w h = ampl-back b w st low k (find-back b w st low (escapes_l k) h)
back (at (Lit c cs k) st low) b w h = lit-back b w st low c cs k (eqb b c) refl h
back (at Lt st low) b w h = less-back b w st low (eqb b 47) (leb b 57) (ltb (length st) 16) refl refl h
back (at LtR st low) b w h = ruby-back b w st low (in_ruby st) refl (find-back b w st low (tags_r (in_ruby st)) h)
back (at (Name x) st low) b w h = name_back b w st low x (noted x) refl (kind b) refl h
back (at (Dot x) st low) b w h = on_dot-back b w st low x (kind b) refl h
back (at (Class x) st low) b w h = class_back b w st low x (noted x) refl (kind b) refl h
back (at (Noting x said) st low) b w h = note-back b w st low x said (kind b) refl h
back (at (Stamp p ps m) st low) b w h = time-back b w st low p ps m h

ended : (s : State) → final s ≡ true → RR [] s
unfolding R Tail Above next
ended (at Text [] low) h = record { front = []; back = []; times = []; split = refl; content = empty; above = tt; tail = refl }
ended (at Text (x ∷ st) low) h = never h
ended (at (Amp k) st low) h = never h
ended (at (AmpL k) st low) h = never h
ended (at (Lit c cs k) st low) h = never h
ended (at Lt st low) h = never h
ended (at LtR st low) h = never h
ended (at (Name x) st low) h = never h
ended (at (Dot x) st low) h = never h
ended (at (Class x) st low) h = never h
ended (at (Noting x said) st low) h = never h
ended (at (Stamp p ps m) st low) h = never h

on-map : (o : Option State) (P Q : State → Type 0) → ((t : State) → P t → Q t) → on_type o P → on_type o Q
on-map none P Q f h = h
on-map (some s) P Q f h = f s h

sound : (w : List ℕ) (s : State) → Acc w s → RR w s
unfolding Acc
sound [] s h = ended s h
sound (b ∷ w) s h = back s b w (on-map (step s b) (λ t. Acc w t) (RR w) (λ t a. sound w t a) h)

-- with no tag open, the whole is content
pub content-of : (w : List ℕ) (low : ℕ) → Acc w (at Text [] low) → (ts : List ℕ) × Content 0 false ts w × Above low ts
unfolding R Tail
content-of w low h =
    let p = sound w (at Text [] low) h in
    (p.times, subst (λ (l : List ℕ). Content 0 false p.times l) (sym (p.split ∙ ap (λ (l : List ℕ). p.front ++ l) p.tail ∙ append-nil p.front)) p.content, p.above)
