-- What a reading of an entry means: the statements of specs/Held.antt.
use Prim.Native.Nat.{ℕ, zero, suc, ◌+◌, ◌≤◌}
use mathlib.Core.Path.{◌≡◌, refl, sym, ap, ◌∙◌}
use mathlib.Core.Logic.{inl, inr, ⊎_elim}
use mathlib.Core.List.{List, [], ◌∷◌}
use mathlib.Core.Bool.{Bool, true, false, not}
use native.Mathlib.Omega.{arith}
use lib.Dec.{eqb}
use lib.ListN.{length}
use borrow.Author.Tests.{eq-eqb, eqb-true, eqb-false}
use Rattle.base.specs.Choice.{both, any_of}
use Rattle.base.proofs.Choice.{true-false, by-test}
use Rattle.base.proofs.Tests.{one-of-yes}
use Rattle.verdict.specs.Verdict.{Verdict, Fine, Refused as Faulty}
use Rattle.verdict.specs.Judgement.{◌gives◌at◌}
use Rattle.verdict.proofs.Judgement.{both-fine, not-given, text-fine}
use Rattle.fields.specs.BigEndian.{be}
use Rattle.boxes.specs.declared.Step.{Step}
use Rattle.boxes.specs.declared.Step.TheVariants.{Box, Refused as Stopped, End}
use Rattle.boxes.specs.Boxes.{Boxes, clean, broken, box, step_at, on_step, boxes_f, boxes_in, judged, among, part}
use Rattle.boxes.proofs.Laws.{step-box, step-reads}
use Rattle.text.specs.Rules.{configuration_text, label_text}
use Rattle.text.specs.Beginnings.{configuration_begun, label_begun}
use Rattle.std.specs.Prelude.{Option, Some, None}
use Rattle.wvtt_entry.specs.Read.{Whole}
use Rattle.boxes.specs.declared.Part.{Part}
use Rattle.wvtt_entry.specs.Entry.{vtt_c, vlab, judge_content, in_entry, end_entry, judge_entry}
use Rattle.wvtt_entry.specs.Reading.{first_body, entry_boxes, held_by, unless_faulty, read_entry}
use Rattle.wvtt_entry.specs.Held.{Stands, BodyOf, LabelOf, Holds, EntryHolds}
use Rattle.wvtt_entry.proofs.Laws.{entry-parts}

-- ---- boxes that stand among others

-- the first body is one that stands there
found-stands : (k : ℕ) (bs : Boxes) (x : Part) → first_body k bs ≡ Some x → Stands k x.from x.end bs
unfolding first_body Stands
found-stands k clean x h = let z : ◌≡◌ {A = ℕ} 0 1 = cc in absurd (omega arith)
found-stands k (broken r) x h = let z : ◌≡◌ {A = ℕ} 0 1 = cc in absurd (omega arith)
found-stands k (box p j b n rest) x h =
    by-test (eqb j k)
    (λ e. let q = rw e at h in inl (eqb-true j k e, ap from_of q, ap end_of q))
    (λ e. inr (found-stands k rest x (rw e at h)))
  where
    from_of : Option Part → ℕ
    from_of (Some y) = y.from
    from_of None = 0

    end_of : Option Part → ℕ
    end_of (Some y) = y.end
    end_of None = 0

-- where none is found, none stands
none-stands : (k b n : ℕ) (bs : Boxes) → first_body k bs ≡ None → Stands k b n bs → ⊥
unfolding first_body Stands
none-stands k b n clean h w = w
none-stands k b n (broken r) h w = w
none-stands k b n (box p j c m rest) h w =
    by-test (eqb j k)
    (λ e. let q = rw e at h in let z : ◌≡◌ {A = ℕ} 0 1 = cc in absurd (omega arith))
    (λ e. ⊎_elim (λ u. eqb-false j k e u.0) (none-stands k b n rest (rw e at h)) w)

-- a box of a container from `from` to `end`: its header, and its body behind it
record Lying (s : List ℕ) (from end k b n : ℕ) : Type 0 where
  place : ℕ
  behind : from ≤ place
  size : place + be 4 s place ≡ n
  kind : be 4 s (place + 4) ≡ k
  begins : b ≡ place + 8
  order : b ≤ n
  inside : n ≤ end

module _ (s : List ℕ) (end k b n : ℕ) where
  lying-f : (f from : ℕ) → Stands k b n (boxes_f f s from end) → Lying s from end k b n
  unfolding boxes_f Stands
  lying-f zero from w = absurd w
  lying-f (suc f) from w = go (step_at s from end) refl w (λ m u. lying-f f m u)
    where
      go : (t : Step) → step_at s from end ≡ t → Stands k b n (on_step t from (λ m. boxes_f f s m end)) → ((m : ℕ) → Stands k b n (boxes_f f s m end) → Lying s m end k b n) → Lying s from end k b n
      go (Box j c m) e w rest =
          let l = step-box s from end j c m e in
          let r = step-reads s from end j c m e in
          ⊎_elim
          (λ u. record { place = from; behind = omega arith; size = sym r.1 ∙ u.2; kind = sym r.0 ∙ u.0; begins = sym u.1 ∙ l.header; order = omega (arith, u.1, u.2); inside = omega (arith, u.2) })
          (λ u.
          let x = rest m u in
          record { place = x.place; behind = omega (arith, x.behind); size = x.size; kind = x.kind; begins = x.begins; order = x.order; inside = x.inside })
          w
      go (Stopped r) e w rest = absurd w
      go End e w rest = absurd w

  lying : (from : ℕ) → Stands k b n (boxes_in s from end) → Lying s from end k b n
  unfolding boxes_in
  lying from w = lying-f (suc end) from w

-- ---- boxes without fault

module _ (e : List ℕ) where
  -- the text of a box that stands there has no fault
  content-fine : (k b n : ℕ) (bs : Boxes) (before : List ℕ) → judged (in_entry e) end_entry before bs ≡ Fine → Stands k b n bs → (p : ℕ) × (judge_content e p k b n ≡ Fine)
  unfolding Stands judged in_entry
  content-fine k b n clean before h w = absurd w
  content-fine k b n (broken r) before h w = absurd w
  content-fine k b n (box p j c m rest) before h w =
      let x = both-fine (in_entry e before p j c m) (judged (in_entry e) end_entry (j ∷ before) rest) h in
      let y = both-fine (both (any_of (eqb j vtt_c) (eqb j vlab)) (among j before) gives 3 at p) (judge_content e p j c m) x.0 in
      ⊎_elim (λ u. (p, rw (← u.0, ← u.1, ← u.2) y.1)) (content-fine k b n rest (j ∷ before) x.1) w

  -- a kind that may be there once does not come again
  module _ (k : ℕ) (single : any_of (eqb k vtt_c) (eqb k vlab) ≡ true) where
    again : (b n : ℕ) (bs : Boxes) (before : List ℕ) → judged (in_entry e) end_entry before bs ≡ Fine → among k before ≡ true → Stands k b n bs → ⊥
    unfolding Stands judged in_entry among
    again b n clean before h a w = w
    again b n (broken r) before h a w = w
    again b n (box p j c m rest) before h a w =
        let x = both-fine (in_entry e before p j c m) (judged (in_entry e) end_entry (j ∷ before) rest) h in
        let y = both-fine (both (any_of (eqb j vtt_c) (eqb j vlab)) (among j before) gives 3 at p) (judge_content e p j c m) x.0 in
        let z = not-given (both (any_of (eqb j vtt_c) (eqb j vlab)) (among j before)) 3 p y.0 in
        ⊎_elim
        (λ u. true-false true refl (rw (u.0, single, a) at z))
        (again b n rest (j ∷ before) x.1 (rw a (one-of-yes (eqb j k))))
        w

    -- so there is one box of it at most
    only_one : (b n c m : ℕ) (bs : Boxes) (before : List ℕ) → judged (in_entry e) end_entry before bs ≡ Fine → Stands k b n bs → Stands k c m bs → (b ≡ c) × (n ≡ m)
    unfolding Stands judged among
    only_one b n c m clean before h w v = absurd w
    only_one b n c m (broken r) before h w v = absurd w
    only_one b n c m (box p j d i rest) before h w v =
        let x = both-fine (in_entry e before p j d i) (judged (in_entry e) end_entry (j ∷ before) rest) h in
        let met : (j ≡ k → among k (j ∷ before) ≡ true) = λ q. rw (eq-eqb j k q) in
        ⊎_elim
        (λ u. ⊎_elim (λ t. (sym u.1 ∙ t.1, sym u.2 ∙ t.2)) (λ t. absurd (again c m rest (j ∷ before) x.1 (met u.0) t)) v)
        (λ u. ⊎_elim (λ t. absurd (again b n rest (j ∷ before) x.1 (met t.0) u)) (only_one b n c m rest (j ∷ before) x.1 u) v)
        w

  -- a configuration is there
  configured : (bs : Boxes) (before : List ℕ) → judged (in_entry e) end_entry before bs ≡ Fine → among vtt_c before ≡ false → (x : Part) × (first_body vtt_c bs ≡ Some x)
  unfolding judged first_body among
  configured clean before h a = let z = not-given (not (among vtt_c before)) 4 0 h in true-false true refl (rw a at z)
  configured (broken r) before h a = let z : ◌≡◌ {A = ℕ} 0 1 = cc in absurd (omega arith)
  configured (box p j b n rest) before h a =
      let x = both-fine (in_entry e before p j b n) (judged (in_entry e) end_entry (j ∷ before) rest) h in
      by-test (eqb j vtt_c) (λ q. (record { from = b; end = n }, rw q)) (λ q. let w = configured rest (j ∷ before) x.1 (rw (q, a)) in (w.0, rw q w.1))

  entry-lies : (k b n : ℕ) → Stands k b n (entry_boxes e) → Lying e 16 (length e) k b n
  unfolding entry_boxes
  entry-lies k b n w = lying e (length e) k b n 16 w

  -- a body that is found, with the rule of its text
  body_of : (k : ℕ) (rule : List ℕ → Bool) → any_of (eqb k vtt_c) (eqb k vlab) ≡ true → ((p b n : ℕ) → judge_content e p k b n ≡ Fine → rule (part e b n) ≡ true)
      → judged (in_entry e) end_entry [] (entry_boxes e) ≡ Fine → (x : Part) → first_body k (entry_boxes e) ≡ Some x → BodyOf e k rule x
  body_of k rule single right h x q =
      let w : Stands k x.from x.end (entry_boxes e) = found-stands k (entry_boxes e) x q in
      let l = entry-lies k x.from x.end w in
      let t = content-fine k x.from x.end (entry_boxes e) [] h w in
      record {
        place = l.place;
        behind = l.behind;
        size = l.size;
        kind = l.kind;
        begins = l.begins;
        order = l.order;
        inside = l.inside;
        stands = w;
        only = λ b n v. only_one k single b n x.from x.end (entry_boxes e) [] h v w;
        right = right t.0 x.from x.end t.1;
      }

-- ---- the entry

configuration-right : (e : List ℕ) (p b n : ℕ) → judge_content e p vtt_c b n ≡ Fine → configuration_text (part e b n) ≡ true
unfolding judge_content
configuration-right e p b n h = text-fine configuration_text configuration_begun p (part e b n) h

label-right : (e : List ℕ) (p b n : ℕ) → judge_content e p vlab b n ≡ Fine → label_text (part e b n) ≡ true
unfolding judge_content
label-right e p b n h = text-fine label_text label_begun p (part e b n) h

label_of : (e : List ℕ) → judged (in_entry e) end_entry [] (entry_boxes e) ≡ Fine → (t : Option Part) → first_body vlab (entry_boxes e) ≡ t → LabelOf e t
label_of e h (Some x) q = body_of e vlab label_text refl (label-right e) h x q
label_of e h None q = λ b n w. none-stands vlab b n (entry_boxes e) q w

held-holds : (e : List ℕ) → judge_entry e ≡ Fine → Holds e (Whole (held_by e))
unfolding held_by among
held-holds e h =
    let w = (entry-parts e h).1 in
    let c = configured e (entry_boxes e) [] w refl in
    (h, refl, rw c.1 (body_of e vtt_c configuration_text refl (configuration-right e) w c.0 c.1), label_of e w (first_body vlab (entry_boxes e)) refl)

pub entry-holds : EntryHolds
unfolding read_entry
entry-holds e = go (judge_entry e) refl
  where
    go : (v : Verdict) → judge_entry e ≡ v → Holds e (unless_faulty v (held_by e))
    go Fine h = held-holds e h
    go (Faulty r) h = h
