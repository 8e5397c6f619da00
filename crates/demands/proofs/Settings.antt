-- Proofs of the demands on settings.
use Prim.Native.Nat.{ℕ, ◌≤◌, ◌<◌}
use mathlib.Core.Path.{◌≡◌, refl, sym, ap, ◌∙◌, subst}
use mathlib.Core.Bool.{Bool, true, false}
use mathlib.Core.List.{List, []}
use native.Mathlib.Omega.{arith}
use lib.Dec.{eqb, ltb, leb}
use lib.ListN.{length, drop}
use borrow.Author.Tests.{lt-ltb, le-ltb, ltb-true, ltb-false}
use Rattle.base.specs.Choice.{pick}
use Rattle.base.proofs.Choice.{by-test, either, both_left, both_right}
use Rattle.base.proofs.Over.{take-over, drop-over}
use Rattle.viable.specs.Judged.{Judged, Right, Bad}
use Rattle.viable.specs.FirstBad.{Passes, judged_by}
use Rattle.verdict.specs.Judgement.{fault, bad_text}
use Rattle.text.specs.Rules.{identifier_text}
use Rattle.text.specs.Beginnings.{identifier_begun}
use Rattle.timestamps.specs.Timestamps.{front}
use Rattle.wvtt_entry_write.specs.Written.{Written, Done as Writes, Refused as NotWritten}
use Rattle.settings.specs.declared.Settings.{Settings}
use Rattle.settings.specs.declared.Reading.{Reading}
use Rattle.settings.specs.Read.{Read, Done, Refused}
use Rattle.settings.specs.Grammar.{named}
use Rattle.settings.specs.Reading.{words, read_words, unread, read_settings, said}
use Rattle.settings.specs.Form.{written, settings_allowed, region_allowed, writable}
use Rattle.settings.specs.Statements.{ReadsAs}
use Rattle.settings.proofs.Shortest.{says-writable}
use Rattle.settings.proofs.Readings.{reads-are, wrongs-are, reads-as-is, read-fine, refused-only, region-inside, reads-back, writable-is, shortest}
use Rattle.settings_write.specs.Writing.{record_with, settings_room, settings_written}
use Rattle.settings_flat.specs.Flat.{given_room, given_written}
use Rattle.settings_flat.proofs.Back.{flat-comes-back}
use Rattle.demands.specs.Settings.{Answer, says, long, bad, wrong, Given, Means, SettingsAnswers, RegionStands, ShortestOf, SettingsAreWritten, WrittenReads, ReadIsWritten}
use Rattle.demands.proofs.Offsets.{offsets_are}

module _ (s : List ℕ) where
  -- the answer where it is so
  given : (a : Answer) → Means s a → Given s a
  unfolding read_settings
  given (says r) m = (reads-as-is s r).1 m
  given long m = rw (lt-ltb 255 (length s) m)
  given (bad q) m = rw (le-ltb 255 (length s) m.0, ((offsets_are.identifier s).1 q).1 m.1)
  given (wrong q) m = read-fine s m.0 m.1 ∙ (wrongs-are s q).1 m.2

  -- one of them is so
  read_one : (t : Bool) (j : Judged) → ltb 255 (length s) ≡ t → judged_by identifier_text identifier_begun s ≡ j → (a : Answer) × Means s a
  read_one true j e f = (long, ltb-true 255 (length s) e)
  read_one false (Bad q) e f = (bad q, (ltb-false 255 (length s) e, ((offsets_are.identifier s).1 q).0 f))
  read_one false Right e f = go (read_words (words 0 s) [] unread) refl
    where
      l : length s ≤ 255
      l = ltb-false 255 (length s) e

      i : Passes identifier_text s
      i = (offsets_are.identifier s).0.0 f

      go : (a : Read) → read_words (words 0 s) [] unread ≡ a → (a : Answer) × Means s a
      go (Done x) d = (says (said s x), (l, i, (reads-are s (said s x)).0 (x, d, refl)))
      go (Refused w) d = let k = refused-only s w d in (wrong k.0, (l, i, (wrongs-are s k.0).0 (d ∙ ap Refused k.1)))

-- an answer tells what it says
told : List ℕ → Read → Answer
told s (Done x) = says (said s x)
told s (Refused w) = pick (eqb w.number 9) long (pick (eqb w.number 6) (bad w.offset) (wrong w.place))

told-given : (s : List ℕ) (a : Answer) → Given s a → told s (read_settings s) ≡ a
unfolding told fault bad_text
told-given s (says r) (x, e, q) = rw e (ap says q)
told-given s long e = rw e
told-given s (bad q) e = rw e
told-given s (wrong q) e = rw e

pub settings-answers : SettingsAnswers
settings-answers s =
    let b = read_one s (ltb 255 (length s)) (judged_by identifier_text identifier_begun s) refl refl in
    let g = given s b.0 b.1 in
    ((b.0, g), λ a. (λ h. subst (Means s) (sym (told-given s b.0 g) ∙ told-given s a h) b.1, given s a))

-- ---- a record that is read can be written

module _ (s : List ℕ) (x : Reading) (e : read_settings s ≡ Done x) where
  read_as : ReadsAs s (said s x)
  read_as = (x, e, refl)

  read-writable : writable (said s x) ≡ true
  read-writable = let k = (reads-as-is s (said s x)).0 read_as in says-writable (said s x) s k.2 k.1 k.0

pub region-stands : RegionStands
unfolding writable region_allowed
region-stands s x e =
    let k = region-inside s x e in
    let w = both_right (settings_allowed (said s x).settings) _ (read-writable s x e) in
    (k.0, k.1, both_right (leb (length (said s x).region) (length (front named (said s x).region))) (identifier_text (said s x).region) (both_left (region_allowed (said s x).region) (leb (length (written (said s x))) 255) w))

-- ---- what is written

-- the number of an answer, 0 where it is done, and how many bytes were written
number_in : Written → ℕ
number_in (Writes n) = 0
number_in (NotWritten r) = r.number

bytes_in : Written → ℕ
bytes_in (Writes n) = n
bytes_in (NotWritten r) = 0

module _ (x : Settings) (region : List ℕ) (room : ℕ) where
  form : List ℕ
  form = written (record_with x region)

  -- the answer by the two tests
  unwritable : writable (record_with x region) ≡ false → settings_written x region room ≡ NotWritten (fault 8 0)
  unfolding settings_written settings_room
  unwritable f = rw f

  too_short : writable (record_with x region) ≡ true → room < length form → settings_written x region room ≡ NotWritten (fault 15 0)
  unfolding settings_written settings_room form
  too_short t l = rw (t, lt-ltb room (length (written (record_with x region))) l)

  fits : writable (record_with x region) ≡ true → length form ≤ room → settings_written x region room ≡ Writes (length form)
  unfolding settings_written settings_room form
  fits t l = rw (t, le-ltb room (length (written (record_with x region))) l)

  -- one answer is no other
  one_answer : (a b : Written) → settings_written x region room ≡ a → settings_written x region room ≡ b → number_in a ≡ number_in b
  one_answer a b e f = ap number_in (sym e ∙ f)

  by_answer : {X : Type 0} → (writable (record_with x region) ≡ false → X) → (writable (record_with x region) ≡ true → room < length form → X) → (writable (record_with x region) ≡ true → length form ≤ room → X) → X
  by_answer f g h = by-test (writable (record_with x region)) (λ t. either (length form) room (h t) (g t)) f

  -- a record that a text reads as can be written
  said-so : (s : List ℕ) → ReadsAs s (record_with x region) → writable (record_with x region) ≡ true
  said-so s h = by-test (writable (record_with x region)) (λ t. t) (λ f. absurd ((writable-is (record_with x region)).0 f s h))

  form-reads : writable (record_with x region) ≡ true → ReadsAs form (record_with x region)
  unfolding form
  form-reads t = reads-back (record_with x region) t

  form-shortest : (s : List ℕ) → ReadsAs s (record_with x region) → length form ≤ length s
  unfolding form
  form-shortest s h = shortest (record_with x region) s h

  to-unsaid : settings_written x region room ≡ NotWritten (fault 8 0) → (s : List ℕ) → ReadsAs s (record_with x region) → ⊥
  unfolding fault number_in
  to-unsaid e =
      by_answer (writable-is (record_with x region)).0
      (λ t l. let z : ◌≡◌ {A = ℕ} 8 15 = one_answer _ _ e (too_short t l) in absurd (omega arith))
      (λ t l. let z : ◌≡◌ {A = ℕ} 8 0 = one_answer _ _ e (fits t l) in absurd (omega arith))

  to-no-room : settings_written x region room ≡ NotWritten (fault 15 0) → ((s : List ℕ) × ReadsAs s (record_with x region)) × ((s : List ℕ) → ReadsAs s (record_with x region) → room < length s)
  unfolding fault number_in
  to-no-room e =
      by_answer (λ f. let z : ◌≡◌ {A = ℕ} 15 8 = one_answer _ _ e (unwritable f) in absurd (omega arith))
      (λ t l. ((form, form-reads t), λ s h. let k = form-shortest s h in omega arith))
      (λ t l. let z : ◌≡◌ {A = ℕ} 15 0 = one_answer _ _ e (fits t l) in absurd (omega arith))

  to-done : (n : ℕ) → settings_written x region room ≡ Writes n → (n ≤ room) × (t : List ℕ) × ShortestOf (record_with x region) t × (length t ≡ n)
  unfolding fault number_in bytes_in
  to-done n e =
      by_answer (λ f. let z : ◌≡◌ {A = ℕ} 0 8 = one_answer _ _ e (unwritable f) in absurd (omega arith))
      (λ t l. let z : ◌≡◌ {A = ℕ} 0 15 = one_answer _ _ e (too_short t l) in absurd (omega arith))
      (λ t l. let z : length form ≡ n = ap bytes_in (sym (fits t l) ∙ e) in (omega arith, form, (form-reads t, form-shortest), z))

  from-done : (n : ℕ) → (n ≤ room) × (t : List ℕ) × ShortestOf (record_with x region) t × (length t ≡ n) → settings_written x region room ≡ Writes n
  from-done n (l, t, (h, k), e) =
      let w = said-so t h in
      let a = k form (form-reads w) in
      let b = form-shortest t h in
      let z : length form ≡ n = omega arith in
      fits w (omega arith) ∙ ap Writes z

pub settings-are-written : SettingsAreWritten
settings-are-written x region room = record {
  unsaid = (to-unsaid x region room, λ f. unwritable x region room ((writable-is (record_with x region)).1 f));
  no_room = (to-no-room x region room, λ h. let w = said-so x region room h.0.0 h.0.1 in too_short x region room w (h.1 (form x region room) (form-reads x region room w)));
  done = λ n. (to-done x region room n, from-done x region room n);
}

pub written-reads : WrittenReads
unfolding form
written-reads x region text text_after n call =
    let d = to-done x region (length text) n (sym call.answers) in
    let w = said-so x region (length text) d.1 d.2.0 in
    let b = form-shortest x region (length text) d.1 d.2.0 in
    let a = d.2.1 (written (record_with x region)) (reads-back (record_with x region) w) in
    let e : n ≡ length (written (record_with x region)) = omega (arith, d.3) in
    (rw (call.text_holds, take-over (written (record_with x region)) text n e) (reads-back (record_with x region) w), ap (drop n) call.text_holds ∙ drop-over (written (record_with x region)) text n e)

pub read-is-written : ReadIsWritten
unfolding given_written given_room settings_room
read-is-written s x room e l =
    let b = flat-comes-back x.settings in
    let w : writable (record_with x.settings (said s x).region) ≡ true = read-writable s x e in
    let k = shortest (said s x) s (read_as s x e) in
    (length (written (said s x)), k, rw (b.0, b.1, w, le-ltb room (length (written (said s x))) (omega arith)))
