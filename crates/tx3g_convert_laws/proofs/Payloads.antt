-- The payload of a sample without fault; and number 6 of a conversion, which a zero character alone can bring.
use Prim.Native.Nat.{ℕ, zero, suc, ◌+◌, ◌<◌}
use mathlib.Core.Path.{◌≡◌, refl, sym, ap, ◌∙◌, subst⁻¹}
use mathlib.Core.Bool.{Bool, true, false, not}
use mathlib.Core.List.{List, [], ◌∷◌}
use native.Mathlib.Omega.{arith}
use borrow.Author.Tests.{ltb-true, not-true, not-false}
use lib.Dec.{leb, ltb}
use lib.ListN.{length, get_or}
use Rattle.base.proofs.Choice.{both_left, both_right, by-test}
use Rattle.viable.specs.Judged.{Judged, Right, Bad}
use Rattle.viable.specs.FirstBad.{bytes, judged_by}
use Rattle.text.specs.Rules.{identifier_text, payload_text}
use Rattle.text.proofs.Rules.{empty-line, empty-payload}
use Rattle.text.specs.Beginnings.{identifier_begun, payload_begun}
use Rattle.verdict.specs.declared.Refusal.{Refusal}
use Rattle.verdict.specs.Verdict.{Verdict, Fine, Refused}
use Rattle.verdict.specs.Judgement.{fault, bad_text, ◌gives◌at◌, text_at, ◌then◌}
use Rattle.verdict.proofs.Judgement.{then-fine, text-right}
use Rattle.times.specs.Times.{back, scale_allowed, timeline_allowed}
use Rattle.table.specs.Table.{row_count, bytes_of}
use Rattle.cues.specs.Caption.{caption, long_texts, judge_texts, bad_times, judge_content, judge_caption}
use Rattle.code_points.specs.CodePoints.{scalars}
use Rattle.boxes.specs.Boxes.{part}
use Rattle.tx3g_entry.specs.Entry.{judge_entry}
use Rattle.tx3g_sample.specs.Sample.{text_end, characters_in, judge_sample}
use Rattle.tx3g_payload.specs.Statements.{has_zero}
use Rattle.tx3g_payload.proofs.Points.{points-good}
use Rattle.tx3g_payload.proofs.Back.{text-comes-back, empty-is}
use Rattle.tx3g_payload.proofs.Rule.{only_zero}
use Rattle.tx3g_payload_write.specs.Sample.{characters_at, range_at, face_of, payload_in}
use Rattle.tx3g_payload_write.proofs.Texts.{part_bytes, counted-so, text-of-fine}
use Rattle.tx3g_stock.specs.declared.Counts.{Counts}
use Rattle.tx3g_stock.specs.Stock.{judge_stock}
use Rattle.tx3g_stock.proofs.Rows.{row_reads}
use Rattle.tx3g_convert.specs.Converted.{Converted, Done, BadTrack}
use Rattle.tx3g_convert.specs.Convert.{Told, told_of, has_text, counting, stock_cues, stock_ms, judge_told, judge_tolds, judge_cues, by_entry, by_track, done_with, convert_room}
use Rattle.tx3g_convert.proofs.Rooms.{done-so}
use Rattle.tx3g_convert_laws.specs.Statements.{SampleRule, OnlyZeros, NoZeros}
use Rattle.tx3g_convert_laws.proofs.Samples.{no_told, length-told, told_at_lem, each-is-a-sample}
use Rattle.tx3g_convert_laws.proofs.Fine.{cue-sound}

byte_at : (s : List ℕ) → bytes s ≡ true → (j : ℕ) → get_or s j 0 < 256
unfolding bytes
byte_at [] h j = omega arith
byte_at (b ∷ s) h zero = ltb-true b 256 (both_left (ltb b 256) (bytes s) h)
byte_at (b ∷ s) h (suc j) = byte_at s (both_right (ltb b 256) (bytes s) h) j

-- the characters of a sample without fault are right ones, as many as counted
pub characters-right : (e s : List ℕ) → bytes s ≡ true → judge_sample e s ≡ Fine → (scalars (characters_at s) ≡ true) × (length (characters_at s) ≡ characters_in s)
unfolding characters_at
characters-right e s b h = points-good (part s 2 (text_end s)) (characters_in s) (part_bytes s 2 (text_end s) (byte_at s b)) (counted-so s (text-of-fine e s h))

pub sample-rule : SampleRule
unfolding payload_in
sample-rule e s b h =
    let g = characters-right e s b h in
    let z = empty-is (range_at s) (face_of e s) (characters_at s) in
    record {
      counted = g.1;
      comes_back = text-comes-back (range_at s) (face_of e s) (characters_at s);
      empty = (z.1, z.0);
      ruled = only_zero (range_at s) (face_of e s) (characters_at s) g.0;
    }

-- ---- a refusal by 6

-- no fault, or one whose number is 6 only at place i and where P holds
abbrev Six : ℕ → Type 0 → Verdict → Type 0
Six i P Fine = Unit {0}
Six i P (Refused r) = r.number ≡ 6 → (r.place ≡ i) × P

module _ (i : ℕ) (P : Type 0) where
  six-then : (v w : Verdict) → Six i P v → Six i P w → Six i P (v then w)
  six-then Fine w a b = b
  six-then (Refused r) w a b = a

  six-gives : (t : Bool) (n : ℕ) → (n ≡ 6 → ⊥) → Six i P (t gives n at i)
  unfolding fault
  six-gives true n h = λ q. absurd (h q)
  six-gives false n h = tt

  six-right : (keeps begun : List ℕ → Bool) (s : List ℕ) → keeps s ≡ true → Six i P (text_at i (judged_by keeps begun s))
  six-right keeps begun s h = subst⁻¹ (Six i P) (text-right keeps begun i s h) tt

bad-text : (i : ℕ) (P : Type 0) (j : Judged) → P → Six i P (text_at i j)
unfolding bad_text
bad-text i P Right h = tt
bad-text i P (Bad q) h = λ n. (refl, h)

-- a caption without other texts
six-caption : (scale T a b i : ℕ) (p : List ℕ) → Six i (payload_text p ≡ false) (judge_caption scale T 0 (caption a b [] [] p) i)
unfolding judge_caption judge_content judge_texts
six-caption scale T a b i p =
    let P = payload_text p ≡ false in
    let x = text_at i (judged_by identifier_text identifier_begun []) in
    let y = text_at i (judged_by payload_text payload_begun p) in
    let times = bad_times scale T a b gives 10 at i in
    let order = ltb a 0 gives 11 at i in
    let payload : Six i P y = by-test (payload_text p) (six-right i P payload_text payload_begun p) (bad-text i P (judged_by payload_text payload_begun p)) in
    let none : Six i P x = six-right i P identifier_text identifier_begun [] empty-line in
    six-then i P (long_texts 0 0 (length p) gives 9 at i) ((x then (x then y)) then (times then order)) (six-gives i P (long_texts 0 0 (length p)) 9 (λ q. omega arith))
    (six-then i P (x then (x then y)) (times then order) (six-then i P x (x then y) none (six-then i P x y none payload))
    (six-then i P times order (six-gives i P (bad_times scale T a b) 10 (λ q. omega arith)) (six-gives i P (ltb a 0) 11 (λ q. omega arith))))

six-told : (t : Bool) (scale k b i : ℕ) (x : Told) → Six i (payload_text x.payload ≡ false) (judge_told t scale k b i x)
six-told true scale k b i x =
    let c = caption (back scale b) (back scale (b + x.duration)) [] [] x.payload in
    six-then i (payload_text x.payload ≡ false) (leb 1024 k gives 9 at i) (judge_caption scale 359999999 0 c i)
    (six-gives i (payload_text x.payload ≡ false) (leb 1024 k) 9 (λ q. omega arith))
    (six-caption scale 359999999 (back scale b) (back scale (b + x.duration)) i x.payload)
six-told false scale k b i x = tt

-- a refusal by 6 is that of a sample with a bad payload, which is the place
pub record BadAt (ts : List Told) (i : ℕ) (r : Refusal) : Type 0 where
  pub number : ℕ
  pub inside : number < length ts
  pub place : r.place ≡ i + number
  pub bad : payload_text (get_or ts number no_told).payload ≡ false

six-tolds : (scale : ℕ) (ts : List Told) (k b i : ℕ) (r : Refusal) → judge_tolds scale k b i ts ≡ Refused r → r.number ≡ 6 → BadAt ts i r
unfolding judge_tolds
six-tolds scale [] k b i r e q = let z : ◌≡◌ {A = ℕ} 0 1 = cc in absurd (omega arith)
six-tolds scale (t ∷ ts) k b i r e q =
    go (judge_told (has_text t.payload) scale k b i t) (six-told (has_text t.payload) scale k b i t) e
    (λ f. six-tolds scale ts (counting (has_text t.payload) k) (b + t.duration) (suc i) r f q)
  where
    go : (v : Verdict) → Six i (payload_text t.payload ≡ false) v → (v then judge_tolds scale (counting (has_text t.payload) k) (b + t.duration) (suc i) ts) ≡ Refused r
        → (judge_tolds scale (counting (has_text t.payload) k) (b + t.duration) (suc i) ts ≡ Refused r → BadAt ts (suc i) r) → BadAt (t ∷ ts) i r
    go Fine s f rest = let w = rest f in record { number = suc w.number; inside = omega (arith, w.inside); place = omega (arith, w.place); bad = w.bad }
    go (Refused x) s f rest =
        let y : x ≡ r = cc in
        let w = s (ap (λ (z : Refusal). z.number) y ∙ q) in
        record { number = 0; inside = omega arith; place = omega (arith, w.0, ap (λ (z : Refusal). z.place) y); bad = w.1 }

-- ---- of a conversion

-- whose fault an answer is
by-scale : (t : Bool) (x : Converted) (r : Refusal) → by_track (t gives 10 at 0) x ≡ BadTrack r → r.number ≡ 6 → x ≡ BadTrack r
unfolding fault
by-scale true x r q n = let y : fault 10 0 ≡ r = cc in absurd (omega (arith, ap (λ (z : Refusal). z.number) y))
by-scale false x r q n = q

by-entry : (v : Verdict) (x : Converted) (r : Refusal) → by_entry v x ≡ BadTrack r → x ≡ BadTrack r
by-entry Fine x r q = q
by-entry (Refused w) x r q = let z : ◌≡◌ {A = ℕ} 0 1 = cc in absurd (omega arith)

by-track : (v : Verdict) (n a b t : ℕ) (c : Counts) (r : Refusal) → by_track v (Done n a b t c) ≡ BadTrack r → v ≡ Refused r
by-track Fine n a b t c r q = let z : ◌≡◌ {A = ℕ} 0 1 = cc in absurd (omega arith)
by-track (Refused w) n a b t c r q = let y : w ≡ r = cc in ap Refused y

-- the samples, then T
by-samples : (v : Verdict) (t : Bool) (k : ℕ) (r : Refusal) → v then t gives 10 at k ≡ Refused r → r.number ≡ 6 → v ≡ Refused r
unfolding fault
by-samples (Refused w) t k r q n = q
by-samples Fine true k r q n = let y : fault 10 k ≡ r = cc in absurd (omega (arith, ap (λ (z : Refusal). z.number) y))
by-samples Fine false k r q n = let z : ◌≡◌ {A = ℕ} 0 1 = cc in absurd (omega arith)

module _ (scale : ℕ) (e table samples : List ℕ) where
  six-so : (r : Refusal) → judge_stock e table samples ≡ Fine → convert_room scale e table samples ≡ BadTrack r → r.number ≡ 6 → judge_tolds scale 0 0 0 (told_of e table samples) ≡ Refused r
  unfolding convert_room judge_cues done_with
  six-so r f q n =
      let a = by-scale (not (scale_allowed scale)) _ r q n in
      let b = by-entry (judge_entry e) _ r a in
      let d = by-track (judge_cues scale e table samples) _ _ _ _ _ r b in
      by-samples (judge_tolds scale 0 0 0 (told_of e table samples)) (not (timeline_allowed scale (stock_ms scale e table samples))) (length (stock_cues e table samples)) r (sym (then-fine _ _ f) ∙ d) n

  pub sample-bytes : bytes samples ≡ true → (i : ℕ) → bytes (bytes_of table samples i) ≡ true
  unfolding bytes_of
  sample-bytes b i = part_bytes samples _ _ (byte_at samples b)

pub only-zeros : OnlyZeros
only-zeros scale e table samples r b f q n =
    let w = six-tolds scale (told_of e table samples) 0 0 0 r (six-so scale e table samples r f q n) n in
    let i = w.number in
    let h : i < row_count table = omega (arith, w.inside, length-told e table samples) in
    let p : r.place ≡ i = omega (arith, w.place) in
    let bad : payload_text (payload_in e (bytes_of table samples i)) ≡ false = ap (λ (t : Told). payload_text t.payload) (sym (told_at_lem e table samples i h)) ∙ w.bad in
    let rule = sample-rule e (bytes_of table samples i) (sample-bytes scale e table samples b i) (row_reads e table samples f i h) in
    (omega arith, ap (λ (k : ℕ). has_zero (characters_at (bytes_of table samples k))) p ∙ not-false (has_zero (characters_at (bytes_of table samples i))) (sym rule.ruled ∙ bad))

pub no-zeros : NoZeros
no-zeros scale e table samples n r p T c b q i h =
    let so = done-so scale e table samples n r p T c q in
    let x = payload_in e (bytes_of table samples i) in
    let rule = sample-rule e (bytes_of table samples i) (sample-bytes scale e table samples b i) (row_reads e table samples so.track i h) in
    not-true (has_zero (characters_at (bytes_of table samples i))) (sym rule.ruled ∙ right x refl)
  where
    right : (x : List ℕ) → payload_in e (bytes_of table samples i) ≡ x → payload_text (payload_in e (bytes_of table samples i)) ≡ true
    right [] y = ap payload_text y ∙ empty-payload
    right (a ∷ x) y =
        let are = each-is-a-sample e table samples in
        let w = are.all i h (λ z. let k : ◌≡◌ {A = ℕ} 0 1 = cc in omega arith) in
        let s = (cue-sound scale e table samples n r p T c q w.0 w.1).sound.payload_right in
        let cue = are.each w.0 w.1 in
        ap (λ (k : ℕ). payload_text (payload_in e (bytes_of table samples k))) (sym w.2) ∙ ap payload_text (sym cue.payload) ∙ s
