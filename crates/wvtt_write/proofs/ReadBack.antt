-- Reading a sample that was written finds no fault in it, and gives its cues back.
use Prim.Native.Nat.{ℕ, zero, suc, ◌+◌, ◌-◌, ◌≤◌, ◌<◌}
use mathlib.Core.Path.{◌≡◌, refl, sym, ap, ◌∙◌}
use mathlib.Core.List.{List, [], ◌∷◌, ◌++◌, append_assoc, append-nil}
use mathlib.Core.Bool.{Bool, true, false, not}
use mathlib.Core.Option.{Option, none, some}
use native.Mathlib.Omega.{arith}
use native.Mathlib.Nat.{le_refl, zero-add}
use lib.Dec.{eqb}
use lib.ListN.{length, length-append}
use borrow.Author.Tests.{le-ltb, lt-leb, ne_eqb}
use Rattle.base.specs.Choice.{pick, both}
use Rattle.verdict.specs.Verdict.{Verdict, Fine}
use Rattle.verdict.specs.Judgement.{◌gives◌at◌}
use Rattle.verdict.proofs.Judgement.{text-right}
use Rattle.fields.specs.BigEndian.{be, bytes}
use Rattle.fields.proofs.BigEndian.{length-bytes, be-bytes}
use Rattle.boxes.specs.Boxes.{boxes_f, boxes_in, passed, judged, among, times, part}
use Rattle.boxes.specs.Written.{Item, box_bytes, item_bytes, Fitting, laid}
use Rattle.boxes.proofs.Written.{length-box, around, part-written, pass-box, length-pass, boxes-written, be-part}
use Rattle.timeline.specs.Cues.{Body}
use Rattle.wvtt.specs.Kinds.{vttc, vtte, vsid, iden, sttg, payl, line, single}
use Rattle.wvtt.specs.Sample.{judge_id, judge_text, judge_body, in_cue, end_cue, judge_cue, in_sample, end_sample, judge_sample}
use Rattle.text.specs.Rules.{identifier_text, payload_text}
use Rattle.text.specs.Beginnings.{identifier_begun, payload_begun}
use Rattle.wvtt.specs.Sound.{Sound, AllSound}
use Rattle.boxes.specs.declared.Part.{Part}
use Rattle.wvtt_cues.specs.Cues.{nowhere, placed, body_of, with_id, parts_of, text_of, held_by, cues_in, sample_cues}
use Rattle.wvtt_write.specs.Written.{id_item, if_any, text_items, cue_items, cue_bytes, cues_bytes, sample_bytes, any_size, texts_size}
use Rattle.wvtt_write.specs.ReadBack.{SampleFine, SampleHeld}
use Rattle.wvtt_write.proofs.Laws.{length-texts}

-- the bytes of items, with q before and r behind them
unfoldable inside : List ℕ → List Item → List ℕ → List ℕ
inside q xs r = q ++ (item_bytes xs ++ r)

-- with the first item they are that item's box, and the rest behind it
first-is : (q : List ℕ) (x : Item) (xs : List Item) (r : List ℕ) → inside q (x ∷ xs) r ≡ around q x.kind x.body (item_bytes xs ++ r)
unfolding inside item_bytes around
first-is q x xs r = ap (λ (w : List ℕ). q ++ w) (append_assoc (box_bytes x.kind x.body) (item_bytes xs) r)

rest-is : (q : List ℕ) (x : Item) (xs : List Item) (r : List ℕ) → inside q (x ∷ xs) r ≡ inside (q ++ box_bytes x.kind x.body) xs r
unfolding inside item_bytes
rest-is q x xs r = pass-box q x.kind x.body (item_bytes xs) r

-- the body of the first item
first_part : (q : List ℕ) (x : Item) (xs : List Item) (r : List ℕ) → part (inside q (x ∷ xs) r) (length q + 8) (length q + 8 + length x.body) ≡ x.body
first_part q x xs r = rw (first-is q x xs r) (part-written q x.kind x.body (item_bytes xs ++ r))

-- ---- no fault

-- the body is judged without fault wherever it stands
GoodItem : Item → Type 0
GoodItem x = (s : List ℕ) (p b n : ℕ) → part s b n ≡ x.body → n ≡ b + length x.body → judge_body s p x.kind b n ≡ Fine

-- each item is good, and none that may be there once is there again
AllGood : List ℕ → List Item → Type 0
AllGood before [] = Unit {0}
AllGood before (x ∷ xs) = GoodItem x × (both (single x.kind) (among x.kind before) ≡ false) × AllGood (x.kind ∷ before) xs

unfoldable kinds_after : List ℕ → List Item → List ℕ
kinds_after before [] = before
kinds_after before (x ∷ xs) = kinds_after (x.kind ∷ before) xs

good-box : (s : List ℕ) (p b n : ℕ) (before : List ℕ) (x : Item) → GoodItem x → both (single x.kind) (among x.kind before) ≡ false → part s b n ≡ x.body → n ≡ b + length x.body
    → in_cue s before p x.kind b n ≡ Fine
unfolding in_cue GoodItem
good-box s p b n before x g o e l = rw o (g s p b n e l)

items-judged : (last : List ℕ → Verdict) (xs : List Item) (q r before : List ℕ) → AllGood before xs
    → judged (in_cue (inside q xs r)) last before (laid (length q) xs) ≡ last (kinds_after before xs)
unfolding AllGood kinds_after laid judged
items-judged last [] q r before g = refl
items-judged last (x ∷ xs) q r before g =
    let s = inside q (x ∷ xs) r in
    let m = length q + 8 + length x.body in
    let good : in_cue s before (length q) x.kind (length q + 8) m ≡ Fine = good-box s (length q) (length q + 8) m before x g.0 g.1 (first_part q x xs r) refl in
    let q' = q ++ box_bytes x.kind x.body in
    let ih : judged (in_cue (inside q' xs r)) last (x.kind ∷ before) (laid (length q') xs) ≡ last (kinds_after (x.kind ∷ before) xs) = items-judged last xs q' r (x.kind ∷ before) g.2 in
    let ih' : judged (in_cue s) last (x.kind ∷ before) (laid m xs) ≡ last (kinds_after (x.kind ∷ before) xs) =
    ap (λ (w : List ℕ). judged (in_cue w) last (x.kind ∷ before) (laid m xs)) (rest-is q x xs r)
    ∙ ap (λ (k : ℕ). judged (in_cue (inside q' xs r)) last (x.kind ∷ before) (laid k xs)) (sym (length-pass q x.kind x.body))
    ∙ ih in
    rw good ih'

good-id : (n : ℕ) → n < 2147483648 → GoodItem (record { kind = vsid; body = bytes 4 n })
unfolding GoodItem judge_body judge_id
good-id n h s p b m e l =
    let z = length-bytes 4 n in
    let w : be 4 s b ≡ n = sym (be-part 4 s b m (omega arith)) ∙ ap (λ (x : List ℕ). be 4 x 0) e ∙ be-bytes 4 n (omega arith) in
    rw (w, le-ltb (m - b) 4 (omega arith), le-ltb 4 (m - b) (omega arith), lt-leb 2147483648 n h)

text-fine : (rule begun : List ℕ → Bool) (limit : ℕ) (t s : List ℕ) (p b m : ℕ) → length t ≤ limit → rule t ≡ true → part s b m ≡ t → m ≡ b + length t → judge_text rule begun limit s p b m ≡ Fine
unfolding judge_text
text-fine rule begun limit t s p b m h r e l = rw (le-ltb limit (m - b) (omega arith), e) (text-right rule begun p t r)

good-payload : (t : List ℕ) → length t ≤ 4095 → payload_text t ≡ true → GoodItem (record { kind = payl; body = t })
unfolding GoodItem judge_body
good-payload t h r s p b m e l = text-fine payload_text payload_begun 4095 t s p b m h r e l

good-identifier : (t : List ℕ) → length t ≤ 255 → identifier_text t ≡ true → GoodItem (record { kind = iden; body = t })
unfolding GoodItem judge_body line
good-identifier t h r s p b m e l = text-fine identifier_text identifier_begun 255 t s p b m h r e l

good-settings : (t : List ℕ) → length t ≤ 255 → identifier_text t ≡ true → GoodItem (record { kind = sttg; body = t })
unfolding GoodItem judge_body line
good-settings t h r s p b m e l = text-fine identifier_text identifier_begun 255 t s p b m h r e l

-- the items of a cue are good, and a payload is among them
texts-good : (i g t before : List ℕ) → among iden before ≡ false → among sttg before ≡ false → among payl before ≡ false
    → length i ≤ 255 → identifier_text i ≡ true → length g ≤ 255 → identifier_text g ≡ true → length t ≤ 4095 → payload_text t ≡ true
    → AllGood before (if_any iden i ++ (if_any sttg g ++ record { kind = payl; body = t } ∷ []))
unfolding AllGood single line among
texts-good [] [] t before ni ng np hi ri hg rg ht rt = (good-payload t ht rt, np, tt)
texts-good [] (y ∷ g) t before ni ng np hi ri hg rg ht rt = (good-settings (y ∷ g) hg rg, ng, (good-payload t ht rt, np, tt))
texts-good (x ∷ i) [] t before ni ng np hi ri hg rg ht rt = (good-identifier (x ∷ i) hi ri, ni, (good-payload t ht rt, np, tt))
texts-good (x ∷ i) (y ∷ g) t before ni ng np hi ri hg rg ht rt = (good-identifier (x ∷ i) hi ri, ni, (good-settings (y ∷ g) hg rg, ng, (good-payload t ht rt, np, tt)))

texts-payload : (i g t before : List ℕ) → among payl (kinds_after before (if_any iden i ++ (if_any sttg g ++ record { kind = payl; body = t } ∷ []))) ≡ true
unfolding kinds_after among
texts-payload [] [] t before = refl
texts-payload [] (y ∷ g) t before = refl
texts-payload (x ∷ i) [] t before = refl
texts-payload (x ∷ i) (y ∷ g) t before = refl

cue-good : (y : Body) → Sound y → AllGood [] (cue_items y)
unfolding cue_items text_items AllGood single among
cue-good y h = go y.id h.id_below
  where
    go : (n : Option ℕ) → ((m : ℕ) → n ≡ some m → m < 2147483648) → AllGood [] (id_item n ++ (if_any iden y.identifier ++ (if_any sttg y.settings ++ record { kind = payl; body = y.payload } ∷ [])))
    go none f = texts-good y.identifier y.settings y.payload [] refl refl refl h.identifier_most h.identifier_right h.settings_most h.settings_right h.payload_most h.payload_right
    go (some n) f = (good-id n (f n refl), refl, texts-good y.identifier y.settings y.payload (vsid ∷ []) refl refl refl h.identifier_most h.identifier_right h.settings_most h.settings_right h.payload_most h.payload_right)

cue-payload : (y : Body) → among payl (kinds_after [] (cue_items y)) ≡ true
unfolding cue_items text_items kinds_after
cue-payload y = go y.id
  where
    go : (n : Option ℕ) → among payl (kinds_after [] (id_item n ++ (if_any iden y.identifier ++ (if_any sttg y.settings ++ record { kind = payl; body = y.payload } ∷ [])))) ≡ true
    go none = texts-payload y.identifier y.settings y.payload []
    go (some n) = texts-payload y.identifier y.settings y.payload (vsid ∷ [])

-- the boxes of a cue in the middle of a sample, read again
cue-fits : (y : Body) → Sound y → Fitting (cue_items y)
unfolding cue_items text_items Fitting
cue-fits y h = go y.id
  where
    texts : (i g t : List ℕ) → length i ≤ 255 → length g ≤ 255 → length t ≤ 4095 → Fitting (if_any iden i ++ (if_any sttg g ++ record { kind = payl; body = t } ∷ []))
    texts [] [] t a b d = (omega arith, omega arith, tt)
    texts [] (y ∷ g) t a b d = (omega arith, omega arith, (omega arith, omega arith, tt))
    texts (x ∷ i) [] t a b d = (omega arith, omega arith, (omega arith, omega arith, tt))
    texts (x ∷ i) (y ∷ g) t a b d = (omega arith, omega arith, (omega arith, omega arith, (omega arith, omega arith, tt)))

    go : (n : Option ℕ) → Fitting (id_item n ++ (if_any iden y.identifier ++ (if_any sttg y.settings ++ record { kind = payl; body = y.payload } ∷ [])))
    go none = texts y.identifier y.settings y.payload h.identifier_most h.settings_most h.payload_most
    go (some n) = (omega arith, omega (arith, length-bytes 4 n), texts y.identifier y.settings y.payload h.identifier_most h.settings_most h.payload_most)

-- ---- the cues

-- the text that items give for a kind, d where none does
unfoldable lookup : ℕ → List ℕ → List Item → List ℕ
lookup k d [] = d
lookup k d (x ∷ xs) = lookup k (pick (eqb x.kind k) x.body d) xs

text-pick : (c : Bool) (s : List ℕ) (b n : ℕ) (x : Part) → text_of s (pick c (record { from = b; end = n }) x) ≡ pick c (part s b n) (text_of s x)
unfolding text_of
text-pick true s b n x = refl
text-pick false s b n x = refl

text-laid : (k : ℕ) (xs : List Item) (q r : List ℕ) (x : Part) → text_of (inside q xs r) (body_of k x (laid (length q) xs)) ≡ lookup k (text_of (inside q xs r) x) xs
unfolding body_of laid lookup placed
text-laid k [] q r x = refl
text-laid k (y ∷ xs) q r x =
    let s = inside q (y ∷ xs) r in
    let m = length q + 8 + length y.body in
    let z : Part = pick (eqb y.kind k) (record { from = length q + 8; end = m }) x in
    let q' = q ++ box_bytes y.kind y.body in
    let ih : text_of (inside q' xs r) (body_of k z (laid (length q') xs)) ≡ lookup k (text_of (inside q' xs r) z) xs = text-laid k xs q' r z in
    let ih' : text_of s (body_of k z (laid m xs)) ≡ lookup k (text_of s z) xs =
    ap (λ (w : List ℕ). text_of w (body_of k z (laid m xs))) (rest-is q y xs r)
    ∙ ap (λ (j : ℕ). text_of (inside q' xs r) (body_of k z (laid j xs))) (sym (length-pass q y.kind y.body))
    ∙ ih
    ∙ ap (λ (w : List ℕ). lookup k (text_of w z) xs) (sym (rest-is q y xs r)) in
    ih' ∙ ap (λ (w : List ℕ). lookup k w xs) (text-pick (eqb y.kind k) s (length q + 8) m x ∙ ap (λ (w : List ℕ). pick (eqb y.kind k) w (text_of s x)) (first_part q y xs r))

-- texts look up as themselves
look-texts : (i g t : List ℕ) → let xs = if_any iden i ++ (if_any sttg g ++ record { kind = payl; body = t } ∷ []) in
    (lookup iden [] xs ≡ i) × (lookup sttg [] xs ≡ g) × (lookup payl [] xs ≡ t)
unfolding lookup
look-texts [] [] t = (refl, refl, refl)
look-texts [] (y ∷ g) t = (refl, refl, refl)
look-texts (x ∷ i) [] t = (refl, refl, refl)
look-texts (x ∷ i) (y ∷ g) t = (refl, refl, refl)

-- no text is an ID
no-id : (from : ℕ) (x : Part) (i g t : List ℕ) → body_of vsid x (laid from (if_any iden i ++ (if_any sttg g ++ record { kind = payl; body = t } ∷ []))) ≡ x
unfolding body_of laid placed
no-id from x [] [] t = refl
no-id from x [] (y ∷ g) t = refl
no-id from x (z ∷ i) [] t = refl
no-id from x (z ∷ i) (y ∷ g) t = refl

same-fields : {x y : Body} → x.id ≡ y.id → x.identifier ≡ y.identifier → x.settings ≡ y.settings → x.payload ≡ y.payload → x ≡ y
same-fields a b d e = λ i. record { id = a i; identifier = b i; settings = d i; payload = e i }

no_text : (s : List ℕ) → text_of s nowhere ≡ []
unfolding text_of nowhere part
no_text s = refl

-- the text of a kind among a cue's items
cue-text : (k : ℕ) (y : Body) (q r t : List ℕ) → lookup k [] (cue_items y) ≡ t → let s = inside q (cue_items y) r in text_of s (body_of k nowhere (laid (length q) (cue_items y))) ≡ t
cue-text k y q r t e = text-laid k (cue_items y) q r nowhere ∙ ap (λ (w : List ℕ). lookup k w (cue_items y)) (no_text (inside q (cue_items y) r)) ∙ e

cue-looks : (y : Body) → (lookup iden [] (cue_items y) ≡ y.identifier) × (lookup sttg [] (cue_items y) ≡ y.settings) × (lookup payl [] (cue_items y) ≡ y.payload)
unfolding cue_items text_items lookup
cue-looks y = go y.id (look-texts y.identifier y.settings y.payload)
  where
    go : (n : Option ℕ) → let xs = if_any iden y.identifier ++ (if_any sttg y.settings ++ record { kind = payl; body = y.payload } ∷ []) in
        (lookup iden [] xs ≡ y.identifier) × (lookup sttg [] xs ≡ y.settings) × (lookup payl [] xs ≡ y.payload)
        → (lookup iden [] (id_item n ++ xs) ≡ y.identifier) × (lookup sttg [] (id_item n ++ xs) ≡ y.settings) × (lookup payl [] (id_item n ++ xs) ≡ y.payload)
    go none e = e
    go (some n) e = e

-- the ID: named exactly if there is one
id_of : List ℕ → Part → Option ℕ
id_of s v = pick (eqb (v.end - v.from) 4) (some (pick (eqb (v.end - v.from) 4) (be 4 s v.from) 0)) none

id-at : (s : List ℕ) (b m n : ℕ) → m ≡ b + 4 → part s b m ≡ bytes 4 n → n < 4294967296 → id_of s (record { from = b; end = m }) ≡ some n
unfolding id_of
id-at s b m n l e h =
    let d : m - b ≡ 4 = omega arith in
    let w : be 4 s b ≡ n = sym (be-part 4 s b m (omega arith)) ∙ ap (λ (x : List ℕ). be 4 x 0) e ∙ be-bytes 4 n h in
    rw (d, w)

no-named : (s : List ℕ) (from : ℕ) (i g t : List ℕ) → id_of s (body_of vsid nowhere (laid from (if_any iden i ++ (if_any sttg g ++ record { kind = payl; body = t } ∷ [])))) ≡ none
unfolding id_of nowhere
no-named s from i g t = rw (no-id from nowhere i g t)

one-named : (q r : List ℕ) (n : ℕ) (i g t : List ℕ) → n < 2147483648 → let xs : List Item = record { kind = vsid; body = bytes 4 n } ∷ (if_any iden i ++ (if_any sttg g ++ record { kind = payl; body = t } ∷ [])) in
    id_of (inside q xs r) (body_of vsid nowhere (laid (length q) xs)) ≡ some n
unfolding body_of laid placed
one-named q r n i g t h =
    let xs : List Item = if_any iden i ++ (if_any sttg g ++ record { kind = payl; body = t } ∷ []) in
    let x : Item = record { kind = vsid; body = bytes 4 n } in
    let m = length q + 8 + length (bytes 4 n) in
    let v : Part = record { from = length q + 8; end = m } in
    ap (id_of (inside q (x ∷ xs) r)) (no-id m v i g t)
    ∙ id-at (inside q (x ∷ xs) r) (length q + 8) m n (ap (λ (k : ℕ). length q + 8 + k) (length-bytes 4 n)) (first_part q x xs r) (omega arith)

cue-id : (y : Body) (q r : List ℕ) → Sound y → id_of (inside q (cue_items y) r) (body_of vsid nowhere (laid (length q) (cue_items y))) ≡ y.id
unfolding cue_items text_items
cue-id y q r h = go y.id h.id_below
  where
    xs : List Item
    xs = if_any iden y.identifier ++ (if_any sttg y.settings ++ record { kind = payl; body = y.payload } ∷ [])

    go : (n : Option ℕ) → ((m : ℕ) → n ≡ some m → m < 2147483648) → id_of (inside q (id_item n ++ xs) r) (body_of vsid nowhere (laid (length q) (id_item n ++ xs))) ≡ n
    go none f = no-named (inside q xs r) (length q) y.identifier y.settings y.payload
    go (some n) f = one-named q r n y.identifier y.settings y.payload (f n refl)

cue-held : (y : Body) (q r : List ℕ) → Sound y → let s = inside q (cue_items y) r in held_by s (parts_of s (laid (length q) (cue_items y))) ≡ y
unfolding held_by parts_of with_id id_of
cue-held y q r h =
    let l = cue-looks y in
    same-fields (cue-id y q r h) (cue-text iden y q r y.identifier l.0) (cue-text sttg y q r y.settings l.1) (cue-text payl y q r y.payload l.2)

-- ---- a cue in a sample

-- a cue as a box of a sample
unfoldable cue_box : Body → Item
cue_box y = record { kind = vttc; body = item_bytes (cue_items y) }

unfoldable header : Body → List ℕ
header y = bytes 4 (length (item_bytes (cue_items y)) + 8) ++ bytes 4 vttc

length-header : (q : List ℕ) (y : Body) → length (q ++ header y) ≡ length q + 8
unfolding header
length-header q y = simp (length-append, length-bytes)

cue-inside : (q : List ℕ) (y : Body) (xs : List Item) (r : List ℕ) → inside q (cue_box y ∷ xs) r ≡ inside (q ++ header y) (cue_items y) (item_bytes xs ++ r)
unfolding inside cue_box header item_bytes box_bytes
cue-inside q y xs r =
    let c = item_bytes (cue_items y) in
    let a = bytes 4 (length c + 8) in
    let b = bytes 4 vttc in
    ap (λ (w : List ℕ). q ++ w) (append_assoc (a ++ (b ++ c)) (item_bytes xs) r ∙ ap (λ (w : List ℕ). w ++ (item_bytes xs ++ r)) (sym (append_assoc a b c)) ∙ append_assoc (a ++ b) c (item_bytes xs ++ r))
    ∙ sym (append_assoc q (a ++ b) (c ++ (item_bytes xs ++ r)))

-- the bytes of the cue's boxes, and where they end
unfoldable cue_end : List ℕ → Body → ℕ
cue_end q y = length q + 8 + length (item_bytes (cue_items y))

items-read : (xs : List Item) (p r : List ℕ) → Fitting xs → boxes_in (inside p xs r) (length p) (length p + length (item_bytes xs)) ≡ laid (length p) xs
unfolding inside
items-read xs p r f = boxes-written xs p r (length p + length (item_bytes xs)) f refl

cue-boxes : (q : List ℕ) (y : Body) (xs : List Item) (r : List ℕ) → Sound y → boxes_in (inside q (cue_box y ∷ xs) r) (length q + 8) (cue_end q y) ≡ laid (length q + 8) (cue_items y)
unfolding cue_end
cue-boxes q y xs r h = rw (cue-inside q y xs r, ← length-header q y) (items-read (cue_items y) (q ++ header y) (item_bytes xs ++ r) (cue-fits y h))

-- its boxes are whole
laid-whole : (p : ℕ) (xs : List Item) → passed (laid p xs) ≡ Fine
unfolding laid passed
laid-whole p [] = refl
laid-whole p (x ∷ xs) = laid-whole (p + 8 + length x.body) xs

cue-whole : (q : List ℕ) (y : Body) (xs : List Item) (r : List ℕ) → Sound y → passed (boxes_in (inside q (cue_box y ∷ xs) r) (length q + 8) (cue_end q y)) ≡ Fine
cue-whole q y xs r h = rw (cue-boxes q y xs r h) (laid-whole (length q + 8) (cue_items y))

-- the cue is read without fault
cue-fine : (q : List ℕ) (y : Body) (xs : List Item) (r : List ℕ) (p : ℕ) → Sound y → judge_cue (inside q (cue_box y ∷ xs) r) p (length q + 8) (cue_end q y) ≡ Fine
unfolding judge_cue
cue-fine q y xs r p h =
    rw (cue-boxes q y xs r h, cue-inside q y xs r, ← length-header q y)
    (items-judged (end_cue p) (cue_items y) (q ++ header y) (item_bytes xs ++ r) [] (cue-good y h) ∙ ap (λ (b : Bool). not b gives 4 at p) (cue-payload y))

-- and comes back as it was
cue-read : (q : List ℕ) (y : Body) (xs : List Item) (r : List ℕ) → Sound y
    → let s = inside q (cue_box y ∷ xs) r in held_by s (parts_of s (boxes_in s (length q + 8) (cue_end q y))) ≡ y
cue-read q y xs r h =
    rw (cue-boxes q y xs r h, cue-inside q y xs r, ← length-header q y) (cue-held y (q ++ header y) (item_bytes xs ++ r) h)

-- ---- samples

unfoldable cue_boxes : List Body → List Item
cue_boxes [] = []
cue_boxes (y ∷ ys) = cue_box y ∷ cue_boxes ys

cues-are : (ys : List Body) → cues_bytes ys ≡ item_bytes (cue_boxes ys)
unfolding cues_bytes cue_boxes item_bytes cue_box
cues-are [] = refl
cues-are (y ∷ ys) = ap (λ (w : List ℕ). cue_bytes y ++ w) (cues-are ys)

small : (y : Body) → Sound y → length (item_bytes (cue_items y)) + 8 < 4294967296
unfolding cue_items texts_size item_bytes
small y h = go y.id
  where
    any-most : (n : ℕ) → any_size n ≤ n + 8
    any-most zero = omega arith
    any-most (suc n) = omega arith

    go : (n : Option ℕ) → length (item_bytes (id_item n ++ text_items y)) + 8 < 4294967296
    go none =
        omega (arith, length-texts y, any-most (length y.identifier), any-most (length y.settings), h.identifier_most, h.settings_most, h.payload_most)
    go (some n) =
        rw (length-append, length-box, length-bytes)
        (omega (arith, length-texts y, any-most (length y.identifier), any-most (length y.settings), h.identifier_most, h.settings_most, h.payload_most))

a-cue : (s before : List ℕ) (p b n : ℕ) → judge_cue s p b n ≡ Fine → in_sample s before p vttc b n ≡ Fine
unfolding in_sample
a-cue s before p b n e = e

cues-fit : (ys : List Body) → AllSound ys → Fitting (cue_boxes ys)
unfolding AllSound cue_boxes cue_box Fitting
cues-fit [] h = tt
cues-fit (y ∷ ys) h = (omega arith, small y h.0, cues-fit ys h.1)

-- the cues of a sample are read without fault, and come back in their order
cues-judged : (last : List ℕ → Verdict) (ys : List Body) (q r before : List ℕ) → AllSound ys
    → judged (in_sample (inside q (cue_boxes ys) r)) last before (laid (length q) (cue_boxes ys)) ≡ last (kinds_after before (cue_boxes ys))
unfolding AllSound cue_boxes cue_box cue_end kinds_after laid judged
cues-judged last [] q r before h = refl
cues-judged last (y ∷ ys) q r before h =
    let xs = cue_boxes ys in
    let s = inside q (cue_box y ∷ xs) r in
    let good : in_sample s before (length q) vttc (length q + 8) (cue_end q y) ≡ Fine = a-cue s before (length q) (length q + 8) (cue_end q y) (cue-fine q y xs r (length q) h.0) in
    let q' = q ++ box_bytes vttc (item_bytes (cue_items y)) in
    let ih' : judged (in_sample s) last (vttc ∷ before) (laid (cue_end q y) xs) ≡ last (kinds_after (vttc ∷ before) xs) =
    ap (λ (w : List ℕ). judged (in_sample w) last (vttc ∷ before) (laid (cue_end q y) xs)) (rest-is q (cue_box y) xs r)
    ∙ ap (λ (k : ℕ). judged (in_sample (inside q' xs r)) last (vttc ∷ before) (laid k xs)) (sym (length-pass q vttc (item_bytes (cue_items y))))
    ∙ cues-judged last ys q' r (vttc ∷ before) h.1 in
    rw good ih'

cues-held : (ys : List Body) (q r : List ℕ) → AllSound ys → cues_in (inside q (cue_boxes ys) r) (laid (length q) (cue_boxes ys)) ≡ ys
unfolding AllSound cue_boxes cue_box cue_end laid cues_in
cues-held [] q r h = refl
cues-held (y ∷ ys) q r h =
    let xs = cue_boxes ys in
    let s = inside q (cue_box y ∷ xs) r in
    let q' = q ++ box_bytes vttc (item_bytes (cue_items y)) in
    let ih' : cues_in s (laid (cue_end q y) xs) ≡ ys =
    ap (λ (w : List ℕ). cues_in w (laid (cue_end q y) xs)) (rest-is q (cue_box y) xs r)
    ∙ ap (λ (k : ℕ). cues_in (inside q' xs r) (laid k xs)) (sym (length-pass q vttc (item_bytes (cue_items y))))
    ∙ cues-held ys q' r h.1 in
    rw (cue-whole q y xs r h.0, cue-read q y xs r h.0, ih')

-- at the end of a sample of cues alone there is no fault
kinds-empty : (ys : List Body) (before : List ℕ) → times vtte (kinds_after before (cue_boxes ys)) ≡ times vtte before
unfolding kinds_after cue_boxes cue_box times
kinds-empty [] before = refl
kinds-empty (y ∷ ys) before = kinds-empty ys (vttc ∷ before)

kinds-cues : (ys : List Body) (before : List ℕ) → times vttc before ≤ times vttc (kinds_after before (cue_boxes ys))
unfolding kinds_after cue_boxes cue_box times
kinds-cues [] before = le_refl (times vttc before)
kinds-cues (y ∷ ys) before = omega (arith, kinds-cues ys (vttc ∷ before))

some-cues : (y : Body) (ys : List Body) → end_sample (kinds_after [] (cue_boxes (y ∷ ys))) ≡ Fine
unfolding kinds_after cue_boxes cue_box times
some-cues y ys =
    let n = times vttc (kinds_after (vttc ∷ []) (cue_boxes ys)) in
    let l : 1 ≤ n = kinds-cues ys (vttc ∷ []) in
    let z : (n ≡ 0 → ⊥) = λ e. omega arith in
    rw (kinds-empty ys (vttc ∷ []), ne_eqb n 0 z)

-- cues alone as a sample
alone : (xs : List Item) → item_bytes xs ≡ inside [] xs []
unfolding inside
alone xs = sym (append-nil (item_bytes xs))

alone-boxes : (xs : List Item) → Fitting xs → let s = inside [] xs [] in boxes_in s 0 (length s) ≡ laid 0 xs
alone-boxes xs f = ap (λ (n : ℕ). boxes_in (inside [] xs []) 0 n) (ap length (sym (alone xs)) ∙ sym (zero-add (length (item_bytes xs)))) ∙ items-read xs [] [] f

empty-fine : judge_sample (sample_bytes []) ≡ Fine
unfolding judge_sample sample_bytes box_bytes bytes boxes_in boxes_f be judged times passed in_sample
empty-fine = refl

empty-held : sample_cues (sample_bytes []) ≡ []
unfolding sample_cues sample_bytes box_bytes bytes boxes_in boxes_f be cues_in
empty-held = refl

-- a sample that was written is read without fault
pub sample-fine : SampleFine
unfolding judge_sample sample_bytes
sample-fine [] h = empty-fine
sample-fine (y ∷ ys) h =
    let xs = cue_boxes (y ∷ ys) in
    rw (cues-are (y ∷ ys), alone xs, alone-boxes xs (cues-fit (y ∷ ys) h)) (cues-judged end_sample (y ∷ ys) [] [] [] h ∙ some-cues y ys)

-- and its cues come back
pub sample-held : SampleHeld
unfolding sample_cues sample_bytes
sample-held [] h = empty-held
sample-held (y ∷ ys) h =
    let xs = cue_boxes (y ∷ ys) in
    rw (cues-are (y ∷ ys), alone xs, alone-boxes xs (cues-fit (y ∷ ys) h)) (cues-held (y ∷ ys) [] [] h)
