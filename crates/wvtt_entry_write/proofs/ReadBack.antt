-- Reading an entry that was written finds no fault in it, and gives its index and its texts back.
use Prim.Native.Nat.{ℕ, ◌+◌, ◌^◌, ◌≤◌, ◌<◌}
use mathlib.Core.Path.{◌≡◌, refl, sym, ap, ◌∙◌}
use mathlib.Core.List.{List, [], ◌++◌, append_assoc, append-nil}
use mathlib.Core.Bool.{true}
use mathlib.Core.Option.{Option, none, some}
use native.Mathlib.Omega.{arith}
use lib.Dec.{ltb}
use lib.ListN.{length, length-append}
use Rattle.verdict.specs.Verdict.{Fine}
use Rattle.verdict.specs.Judgement.{text_at, ◌gives◌at◌}
use Rattle.verdict.proofs.Judgement.{both-fine, then-fine, text-fine, text-right}
use Rattle.viable.specs.FirstBad.{judged_by}
use Rattle.fields.specs.BigEndian.{be, bytes}
use Rattle.fields.proofs.BigEndian.{length-bytes, be-front, be-behind, be-bytes}
use Rattle.boxes.specs.Boxes.{Boxes, boxes_in, judged, among, part}
use Rattle.boxes.specs.Written.{box_bytes, item_bytes, Fitting, laid}
use Rattle.boxes.proofs.Written.{around, part-written, length-pass, boxes-written}
use Rattle.text.specs.Rules.{configuration_text, label_text}
use Rattle.text.specs.Beginnings.{configuration_begun, label_begun}
use Rattle.entry_head.specs.Head.{judge_head}
use Rattle.entry_head.proofs.Laws.{head-fine}
use Rattle.wvtt_entry.specs.Entry.{wvtt, vtt_c, vlab, judge_content, in_entry, end_entry, judge_entry}
use Rattle.wvtt_entry.specs.Reading.{first_body, or_nowhere, entry_boxes, held_by, read_entry}
use Rattle.wvtt_entry_write.specs.Writing.{entry_items, entry_size, entry_head, entry_bytes, judge_label, judge_texts, judge_written}
use Rattle.wvtt_entry_write.specs.Statements.{label_at, Gives, ReadsBack}
use Rattle.wvtt_entry_write.proofs.Laws.{size-most, length-head, length-entry}
use Rattle.wvtt_entry_write.proofs.Answers.{size_fits}

-- ---- the fixed bytes

-- a number behind k bytes
be-past : (w k v i : ℕ) (q : List ℕ) → be w (bytes k v ++ q) (k + i) ≡ be w q i
be-past w k v i q = ap (λ (n : ℕ). be w (bytes k v ++ q) (n + i)) (sym (length-bytes k v)) ∙ be-behind w (bytes k v) q i

-- a number in front
be-first : (w v : ℕ) (q : List ℕ) → v < 256 ^ w → be w (bytes w v ++ q) 0 ≡ v
be-first w v q h = let l = length-bytes w v in be-front w (bytes w v) q 0 (omega arith) ∙ be-bytes w v h

head-size : (size index : ℕ) → size < 4294967296 → be 4 (entry_head size index) 0 ≡ size
unfolding entry_head
head-size size index h = be-first 4 size _ h

head-type : (size index : ℕ) → be 4 (entry_head size index) 4 ≡ wvtt
unfolding entry_head
head-type size index = be-past 4 4 size 0 _ ∙ be-first 4 wvtt _ (omega arith)

head-index : (size index : ℕ) → index < 65536 → be 2 (entry_head size index) 14 ≡ index
unfolding entry_head
head-index size index h =
    be-past 2 4 size 10 (bytes 4 wvtt ++ (bytes 6 0 ++ bytes 2 index))
    ∙ be-past 2 4 wvtt 6 (bytes 6 0 ++ bytes 2 index)
    ∙ be-past 2 6 0 0 (bytes 2 index)
    ∙ be-bytes 2 index h

module _ (c : List ℕ) (l : Option (List ℕ)) (index : ℕ) where
  -- they stand in the entry
  fixed-at : (w i : ℕ) → i + w ≤ 16 → be w (entry_bytes c l index) i ≡ be w (entry_head (entry_size c l) index) i
  unfolding entry_bytes
  fixed-at w i h = let n = length-head (entry_size c l) index in be-front w (entry_head (entry_size c l) index) (item_bytes (entry_items c l)) i (omega arith)

  head-right : entry_size c l ≤ 4294967295 → judge_head (entry_bytes c l index) 16 wvtt ≡ Fine
  head-right h =
      let n = length-entry c l index in
      let m = size-most c l in
      let s : be 4 (entry_bytes c l index) 0 ≡ entry_size c l = fixed-at 4 0 (omega arith) ∙ head-size (entry_size c l) index (omega arith) in
      let t : be 4 (entry_bytes c l index) 4 ≡ wvtt = fixed-at 4 4 (omega arith) ∙ head-type (entry_size c l) index in
      sym (head-fine (entry_bytes c l index) 16 wvtt (omega arith) (omega arith) (omega arith) (omega arith) t)

  -- ---- the boxes

  boxes-fit : entry_size c l ≤ 4294967295 → Fitting (entry_items c l)
  unfolding entry_items entry_size Fitting
  boxes-fit h = go l h
    where
      go : (x : Option (List ℕ)) → entry_size c x ≤ 4294967295 → Fitting (entry_items c x)
      go none h = (omega arith, omega arith, tt)
      go (some t) h = (omega arith, omega arith, (omega arith, omega arith, tt))

  boxes-read : entry_size c l ≤ 4294967295 → entry_boxes (entry_bytes c l index) ≡ laid 16 (entry_items c l)
  unfolding entry_boxes entry_bytes
  boxes-read h =
      let p = entry_head (entry_size c l) index in
      let b = item_bytes (entry_items c l) in
      let w : boxes_in (p ++ (b ++ [])) (length p) (length (p ++ b)) ≡ laid (length p) (entry_items c l) = boxes-written (entry_items c l) p [] (length (p ++ b)) (boxes-fit h) (length-append p b) in
      rw (append-nil b, length-head (entry_size c l) index) at w

-- ---- the texts, where they stand

-- the body of the first box behind 16 bytes, and of the second
first_part : (p : List ℕ) (k : ℕ) (c r : List ℕ) → length p ≡ 16 → part (p ++ (box_bytes k c ++ r)) 24 (24 + length c) ≡ c
unfolding around
first_part p k c r n = let w = part-written p k c r in rw n at w

second-part : (p : List ℕ) (k : ℕ) (c : List ℕ) (j : ℕ) (t r : List ℕ) → length p ≡ 16
    → part (p ++ (box_bytes k c ++ (box_bytes j t ++ r))) (24 + length c + 8) (24 + length c + 8 + length t) ≡ t
unfolding around
second-part p k c j t r n =
    let m : length (p ++ box_bytes k c) ≡ 24 + length c = length-pass p k c ∙ rw n in
    let w = part-written (p ++ box_bytes k c) j t r in
    ap (λ (s : List ℕ). part s (24 + length c + 8) (24 + length c + 8 + length t)) (sym (append_assoc p (box_bytes k c) (box_bytes j t ++ r)))
    ∙ rw m at w

configuration-part : (c : List ℕ) (l : Option (List ℕ)) (index : ℕ) → part (entry_bytes c l index) 24 (24 + length c) ≡ c
unfolding entry_bytes entry_items item_bytes
configuration-part c l index = first_part (entry_head (entry_size c l) index) _ c _ (length-head (entry_size c l) index)

label-part : (c t : List ℕ) (index : ℕ) → part (entry_bytes c (some t) index) (24 + length c + 8) (24 + length c + 8 + length t) ≡ t
unfolding entry_bytes entry_items item_bytes
label-part c t index = second-part (entry_head (entry_size c (some t)) index) _ c _ t _ (length-head (entry_size c (some t)) index)

-- ---- no fault

configuration-fine : (e c : List ℕ) (p b n : ℕ) → part e b n ≡ c → configuration_text c ≡ true → judge_content e p vtt_c b n ≡ Fine
unfolding judge_content
configuration-fine e c p b n q h = rw q (text-right configuration_text configuration_begun p c h)

label-fine : (e t : List ℕ) (p b n : ℕ) → part e b n ≡ t → label_text t ≡ true → judge_content e p vlab b n ≡ Fine
unfolding judge_content
label-fine e t p b n q h = rw q (text-right label_text label_begun p t h)

boxes-fine : (c : List ℕ) (l : Option (List ℕ)) (index : ℕ) → configuration_text c ≡ true → judge_label l ≡ Fine
    → judged (in_entry (entry_bytes c l index)) end_entry [] (laid 16 (entry_items c l)) ≡ Fine
unfolding entry_items laid judged in_entry among
boxes-fine c none index h k =
    rw (configuration-fine (entry_bytes c none index) c 16 24 (24 + length c) (configuration-part c none index) h)
boxes-fine c (some t) index h k =
    let e = entry_bytes c (some t) index in
    rw (
      configuration-fine e c 16 24 (24 + length c) (configuration-part c (some t) index) h,
      label-fine e t (24 + length c) (24 + length c + 8) (24 + length c + 8 + length t) (label-part c t index) (text-fine label_text label_begun 1 t k),
    )

module _ (c : List ℕ) (l : Option (List ℕ)) (index : ℕ) (h : judge_written c l ≡ Fine) where
  texts-right : (configuration_text c ≡ true) × (judge_label l ≡ Fine)
  unfolding judge_written judge_texts
  texts-right =
      let w = (both-fine (ltb 4294967295 (entry_size c l) gives 9 at 0) (judge_texts c l) h).1 in
      let v = both-fine (text_at 0 (judged_by configuration_text configuration_begun c)) (judge_label l) w in
      (text-fine configuration_text configuration_begun 0 c v.0, v.1)

  entry-fine : judge_entry (entry_bytes c l index) ≡ Fine
  unfolding judge_entry entry_boxes
  entry-fine =
      let e = entry_bytes c l index in
      let w : judged (in_entry e) end_entry [] (entry_boxes e) ≡ Fine = rw (boxes-read c l index (size_fits c l h)) (boxes-fine c l index texts-right.0 texts-right.1) in
      then-fine (judge_head e 16 wvtt) _ (head-right c l index (size_fits c l h)) ∙ w

-- ---- what reading gives

gives-by : (e c : List ℕ) (l : Option (List ℕ)) (index : ℕ) (bs : Boxes) → judge_entry e ≡ Fine → entry_boxes e ≡ bs → be 2 e 14 ≡ index
    → part e (or_nowhere (first_body vtt_c bs)).from (or_nowhere (first_body vtt_c bs)).end ≡ c
    → label_at e (first_body vlab bs) ≡ l
    → Gives e c l index (read_entry e)
unfolding read_entry held_by
gives-by e c l index bs h q i x y = rw (h, q) (i, x, y)

label-given : (c : List ℕ) (l : Option (List ℕ)) (index : ℕ) → label_at (entry_bytes c l index) (first_body vlab (laid 16 (entry_items c l))) ≡ l
unfolding entry_items laid first_body
label-given c none index = refl
label-given c (some t) index = ap some (label-part c t index)

configuration-given : (c : List ℕ) (l : Option (List ℕ)) (index : ℕ) → let bs = laid 16 (entry_items c l) in
    part (entry_bytes c l index) (or_nowhere (first_body vtt_c bs)).from (or_nowhere (first_body vtt_c bs)).end ≡ c
unfolding entry_items laid first_body
configuration-given c l index = configuration-part c l index

pub reads-back : ReadsBack
reads-back c l index i h =
    let f = entry-fine c l index h in
    let b = boxes-read c l index (size_fits c l h) in
    let n : be 2 (entry_bytes c l index) 14 ≡ index = fixed-at c l index 2 14 (omega arith) ∙ head-index (entry_size c l) index i in
    (f, gives-by (entry_bytes c l index) c l index (laid 16 (entry_items c l)) f b n (configuration-given c l index) (label-given c l index))
