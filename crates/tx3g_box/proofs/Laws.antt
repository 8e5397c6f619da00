-- Laws of specs/TextBox.antt: the eight bytes lie within the sample, or within the entry.
use Prim.Native.Nat.{ℕ, ◌+◌, ◌-◌, ◌≤◌}
use mathlib.Core.Path.{◌≡◌, refl, sym, ap, ◌∙◌}
use mathlib.Core.List.{List}
use native.Mathlib.Omega.{arith}
use native.Mathlib.Nat.{add-sub_cancel_left}
use lib.ListN.{length, take, drop, length-take, length-drop}
use Rattle.bodies.specs.Body.{Body, At, Refused as Stopped, Nowhere as NoBody}
use Rattle.tx3g_contents.specs.Kinds.{tbox, single, known}
use Rattle.tx3g_contents.proofs.Laws.{end-tbox}
use Rattle.tx3g_entry.proofs.Laws.{entry-fine}
use Rattle.tx3g_sample.specs.Reading.{Reading, Good, BadEntry as EntryRefused, BadSample as SampleRefused}
use Rattle.tx3g_sample.specs.Sample.{read_sample}
use Rattle.std.proofs.Common.{Err}
use Rattle.tx3g_sample.specs.declared.Fault.{Fault}
use Rattle.tx3g_sample.specs.declared.Fault.TheVariants.{Entry as OfEntry, Sample as OfSample}
use Rattle.tx3g_sample.proofs.Errors.{err_by}
use Rattle.tx3g_sample.proofs.Laws.{read-good, content-lies, boxes-whole}
use Rattle.tx3g_box.specs.Spot.{Spot, Sample, Entry}
use Rattle.tx3g_box.specs.TextBox.{boxes_of, spot_in, spot_by, spot_of, bytes_at}

body-lies : (e s : List ℕ) (n b : ℕ) → read_sample e s ≡ Good n → boxes_of s ≡ At b → b + 8 ≤ length s
unfolding boxes_of known single
body-lies e s n b h q = rw (← end-tbox s tbox b refl) (content-lies e n s tbox b refl (read-good e s n h).modifiers q)

pub sample-fits : (e s : List ℕ) (b : ℕ) → spot_of e s ≡ Sample b → b + 8 ≤ length s
unfolding spot_of
sample-fits e s b h = go (read_sample e s) refl h
  where
    go : (r : Reading) → read_sample e s ≡ r → spot_by s r ≡ Sample b → b + 8 ≤ length s
    go (Good n) q u = body (boxes_of s) refl u
      where
        body : (t : Body) → boxes_of s ≡ t → spot_in t ≡ Sample b → b + 8 ≤ length s
        body (At c) x y = let z : c ≡ b = cc in body-lies e s n b q (x ∙ ap At z)
        body (Stopped r) x y = let z : ◌≡◌ {A = ℕ} 0 1 = cc in absurd (omega arith)
        body NoBody x y = let z : ◌≡◌ {A = ℕ} 0 1 = cc in absurd (omega arith)
    go (EntryRefused r) q u = let z : ◌≡◌ {A = ℕ} 0 1 = cc in absurd (omega arith)
    go (SampleRefused r) q u = let z : ◌≡◌ {A = ℕ} 0 1 = cc in absurd (omega arith)

pub entry-fits : (e s : List ℕ) → spot_of e s ≡ Entry → 46 ≤ length e
unfolding spot_of
entry-fits e s h = go (read_sample e s) refl h
  where
    go : (r : Reading) → read_sample e s ≡ r → spot_by s r ≡ Entry → 46 ≤ length e
    go (Good n) q u = (entry-fine e (read-good e s n q).entry).long
    go (EntryRefused r) q u = let z : ◌≡◌ {A = ℕ} 0 1 = cc in absurd (omega arith)
    go (SampleRefused r) q u = let z : ◌≡◌ {A = ℕ} 0 1 = cc in absurd (omega arith)

-- the part from b to b + 8
pub eight : (s : List ℕ) (b : ℕ) → take (b + 8 - b) (drop b s) ≡ take 8 (drop b s)
eight s b = ap (λ (k : ℕ). take k (drop b s)) (add-sub_cancel_left b 8)

-- the box of a sample without fault has eight bytes
pub box-long : (e s : List ℕ) (n : ℕ) → read_sample e s ≡ Good n → length (bytes_at e s (spot_of e s)) ≡ 8
unfolding spot_of boxes_of
box-long e s n h = rw h (go (boxes_of s) refl)
  where
    go : (t : Body) → boxes_of s ≡ t → length (bytes_at e s (spot_in t)) ≡ 8
    go (At b) q = let w = body-lies e s n b h q in rw (length-take 8 (drop b s), length-drop b s) (omega arith)
    go (Stopped r) q = absurd (boxes-whole e n s tbox r (read-good e s n h).modifiers q)
    go NoBody q = let w = (entry-fine e (read-good e s n h).entry).long in rw (length-take 8 (drop 26 e), length-drop 26 e) (omega arith)

-- so do those that are handed out
pub sample-eight : (e s : List ℕ) (b : ℕ) (p : Spot) → p ≡ spot_of e s → p ≡ Sample b → 8 ≤ length (bytes_at e s p)
sample-eight e s b p h q = let w = sample-fits e s b (sym h ∙ q) in rw q (rw (length-take 8 (drop b s), length-drop b s) (omega arith))

pub entry-eight : (e s : List ℕ) (p : Spot) → p ≡ spot_of e s → p ≡ Entry → 8 ≤ length (bytes_at e s p)
entry-eight e s p h q = let w = entry-fits e s (sym h ∙ q) in rw q (rw (length-take 8 (drop 26 e), length-drop 26 e) (omega arith))

-- a fault is passed up: of the reading, and of a header before the box
pub unread : (s : List ℕ) (t : Reading) (d : Fault) → t ≡ Err d → spot_by s t ≡ Err d
unread s (Good n) d h = let z : ◌≡◌ {A = ℕ} 0 1 = cc in absurd (omega arith)
unread s (EntryRefused r) d h = let z : OfEntry r ≡ d = cc in ap Err z
unread s (SampleRefused r) d h = let z : OfSample r ≡ d = cc in ap Err z

pub spot-by : (t : Body) → err_by OfSample t ≡ spot_in t
spot-by (At b) = refl
spot-by (Stopped r) = refl
spot-by NoBody = refl
