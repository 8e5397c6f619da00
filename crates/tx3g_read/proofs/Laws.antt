-- Laws for reading: a font where it stands, the mark, the text, and the fields of an entry.
use Prim.Native.Nat.{ℕ, ◌+◌, ◌-◌, ◌≤◌, ◌<◌}
use mathlib.Core.Path.{◌≡◌, refl, ap}
use mathlib.Core.Bool.{Bool, true, false}
use mathlib.Core.List.{List, [], ◌∷◌}
use native.Mathlib.Omega.{arith}
use lib.Dec.{eqb}
use lib.IntN.{ℤ}
use lib.ListN.{length, take, drop}
use borrow.Author.Tests.{lt-ltb, le-ltb}
use Rattle.fields.specs.BigEndian.{be}
use Rattle.std.specs.List.{starts_with as begins}
use Rattle.std.proofs.lemmas.Bool.Decides.{nat_tests}
use Rattle.utf8.specs.Strings.{starts_with}
use Rattle.characters.specs.Characters.{mark}
use Rattle.boxes.specs.Boxes.{part}
use Rattle.signed.specs.Signed.{signed8, signed16}
use Rattle.tx3g_fonts.specs.Fonts.{after_font}
use Rattle.tx3g_sample.specs.Sample.{text_end}
use Rattle.tx3g_style.specs.declared.Style.{Style}
use Rattle.tx3g_style.specs.Style.{style_in}
use Rattle.tx3g_read.specs.declared.Colour.{Colour}
use Rattle.tx3g_read.specs.declared.Fields.{Fields}
use Rattle.tx3g_sample.specs.Reading.{Reading, Good, BadEntry as EntryRefused, BadSample as SampleRefused}
use Rattle.tx3g_sample.specs.declared.Fault.{Fault}
use Rattle.tx3g_sample.specs.declared.Fault.TheVariants.{Entry as OfEntry, Sample as OfSample}
use Rattle.std.proofs.Common.{Some, None, Err}
use Rattle.std.specs.Option.{unwrap_or, is_some}
use Rattle.std.specs.Result.{result_ok}
use Rattle.bodies.specs.Body.{Body, At, Refused as Stopped, Nowhere}
use Rattle.tx3g_read.specs.declared.Styles.{Styles}
use Rattle.tx3g_read.specs.declared.Text.{Text}
use Rattle.tx3g_read.specs.Entry.{Named, Missing, colour_at, fields_of, font_in}
use Rattle.tx3g_read.proofs.Blinking.{found}
use Rattle.tx3g_read.specs.Sample.{marked, text_of, styles_in, content_by}

-- a font that ends past the bytes, and another
pub font-short : (e : List ℕ) (q : ℕ) → length e < q + 3 → Missing ≡ font_in e q
unfolding font_in after_font
font-short e q h = rw (lt-ltb (length e) (q + 3 + be 1 e (q + 2)) (omega arith))

pub font-cut : (e : List ℕ) (q x : ℕ) → x ≡ be 1 e (q + 2) → length e < q + 3 + x → Missing ≡ font_in e q
unfolding font_in after_font
font-cut e q x p h = rw (lt-ltb (length e) (q + 3 + be 1 e (q + 2)) (omega (arith, h, p)))

pub font-named : (e : List ℕ) (q x id : ℕ) → x ≡ be 1 e (q + 2) → id ≡ be 2 e q → q + 3 + x ≤ length e → Named id (q + 3) (q + 3 + x) ≡ font_in e q
unfolding font_in after_font
font-named e q x id p r h = rw (le-ltb (length e) (q + 3 + be 1 e (q + 2)) (omega (arith, h, p)), p, r)

-- the mark of UTF-16: too few bytes, its first byte, another
pub mark-is : (s : List ℕ) → begins eqb s (0xFE ∷ 0xFF ∷ []) ≡ starts_with mark s
unfolding starts_with mark
mark-is [] = refl
mark-is (x ∷ []) = grind (arith, nat_tests)
mark-is (x ∷ y ∷ s) = grind (arith, nat_tests)

pub text-marked : (s : List ℕ) (end : ℕ) (m : Bool) → end ≡ text_end s → m ≡ starts_with mark (take (end - 2) (drop 2 s)) → m ≡ true
    → ◌≡◌ {A = Text} (record { utf16 = true; from = 4; end = end }) (text_of s)
unfolding text_of marked part
text-marked s end m e q t = rw (← e, ← q, t)

pub text-plain : (s : List ℕ) (end : ℕ) (m : Bool) → end ≡ text_end s → m ≡ starts_with mark (take (end - 2) (drop 2 s)) → m ≡ false
    → ◌≡◌ {A = Text} (record { utf16 = false; from = 2; end = end }) (text_of s)
unfolding text_of marked part
text-plain s end m e q t = rw (← e, ← q, t)

-- the fields, one by one
pub colour-is : (s : List ℕ) (q a b c d : ℕ) → a ≡ be 1 s q → b ≡ be 1 s (q + 1) → c ≡ be 1 s (q + 2) → d ≡ be 1 s (q + 3)
    → ◌≡◌ {A = Colour} (record { red = a; green = b; blue = c; alpha = d }) (colour_at s q)
unfolding colour_at
colour-is s q a b c d u v w x = rw (u, v, w, x)

pub fields-are : (e : List ℕ) (b : ℕ) (i f : ℕ) (h v : ℤ) (g : Colour) (x y z o : ℤ) (t : Style) (n : ℕ)
    → i ≡ be 2 e 14 → f ≡ be 4 e 16 → h ≡ signed8 (be 1 e 20) → v ≡ signed8 (be 1 e 21) → g ≡ colour_at e 22
    → x ≡ signed16 (be 2 e 26) → y ≡ signed16 (be 2 e 28) → z ≡ signed16 (be 2 e 30) → o ≡ signed16 (be 2 e 32) → t ≡ style_in e 34 → n ≡ be 2 e b
    → ◌≡◌ {A = Fields} (record { index = i; flags = f; horizontal = h; vertical = v; background = g; top = x; left = y; bottom = z; right = o; style = t; fonts = n; from = b + 2 }) (fields_of e b)
unfolding fields_of
fields-are e b i f h v g x y z o t n e1 e2 e3 e4 e5 e6 e7 e8 e9 e10 e11 = rw (e1, e2, e3, e4, e5, e6, e7, e8, e9, e10, e11)

-- the fault of a reading is passed up
pub unread : (s : List ℕ) (t : Reading) (d : Fault) → t ≡ Err d → content_by s t ≡ Err d
unread s (Good n) d h = let z : ◌≡◌ {A = ℕ} 0 1 = cc in absurd (omega arith)
unread s (EntryRefused r) d h = let z : OfEntry r ≡ d = cc in ap Err z
unread s (SampleRefused r) d h = let z : OfSample r ≡ d = cc in ap Err z

-- a body that is kept where a refused header counts as none
pub kept : (t : Body) (b : ℕ) → unwrap_or (result_ok t) None ≡ Some b → t ≡ At b
kept (At c) b h = let z : c ≡ b = cc in ap At z
kept (Stopped r) b h = let z : ◌≡◌ {A = ℕ} 0 1 = cc in absurd (omega arith)
kept Nowhere b h = let z : ◌≡◌ {A = ℕ} 0 1 = cc in absurd (omega arith)

pub none-kept : (s : List ℕ) (t : Body) → unwrap_or (result_ok t) None ≡ None → ◌≡◌ {A = Styles} (record { count = 0; from = 0 }) (styles_in s t)
none-kept s (At c) h = let z : ◌≡◌ {A = ℕ} 0 1 = cc in absurd (omega arith)
none-kept s (Stopped r) h = refl
none-kept s Nowhere h = refl

pub kept-found : (t : Body) → is_some (unwrap_or (result_ok t) None) ≡ found t
kept-found (At c) = refl
kept-found (Stopped r) = refl
kept-found Nowhere = refl
