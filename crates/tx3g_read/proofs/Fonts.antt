-- An entry without fault has fields, and its fonts stand one behind the other.
use Prim.Native.Nat.{ℕ, suc, ◌+◌, ◌≤◌, ◌<◌}
use mathlib.Core.Path.{◌≡◌, refl}
use mathlib.Core.List.{List}
use native.Mathlib.Omega.{arith}
use native.Mathlib.Nat.{le_refl, le_antisymm}
use lib.ListN.{length}
use borrow.Author.Tests.{le-ltb}
use Rattle.base.proofs.Choice.{either}
use Rattle.fields.specs.BigEndian.{be}
use Rattle.tx3g_fonts.specs.Fonts.{after_font, font_at, font_id}
use Rattle.tx3g_fonts.proofs.Laws.{fonts-up}
use Rattle.tx3g_entry.proofs.Laws.{entry-fine}
use Rattle.tx3g_read.specs.Entry.{Named, fields_of, read_entry, font_in}
use Rattle.tx3g_read.specs.Statements.{EntryReads}

-- a font lies before the end of the last
before-end : (e : List ℕ) (b k m : ℕ) → k < m → font_at e b (suc k) ≤ font_at e b m
before-end e b k m h = either (suc k) m
    (λ l. either m (suc k) (λ g. let q : suc k ≡ m = le_antisymm l g in rw q (le_refl (font_at e b m))) (λ g. omega (arith, fonts-up e b (suc k) m g)))
    (λ l. absurd (omega arith))

font-is : (e : List ℕ) (b k m : ℕ) → k < m → font_at e b m ≤ length e → font_in e (font_at e b k) ≡ Named (font_id e b k) (font_at e b k + 3) (font_at e b (suc k))
unfolding font_in font_id font_at
font-is e b k m h l = rw (le-ltb (length e) (after_font e (font_at e b k)) (omega (arith, before-end e b k m h, l)))

pub entry-reads : EntryReads
unfolding read_entry fields_of font_at
entry-reads e fine =
    let g = entry-fine e fine in
    record {
      body = g.fonts;
      stands = g.found;
      whole = rw (fine, g.found);
      first = refl;
      fonts = λ k h. font-is e g.fonts k (be 2 e g.fonts) h g.lie;
    }
