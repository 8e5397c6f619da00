-- Laws of specs/Style.antt for the search among the styles.
use Prim.Native.Nat.{ℕ, ◌+◌, ◌*◌, ◌≤◌, ◌<◌}
use mathlib.Core.Path.{◌≡◌, refl, sym, ap}
use mathlib.Core.List.{List}
use mathlib.Core.Bool.{Bool, true, false}
use lib.ListN.{length}
use Rattle.base.proofs.First.{first-none, first_some}
use Rattle.fields.specs.BigEndian.{be}
use Rattle.std.proofs.Common.{Err}
use native.Mathlib.Omega.{arith}
use Rattle.bodies.specs.Body.{Body, At, Refused as Stopped, Nowhere}
use Rattle.tx3g_sample.specs.declared.Fault.{Fault}
use Rattle.tx3g_sample.specs.declared.Fault.TheVariants.{Entry as OfEntry, Sample as OfSample}
use Rattle.tx3g_sample.proofs.Errors.{err_by}
use Rattle.tx3g_contents.specs.Kinds.{styl, single, known}
use Rattle.tx3g_contents.specs.Contents.{styles_end}
use Rattle.tx3g_contents.proofs.Laws.{end-styl}
use Rattle.tx3g_rules.specs.Rules.{style_at}
use Rattle.tx3g_entry.proofs.Laws.{entry-fine}
use Rattle.tx3g_sample.specs.Reading.{Reading, Good, BadEntry as EntryRefused, BadSample as SampleRefused}
use Rattle.tx3g_sample.specs.Sample.{read_sample}
use Rattle.tx3g_sample.proofs.Laws.{read-good, content-lies}
use Rattle.tx3g_style.specs.Style.{style_in, holds_at, holds, default_style, style_or, style_among, in_force, styles_of, styled_by}

-- no style before the i-th holds character k
abbrev pub NoneBefore : List ℕ → ℕ → ℕ → ℕ → Type 0
NoneBefore s b k i = (j : ℕ) → j < i → holds s b k j ≡ false

pub holds_at_lem : (s : List ℕ) (b k i : ℕ) (t : Bool) → t ≡ holds_at s k (b + 2 + i * 12) → holds s b k i ≡ t
unfolding holds style_at
holds_at_lem s b k i t e = sym e

pub style-found : (e s : List ℕ) (b k i : ℕ) → i < be 2 s b → holds s b k i ≡ true → NoneBefore s b k i → style_in s (b + 2 + i * 12) ≡ style_among e s k b
unfolding style_at
style-found e s b k i l h n = sym (ap (style_or e s b) (first_some (holds s b k) (be 2 s b) i l h n))

pub style-none : (e s : List ℕ) (b k : ℕ) → NoneBefore s b k (be 2 s b) → style_in e 34 ≡ style_among e s k b
unfolding default_style
style-none e s b k n = sym (ap (style_or e s b) (first-none (holds s b k) (be 2 s b) n))

-- the styles of a sample without fault lie within it
pub styles-lie : (e s : List ℕ) (n b : ℕ) → read_sample e s ≡ Good n → styles_of s ≡ At b → styles_end s b ≤ length s
unfolding styles_of known single
styles-lie e s n b h q = rw (← end-styl s styl b refl) (content-lies e n s styl b refl (read-good e s n h).modifiers q)

-- an entry without fault has its default style
pub default-lies : (e s : List ℕ) (n : ℕ) → read_sample e s ≡ Good n → 46 ≤ length e
default-lies e s n h = (entry-fine e (read-good e s n h).entry).long

-- a fault is passed up: of a header before the styles, and of the reading
pub styles-refused : (e s : List ℕ) (k : ℕ) (t : Body) (d : Fault) → err_by OfSample t ≡ Err d → in_force e s k t ≡ Err d
styles-refused e s k (At b) d h = let z : ◌≡◌ {A = ℕ} 0 1 = cc in absurd (omega arith)
styles-refused e s k Nowhere d h = let z : ◌≡◌ {A = ℕ} 0 1 = cc in absurd (omega arith)
styles-refused e s k (Stopped r) d h = let z : OfSample r ≡ d = cc in ap Err z

pub unread : (e s : List ℕ) (k : ℕ) (t : Reading) (d : Fault) → t ≡ Err d → styled_by e s k t ≡ Err d
unread e s k (Good n) d h = let z : ◌≡◌ {A = ℕ} 0 1 = cc in absurd (omega arith)
unread e s k (EntryRefused r) d h = let z : OfEntry r ≡ d = cc in ap Err z
unread e s k (SampleRefused r) d h = let z : OfSample r ≡ d = cc in ap Err z
