-- A text of settings keeps the rule of a line if its region's name does: all else in it is plain.
use Prim.Native.Nat.{ℕ}
use mathlib.Core.Path.{◌≡◌, refl, sym, ap, ◌∙◌}
use mathlib.Core.Bool.{true}
use mathlib.Core.Logic.{inl, inr}
use mathlib.Core.List.{List, [], ◌∷◌, ◌++◌, append-nil}
use Rattle.text.specs.Rules.{identifier_text}
use Rattle.text.proofs.Rules.{empty-line}
use Rattle.timestamps.specs.Timestamps.{All}
use Rattle.vtt_timing.specs.Timing.{blank}
use Rattle.settings.specs.declared.Reading.{Reading}
use Rattle.settings.specs.Read.{Done}
use Rattle.settings.specs.Grammar.{Setting, vertical, line, position, size, align, region, Text, blanks, setting, name_of, Among, Once, Record, placed, record_of}
use Rattle.settings.specs.Reading.{words, read_words, unread, said}
use Rattle.settings.proofs.Form.{region_in, word_line}
use Rattle.settings.proofs.Shortest.{line-apart, line-blanks}
use Rattle.settings.proofs.Readings.{reads-are}

-- where no region is named, its name is empty
no-region : (ts : List Setting) → (Among 5 ts → ⊥) → (record_of ts).region ≡ []
unfolding record_of
no-region [] f = refl
no-region (vertical v ∷ ts) f = no-region ts (λ a. f (inr a))
no-region (line l a ∷ ts) f = no-region ts (λ b. f (inr b))
no-region (position p a ∷ ts) f = no-region ts (λ b. f (inr b))
no-region (size p ∷ ts) f = no-region ts (λ a. f (inr a))
no-region (align a ∷ ts) f = no-region ts (λ b. f (inr b))
no-region (region w ∷ ts) f = absurd (f (inl refl))

-- a right name, in the first setting and in the others
first-right : (t : Setting) (r : Record) → identifier_text (placed t r).region ≡ true → identifier_text (region_in t) ≡ true
first-right (vertical v) r h = empty-line
first-right (line l a) r h = empty-line
first-right (position p a) r h = empty-line
first-right (size p) r h = empty-line
first-right (align a) r h = empty-line
first-right (region w) r h = h

others-right : (t : Setting) (ts : List Setting) → (Among (name_of t) ts → ⊥) → identifier_text (placed t (record_of ts)).region ≡ true → identifier_text (record_of ts).region ≡ true
others-right (vertical v) ts f h = h
others-right (line l a) ts f h = h
others-right (position p a) ts f h = h
others-right (size p) ts f h = h
others-right (align a) ts f h = h
others-right (region w) ts f h = ap identifier_text (no-region ts f) ∙ empty-line

blanks-right : (b : List ℕ) → All blank b → identifier_text b ≡ true
blanks-right b h = ap identifier_text (sym (append-nil b)) ∙ line-blanks b [] h ∙ empty-line

text-right : {ts : List Setting} {s : List ℕ} → Text ts s → Once ts → identifier_text (record_of ts).region ≡ true → identifier_text s ≡ true
unfolding record_of
text-right (blanks b h) o i = blanks-right b h
text-right (setting {t} {ts} b w s e h a k) o i =
    line-blanks b (w ++ s) e ∙ line-apart w s a ∙ rw (word_line h (first-right t (record_of ts) i), text-right k o.1 (others-right t ts o.0 i))

-- words that are read, and a name that is right, make a text that is right
pub read_right : (s : List ℕ) (x : Reading) → read_words (words 0 s) [] unread ≡ Done x → identifier_text (said s x).region ≡ true → identifier_text s ≡ true
read_right s x e i =
    let k = (reads-are s (said s x)).0 (x, e, refl) in
    text-right k.1 k.2 (ap (λ (r : Record). identifier_text r.region) k.3 ∙ i)
