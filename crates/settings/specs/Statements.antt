-- What is proved of reading and of the fixed form.
use Rattle.std.specs.Prelude.{ℕ, ◌≤◌, ◌≡◌, ◌↔◌, true, false, List, [], length}
use Rattle.verdict.specs.Judgement.{fault}
use Rattle.text.specs.Rules.{identifier_text}
use Rattle.settings.specs.declared.Reading.{Reading}
use Rattle.settings.specs.Read.{Done, Refused}
use Rattle.settings.specs.Grammar.{Record, SettingsText, WrongAt}
use Rattle.settings.specs.Reading.{words, read_words, unread, read_settings, said}
use Rattle.settings.specs.Form.{written, writable}

-- the words of a text are read exactly if it is one of the grammar, and give the record that it says; and they are refused at q exactly if the first wrong setting is the one at q
abbrev pub ReadsAre : Type 0
ReadsAre = (s : List ℕ) (r : Record) → ((x : Reading) × (read_words (words 0 s) [] unread ≡ Done x) × (said s x ≡ r)) ↔ SettingsText s r

abbrev pub WrongsAre : Type 0
WrongsAre = (s : List ℕ) (q : ℕ) → read_words (words 0 s) [] unread ≡ Refused (fault 20 q) ↔ WrongAt s q

-- s reads as r
abbrev pub ReadsAs : List ℕ → Record → Type 0
ReadsAs s r = (x : Reading) × (read_settings s ≡ Done x) × (said s x ≡ r)

-- texts that are read: of the grammar, within limit and rule
abbrev pub ReadsAsIs : Type 0
ReadsAsIs = (s : List ℕ) (r : Record) → ReadsAs s r ↔ ((length s ≤ 255) × (identifier_text s ≡ true) × SettingsText s r)

-- the region's name stands in the text that was read
abbrev pub RegionInside : Type 0
RegionInside = (s : List ℕ) (x : Reading) → read_settings s ≡ Done x → (x.from ≤ x.end) × (x.end ≤ length s)

-- what is written reads as the record
abbrev pub ReadsBack : Type 0
ReadsBack = (r : Record) → writable r ≡ true → ReadsAs (written r) r

-- a record cannot be written exactly if no text reads as it
abbrev pub WritableIs : Type 0
WritableIs = (r : Record) → writable r ≡ false ↔ ((s : List ℕ) → ReadsAs s r → ⊥)

-- no shorter text reads as it
abbrev pub Shortest : Type 0
Shortest = (r : Record) (s : List ℕ) → ReadsAs s r → length (written r) ≤ length s
