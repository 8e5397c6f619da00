-- Document 02, K10: settings understood. What each answer to a settings text says, in the words of the grammar (crate settings, specs/Grammar.antt) and of document 01's rule of
-- settings; what is written of a record, and which records are refused.
use Rattle.std.specs.Prelude.{ℕ, ◌≤◌, ◌<◌, ◌≡◌, ◌↔◌, List, length, take, drop}
use Rattle.viable.specs.FirstBad.{FirstBad, Passes}
use Rattle.verdict.specs.Judgement.{fault, bad_text}
use Rattle.text.specs.Rules.{identifier_text}
use Rattle.wvtt_entry_write.specs.Written.{Done as Writes, Refused as NotWritten}
use Rattle.settings.specs.declared.Settings.{Settings}
use Rattle.settings.specs.declared.Reading.{Reading}
use Rattle.settings.specs.Read.{Done, Refused}
use Rattle.settings.specs.Grammar.{Record, SettingsText, WrongAt}
use Rattle.settings.specs.Reading.{read_settings, said}
use Rattle.settings.specs.Statements.{ReadsAs}
use Rattle.settings_write.specs.Writing.{record_with, settings_written}
use Rattle.settings_flat.specs.Flat.{flat_settings, given_written}
use Rattle.demands.specs.Calls.{SettingsCall}

-- ---- reading

-- the answers: the text says this record; it is too long; bad text at q; the setting at q may not stand there
pub data Answer : Type 0 where
  says : Record → Answer
  long : Answer
  bad : ℕ → Answer
  wrong : ℕ → Answer

-- as they are given; beside a record, the region's name is a part of the text
abbrev pub Given : List ℕ → Answer → Type 0
Given s (says r) = ReadsAs s r
Given s long = read_settings s ≡ Refused (fault 9 0)
Given s (bad q) = read_settings s ≡ Refused (bad_text 0 q)
Given s (wrong q) = read_settings s ≡ Refused (fault 20 q)

-- what they say. A wrong setting is the first that is none, or has a name that stands before it
abbrev pub Means : List ℕ → Answer → Type 0
Means s (says r) = (length s ≤ 255) × Passes identifier_text s × SettingsText s r
Means s long = 255 < length s
Means s (bad q) = (length s ≤ 255) × FirstBad (Passes identifier_text) s q
Means s (wrong q) = (length s ≤ 255) × Passes identifier_text s × WrongAt s q

-- each text gets one of them, and exactly the one that is so
abbrev pub SettingsAnswers : Type 0
SettingsAnswers = (s : List ℕ) → ((a : Answer) × Given s a) × ((a : Answer) → Given s a ↔ Means s a)

-- the region's name stands in the text, and is a text by itself
abbrev pub RegionStands : Type 0
RegionStands = (s : List ℕ) (x : Reading) → read_settings s ≡ Done x → (x.from ≤ x.end) × (x.end ≤ length s) × Passes identifier_text (said s x).region

-- ---- writing

-- a text reads as the record, and no shorter one does
abbrev pub ShortestOf : Record → List ℕ → Type 0
ShortestOf r t = ReadsAs t r × ((s : List ℕ) → ReadsAs s r → length t ≤ length s)

-- 8 exactly where no text reads as the record; 15 exactly where one does, and none that fits; else the length of a shortest one
pub record WriteAnswers (x : Settings) (region : List ℕ) (room : ℕ) : Type 0 where
  pub unsaid : settings_written x region room ≡ NotWritten (fault 8 0) ↔ ((s : List ℕ) → ReadsAs s (record_with x region) → ⊥)
  pub no_room : settings_written x region room ≡ NotWritten (fault 15 0) ↔ (((s : List ℕ) × ReadsAs s (record_with x region)) × ((s : List ℕ) → ReadsAs s (record_with x region) → room < length s))
  pub done : (n : ℕ) → settings_written x region room ≡ Writes n ↔ ((n ≤ room) × (t : List ℕ) × ShortestOf (record_with x region) t × (length t ≡ n))

abbrev pub SettingsAreWritten : Type 0
SettingsAreWritten = (x : Settings) (region : List ℕ) (room : ℕ) → WriteAnswers x region room

-- what was written reads as the record; the rest of the output is as before
abbrev pub WrittenReads : Type 0
WrittenReads = (x : Settings) (region text text_after : List ℕ) (n : ℕ) → SettingsCall x region text text_after (Writes n) → ReadsAs (take n text_after) (record_with x region) × (drop n text_after ≡ drop n text)

-- what C and Rust get from reading they can lend to writing, in a room of the text's own length
abbrev pub ReadIsWritten : Type 0
ReadIsWritten = (s : List ℕ) (x : Reading) (room : ℕ) → read_settings s ≡ Done x → length s ≤ room → (n : ℕ) × (n ≤ length s) × (given_written (flat_settings x.settings) (said s x).region room ≡ Writes n)
