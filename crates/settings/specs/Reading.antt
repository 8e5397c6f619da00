-- Reading a settings text, word by word. Document 02, K10.
use Rattle.std.specs.Prelude.{ℕ, suc, ◌+◌, ◌-◌, ◌*◌, Bool, true, false, not, List, [], ◌∷◌, eqb, leb, ltb, ℤ, pos, neg_ℤ, length, take, drop}
use Rattle.std.proofs.Math.Option.{Option, none, some}
use Rattle.base.specs.Choice.{pick, both, any_of, same_list}
use Rattle.viable.specs.FirstBad.{judged_by}
use Rattle.verdict.specs.Verdict.{Verdict, Fine, Refused as Faulty}
use Rattle.verdict.specs.Judgement.{fault, text_at, ◌gives◌at◌, ◌then◌}
use Rattle.decimal.specs.Decimal.{value}
use Rattle.utf8.specs.Strings.{DASH, starts_with}
use Rattle.text.specs.Rules.{identifier_text}
use Rattle.text.specs.Beginnings.{identifier_begun}
use Rattle.timestamps.specs.Timestamps.{DOT, digit, front, behind}
use Rattle.vtt_timing.specs.Timing.{blank}
use Rattle.settings.specs.declared.Vertical.{Vertical}
use Rattle.settings.specs.declared.Line.{Line}
use Rattle.settings.specs.declared.Line.TheVariants.{Auto as LineAuto, Number, Percent as LinePercent}
use Rattle.settings.specs.declared.LineAlign.{LineAlign}
use Rattle.settings.specs.declared.LineAlign.TheVariants.{Start as LineStart}
use Rattle.settings.specs.declared.Position.TheVariants.{Percent}
use Rattle.settings.specs.declared.PositionAlign.{PositionAlign}
use Rattle.settings.specs.declared.PositionAlign.TheVariants.{Auto as PositionAuto}
use Rattle.settings.specs.declared.Align.{Align}
use Rattle.settings.specs.Word.{Word, ToVertical, ToLine, ToPosition, ToSize, ToAlign, ToRegion, Malformed}
use Rattle.settings.specs.declared.Reading.{Reading}
use Rattle.settings.specs.Read.{Read, Done, Refused}
use Rattle.settings.specs.Words.{COMMA, PERCENT, VERTICAL, LINE, POSITION, SIZE, ALIGN, REGION, verticals, vertical_word, line_aligns, line_word, position_aligns, position_word, aligns, align_word}
use Rattle.settings.specs.Grammar.{Record, named, defaults, with_vertical, with_line, with_position, with_size, with_align}

-- ---- words

-- the byte b at place p, before the text s whose words are ws: it begins a word, or goes before the first of them
abbrev pub begun : ℕ → ℕ → List ℕ → List (ℕ × List ℕ) → List (ℕ × List ℕ)
begun p b [] ws = (p, b ∷ []) ∷ ws
begun p b (c ∷ s) [] = (p, b ∷ []) ∷ []
begun p b (c ∷ s) (w ∷ ws) = pick (blank c) ((p, b ∷ []) ∷ w ∷ ws) ((p, b ∷ w.1) ∷ ws)

-- the words of a text from place p on, each with its place: what spaces and tabs leave
unfoldable pub words : ℕ → List ℕ → List (ℕ × List ℕ)
unfolding blank
words p [] = []
words p (b ∷ s) = pick (blank b) (words (suc p) s) (begun p b s (words (suc p) s))

-- ---- values

-- the value whose word it is, of those that may be written
unfoldable pub word_in : {A : Type 0} → (A → List ℕ) → List A → List ℕ → Option A
word_in word [] w = none
word_in word (a ∷ rest) w = pick (same_list w (word a)) (some a) (word_in word rest w)

-- a whole number; auto, which is never written, where it is none
unfoldable pub number_of : ℕ → (ℕ → ℤ) → List ℕ → Line
number_of most sign ds = pick (both (leb 1 (length ds)) (both (leb (length ds) (length (front digit ds))) (leb (value ds) most))) (Number (sign (value ds))) LineAuto

-- the hundredths behind the whole percents: `%`, `.d%` or `.dd%`
unfoldable pub hundredths_of : List ℕ → Option ℕ
unfolding digit
hundredths_of [] = none
hundredths_of (a ∷ []) = pick (eqb a PERCENT) (some 0) none
hundredths_of (a ∷ b ∷ []) = none
hundredths_of (a ∷ b ∷ c ∷ []) = pick (both (eqb a DOT) (both (digit b) (eqb c PERCENT))) (some ((b - 0x30) * 10)) none
hundredths_of (a ∷ b ∷ c ∷ d ∷ []) = pick (both (eqb a DOT) (both (digit b) (both (digit c) (eqb d PERCENT)))) (some ((b - 0x30) * 10 + (c - 0x30))) none
hundredths_of (a ∷ b ∷ c ∷ d ∷ e ∷ s) = none

-- at most 100 %
abbrev pub in_all : ℕ → Option ℕ → Option ℕ
in_all n none = none
in_all n (some h) = pick (leb (n * 100 + h) 10000) (some (n * 100 + h)) none

-- a percentage in hundredths
unfoldable pub percent_of : List ℕ → Option ℕ
percent_of w = pick (leb 1 (length (front digit w))) (in_all (value (front digit w)) (hundredths_of (behind digit w))) none

abbrev pub line_percent : Option ℕ → Line
line_percent none = LineAuto
line_percent (some p) = LinePercent p

-- a line; auto where it is none
unfoldable pub line_of : List ℕ → Line
line_of [] = LineAuto
line_of (b ∷ w) = pick (eqb b DASH) (number_of 32768 (λ n. neg_ℤ (pos n)) w) (pick (eqb (length (behind digit (b ∷ w))) 0) (number_of 32767 pos (b ∷ w)) (line_percent (percent_of (b ∷ w))))

-- ---- a word as a setting

abbrev pub as_vertical : Option Vertical → Word
as_vertical none = Malformed
as_vertical (some v) = ToVertical v

abbrev pub as_align : Option Align → Word
as_align none = Malformed
as_align (some a) = ToAlign a

abbrev pub as_size : Option ℕ → Word
as_size none = Malformed
as_size (some p) = ToSize p

-- a line and its alignment
abbrev pub as_line : Line → Option LineAlign → Word
as_line LineAuto a = Malformed
as_line (Number n) none = Malformed
as_line (Number n) (some a) = ToLine (Number n) a
as_line (LinePercent p) none = Malformed
as_line (LinePercent p) (some a) = ToLine (LinePercent p) a

-- a position and its alignment
abbrev pub as_position : Option ℕ → Option PositionAlign → Word
as_position none a = Malformed
as_position (some p) none = Malformed
as_position (some p) (some a) = ToPosition (Percent p) a

-- what stands before the first comma, and the word behind it
unfoldable pub not_comma : ℕ → Bool
not_comma b = not (eqb b COMMA)

-- the alignment: the default where there is no comma
abbrev pub aligned_by : {A : Type 0} → A → (List ℕ → Option A) → List ℕ → Option A
aligned_by d word [] = some d
aligned_by d word (c ∷ w) = word w

unfoldable pub line_parsed : List ℕ → Word
line_parsed w = as_line (line_of (front not_comma w)) (aligned_by LineStart (word_in line_word line_aligns) (behind not_comma w))

unfoldable pub position_parsed : List ℕ → Word
position_parsed w = as_position (percent_of (front not_comma w)) (aligned_by PositionAuto (word_in position_word position_aligns) (behind not_comma w))

-- a region's name, which stands from place p on
unfoldable pub region_parsed : ℕ → List ℕ → Word
region_parsed p w = pick (both (leb 1 (length w)) (leb (length w) (length (front named w)))) (ToRegion p (p + length w)) Malformed

-- the word w at place p
unfoldable pub parsed : ℕ → List ℕ → Word
parsed p w =
    pick (starts_with VERTICAL w) (as_vertical (word_in vertical_word verticals (drop 9 w)))
    (pick (starts_with LINE w) (line_parsed (drop 5 w))
    (pick (starts_with POSITION w) (position_parsed (drop 9 w))
    (pick (starts_with SIZE w) (as_size (percent_of (drop 5 w)))
    (pick (starts_with ALIGN w) (as_align (word_in align_word aligns (drop 6 w)))
    (pick (starts_with REGION w) (region_parsed (p + 7) (drop 7 w)) Malformed)))))

-- ---- the text

-- the names, by number; what is malformed has none
abbrev pub name_in : Word → ℕ
name_in (ToVertical v) = 0
name_in (ToLine l a) = 1
name_in (ToPosition p a) = 2
name_in (ToSize p) = 3
name_in (ToAlign a) = 4
name_in (ToRegion f e) = 5
name_in Malformed = 6

-- n is among the names
unfoldable pub has : ℕ → List ℕ → Bool
has n [] = false
has n (m ∷ ms) = any_of (eqb n m) (has n ms)

-- a word that may not stand behind settings of these names
unfoldable pub amiss : Word → List ℕ → Bool
unfolding has
amiss t names = any_of (eqb (name_in t) 6) (has (name_in t) names)

-- a setting in its place
abbrev pub taken : Word → Reading → Reading
taken (ToVertical v) r = record { settings = with_vertical v r.settings; from = r.from; end = r.end }
taken (ToLine l a) r = record { settings = with_line l a r.settings; from = r.from; end = r.end }
taken (ToPosition p a) r = record { settings = with_position p a r.settings; from = r.from; end = r.end }
taken (ToSize p) r = record { settings = with_size p r.settings; from = r.from; end = r.end }
taken (ToAlign a) r = record { settings = with_align a r.settings; from = r.from; end = r.end }
taken (ToRegion f e) r = record { settings = r.settings; from = f; end = e }
taken Malformed r = r

-- 20 at place p, where the test says so
abbrev pub unless_amiss : Bool → ℕ → (Unit {0} → Read) → Read
unless_amiss true p f = Refused (fault 20 p)
unless_amiss false p f = f tt

-- the words in turn, behind settings of these names
unfoldable pub read_words : List (ℕ × List ℕ) → List ℕ → Reading → Read
read_words [] names r = Done r
read_words (w ∷ ws) names r = unless_amiss (amiss (parsed w.0 w.1) names) w.0 (λ _. read_words ws (name_in (parsed w.0 w.1) ∷ names) (taken (parsed w.0 w.1) r))

-- before any setting is read
abbrev pub unread : Reading
unread = record { settings = defaults; from = 0; end = 0 }

abbrev pub unless_faulty : Verdict → (Unit {0} → Read) → Read
unless_faulty Fine f = f tt
unless_faulty (Faulty r) f = Refused r

-- the limit of 255 bytes (9), document 01's rule of settings (6), both place 0; then the settings
unfoldable pub read_settings : List ℕ → Read
read_settings s =
    unless_faulty
    (ltb 255 (length s) gives 9 at 0 then text_at 0 (judged_by identifier_text identifier_begun s))
    (λ _. read_words (words 0 s) [] unread)

-- what a reading of the text s says
abbrev pub said : List ℕ → Reading → Record
said s r = record { settings = r.settings; region = take (r.end - r.from) (drop r.from s) }
