-- Demand 1's second place (document 02, K2): where a text is bad, under each rule of texts. `FirstBad` of crate viable is its meaning: each beginning up to the offset has a
-- continuation in bytes that keeps the rule, and with the byte there it has none any more, or the text ends there too early.
use Rattle.std.specs.Prelude.{ℕ, ◌+◌, ◌-◌, ◌≤◌, ◌<◌, ◌≡◌, ◌⊎◌, true, List, [], length, drop, get_or}
use Rattle.std.proofs.Math.Option.{Option, some}
use Rattle.viable.specs.FirstBad.{FirstBad, Passes, JudgedIs}
use Rattle.fields.specs.BigEndian.{be}
use Rattle.utf8.specs.Utf8.{utf8, utf8_begun}
use Rattle.text.specs.Rules.{identifier_text, payload_text, label_text, configuration_text}
use Rattle.text.specs.Beginnings.{identifier_begun, payload_begun, label_begun, configuration_begun}
use Rattle.characters.specs.Characters.{tx3g_text, tx3g_begun}
use Rattle.boxes.specs.Boxes.{part}
use Rattle.wvtt.specs.Kinds.{payl, line}
use Rattle.wvtt_entry.specs.Entry.{vtt_c, vlab}
use Rattle.records.specs.Records.{count, identifier_of, settings_of, payload_of}
use Rattle.table.specs.Table.{row_count, bytes_of}
use Rattle.vtt_lines.specs.Lines.{lines_of, joined, filled}
use Rattle.vtt_timing.specs.Timing.{Timing}
use Rattle.vtt_timing.specs.Grammar.{TimingLine}
use Rattle.vtt_read.specs.Reading.{unmarked}
use Rattle.tx3g_sample.specs.Sample.{text_end}
use Rattle.tx3g_payload_write.specs.Sample.{payload_in}

-- a text is answered to be right exactly if it keeps its rule, and bad at q exactly if q is its first bad byte
pub record OffsetsAre : Type 0 where
  pub utf8 : JudgedIs utf8 utf8_begun
  pub identifier : JudgedIs identifier_text identifier_begun
  pub payload : JudgedIs payload_text payload_begun
  pub label : JudgedIs label_text label_begun
  pub configuration : JudgedIs configuration_text configuration_begun
  pub tx3g : JudgedIs tx3g_text tx3g_begun

-- ---- What 6 with place p and second place q says

-- in a sample or an entry a box begins at byte p: its type, and the bytes of its body
abbrev pub type_at : List ℕ → ℕ → ℕ
type_at s p = be 4 s (p + 4)

abbrev pub body_at : List ℕ → ℕ → List ℕ
body_at s p = part s (p + 8) (p + be 4 s p)

abbrev pub Inside : List ℕ → ℕ → Type 0
Inside s p = p + be 4 s p ≤ length s

-- of a sample: the box is a `payl`, or an `iden`, `ctim` or `sttg`, and q is the first bad byte of its text
abbrev pub InSample : List ℕ → ℕ → ℕ → Type 0
InSample s p q =
    Inside s p
    × (((type_at s p ≡ payl) × FirstBad (Passes payload_text) (body_at s p) q)
    ⊎ ((line (type_at s p) ≡ true) × FirstBad (Passes identifier_text) (body_at s p) q))

-- of a `wvtt` entry
abbrev pub InEntry : List ℕ → ℕ → ℕ → Type 0
InEntry e p q =
    Inside e p
    × (((type_at e p ≡ vtt_c) × FirstBad (Passes configuration_text) (body_at e p) q)
    ⊎ ((type_at e p ≡ vlab) × FirstBad (Passes label_text) (body_at e p) q))

-- of an entry that is to be written: the configuration at place 0, or else the label at place 1
abbrev pub InWritten : List ℕ → Option (List ℕ) → ℕ → ℕ → Type 0
InWritten c l p q =
    ((p ≡ 0) × FirstBad (Passes configuration_text) c q)
    ⊎ ((p ≡ 1) × Passes configuration_text c × (t : List ℕ) × (l ≡ some t) × FirstBad (Passes label_text) t q)

-- of a configuration by itself
abbrev pub InConfiguration : List ℕ → ℕ → ℕ → Type 0
InConfiguration c p q = (p ≡ 0) × FirstBad (Passes configuration_text) c q

-- of a payload by itself
abbrev pub InPayload : List ℕ → ℕ → ℕ → Type 0
InPayload s p q = (p ≡ 0) × FirstBad (Passes payload_text) s q

-- of settings by themselves
abbrev pub InSettings : List ℕ → ℕ → ℕ → Type 0
InSettings s p q = (p ≡ 0) × FirstBad (Passes identifier_text) s q

-- q is the first bad byte of the first bad one of a cue's texts
abbrev pub InTexts : List ℕ → List ℕ → List ℕ → ℕ → Type 0
InTexts identifier settings payload q =
    FirstBad (Passes identifier_text) identifier q
    ⊎ (Passes identifier_text identifier × FirstBad (Passes identifier_text) settings q)
    ⊎ (Passes identifier_text identifier × Passes identifier_text settings × FirstBad (Passes payload_text) payload q)

-- of a list: in the texts of record i
abbrev pub InRecord : List ℕ → List ℕ → ℕ → ℕ → Type 0
InRecord records pool i q = (i < count records) × InTexts (identifier_of records pool i) (settings_of records pool i) (payload_of records pool i) q

-- of a WebVTT file: in the texts of the cue whose timing line is line p, the first being 1: the line before it, which is empty where the cue has no identifier; its settings;
-- the lines behind it up to an empty one, joined by one LF
abbrev pub InFile : List ℕ → ℕ → ℕ → Type 0
InFile file p q =
    let lines = lines_of (unmarked file) in
    (1 < p) × (timing : Timing) × TimingLine (get_or lines (p - 1) []) timing × InTexts (get_or lines (p - 2) []) timing.settings (joined (filled (drop p lines))) q

-- of a track: in sample i, at some byte of it
abbrev pub InTrack : List ℕ → List ℕ → ℕ → ℕ → Type 0
InTrack table samples i q = (i < row_count table) × ((p : ℕ) × InSample (bytes_of table samples i) p q)

-- of a 3GPP text, and of a `tx3g` sample that holds one
abbrev pub InText : List ℕ → ℕ → ℕ → Type 0
InText s p q = (p ≡ 0) × FirstBad (Passes tx3g_text) s q

abbrev pub InTx3g : List ℕ → ℕ → ℕ → Type 0
InTx3g s p q = InText (part s 2 (text_end s)) p q

-- of a `tx3g` track: in the text of sample i; or else in the payload that is made of it
abbrev pub InStock : List ℕ → List ℕ → List ℕ → ℕ → ℕ → Type 0
InStock e table samples i q =
    let s = bytes_of table samples i in
    (i < row_count table) × (FirstBad (Passes tx3g_text) (part s 2 (text_end s)) q ⊎ FirstBad (Passes payload_text) (payload_in e s) q)

-- where no text is judged, 6 never comes
abbrev pub Never : ℕ → ℕ → Type 0
Never p q = ⊥
