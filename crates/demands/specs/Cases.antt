-- The cases of document 01 that are proved, and some of document 02, in one table with a single statement.
use Rattle.std.specs.Prelude.{Ok}
use Rattle.std.specs.Prelude.{ℕ, ◌+◌, ◌≡◌, true, List, [], ◌∷◌, ◌++◌, map, length, take}
use Rattle.std.proofs.Math.Option.{Option, none, some}
use Rattle.fields.specs.BigEndian.{bytes}
use Rattle.characters.specs.Counted.{Counted, Characters, Bad}
use Rattle.characters.specs.Characters.{characters_of}
use Rattle.timeline.specs.Cues.{Body}
use Rattle.timeline.specs.Tracks.{Sample}
use Rattle.timeline.specs.Lists.{listed}
use Rattle.records.specs.Records.{count, start_ms, end_ms}
use Rattle.pack.specs.Packed.{Packed, Done, Refused}
use Rattle.pack.specs.Packing.{packed_track, table_bytes, samples_bytes, packed_of}
use Rattle.records_write.specs.Records.{records_of}
use Rattle.unpack.specs.Unpacked.{Unpacked, Done as DoneList, Refused as RefusedTrack}
use Rattle.unpack.specs.Unpacking.{track_cues, unpack_of}
use Rattle.vtt_read.specs.FileRead.{FileRead, Done as DoneFile, Refused as RefusedFile}
use Rattle.vtt_read.specs.Reading.{file_records, file_pool, read_of}
use Rattle.vtt_write.specs.FileWritten.{FileWritten, Done as DoneOut, BadConfiguration, BadList, NoRoom}
use Rattle.vtt_write.specs.Writing.{file_bytes, written_of}
use Rattle.input.specs.Line.{line_of}
use Rattle.report.specs.Report.{answer_text}

-- a cue record in a case: ID, start and end in ms, payload
pub record Row : Type 0 where
  pub id : ℕ
  pub start : ℕ
  pub end : ℕ
  pub payload : List ℕ

-- its 24 bytes, the payload standing at an offset of the pool
unfoldable pub row_bytes : ℕ → Row → List ℕ
row_bytes offset r =
    bytes 4 r.id ++ bytes 4 r.start ++ bytes 4 r.end ++ bytes 4 offset ++ bytes 2 0 ++ bytes 2 0 ++ bytes 2 (length r.payload) ++ bytes 2 0

unfoldable pub rows_bytes : ℕ → List Row → List ℕ
unfolding row_bytes
rows_bytes offset [] = []
rows_bytes offset (r ∷ rs) = row_bytes offset r ++ rows_bytes (offset + length r.payload) rs

unfoldable pub rows_pool : List Row → List ℕ
rows_pool [] = []
rows_pool (r ∷ rs) = r.payload ++ rows_pool rs

-- What a case asks: what the packed samples hold; the bytes that packing writes; the times after unpacking those bytes; what the program prints after an input line; the
-- characters of a text; the records and pool read from a file; the file written from `WEBVTT` or another configuration, records and pool. What packing, unpacking, reading or
-- writing refuses answers with number and place.
pub data Question : Type 0 where
  holds : ℕ → ℕ → List Row → Question
  written : ℕ → ℕ → List Row → Question
  back : ℕ → ℕ → List Row → Question
  prints : List ℕ → List Row → Question
  characters : List ℕ → Question
  file : List ℕ → Question
  out : List ℕ → List ℕ → List ℕ → Question

abbrev pub id_of : Option ℕ → ℕ
id_of none = 0
id_of (some n) = n

-- the durations, and then the IDs that each sample holds
unfoldable pub held_by : List Sample → List (List ℕ)
held_by track = map (λ (s : Sample). s.duration) track ∷ map (λ (s : Sample). map (λ (y : Body). id_of y.id) s.held) track

-- the starts, the ends and T
unfoldable pub times_of : List ℕ → ℕ → List (List ℕ)
times_of recs T = listed (start_ms recs) (count recs) ∷ listed (end_ms recs) (count recs) ∷ (T ∷ []) ∷ []

-- packing's answer, with what it has written
abbrev pub if_packed : Packed → List (List ℕ) → List (List ℕ)
if_packed (Ok x) a = a
if_packed (Refused r) a = (r.number ∷ r.place ∷ []) ∷ []

-- unpacking's answer, with what it has written
abbrev pub if_unpacked : Unpacked → List ℕ → List (List ℕ)
if_unpacked (Ok x) recs = times_of recs x.t
if_unpacked (RefusedTrack r) recs = (r.number ∷ r.place ∷ []) ∷ []

abbrev pub if_counted : Counted → List (List ℕ)
if_counted (Characters n) = (n ∷ []) ∷ []
if_counted (Bad q) = []

-- reading's answer, with what it has written
abbrev pub if_read : FileRead → List (List ℕ) → List (List ℕ)
if_read (Ok x) a = a
if_read (RefusedFile w) a = (w.number ∷ w.place ∷ []) ∷ []

-- writing's answer, with what it has written
abbrev pub if_written : FileWritten → List ℕ → List (List ℕ)
if_written (DoneOut n) s = s ∷ []
if_written (BadConfiguration w) s = (w.number ∷ w.place ∷ []) ∷ []
if_written (BadList w) s = (w.number ∷ w.place ∷ []) ∷ []
if_written (NoRoom w) s = (w.number ∷ w.place ∷ []) ∷ []

-- packing with room for 1,000 bytes in each output
unfoldable pub ask_packing : ℕ → ℕ → List ℕ → List ℕ → List (List ℕ) → List (List ℕ)
ask_packing scale T recs pool a = if_packed (packed_of scale T recs pool 1000 1000) a

-- unpacking with as much
unfoldable pub ask_unpacking : ℕ → List ℕ → List ℕ → List (List ℕ)
unfolding times_of
ask_unpacking scale table samples = if_unpacked (unpack_of scale table samples 1000 1000) (records_of scale (track_cues table samples))

unfoldable pub asked : Question → List (List ℕ)
unfolding ask_packing ask_unpacking held_by
asked (holds scale T rs) = ask_packing scale T (rows_bytes 0 rs) (rows_pool rs) (held_by (packed_track scale T (rows_bytes 0 rs) (rows_pool rs)))
asked (written scale T rs) =
    ask_packing scale T (rows_bytes 0 rs) (rows_pool rs)
    (table_bytes (packed_track scale T (rows_bytes 0 rs) (rows_pool rs)) ∷ samples_bytes (packed_track scale T (rows_bytes 0 rs) (rows_pool rs)) ∷ [])
asked (back scale T rs) =
    ask_packing scale T (rows_bytes 0 rs) (rows_pool rs)
    (ask_unpacking scale (table_bytes (packed_track scale T (rows_bytes 0 rs) (rows_pool rs))) (samples_bytes (packed_track scale T (rows_bytes 0 rs) (rows_pool rs))))
asked (prints line rs) = answer_text (line_of line) true (rows_bytes 0 rs) (rows_pool rs) ∷ []
asked (characters s) = if_counted (characters_of s)
asked (file s) = if_read (read_of s 1000 1000) (file_records s ∷ file_pool s ∷ [])
asked (out c recs pool) = if_written (written_of c recs pool 1000) (file_bytes c recs pool)

-- a question and its answer
pub record Case : Type 0 where
  pub question : Question
  pub answer : List (List ℕ)

unfoldable abutting : List Row
abutting = record { id = 1; start = 0; end = 333; payload = [] } ∷ record { id = 2; start = 333; end = 666; payload = [] } ∷ record { id = 3; start = 666; end = 999; payload = [] } ∷ []

unfoldable hi : List Row
hi = record { id = 7; start = 0; end = 1000; payload = 0x48 ∷ 0x69 ∷ [] } ∷ []

-- `WEBVTT`, and an empty line
unfoldable head : List ℕ
head = 0x57 ∷ 0x45 ∷ 0x42 ∷ 0x56 ∷ 0x54 ∷ 0x54 ∷ 0x0A ∷ 0x0A ∷ []

-- the identifier `a`, the timing line `00:01.000 --> 00:02.500 line:0`, the payload `Hi`
unfoldable one_cue : List ℕ
one_cue = 0x61 ∷ 0x0A ∷ 0x30 ∷ 0x30 ∷ 0x3A ∷ 0x30 ∷ 0x31 ∷ 0x2E ∷ 0x30 ∷ 0x30 ∷ 0x30 ∷ 0x20 ∷ 0x2D ∷ 0x2D ∷ 0x3E ∷ 0x20 ∷ 0x30 ∷ 0x30 ∷ 0x3A ∷ 0x30 ∷ 0x32 ∷ 0x2E ∷ 0x35 ∷ 0x30 ∷ 0x30 ∷ 0x20 ∷ 0x6C ∷ 0x69 ∷ 0x6E ∷ 0x65 ∷ 0x3A ∷ 0x30 ∷ 0x0A ∷ 0x48 ∷ 0x69 ∷ []

-- its record and its pool
unfoldable one_record : List ℕ
one_record = 0x00 ∷ 0x00 ∷ 0x00 ∷ 0x00 ∷ 0x00 ∷ 0x00 ∷ 0x03 ∷ 0xE8 ∷ 0x00 ∷ 0x00 ∷ 0x09 ∷ 0xC4 ∷ 0x00 ∷ 0x00 ∷ 0x00 ∷ 0x00 ∷ 0x00 ∷ 0x01 ∷ 0x00 ∷ 0x06 ∷ 0x00 ∷ 0x02 ∷ 0x00 ∷ 0x00 ∷ []

unfoldable one_pool : List ℕ
one_pool = 0x61 ∷ 0x6C ∷ 0x69 ∷ 0x6E ∷ 0x65 ∷ 0x3A ∷ 0x30 ∷ 0x48 ∷ 0x69 ∷ []

-- as it is written: `a`, `00:00:01.000 --> 00:00:02.500 line:0`, `Hi`, each with its LF
unfoldable cue_out : List ℕ
cue_out = 0x61 ∷ 0x0A ∷ 0x30 ∷ 0x30 ∷ 0x3A ∷ 0x30 ∷ 0x30 ∷ 0x3A ∷ 0x30 ∷ 0x31 ∷ 0x2E ∷ 0x30 ∷ 0x30 ∷ 0x30 ∷ 0x20 ∷ 0x2D ∷ 0x2D ∷ 0x3E ∷ 0x20 ∷ 0x30 ∷ 0x30 ∷ 0x3A ∷ 0x30 ∷ 0x30 ∷ 0x3A ∷ 0x30 ∷ 0x32 ∷ 0x2E ∷ 0x35 ∷ 0x30 ∷ 0x30 ∷ 0x20 ∷ 0x6C ∷ 0x69 ∷ 0x6E ∷ 0x65 ∷ 0x3A ∷ 0x30 ∷ 0x0A ∷ 0x48 ∷ 0x69 ∷ 0x0A ∷ []

-- document 01, 'Cases'; document 02, K1: a file with one cue, a malformed timing line, and a `STYLE` block; K5: the file of that cue, of none, and a configuration that is none
unfoldable pub cases : List Case
unfolding abutting hi head one_cue one_record one_pool cue_out
cases =
    record {
      question = holds 1000 20000 (record { id = 1; start = 11000; end = 12500; payload = [] } ∷ record { id = 2; start = 13000; end = 18000; payload = [] } ∷ record { id = 3; start = 17000; end = 20000; payload = [] } ∷ []);
      answer = (11000 ∷ 1500 ∷ 500 ∷ 4000 ∷ 1000 ∷ 2000 ∷ []) ∷ [] ∷ (1 ∷ []) ∷ [] ∷ (2 ∷ []) ∷ (2 ∷ 3 ∷ []) ∷ (3 ∷ []) ∷ [];
    }
    ∷ record { question = holds 1500 999 abutting; answer = (499 ∷ 500 ∷ 499 ∷ []) ∷ (1 ∷ []) ∷ (2 ∷ []) ∷ (3 ∷ []) ∷ [] }
    ∷ record { question = back 1500 999 abutting; answer = (0 ∷ 333 ∷ 666 ∷ []) ∷ (333 ∷ 666 ∷ 999 ∷ []) ∷ (999 ∷ []) ∷ [] }
    ∷ record { question = holds 25 1000 (record { id = 1; start = 0; end = 40; payload = [] } ∷ record { id = 2; start = 41; end = 79; payload = [] } ∷ []); answer = (10 ∷ 1 ∷ []) ∷ [] }
    ∷ record { question = holds 25 80 (record { id = 1; start = 41; end = 80; payload = [] } ∷ []); answer = (1 ∷ 1 ∷ []) ∷ [] ∷ (1 ∷ []) ∷ [] }
    ∷ record { question = written 1000 1000 []; answer = (0x00 ∷ 0x00 ∷ 0x03 ∷ 0xE8 ∷ 0x00 ∷ 0x00 ∷ 0x00 ∷ 0x08 ∷ []) ∷ (0x00 ∷ 0x00 ∷ 0x00 ∷ 0x08 ∷ 0x76 ∷ 0x74 ∷ 0x74 ∷ 0x65 ∷ []) ∷ [] }
    ∷ record {
      question = written 90000 1000 hi;
      answer = (0x00 ∷ 0x01 ∷ 0x5F ∷ 0x90 ∷ 0x00 ∷ 0x00 ∷ 0x00 ∷ 0x1E ∷ [])
          ∷ (0x00 ∷ 0x00 ∷ 0x00 ∷ 0x1E ∷ 0x76 ∷ 0x74 ∷ 0x74 ∷ 0x63 ∷ 0x00 ∷ 0x00 ∷ 0x00 ∷ 0x0C ∷ 0x76 ∷ 0x73 ∷ 0x69 ∷ 0x64 ∷ 0x00 ∷ 0x00 ∷ 0x00 ∷ 0x07
          ∷ 0x00 ∷ 0x00 ∷ 0x00 ∷ 0x0A ∷ 0x70 ∷ 0x61 ∷ 0x79 ∷ 0x6C ∷ 0x48 ∷ 0x69 ∷ []) ∷ [];
    }
    ∷ record { question = prints (0x39 ∷ 0x30 ∷ 0x30 ∷ 0x30 ∷ 0x30 ∷ 0x20 ∷ 0x31 ∷ 0x30 ∷ 0x30 ∷ 0x30 ∷ 0x0A ∷ []) hi; answer = (0x39 ∷ 0x30 ∷ 0x30 ∷ 0x30 ∷ 0x30 ∷ 0x20 ∷ 0x33 ∷ 0x30 ∷ 0x0A ∷ []) ∷ [] }
    ∷ record { question = characters (0xC3 ∷ 0xA9 ∷ []); answer = (1 ∷ []) ∷ [] }
    ∷ record { question = characters (0xFE ∷ 0xFF ∷ 0xD8 ∷ 0x3D ∷ 0xDE ∷ 0x00 ∷ []); answer = (1 ∷ []) ∷ [] }
    ∷ record { question = characters (0xFE ∷ 0xFF ∷ []); answer = (0 ∷ []) ∷ [] }
    ∷ record {
      question = file (head ++ one_cue);
      answer = one_record ∷ one_pool ∷ [];
    }
    ∷ record { question = file (head ++ 0x61 ∷ 0x0A ∷ 0x2D ∷ 0x2D ∷ 0x3E ∷ []); answer = (19 ∷ 4 ∷ []) ∷ [] }
    ∷ record { question = file (head ++ 0x53 ∷ 0x54 ∷ 0x59 ∷ 0x4C ∷ 0x45 ∷ []); answer = (18 ∷ 3 ∷ []) ∷ [] }
    ∷ record { question = out (take 6 head) one_record one_pool; answer = (head ++ cue_out) ∷ [] }
    ∷ record { question = out (take 6 head) [] []; answer = head ∷ [] }
    ∷ record { question = out (take 5 head) [] []; answer = (6 ∷ 0 ∷ []) ∷ [] }
    ∷ []

-- each question has its answer
abbrev pub CasesHold : Type 0
CasesHold = map (λ (c : Case). asked c.question) cases ≡ map (λ (c : Case). c.answer) cases
