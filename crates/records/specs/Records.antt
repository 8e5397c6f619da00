-- Cue records: their fields, and their texts in the pool. Document 01, 'Cue records'.
use Rattle.std.specs.Prelude.{ℕ, ◌+◌, ◌*◌, ◌/◌, List, length, take, drop}
use Rattle.fields.specs.BigEndian.{be}

-- how many records of 24 bytes
unfoldable pub count : List ℕ → ℕ
count recs = length recs / 24

-- the fields of record i
unfoldable pub source_id : List ℕ → ℕ → ℕ
source_id recs i = be 4 recs (i * 24)

unfoldable pub start_ms : List ℕ → ℕ → ℕ
start_ms recs i = be 4 recs (i * 24 + 4)

unfoldable pub end_ms : List ℕ → ℕ → ℕ
end_ms recs i = be 4 recs (i * 24 + 8)

unfoldable pub text_offset : List ℕ → ℕ → ℕ
text_offset recs i = be 4 recs (i * 24 + 12)

unfoldable pub identifier_length : List ℕ → ℕ → ℕ
identifier_length recs i = be 2 recs (i * 24 + 16)

unfoldable pub settings_length : List ℕ → ℕ → ℕ
settings_length recs i = be 2 recs (i * 24 + 18)

unfoldable pub payload_length : List ℕ → ℕ → ℕ
payload_length recs i = be 2 recs (i * 24 + 20)

unfoldable pub reserved : List ℕ → ℕ → ℕ
reserved recs i = be 2 recs (i * 24 + 22)

-- the three texts stand one after the other from the offset
unfoldable pub settings_offset : List ℕ → ℕ → ℕ
settings_offset recs i = text_offset recs i + identifier_length recs i

unfoldable pub payload_offset : List ℕ → ℕ → ℕ
payload_offset recs i = settings_offset recs i + settings_length recs i

unfoldable pub texts_end : List ℕ → ℕ → ℕ
texts_end recs i = payload_offset recs i + payload_length recs i

-- the n bytes of the pool from an offset
unfoldable pub piece : List ℕ → ℕ → ℕ → List ℕ
piece pool from n = take n (drop from pool)

unfoldable pub identifier_of : List ℕ → List ℕ → ℕ → List ℕ
identifier_of recs pool i = piece pool (text_offset recs i) (identifier_length recs i)

unfoldable pub settings_of : List ℕ → List ℕ → ℕ → List ℕ
settings_of recs pool i = piece pool (settings_offset recs i) (settings_length recs i)

unfoldable pub payload_of : List ℕ → List ℕ → ℕ → List ℕ
payload_of recs pool i = piece pool (payload_offset recs i) (payload_length recs i)
