-- What the program prints.
use Rattle.std.specs.Prelude.{Ok}
use Rattle.std.specs.Prelude.{ℕ, List, Bool, false, leb, eqb, ℤ, pos, negsuc, length, take}
use Rattle.std.specs.Int.Signed.{non_neg}
use Rattle.base.specs.Choice.{pick, both}
use Rattle.listing.specs.Listing.{rows_text, refusal_text}
use Rattle.input.specs.Line.{Line, Numbers, Bad}
use Rattle.pack.specs.Packed.{Packed, Done, Refused}
use Rattle.pack.specs.Packing.{packed_track, table_bytes, packed_of}
use Rattle.report.specs.declared.Taken.{Taken}

-- the lines of a packed table, or of a refusal
abbrev pub packed_text : Packed → List ℕ → List ℕ
packed_text (Ok x) table = rows_text table x.samples
packed_text (Refused r) table = refusal_text r.number r.place

-- packing, with room for 2,049 samples and 65,536 bytes of them
unfoldable pub list_text : ℕ → ℕ → List ℕ → List ℕ → List ℕ
list_text scale T recs pool = packed_text (packed_of scale T recs pool 16392 65536) (table_bytes (packed_track scale T recs pool))

-- both files were read, and neither is longer than 32 KiB
unfoldable pub usable : Bool → List ℕ → List ℕ → Bool
usable found recs pool = both found (both (leb (length recs) 32768) (leb (length pool) 32768))

-- a bad line (10), a file missing or too long (9), else packing's answer
unfoldable pub answer_text : Line → Bool → List ℕ → List ℕ → List ℕ
answer_text Bad found recs pool = refusal_text 10 0
answer_text (Numbers scale T) found recs pool = pick (usable found recs pool) (list_text scale T recs pool) (refusal_text 9 0)

-- a file was opened, which gives a descriptor that is not negative, and a read behind its bytes answered 0, which is its end
abbrev pub at_end : ℤ → Bool
at_end (pos k) = eqb k 0
at_end (negsuc k) = false

unfoldable pub whole : Taken → Bool
whole file = both (non_neg file.fd) (at_end file.more)

-- the program's whole output: the line, and both files by what the system answered for them
unfoldable pub output_text : Line → Taken → Taken → List ℕ → List ℕ → List ℕ
unfolding whole
output_text line first second records pool = answer_text line (both (whole first) (whole second)) (take first.n records) (take second.n pool)
