-- Calls of the operations: what they were lent, what they answered, and what their outputs hold afterwards. Each record is the contract of its function;
-- src/lib.rt has it proved of the function itself. The demands below are about every call.
use Rattle.std.specs.Prelude.{ℕ, ◌≡◌, List, length}
use Rattle.pack.specs.Packed.{Packed}
use Rattle.pack.specs.Packing.{packed_track, table_bytes, samples_bytes, packed_of, after}
use Rattle.conform.specs.Checked.{Checked}
use Rattle.conform.specs.Conformance.{checked}
use Rattle.records_write.specs.Records.{records_of, pool_of}
use Rattle.unpack.specs.Unpacked.{Unpacked}
use Rattle.unpack.specs.Unpacking.{track_cues, unpack_of, out_of}
use Rattle.table.specs.Parts.{table_of, content_of}
use Rattle.table_lasting.specs.Dropped.{Dropped}
use Rattle.table_lasting.specs.Lasting.{lasting_of}
use Rattle.table_lasting.specs.Dropping.{drop_of, out_of as drop_out}
use Rattle.tx3g_convert.specs.Converted.{Converted}
use Rattle.tx3g_convert.specs.Convert.{stock_cues, convert_of, out_of as convert_out}
use Rattle.vtt_read.specs.FileRead.{FileRead}
use Rattle.vtt_read.specs.Reading.{file_records, file_pool, read_of, out_of as file_out}
use Rattle.vtt_write.specs.FileWritten.{FileWritten}
use Rattle.vtt_write.specs.Writing.{file_bytes, written_of, after as file_after}
use Rattle.wvtt_entry_write.specs.Written.{Written}
use Rattle.wvtt_entry_write.specs.Writing.{after as entry_after}
use Rattle.settings.specs.declared.Settings.{Settings}
use Rattle.settings.specs.Form.{written}
use Rattle.settings_write.specs.Writing.{record_with, settings_written}

-- `pack::pack`, which is lent a table and samples to write
pub record PackCall (scale T : ℕ) (records pool table samples table_after samples_after : List ℕ) (answer : Packed) : Type 0 where
  pub answers : answer ≡ packed_of scale T records pool (length table) (length samples)
  pub table_holds : table_after ≡ after answer (table_bytes (packed_track scale T records pool)) table
  pub samples_hold : samples_after ≡ after answer (samples_bytes (packed_track scale T records pool)) samples

-- `conform::check_track`, which writes nothing
pub record CheckCall (scale T : ℕ) (records pool table samples : List ℕ) (answer : Checked) : Type 0 where
  pub answers : answer ≡ checked scale T records pool table samples

-- `unpack::unpack`, which is lent records and a pool to write
pub record UnpackCall (scale : ℕ) (table samples records pool records_after pool_after : List ℕ) (answer : Unpacked) : Type 0 where
  pub answers : answer ≡ unpack_of scale table samples (length records) (length pool)
  pub records_hold : records_after ≡ out_of answer (records_of scale (track_cues table samples)) records
  pub pool_holds : pool_after ≡ out_of answer (pool_of (track_cues table samples)) pool

-- `vtt_read::read`, which is lent records and a pool to write
pub record ReadCall (file records pool records_after pool_after : List ℕ) (answer : FileRead) : Type 0 where
  pub answers : answer ≡ read_of file (length records) (length pool)
  pub records_hold : records_after ≡ file_out answer (file_records file) records
  pub pool_holds : pool_after ≡ file_out answer (file_pool file) pool

-- `vtt_write::write`, which is lent a file to write
pub record WriteCall (configuration records pool file after : List ℕ) (answer : FileWritten) : Type 0 where
  pub answers : answer ≡ written_of configuration records pool (length file)
  pub file_holds : after ≡ file_after answer (file_bytes configuration records pool) file

-- `tx3g_convert::convert`, which is lent records and a pool to write
pub record ConvertCall (scale : ℕ) (entry table samples records pool records_after pool_after : List ℕ) (answer : Converted) : Type 0 where
  pub answers : answer ≡ convert_of scale entry table samples (length records) (length pool)
  pub records_hold : records_after ≡ convert_out answer (records_of scale (stock_cues entry table samples)) records
  pub pool_holds : pool_after ≡ convert_out answer (pool_of (stock_cues entry table samples)) pool

-- `table_lasting::drop_zero_durations`, which is lent a table and samples to write
pub record DropCall (table samples rows content rows_after content_after : List ℕ) (answer : Dropped) : Type 0 where
  pub answers : answer ≡ drop_of table samples (length rows) (length content)
  pub rows_hold : rows_after ≡ drop_out answer (table_of (lasting_of table samples)) rows
  pub content_holds : content_after ≡ drop_out answer (content_of (lasting_of table samples)) content

-- `settings_write::write_settings`, which is lent a text to write
pub record SettingsCall (x : Settings) (region text text_after : List ℕ) (answer : Written) : Type 0 where
  pub answers : answer ≡ settings_written x region (length text)
  pub text_holds : text_after ≡ entry_after answer (written (record_with x region)) text
