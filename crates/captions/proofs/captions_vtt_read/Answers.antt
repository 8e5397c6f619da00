-- `captions::captions_vtt_read` meets its contract: the answer of the operation, as C sees it.
use Rattle.captions.specs.Flat.{flat_file}
use Rattle.vtt_read.specs.Reading.{file_records, file_pool, out_of}
use Rattle.vtt_read.specs.FileRead.{FileRead}
use mathlib.Core.Path.{ap, ◌∙◌}
use Rattle.captions.proofs.captions_vtt_read.Goals as goal

pub returns : goal.returns
returns c = let a = c.args in
    let u = c.read-f.ensures in record { value = c.from.ensures ∙ ap flat_file u.0; records_after = u.1 ∙ ap (λ (x : FileRead). out_of x (file_records a.file.now) a.records.now) u.0; pool_after = u.2 ∙ ap (λ (x : FileRead). out_of x (file_pool a.file.now) a.pool.now) u.0 }
