-- `captions::captions_vtt_write` meets its contract: the answer of the operation, as C sees it.
use mathlib.Core.Path.{ap, ◌∙◌}
use Rattle.vtt_write.specs.FileWritten.{FileWritten}
use Rattle.vtt_write.specs.Writing.{file_bytes, after}
use Rattle.captions.specs.Flat.{flat_file_written}
use Rattle.captions.proofs.captions_vtt_write.Goals as goal

pub returns : goal.returns
returns c =
    let a = c.args in
    record { value = c.from.ensures ∙ ap flat_file_written c.write-w.ensures.value; file_after = c.write-w.ensures.out_after ∙ ap (λ (x : FileWritten). after x (file_bytes a.configuration.now a.records.now a.pool.now) a.file.now) c.write-w.ensures.value }
