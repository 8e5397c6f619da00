-- `captions::captions_wvtt_write_entry` meets its contract: the answer of the operation, as C sees it.
use Rattle.captions.specs.Flat.{flat_written}
use Rattle.wvtt_entry_write.specs.Writing.{label_of, entry_bytes, after}
use Rattle.wvtt_entry_write.specs.Written.{Written}
use mathlib.Core.Path.{ap, ◌∙◌}
use Rattle.captions.proofs.captions_wvtt_write_entry.Goals as goal

pub returns : goal.returns
returns c = let a = c.args in
    record { value = c.from.ensures ∙ ap flat_written c.write_entry-w.ensures.value; after = c.write_entry-w.ensures.out_after ∙ ap (λ (x : Written). after x (entry_bytes a.configuration.now (label_of a.labelled a.label.now) a.data_reference_index) a.entry.now) c.write_entry-w.ensures.value }
