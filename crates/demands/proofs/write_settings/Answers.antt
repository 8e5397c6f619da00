-- `demands::write_settings` meets its contract: that of `settings_write::write_settings`, by its answer.
use mathlib.Core.Path.{◌∙◌, sym, ap}
use Rattle.wvtt_entry_write.specs.Written.{Written}
use Rattle.wvtt_entry_write.specs.Writing.{after}
use Rattle.settings.specs.Form.{written}
use Rattle.settings_write.specs.Writing.{record_with}
use Rattle.demands.proofs.write_settings.Goals as goal

pub returns : goal.returns
returns c =
    let e = c.write_settings.ensures in
    record { answers = e.0; text_holds = e.1 ∙ ap (λ (w : Written). after w (written (record_with c.args.x c.args.region.now)) c.args.text.now) (sym e.0) }
