-- The record and the texts of cue k.
use mathlib.Core.Path.{◌∙◌}
use Rattle.vtt_read.proofs.Rows.{next-size, put-fits, record-on, pool-on}
use Rattle.vtt_read.proofs.write_texts.Goals as goal

pub put_cue-requires : goal.put_cue-requires
put_cue-requires c = let p = c.requires in put-fits _ _ _ _ p.0 p.1 _ (p.2 ∙ p.0.payload_is) _ _ p.3

pub returns : goal.returns
returns c =
    let p = c.requires in
    let text = p.2 ∙ p.0.payload_is in
    let put = c.put_cue.ensures in
    (put.0 ∙ next-size _ _ _ _ p.0 p.1 _ text, record-on _ _ _ _ p.0 p.1 _ text _ _ put.1, pool-on _ _ _ _ p.0 p.1 _ text _ _ put.2)
