-- `wvtt_entry_write::put_whole` meets its contract: the whole text is the body.
use Rattle.wvtt_entry_write.proofs.Laws.{part-all}
use Rattle.base.specs.Over.{wrote}
use Rattle.boxes.specs.Written.{box_bytes}
use Prim.Native.Nat.{ℕ}
use mathlib.Core.Path.{ap, ◌∙◌}
use mathlib.Core.List.{List}
use Rattle.wvtt_entry_write.proofs.put_whole.Goals as goal

pub returns : goal.returns
returns c = let a = c.args in
    c.put_text.ensures ∙ ap (λ (x : List ℕ). wrote a.out.now a.at (box_bytes a.kind x)) (part-all a.text.now)
