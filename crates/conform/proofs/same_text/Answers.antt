use Prim.Native.Nat.{ℕ, ◌+◌, ◌-◌}
use mathlib.Core.Path.{◌≡◌, ap, ◌∙◌}
use native.Mathlib.Omega.{arith}
use lib.ListN.{take, drop}
use Rattle.base.specs.Choice.{same_list}
use Rattle.wvtt_cues.specs.Cues.{text_of}
use Rattle.records.specs.Records.{piece}
use Rattle.boxes.specs.Boxes.{part}
use Rattle.conform.proofs.same_text.Goals as goal

pub returns : goal.returns
unfolding piece text_of part
returns c =
    let a = c.args in
    let e : a.from + a.n - a.from ≡ a.n = omega arith in
    c.same_bytes.ensures ∙ ap (λ (k : ℕ). same_list (take k (drop a.from a.pool.now)) (text_of a.s.now a.part)) e
