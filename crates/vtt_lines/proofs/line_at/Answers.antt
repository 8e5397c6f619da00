use Prim.Native.Nat.{ℕ, ◌+◌}
use mathlib.Core.Path.{ap, ◌∙◌}
use lib.ListN.{drop}
use Rattle.vtt_lines.specs.Cursor.{end_size, next_at}
use Rattle.vtt_lines.proofs.line_at.Goals as goal

pub returns : goal.returns
unfolding next_at
returns c =
    let a = c.args in
    let e = c.end_of-end.ensures.0 in
    let n = c.after_end-next.ensures ∙ ap (λ (k : ℕ). k + end_size (drop k a.s.now)) e in
    λ i. record { end = e i; next = n i; number = a.line + 1 }
