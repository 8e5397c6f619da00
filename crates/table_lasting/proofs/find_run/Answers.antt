use Prim.Native.Nat.{◌/◌}
use lib.ListN.{length}
use mathlib.Core.Path.{◌≡◌, sym, ◌∙◌}
use native.Mathlib.Omega.{arith}
use Rattle.table.specs.Table.{row_count}
use Rattle.table_lasting.proofs.Runs.{lasts-none, lasts-within, lasts-more}
use Rattle.table_lasting.proofs.find_run.Goals as goal

pub loop-i-init : goal.loop-i-init
loop-i-init c = lasts-none _ _ c.requires.0

pub duration_at-requires : goal.duration_at-requires
duration_at-requires c = omega arith

pub returns-then-duration_at-eq0 : goal.returns-then-duration_at-eq0
returns-then-duration_at-eq0 c = record { run = c.loop-i.invariant; stops = λ _. sym c.duration_at.ensures.0 ∙ c.if-duration_at-eq0.true }

pub size_at-bytes-requires : goal.size_at-bytes-requires
size_at-bytes-requires c = omega arith

pub overflow_add-bytes : goal.overflow_add-bytes
unfolding row_count
overflow_add-bytes c = omega (arith, lasts-within _ _ _ _ c.loop-i.invariant (omega arith) _ c.size_at-bytes.ensures.0, c.requires.1)

pub loop-i-preserved : goal.loop-i-preserved
unfolding row_count
loop-i-preserved c = lasts-more _ _ _ _ c.loop-i.invariant (omega arith) _ c.size_at-bytes.ensures.0 (λ z. c.if-duration_at-eq0.false (c.duration_at.ensures.0 ∙ z))

pub returns : goal.returns
unfolding row_count
returns c = let e : c.loop-i.i ≡ length c.args.table.now / 8 = omega arith in
    record { run = rw e at c.loop-i.invariant; stops = λ h. absurd (omega arith) }
