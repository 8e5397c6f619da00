use Prim.Native.Nat.{◌+◌, ◌-◌}
use mathlib.Core.Bool.{false}
use mathlib.Core.Path.{◌≡◌}
use native.Mathlib.Omega.{arith}
use Rattle.tx3g_payload_write.proofs.Tags.{one-stands}
use Rattle.tx3g_tidy.proofs.Places.{passing, passed-one, passed-all}
use Rattle.tx3g_tidy.proofs.pass_characters.Goals as goal

pub loop-passed-init : goal.loop-passed-init
loop-passed-init c = let all : c.args.count - 0 ≡ c.args.count = omega arith in rw all (passing _ _ _ c.requires)

pub utf8_at-at-requires : goal.utf8_at-at-requires
utf8_at-at-requires c = let p = c.loop-passed.invariant in (one-stands false _ _ (c.args.count - c.loop-passed._passed) (omega arith) p.many, p.so_far.spells)

pub loop-passed-preserved : goal.loop-passed-preserved
loop-passed-preserved c =
    let next : c.args.count - (c.loop-passed._passed + 1) ≡ c.args.count - c.loop-passed._passed - 1 = omega arith in
    rw next (passed-one _ _ _ _ _ _ _ c.loop-passed.invariant (omega arith) c.utf8_at-at.ensures)

pub returns : goal.returns
returns c = passed-all _ _ _ _ _ c.loop-passed.invariant (omega arith)
