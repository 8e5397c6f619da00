use mathlib.Core.Path.{refl}
use native.Mathlib.Omega.{arith}
use native.Mathlib.Numerals.{add-one}
use lib.Seq.{paste-zero, paste-suc}
use Rattle.vtt_lines.proofs.Gathering.{bytes-full, bytes-put}
use Rattle.vtt_lines.proofs.put_bytes.Goals as goal

pub returns-then-buf-end : goal.returns-then-buf-end
returns-then-buf-end c = (refl, bytes-full _ _ _ c.if-buf-end.true)

pub loop-i-init : goal.loop-i-init
loop-i-init c = paste-zero c.args.buf.now c.args.n c.args.bytes.now

pub loop-i-preserved : goal.loop-i-preserved
loop-i-preserved c =
    let a = c.args in
    let l = c.loop-i in
    rw (l.invariant, add-one) (paste-suc a.buf.now a.n a.bytes.now l.i 0 (omega arith) (omega arith))

pub returns : goal.returns
returns c =
    let l = c.loop-i in
    (refl, bytes-put _ _ _ _ l.i (omega arith) l.invariant l.auto.buf)
