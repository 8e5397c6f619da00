-- Each field by its digits.
use Prim.Native.Nat.{◌+◌}
use native.Mathlib.Omega.{arith}
use Rattle.timestamps.specs.Timestamps.{COLON, DOT}
use Rattle.timestamps.proofs.Laws.{minutes-value, minutes-pair, seconds-pair, pair-first, pair-second, pair-most, ms-first, ms-second, ms-third}
use Rattle.timestamps.proofs.minutes_ms.Goals as goal

pub two_digits-requires : goal.two_digits-requires
two_digits-requires c =
    let g = c.requires in
    (omega (arith, g.0), ms-first _ _ g.0 g.1, ms-second _ _ g.0 g.1)

pub number_of-requires : goal.number_of-requires
number_of-requires c = let g = c.requires in ms-third _ _ g.0 g.1

pub two_digits-requires-2 : goal.two_digits-requires-2
two_digits-requires-2 c =
    let s = c.args.s.now in
    let i = c.args.at in
    let g = c.requires in
    let p = minutes-pair s i g.0 g.1 in
    (omega (arith, g.0), pair-first s i 53 COLON (omega arith) p, pair-second s i 53 COLON (omega arith) p)

pub two_digits-requires-3 : goal.two_digits-requires-3
two_digits-requires-3 c =
    let s = c.args.s.now in
    let i = c.args.at in
    let g = c.requires in
    let p = seconds-pair s i g.0 g.1 in
    (omega (arith, g.0), pair-first s (i + 3) 53 DOT (omega arith) p, pair-second s (i + 3) 53 DOT (omega arith) p)

pub returns : goal.returns
returns c =
    let s = c.args.s.now in
    let i = c.args.at in
    let g = c.requires in
    let e = minutes-value s i g.0 in
    let a = c.two_digits.ensures in
    let b = c.number_of.ensures in
    let m = c.two_digits-2.ensures in
    let n = c.two_digits-3.ensures in
    let x = pair-most s i 53 COLON (omega arith) (minutes-pair s i g.0 g.1) (omega (arith, g.0)) in
    let y = pair-most s (i + 3) 53 DOT (omega arith) (seconds-pair s i g.0 g.1) (omega (arith, g.0)) in
    (omega (arith, e, a.0, b.0, m.0, n.0), omega (arith, a.1, b.1, m.0, n.0, x, y))
