-- `tx3g_modifiers::read_link` meets its contract.
use Rattle.tx3g_modifiers.specs.Modifiers.{link_of}
use Rattle.tx3g_contents.proofs.Laws.{link-past, alternative-past}
use Rattle.tx3g_contents.specs.Contents.{alternative_at, link_end}
use lib.ListN.{length}
use Prim.Native.Nat.{◌+◌, ◌<◌}
use native.Mathlib.Omega.{arith}
use Rattle.tx3g_modifiers.proofs.read_link.Goals as goal

pub get16-start-requires : goal.get16-start-requires
get16-start-requires c = let w = link-past c.args.s.now c.args.body in omega arith

pub overflow_add-body : goal.overflow_add-body
overflow_add-body c = let w = link-past c.args.s.now c.args.body in omega arith

pub get16-end-requires : goal.get16-end-requires
get16-end-requires c = let w = link-past c.args.s.now c.args.body in omega arith

pub overflow_add-second : goal.overflow_add-second
overflow_add-second c = let w = link-past c.args.s.now c.args.body in omega arith

pub overflow_add-body-2 : goal.overflow_add-body-2
overflow_add-body-2 c = let w = link-past c.args.s.now c.args.body in omega arith

pub get8-requires : goal.get8-requires
get8-requires c = let w = link-past c.args.s.now c.args.body in omega arith

pub overflow_add-second-2 : goal.overflow_add-second-2
unfolding alternative_at
overflow_add-second-2 c =
    let second : c.args.body + 5 + c.get8.result < length c.args.s.now = let w = alternative-past c.args.s.now c.args.body in
    omega (arith, w, c.get8.ensures.0, c.requires) in
    let w = second in omega arith

pub overflow_add-url : goal.overflow_add-url
unfolding alternative_at
overflow_add-url c =
    let second : c.args.body + 5 + c.get8.result < length c.args.s.now = let w = alternative-past c.args.s.now c.args.body in
    omega (arith, w, c.get8.ensures.0, c.requires) in
    let w = second in omega arith

pub overflow_add-alternative : goal.overflow_add-alternative
unfolding alternative_at
overflow_add-alternative c =
    let second : c.args.body + 5 + c.get8.result < length c.args.s.now = let w = alternative-past c.args.s.now c.args.body in
    omega (arith, w, c.get8.ensures.0, c.requires) in
    let w = second in omega arith

pub overflow_add-alternative-2 : goal.overflow_add-alternative-2
unfolding alternative_at
overflow_add-alternative-2 c =
    let second : c.args.body + 5 + c.get8.result < length c.args.s.now = let w = alternative-past c.args.s.now c.args.body in
    omega (arith, w, c.get8.ensures.0, c.requires) in
    let w = second in omega arith

pub get8-requires-2 : goal.get8-requires-2
unfolding alternative_at
get8-requires-2 c =
    let second : c.args.body + 5 + c.get8.result < length c.args.s.now = let w = alternative-past c.args.s.now c.args.body in
    omega (arith, w, c.get8.ensures.0, c.requires) in
    second

pub overflow_add-alternative-3 : goal.overflow_add-alternative-3
unfolding alternative_at
overflow_add-alternative-3 c =
    let second : c.args.body + 5 + c.get8.result < length c.args.s.now = let w = alternative-past c.args.s.now c.args.body in
    omega (arith, w, c.get8.ensures.0, c.requires) in
    let w = second in omega arith

pub returns : goal.returns
unfolding link_of link_end alternative_at
returns c = rw (c.get16-start.ensures.0, c.get16-end.ensures.0, c.get8-2.ensures.0, c.get8.ensures.0)
