use Rattle.std.proofs.Common.{◌≡◌, rules, fold, bit_or}
use Rattle.base.specs.Choice.{pick}
use Rattle.ascii.specs.Ascii.{mark}
use Rattle.ascii.proofs.Blocks.{unmarked-fold}
use Rattle.ascii.proofs.is_unmarked.Goals as goal

pub returns : goal.returns
returns c =
    let h : c.fold.result ≡ fold (λ x b. bit_or x (pick (mark c.args.stop 0x20 b) 1 0)) 0 c.args.s.now = search rules in
    rw h (unmarked-fold c.args.stop c.args.s.now)
