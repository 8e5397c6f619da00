use Rattle.std.proofs.Common.{◌≡◌, rules, fold, bit_or}
use Rattle.ascii.proofs.Blocks.{ascii-fold}
use Rattle.ascii.proofs.is_ascii.Goals as goal

pub returns : goal.returns
returns c = let h : c.fold.result ≡ fold bit_or 0 c.args.s.now = search rules in rw h (ascii-fold c.args.s.now)
