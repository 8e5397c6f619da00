use mathlib.Core.Path.{◌≡◌, ◌∙◌}
use lib.ListN.{get_or}
use Rattle.utf8.proofs.Classes.{in_table}
use Rattle.utf8.proofs.ByteTables.class.Goals as goal

pub returns : goal.returns
returns c =
    let r = in_table _ _ c.args.self.now.classes_right c.ranges.b.fits in
    let e : c.from-2.result ≡ get_or c.args.self.now.classes c.args.b 0 = cc in
    (e ∙ r.1, rw e r.2)
