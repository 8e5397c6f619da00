-- A name that is not empty and holds no white space.
use borrow.Author.Tests.{lt-leb, le-leb}
use lib.ListN.{length}
use Rattle.settings.specs.Reading.{region_parsed}
use native.Mathlib.Omega.{arith}
use Rattle.settings_values.proofs.parse_region.Goals as goal

pub returns-then-s-eq0 : goal.returns-then-s-eq0
unfolding region_parsed
returns-then-s-eq0 c = rw (lt-leb 1 (length c.args.s.now) (omega (arith, c.if-s-eq0.true)))

pub returns-then-not-is_name : goal.returns-then-not-is_name
unfolding region_parsed
returns-then-not-is_name c = rw (le-leb 1 (length c.args.s.now) (omega (arith, c.if-s-eq0.false)), ← c.is_name.ensures, c.if-not-is_name.true)

pub returns : goal.returns
unfolding region_parsed
returns c = rw (le-leb 1 (length c.args.s.now) (omega (arith, c.if-s-eq0.false)), ← c.is_name.ensures, c.if-not-is_name.false)
