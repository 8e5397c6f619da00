-- `settings_put::put_values` meets its contract: each setting behind those before it.
use native.Mathlib.Omega.{arith}
use Rattle.settings.specs.Form.{stated_values}
use Rattle.settings_put.proofs.Laws.{put_all}
use Rattle.settings_put.proofs.put_values.Goals as goal

pub returns : goal.returns
unfolding stated_values
returns c = (put_all _ _ _ _ _ _ _ _ _ _ c.put_vertical-second.ensures.0 c.put_line-third.ensures.0 c.put_position-fourth.ensures.0 c.put_size-fifth.ensures.0 c.put_align.ensures.0, omega (arith, c.put_vertical-second.ensures.1, c.put_line-third.ensures.1, c.put_position-fourth.ensures.1, c.put_size-fifth.ensures.1, c.put_align.ensures.1))
