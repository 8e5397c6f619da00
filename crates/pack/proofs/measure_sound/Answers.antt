use Rattle.pack.proofs.Turns.{sound-timed, measured}
use Rattle.pack.specs.Packing.{sizes_of}
use Rattle.cuts.specs.Cuts.{Timed}
use Rattle.records.specs.Records.{count}
use lib.ListN.{length}
use mathlib.Core.Path.{refl, subst⁻¹}
use Prim.Native.Nat.{ℕ, ◌/◌}
use Rattle.pack.proofs.measure_sound.Goals as goal

pub measure-size-requires : goal.measure-size-requires
unfolding count
measure-size-requires c = let a = c.args in
    subst⁻¹ (λ (x : ℕ). Timed a.scale x a.records.now (length a.records.now / 24)) c.tick_of.ensures.0 (sound-timed _ _ _ _ c.requires)

-- what is measured is what will be written
pub returns : goal.returns
unfolding count sizes_of
returns c = let z = measured c.args.scale c.args.t c.args.records.now c.args.pool.now c.requires _ _ _ _ c.tick_of.ensures.0 refl c.measure-size.ensures.0 c.measure-size.ensures.1 in
    rw (z.0, z.1, z.2)
