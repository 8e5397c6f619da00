-- Bytes that are fed chunk by chunk.
use mathlib.Core.Path.{refl}
use mathlib.Core.List.{[], ◌∷◌}
use Rattle.input.specs.Reading.{stepped, fed, FedAppend}

pub fed-append : FedAppend
unfolding fed
fed-append r [] b = refl
fed-append r (x ∷ a) b = fed-append (stepped r x) a b
