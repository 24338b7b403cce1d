-- `health_trips::trips` meets its contract. Three flags that are shifted apart, as far as they are enabled, add up to the byte (proofs/Shifted.antt).
-- Assumes nothing.
use Rattle.health_trips.proofs.Shifted.{tripped}
use Rattle.health_trips.proofs.trips.Goals as goal

pub returns : goal.returns
returns c = let a = c.args in
    tripped a.h a.reading c.above-media.ensures c.above-controller.ensures
