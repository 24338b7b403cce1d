-- `health_trips::above` meets its contract. The higher word is above the other (proofs/Higher.antt).
-- Assumes nothing.
use mathlib.Core.Path.{◌∙◌}
use Rattle.rules.specs.Tests.{◌<?◌}
use Rattle.health_trips.proofs.Higher.{higher}
use Rattle.health_trips.proofs.above.Goals as goal

pub returns : goal.returns
returns c = (λ i. c.height.ensures i <? c.height-2.ensures i)
    ∙ higher c.args.word c.args.other c.ranges.word.fits c.ranges.other.fits
