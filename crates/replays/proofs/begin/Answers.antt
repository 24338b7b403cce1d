-- `replays::begin` meets its contract: the heading was written, and both modules are fresh.
-- Assumes nothing.
use mathlib.Core.Path.{ap}
use native.Mathlib.Omega.{arith}
use Rattle.rules.specs.Bytes.{zeros}
use Rattle.rules.specs.Numbers.{area_size}
use Rattle.rules.specs.declared.Cabinet.{Cabinet}
use Rattle.rules.specs.Record.{whole_of}
use Rattle.replays.proofs.begin.Goals as goal

pub returns : goal.returns
returns c = let h = c.put_heading-at.ensures in
    record { within = omega (arith, h.within); wrote = h.wrote; whole_is = ap (λ (d : Cabinet). whole_of d (zeros area_size)) c.fresh.ensures }
