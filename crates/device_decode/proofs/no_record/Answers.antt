-- `device_decode::no_record` meets its contract. A fresh record with another phase is the definition's.
-- Assumes nothing.
use mathlib.Core.Path.{ap}
use Rattle.rules.{specs.With.{◌with_transfer◌, ◌with_phase◌}, specs.declared.Phase.TheVariants.Failed, specs.declared.Device.Device}
use Rattle.device_bytes.specs.Encoding.{impossible}
use Rattle.device_decode.proofs.no_record.Goals as goal

pub returns : goal.returns
unfolding impossible
returns c = ap (λ (d : Device). d with_transfer (d.transfer with_phase Failed)) c.fresh-fresh.ensures
