-- What the types of a cabinet's fields say of it, as the types' laws have it.
-- Assumes nothing.
use mathlib.Core.List.{List}
use mir.Val.{Val}
use denote.Laws.{Is}
use Rattle.rules.specs.declared.Cabinet.{Cabinet}
use Rattle.device_bytes.proofs.Range as device
use Rattle.cabinet_bytes.proofs.Back.{InRange}
use denote.Struct.Laws as LL
use Rattle.rules.specs.contracts.Cabinet as C
use Rattle.rules.proofs.Cabinet.TheLaws as C'

pub in_range : (c : Cabinet) (vs : List Val) → Is C.the_row c vs → InRange c
in_range c vs is =
    let o = LL.owed C.the_type C'.the_laws c vs is in
    record { contexts = o.0.1; first = device.in_range c.first _ o.1.0; second = device.in_range c.second _ o.1.1.0 }
