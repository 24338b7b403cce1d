-- What a tick in place promises: the reply, and the record behind the reference, are those that the tick's definition gives the cabinet as it was. So
-- an R number (an area of another length, an impossible record) leaves the record as it was.
-- Assumes nothing.
use Rattle.std.specs.Prelude.{◌≡◌}
use Rattle.rules.specs.Record.{Whole}
use Rattle.rules.specs.Cabinet.{tick_result}
use Rattle.rules.specs.declared.{Cabinet.Cabinet, Reply.Reply}

pub record TickedInPlace (before : Whole) (reply : Reply) (after : Cabinet) : Type 0 where
  pub reply_is : reply ≡ (tick_result before).reply
  pub cabinet_is : after ≡ (tick_result before).after.cabinet
