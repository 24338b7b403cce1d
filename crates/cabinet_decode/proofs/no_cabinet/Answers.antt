-- `cabinet_decode::no_cabinet` meets its contract. Both modules are the impossible one.
-- Assumes nothing.
use Rattle.cabinet_bytes.specs.Encoding.{impossible_cabinet}
use Rattle.cabinet_decode.proofs.no_cabinet.Goals as goal

pub returns : goal.returns
unfolding impossible_cabinet
returns c = λ i. record { contexts = 0; first = c.no_record.ensures i; second = c.no_record-2.ensures i }
