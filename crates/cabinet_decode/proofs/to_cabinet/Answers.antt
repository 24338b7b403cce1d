-- `cabinet_decode::to_cabinet` meets its contract. The number, and each module's part as it decodes.
-- Assumes nothing.
use Rattle.cabinet_bytes.specs.Encoding.{cabinet_of}
use Rattle.cabinet_decode.proofs.to_cabinet.Goals as goal

pub returns : goal.returns
unfolding cabinet_of
returns c = λ i. record { contexts = c.read.ensures i; first = c.decode.ensures i; second = c.decode-2.ensures i }
