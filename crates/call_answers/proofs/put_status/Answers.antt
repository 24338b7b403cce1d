-- `call_answers::put_status` meets its contract. Three writes one after the other (proofs/Status.antt).
-- Assumes nothing.
use Prim.Native.Nat.{◌-◌}
use Rattle.call_answers.proofs.Status.{status_written}
use Rattle.call_answers.proofs.put_status.Goals as goal

pub returns : goal.returns
returns c = let a = c.args in
    status_written a.status a.ext (a.size - 4) a.answer.now c.put.ensures c.put-2.ensures c.put_zeros.ensures
