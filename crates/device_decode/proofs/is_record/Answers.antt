-- `device_decode::is_record` meets its contract. The tests are the definition's, over bytes that were read (proofs/Decoded.antt).
-- Assumes nothing.
use native.Mathlib.Omega.{arith}
use Rattle.device_decode.proofs.Decoded.{tested}
use Rattle.device_decode.proofs.is_record.Goals as goal

pub returns : goal.returns
returns c =
    tested c.args.bytes.now (omega arith) c.read-phase.ensures c.read-enabled.ensures c.read-locked.ensures c.read-frozen.ensures c.read-unused.ensures
    c.zero_between-between.ensures c.zero_after-after.ensures
